-- How the code is seen: the layer.
use Rattle.std.specs.Prelude.{ℕ}
use Rattle.osc_message.specs.declared.messages.Messages.{Messages}
use Rattle.osc_message.specs.HearingViews.{came_of}
use Rattle.osc_message.specs.Taking.{Layer}
use Rattle.osc_message.specs.Views.{table_of}

-- the layer (how the code is seen)
abbrev pub layer_of : {N M : ℕ} → Messages N M → Layer
layer_of l = record { sent = table_of l.exchanges; came = came_of l.arrivals }
