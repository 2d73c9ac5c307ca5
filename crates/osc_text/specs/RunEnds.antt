-- For the proofs: the ends of a run whose context can be replaced.
use Rattle.std.specs.Prelude.{List, Option}
use Rattle.osc_client.specs.ClientHistory.{History as ClientHistory}
use Rattle.osc_life.specs.ServerHistory.{History, TicketValues}
use Rattle.osc_text.specs.Asking.{AskingState}
use Rattle.osc_text.specs.Serving.{ServingState}
use Rattle.osc_text.specs.declared.asking.AskingEnd.{AskingEnd}
use Rattle.osc_text.specs.declared.serving.ServingEnd.{ServingEnd}

-- a server of a run, with these tickets, after this history (how the code is seen)
abbrev pub serving_state : ServingEnd → List (Option TicketValues) → History → ServingState
serving_state end tickets h = record { history = h; tickets = tickets; features = end.common.features; size = end.window }

-- a client of a run after this history (how the code is seen)
abbrev pub asking_state : AskingEnd → ClientHistory → AskingState
asking_state end h = record { history = h; features = end.common.features }
