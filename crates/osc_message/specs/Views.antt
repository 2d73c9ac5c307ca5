-- How the code is seen: messages on their way, the table that has them, and the counter of Message IDs.
use Rattle.std.specs.Prelude.{ℕ, map, Option}
use Rattle.std.specs.Option.{option_map}
use Rattle.osc_message.specs.declared.exchange.Exchange.{Exchange}
use Rattle.osc_message.specs.declared.exchanges.Exchanges.{Exchanges}
use Rattle.osc_message.specs.declared.message_ids.MessageIds.{MessageIds}
use Rattle.osc_message.specs.MessageIds.{Counted}
use Rattle.osc_message.specs.Sending.{Sending}
use Rattle.osc_message.specs.Table.{Table}

-- a message on its way (how the code is seen)
abbrev pub sending_of : Exchange → Sending
sending_of x = record { call = x.call; to = x.to.items; message_id = x.message_id; token = x.token.items; awaits = x.awaits; begun = x.begun; last = x.last; first_wait = x.first_wait; resent = x.resent; acked = x.acked }

-- what is at a place (how the code is seen)
abbrev pub place_of : Option Exchange → Option Sending
place_of = option_map sending_of

-- the table (how the code is seen)
abbrev pub table_of : {N : ℕ} → Exchanges N → Table
table_of t = record { places = map place_of t.places.items; next_call = t.next_call }

-- the counter of Message IDs (how the code is seen)
abbrev pub counted_of : MessageIds → Counted
counted_of w = record { count = w.count; entered = w.entered }
