-- How the code is seen: messages that came, and the table that has them.
use Rattle.std.specs.Prelude.{ℕ, Option, map}
use Rattle.std.specs.Option.{option_map}
use Rattle.osc_message.specs.declared.arrival.Arrival.{Arrival}
use Rattle.osc_message.specs.declared.arrivals.Arrivals.{Arrivals}
use Rattle.osc_message.specs.Arriving.{Came}
use Rattle.osc_message.specs.Hearing.{Heard}

-- a message that came (how the code is seen)
abbrev pub heard_of : Arrival → Heard
heard_of x = record { number = x.number; from = x.from.items; message_id = x.message_id; confirmable = x.confirmable; moment = x.moment; stage = x.stage }

-- what is at a place (how the code is seen)
abbrev pub seen_of : Option Arrival → Option Heard
seen_of = option_map heard_of

-- the table (how the code is seen)
abbrev pub came_of : {N : ℕ} → Arrivals N → Came
came_of t = record { places = map seen_of t.places.items; next_number = t.next_number }
