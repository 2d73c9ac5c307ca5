-- How the code is seen: observers, and the table that has them.
use Rattle.std.specs.Prelude.{ℕ, map, Option}
use Rattle.std.specs.Option.{option_map}
use Rattle.osc_observers.specs.declared.watch.Watch.{Watch}
use Rattle.osc_observers.specs.declared.observers.Observers.{Observers}
use Rattle.osc_observers.specs.Table.{Table}
use Rattle.osc_observers.specs.Watching.{Watching}

-- an observer (how the code is seen)
abbrev pub watching_of : Watch → Watching
watching_of x = record { number = x.number; from = x.from.items; token = x.token.items; last_message_id = x.last_message_id; call = x.call; confirmed = x.confirmed }

-- what is at a place (how the code is seen)
abbrev pub place_of : Option Watch → Option Watching
place_of = option_map watching_of

-- the table (how the code is seen)
abbrev pub table_of : {N : ℕ} → Observers N → Table
table_of t = record { places = map place_of t.places.items; next_number = t.next_number }
