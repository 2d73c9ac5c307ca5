-- For the proofs: the two sides of a protection (RFC 8613, 4.1), and when a writer takes options. notifies is whether the message is a
-- notification.
use Rattle.std.specs.Prelude.{◌≡◌, ◌||◌, ℕ, Bool, false, List, [], ◌∷◌, Option, Some, None, if◌then◌else◌}
use Rattle.osc_coap.specs.Class.{class, is_inner}
use Rattle.osc_coap.specs.Datagram.{Parts}
use Rattle.osc_coap.specs.OptionSpelling.{Entry, Ascends, last_number}
use Rattle.osc_coap.specs.Writing.{Draft, HasRoom, IsEmptyMessage, length_of, options_of, payload_of, with_options}
use Rattle.osc_protect.specs.OptionSets.{counts_as_observe, is_behind, is_outside, sought_behind}
use Rattle.osc_protect.specs.Protection.{as_it_is, as_notified}

-- what a plain message says inside (RFC 8613, 4.1.3.5.2 and 5.3)
abbrev pub said : Bool → Parts → Parts
said notifies = if notifies then as_notified else as_it_is

-- a side of the protection, up to a place among the options: outside in front of the OSCORE option and behind it, and inside. sought is whether
-- Observe is sought on it: outside if the features have it, inside if the message is a notification (RFC 8613, 4.1.3.5)
pub data Side : Type 0 where
  Outside : Bool → Side
  Behind : Side
  Inside : Bool → Side

-- the option stands on this side (RFC 8613, 4.1)
abbrev pub stands_on : Side → Entry → Bool
stands_on (Outside sought) entry = is_outside sought entry
stands_on Behind entry = is_behind entry.0
stands_on (Inside sought) entry = is_inner (class entry.0)

-- the option as it stands on this side (RFC 8613, 4.1.3.5.2)
abbrev pub entry_on : Side → Entry → Entry
entry_on (Outside sought) entry = entry
entry_on Behind entry = entry
entry_on (Inside sought) entry = if counts_as_observe sought entry then (entry.0, []) else entry

-- the value that the option has on this side, if it stands there (RFC 8613, 4.1)
abbrev pub value_on : Side → Entry → Option (List ℕ)
value_on side entry = if stands_on side entry then Some (entry_on side entry).1 else None

-- an option with this number and value, or none (RFC 7252, 3.1)
abbrev pub option_with : ℕ → Option (List ℕ) → List Entry
option_with number None = []
option_with number (Some value) = (number, value) ∷ []

-- the side behind this option (RFC 7252, 5.4.5)
abbrev pub side_behind : Side → Entry → Side
side_behind (Outside sought) entry = Outside (sought_behind sought entry)
side_behind Behind entry = Behind
side_behind (Inside sought) entry = Inside (sought_behind sought entry)

-- one of the options counts as Observe (RFC 7252, 5.4.3 and 5.4.5; RFC 7641, 2)
abbrev pub has_observe : Bool → List Entry → Bool
has_observe sought [] = false
has_observe sought (entry ∷ entries) = counts_as_observe sought entry || has_observe (sought_behind sought entry) entries

-- the options as they stand on this side, in order (RFC 8613, 4.1)
abbrev pub options_on : Side → List Entry → List Entry
options_on side [] = []
options_on side (entry ∷ entries) =
    if stands_on side entry then entry_on side entry ∷ options_on (side_behind side entry) entries else options_on (side_behind side entry) entries

-- these options can follow a draft in a buffer of this length (RFC 7252, 3.1)
pub record TakesAll (room : ℕ) (draft : Draft) (entries : List Entry) : Type 0 where
  pub filled : ¬ IsEmptyMessage draft
  pub unfinished : payload_of draft ≡ []
  pub ascends : Ascends (last_number 0 (options_of draft)) entries
  pub has_room : HasRoom room (length_of (with_options draft entries))
