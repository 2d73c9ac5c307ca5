-- For the proofs: that a writer takes options (RFC 7252, 3.1).
use Rattle.std.specs.Prelude.{◌≡◌, ℕ, List, [], ◌∷◌, Option, None, Some}
use Rattle.osc_proxy.specs.SplitRefusals.{only_of}
use Rattle.osc_coap.specs.OptionSpelling.{Entry, Ascends, last_number}
use Rattle.osc_coap.specs.Writing.{Draft, HasRoom, IsEmptyMessage, length_of, options_of, payload_of, with_options}

-- these options can follow a draft in a buffer of this length (RFC 7252, 3.1)
pub record TakesAll (room : ℕ) (draft : Draft) (entries : List Entry) : Type 0 where
  pub filled : ¬ IsEmptyMessage draft
  pub unfinished : payload_of draft ≡ []
  pub ascends : Ascends (last_number 0 (options_of draft)) entries
  pub has_room : HasRoom room (length_of (with_options draft entries))

-- the only one of some values, where this one stands in front of them (how the code is seen)
abbrev pub only_behind : Option (List ℕ) → List (List ℕ) → Option (List ℕ)
only_behind None values = only_of values
only_behind (Some value) [] = Some value
only_behind (Some value) (other ∷ values) = None
