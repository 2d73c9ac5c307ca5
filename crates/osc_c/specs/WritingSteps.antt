-- For the proofs: that a message was judged, and that a writer takes its options, one after the other.
use Rattle.std.specs.Prelude.{◌≡◌, ◌≢◌, ◌≤◌, ℕ, List, [], length}
use Rattle.osc_coap.specs.Datagram.{Parts}
use Rattle.osc_coap.specs.OptionSpelling.{Ascends, Entry, last_number}
use Rattle.osc_coap.specs.Writing.{Draft, HasRoom, IsEmptyMessage, length_of, options_of, payload_of, with_options}
use Rattle.osc_c.specs.Writing.{HaveLengths, IsAloneWhereEmpty}

-- a draft can be followed by these options, in a buffer of this length (RFC 7252, 3.1)
pub record TakesAll (room : ℕ) (draft : Draft) (entries : List Entry) : Type 0 where
  pub filled : entries ≢ [] → IsEmptyMessage draft → ⊥
  pub unfinished : payload_of draft ≡ []
  pub ascends : Ascends (last_number 0 (options_of draft)) entries
  pub has_room : HasRoom room (length_of (with_options draft entries))

-- the message can be written if there is room for it (RFC 7252, 3, 3.1 and 4.1)
pub record CanBeWritten (kind : ℕ) (p : Parts) : Type 0 where
  pub kind_is : kind ≤ 3
  pub token : length p.token ≤ 8
  pub alone : IsAloneWhereEmpty p
  pub order : Ascends 0 p.options
  pub values : HaveLengths p.options
