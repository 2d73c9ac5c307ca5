-- How the code is seen: the bytes of a draft, as private functions write them.
use Rattle.std.specs.Prelude.{◌≡◌, ℕ, ◌≤◌, List, [], ◌∷◌, ◌++◌, length}
use Rattle.osc_coap.specs.OptionSpelling.{AreBytes, Spells, marked}
use Rattle.osc_coap.specs.Datagram.{head}
use Rattle.osc_coap.specs.Writing.{Draft, Datagram, Plaintext, options_of, payload_of, IsEmptyMessage}

-- the bytes before the options (RFC 7252, 3; RFC 8613, 5.3)
abbrev pub front_of : Draft → List ℕ
front_of (Datagram p) = head p ++ p.token
front_of (Plaintext p) = p.code ∷ []

-- the token isn't longer than a head can say (RFC 7252, 3)
abbrev pub HasFineToken : Draft → Type 0
HasFineToken (Datagram p) = length p.token ≤ 8
HasFineToken (Plaintext p) = Unit {0}

-- the bytes are this datagram, or this plaintext (RFC 7252, 3; RFC 8613, 5.3)
pub record IsDraft (draft : Draft) (bytes : List ℕ) : Type 0 where
  pub are_bytes : AreBytes bytes
  pub fits : length bytes ≤ 65535
  pub token : HasFineToken draft
  pub spelled : List ℕ
  pub spells : Spells 0 (options_of draft) spelled
  pub whole : bytes ≡ front_of draft ++ (spelled ++ marked (payload_of draft))
  pub empty : IsEmptyMessage draft → length bytes ≡ 4
