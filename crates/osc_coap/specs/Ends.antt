-- For the proofs: where the options after a head end, and what follows them (RFC 7252, 3).
use Rattle.std.specs.Prelude.{◌≡◌, ℕ, ◌≤◌, List, [], ◌∷◌, ◌++◌, take, drop, length}
use Rattle.osc_coap.specs.OptionSpelling.{Entry, Spells, marked}
use Rattle.osc_coap.specs.Reading.{IsSpelling, options_in}

-- no bytes, or the marker and what follows it (RFC 7252, 3)
abbrev pub IsMarked : List ℕ → Type 0
IsMarked [] = Unit {0}
IsMarked (b ∷ bytes) = b ≡ 255

-- the first n bytes are options, and the marker or nothing follows them (RFC 7252, 3)
pub record EndsOptions (bytes : List ℕ) (n : ℕ) : Type 0 where
  pub within : n ≤ length bytes
  pub spelling : IsSpelling 0 (take n bytes)
  pub spells : Spells 0 (options_in 0 (take n bytes)) (take n bytes)
  pub marked : IsMarked (drop n bytes)

-- the bytes are these options, and then this payload after its marker (RFC 7252, 3)
pub record IsBody (options : List Entry) (payload bytes : List ℕ) : Type 0 where
  pub spelled : List ℕ
  pub spells : Spells 0 options spelled
  pub whole : bytes ≡ spelled ++ marked payload
