-- To be believed: what the plaintext of a protected message is (RFC 8613, 5.3). p is what it says, and bytes is
-- the plaintext.
use Rattle.std.specs.Prelude.{◌≡◌, ℕ, ◌+◌, ◌≤◌, List, ◌∷◌, ◌++◌, length}
use Rattle.osc_coap.specs.OptionSpelling.{Entry, AreBytes, Spells, marked, spelling_length}

-- what a plaintext says: its code, options and payload (RFC 8613, 5.3)
pub record InnerParts : Type 0 where
  pub code : ℕ
  pub options : List Entry
  pub payload : List ℕ

-- the bytes are a plaintext with these parts; own rule: at most 65,535 bytes (RFC 8613, 5.3)
pub record IsInner (p : InnerParts) (bytes : List ℕ) : Type 0 where
  pub are_bytes : AreBytes bytes
  pub fits : length bytes ≤ 65535
  pub spelled : List ℕ
  pub spells : Spells 0 p.options spelled
  pub whole : bytes ≡ p.code ∷ (spelled ++ marked p.payload)

-- how many bytes the plaintext with these parts has (RFC 8613, 5.3)
abbrev pub inner_length : InnerParts → ℕ
inner_length p = 1 + spelling_length 0 p.options + length (marked p.payload)
