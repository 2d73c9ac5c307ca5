-- To be believed: the value of the OSCORE option (RFC 8613, 6.1), from its parts to its bytes. p has the parts that a
-- value says.
use Rattle.std.specs.Prelude.{◌≡◌, ℕ, ◌+◌, ◌^◌, ◌<◌, ◌≤◌, List, [], ◌∷◌, ◌++◌, length, Option, Some, None, IfSome, is_some, unwrap_or, ◌==◌, if◌then◌else◌}
use Rattle.osc_context.specs.PartialIv.{partial_iv_of}

-- what a value says: a number, a kid context and a kid, each of which can be absent (RFC 8613, 6.1)
pub record OscoreParts : Type 0 where
  pub piv : Option ℕ
  pub kid_context : Option (List ℕ)
  pub kid : Option (List ℕ)

-- the bytes of the Partial IV, if there is one (RFC 8613, 6.1)
abbrev pub piv_bytes : Option ℕ → List ℕ
piv_bytes None = []
piv_bytes (Some n) = partial_iv_of n

-- the length of the kid context and then the kid context, if there is one (RFC 8613, 6.1)
abbrev pub kid_context_bytes : Option (List ℕ) → List ℕ
kid_context_bytes None = []
kid_context_bytes (Some context) = length context ∷ context

-- the bytes of the kid, if there is one (RFC 8613, 6.1)
abbrev pub kid_bytes : Option (List ℕ) → List ℕ
kid_bytes kid = unwrap_or kid []

-- a flag if its part is present, otherwise 0 (RFC 8613, 6.1)
abbrev pub flag_if_some : ℕ → Option (List ℕ) → ℕ
flag_if_some flag part = if is_some part then flag else 0

-- the flag byte: the Partial IV's length, and which other parts are present (RFC 8613, 6.1)
abbrev pub flag_byte : OscoreParts → ℕ
flag_byte p = length (piv_bytes p.piv) + (flag_if_some 0x08 p.kid + flag_if_some 0x10 p.kid_context)

-- the flag byte and the parts, or no bytes if that byte is 0 (RFC 8613, 6.1)
unfoldable pub value_of : OscoreParts → List ℕ
value_of p =
    if flag_byte p == 0 then [] else flag_byte p ∷ (piv_bytes p.piv ++ (kid_context_bytes p.kid_context ++ kid_bytes p.kid))

-- the bytes are the value that says these parts, and there are at most 255 of them (RFC 8613, 6.1)
unfoldable pub IsOscoreValue : OscoreParts → List ℕ → Type 0
IsOscoreValue p bytes = IfSome p.piv (λ n. n < 2 ^ 40) × (bytes ≡ value_of p) × (length bytes ≤ 255)

-- the most bytes that these parts can take, whatever the number (RFC 8613, 6.1)
abbrev pub most_len : OscoreParts → ℕ
most_len p = 1 + 5 + length (kid_context_bytes p.kid_context) + length (kid_bytes p.kid)
