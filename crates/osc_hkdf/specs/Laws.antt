-- To be believed: laws about lengths, from the definitions alone (RFC 2104, 2, and RFC 5869, 2). key, message, salt,
-- secret, prk and info are lists of bytes, and n is a length.
use Rattle.std.specs.Prelude.{◌≡◌, ℕ, List, length}
use Rattle.osc_hkdf.specs.Hmac.{hmac}
use Rattle.osc_hkdf.specs.Hkdf.{expand_of, extract_of}

-- a code has 32 bytes, whatever the key and the message (RFC 2104, 2)
abbrev pub HmacLen : Type 0
HmacLen = (key message : List ℕ) → length (hmac key message) ≡ 32

-- a pseudorandom key has 32 bytes, whatever the salt and the secret (RFC 5869, 2.2)
abbrev pub ExtractLen : Type 0
ExtractLen = (salt secret : List ℕ) → length (extract_of salt secret) ≡ 32

-- the output of a given length has that length (RFC 5869, 2.3)
abbrev pub ExpandLen : Type 0
ExpandLen = (prk info : List ℕ) (n : ℕ) → length (expand_of prk info n) ≡ n
