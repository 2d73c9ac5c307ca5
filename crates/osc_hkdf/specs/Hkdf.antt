-- To be believed: HKDF with HMAC-SHA-256 (RFC 5869, section 2). prk is the pseudorandom key, info is the context, and n
-- counts blocks.
use Rattle.std.specs.Prelude.{ℕ, zero, suc, ◌+◌, ◌/◌, List, [], ◌∷◌, ◌++◌, take}
use Rattle.osc_hkdf.specs.Hmac.{hmac}

-- the pseudorandom key from a salt and a secret (RFC 5869, 2.2)
unfoldable pub extract_of : List ℕ → List ℕ → List ℕ
extract_of salt secret = hmac salt secret

-- the block T(n): T(0) is empty; T(n) is made from T(n - 1), the context and n as one byte (RFC 5869, 2.3)
unfoldable pub expand_block : List ℕ → List ℕ → ℕ → List ℕ
expand_block prk info zero = []
expand_block prk info (suc n) = hmac prk ((expand_block prk info n ++ info) ++ (n + 1) ∷ [])

-- the blocks T(1) to T(n), one after the other (RFC 5869, 2.3)
unfoldable pub expand_blocks : List ℕ → List ℕ → ℕ → List ℕ
expand_blocks prk info zero = []
expand_blocks prk info (suc n) = expand_blocks prk info n ++ expand_block prk info (suc n)

-- the output of a given length: the front of as many blocks as it needs (RFC 5869, 2.3)
unfoldable pub expand_of : List ℕ → List ℕ → ℕ → List ℕ
expand_of prk info len = take len (expand_blocks prk info ((len + 31) / 32))
