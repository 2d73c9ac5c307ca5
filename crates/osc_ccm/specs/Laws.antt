-- To be believed: what the laws say about all protections (RFC 3610, 2).
use Rattle.std.specs.Prelude.{◌≡◌, ℕ, ◌+◌, List, length}
use Rattle.osc_ccm.specs.Ccm.{ccm, tag_length}

-- under one key, nonce and additional data, a protection belongs to only one message (RFC 3610, 2.5)
abbrev pub OnePlaintext : Type 0
OnePlaintext = (key nonce aad m m' : List ℕ) → ccm key nonce aad m ≡ ccm key nonce aad m' → m ≡ m'

-- a protection is longer than its message by the length of the tag (RFC 3610, 2.4)
abbrev pub ProtectionLength : Type 0
ProtectionLength = (key nonce aad m : List ℕ) → length (ccm key nonce aad m) ≡ length m + tag_length
