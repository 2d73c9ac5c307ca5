-- To be believed: the algorithm AES-CCM-16-64-128, and its lengths in bytes (RFC 8152, 10.2).
use Rattle.std.specs.Prelude.{ℕ}

-- its COSE number (RFC 8152, 10.2)
abbrev pub algorithm : ℕ
algorithm = 10

-- the length of a key (RFC 8152, 10.2)
abbrev pub key_length : ℕ
key_length = 16

-- the length of a nonce, and so of the Common IV (RFC 8152, 10.2, and RFC 8613, 3.1)
abbrev pub nonce_length : ℕ
nonce_length = 13
