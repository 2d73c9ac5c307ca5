-- To be believed: AES-CCM with a tag of 8 bytes (M = 8) and a length field of 2 bytes (L = 2), RFC 3610, section 2. key
-- has 16 bytes, nonce 13, aad (the additional data) at most 65,279 and m (the message) at most 65,535. i counts blocks.
use Rattle.std.specs.Prelude.{ℕ, ◌+◌, ◌*◌, ◌/◌, ◌%◌, List, [], ◌∷◌, ◌++◌, length, take, map, fold, flat_map, replicate, slice_index, bit_xor}
use Rattle.std.specs.List.{range_with_len}
use Rattle.osc_aes.specs.Aes128.{aes128}

-- the length of the tag, in bytes: M (RFC 3610, 2)
abbrev pub tag_length : ℕ
tag_length = 8

-- two lists of bytes added byte by byte, up to the end of the shorter one (RFC 3610, 2.2)
abbrev pub xor_bytes : List ℕ → List ℕ → List ℕ
xor_bytes [] ys = []
xor_bytes (x ∷ xs) [] = []
xor_bytes (x ∷ xs) (y ∷ ys) = bit_xor x y ∷ xor_bytes xs ys

-- a number below 65,536 in two bytes, high byte first (RFC 3610, 2.2)
abbrev pub two_bytes : ℕ → List ℕ
two_bytes n = n / 256 ∷ n % 256 ∷ []

-- how many blocks of 16 bytes hold n bytes (RFC 3610, 2.2)
abbrev pub block_count : ℕ → ℕ
block_count n = (n + 15) / 16

-- block i of a list, padded with zeros (RFC 3610, 2.2)
abbrev pub padded_block : List ℕ → ℕ → List ℕ
padded_block xs i = map (λ k. slice_index xs (16 * i + k)) (range_with_len 0 16)

-- a list cut into blocks, the last padded with zeros (RFC 3610, 2.2)
abbrev pub padded_blocks : List ℕ → List (List ℕ)
padded_blocks xs = map (padded_block xs) (range_with_len 0 (block_count (length xs)))

-- the flags of the first block: 8 M' + L', plus 64 if there is additional data (RFC 3610, 2.2)
abbrev pub flags_of : List ℕ → ℕ
flags_of [] = 0x19
flags_of (a ∷ rest) = 0x59

-- the first block B_0: flags, nonce, length of the message (RFC 3610, 2.2)
abbrev pub first_block : List ℕ → List ℕ → List ℕ → List ℕ
first_block nonce aad m = (flags_of aad ∷ nonce) ++ two_bytes (length m)

-- the length of the additional data and then the data, or nothing if it is empty (RFC 3610, 2.2)
abbrev pub encoded_aad : List ℕ → List ℕ
encoded_aad [] = []
encoded_aad (a ∷ rest) = two_bytes (length (a ∷ rest)) ++ (a ∷ rest)

-- all blocks B_0, B_1, .. that the tag is made from (RFC 3610, 2.2)
abbrev pub mac_blocks : List ℕ → List ℕ → List ℕ → List (List ℕ)
mac_blocks nonce aad m = first_block nonce aad m ∷ (padded_blocks (encoded_aad aad) ++ padded_blocks m)

-- the state X after one more block B: the encryption of X + B (RFC 3610, 2.2)
abbrev pub mac_step : List ℕ → List ℕ → List ℕ → List ℕ
mac_step key x block = aes128 key (xor_bytes x block)

-- the state after all blocks, starting from the zero block (RFC 3610, 2.2)
unfoldable pub mac_of : List ℕ → List ℕ → List ℕ → List ℕ → List ℕ
mac_of key nonce aad m = fold (mac_step key) (replicate 16 0) (mac_blocks nonce aad m)

-- the authentication field T: the first bytes of the last state (RFC 3610, 2.2)
abbrev pub tag_of : List ℕ → List ℕ → List ℕ → List ℕ → List ℕ
tag_of key nonce aad m = take tag_length (mac_of key nonce aad m)

-- the counter block A_i: flags, nonce, number (RFC 3610, 2.3)
abbrev pub counter_block : List ℕ → ℕ → List ℕ
counter_block nonce i = (0x01 ∷ nonce) ++ two_bytes i

-- the block S_i of the key stream (RFC 3610, 2.3)
abbrev pub stream_block : List ℕ → List ℕ → ℕ → List ℕ
stream_block key nonce i = aes128 key (counter_block nonce i)

-- the key stream S_1, .., S_n, one block after the other (RFC 3610, 2.3)
unfoldable pub key_stream : List ℕ → List ℕ → ℕ → List ℕ
key_stream key nonce n = flat_map (stream_block key nonce) (range_with_len 1 n)

-- the message plus the key stream (RFC 3610, 2.3)
abbrev pub encrypted : List ℕ → List ℕ → List ℕ → List ℕ
encrypted key nonce m = xor_bytes m (key_stream key nonce (block_count (length m)))

-- the authentication value U: the tag added to the first bytes of S_0 (RFC 3610, 2.3)
abbrev pub encrypted_tag : List ℕ → List ℕ → List ℕ → List ℕ → List ℕ
encrypted_tag key nonce aad m = xor_bytes (tag_of key nonce aad m) (take tag_length (stream_block key nonce 0))

-- the protection of a message: the encrypted message, then the encrypted tag (RFC 3610, 2.4)
unfoldable pub ccm : List ℕ → List ℕ → List ℕ → List ℕ → List ℕ
ccm key nonce aad m = encrypted key nonce m ++ encrypted_tag key nonce aad m
