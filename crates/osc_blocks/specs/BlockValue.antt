-- To be believed: the value of a Block1 or a Block2 option (RFC 7959, 2.2): a block number NUM, a bit M and a size exponent
-- SZX, in one number of at most 3 bytes.
use Rattle.std.specs.Prelude.{◌≡◌, ℕ, ◌+◌, ◌*◌, ◌%◌, ◌^◌, ◌<◌, ◌≤◌, ◌⊎◌, List, length, Bool, true, false}
use Rattle.osc_blocks.specs.declared.block_size.BlockSize.{BlockSize}
use Rattle.osc_blocks.specs.declared.block_size.BlockSize.TheVariants.{Bytes16, Bytes32, Bytes64, Bytes128, Bytes256, Bytes512, Bytes1024}
use Rattle.osc_context.specs.PartialIv.{spelled_number}
use Rattle.osc_blocks.specs.Uint.{SpellsNumber}

-- what a value says: the number of a block, whether more blocks follow it, and a size (RFC 7959, 2.2)
pub record BlockParts : Type 0 where
  pub number : ℕ
  pub more : Bool
  pub size : BlockSize

-- these three as parts (RFC 7959, 2.2)
abbrev pub block_parts : ℕ → Bool → BlockSize → BlockParts
block_parts number more size = record { number = number; more = more; size = size }

-- the size exponent SZX (RFC 7959, 2.2)
abbrev pub size_exponent : BlockSize → ℕ
size_exponent Bytes16 = 0
size_exponent Bytes32 = 1
size_exponent Bytes64 = 2
size_exponent Bytes128 = 3
size_exponent Bytes256 = 4
size_exponent Bytes512 = 5
size_exponent Bytes1024 = 6

-- a size in bytes (RFC 7959, 2.2)
abbrev pub size_of : BlockSize → ℕ
size_of size = 2 ^ (size_exponent size + 4)

-- the bit M (RFC 7959, 2.2)
abbrev pub more_bit : Bool → ℕ
more_bit true = 1
more_bit false = 0

-- the number that says the parts: NUM, then the bit M, then three bits of SZX (RFC 7959, 2.2)
abbrev pub value_number : BlockParts → ℕ
value_number block = block.number * 16 + more_bit block.more * 8 + size_exponent block.size

-- at most 3 bytes that say these parts, with a block number below 2 ^ 20 (RFC 7959, 2.2)
pub record IsBlockValue (block : BlockParts) (bytes : List ℕ) : Type 0 where
  pub most : length bytes ≤ 3
  pub spells : SpellsNumber bytes (value_number block)
  pub in_range : block.number < 2 ^ 20

-- more than 3 bytes, or the size exponent 7, which is reserved (RFC 7959, 2.2)
abbrev pub IsNoBlockValue : List ℕ → Type 0
IsNoBlockValue bytes = (3 < length bytes) ⊎ (spelled_number bytes % 8 ≡ 7)

-- where a block begins in its body, in bytes: its number times its size (RFC 7959, 2.2)
abbrev pub place_of : BlockParts → ℕ
place_of block = block.number * size_of block.size

-- the block to ask for after this one: the next number in the same size (RFC 7959, 2.4)
abbrev pub next_of : BlockParts → BlockParts
next_of block = block_parts (block.number + 1) false block.size
