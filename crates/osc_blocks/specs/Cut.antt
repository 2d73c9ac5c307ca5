-- To be believed: how a body is cut into blocks (RFC 7959, 2.2).
use Rattle.std.specs.Prelude.{◌≡◌, ℕ, ◌+◌, ◌*◌, ◌^◌, ◌<◌, ◌≤◌, ◌⊎◌, List, [], ◌∷◌, length, take, drop, nat_lt, MatchBool}
use Rattle.osc_blocks.specs.declared.block_size.BlockSize.{BlockSize}
use Rattle.osc_blocks.specs.BlockValue.{BlockParts, place_of, size_of}
use Rattle.osc_blocks.specs.InBlocks.{Piece}

-- a body has a block with this number: it is 0, or it begins before the body's end (RFC 7959, 2.2)
abbrev pub HasBlock : List ℕ → ℕ → BlockSize → Type 0
HasBlock body number size = (number < 2 ^ 20) × (0 < number → number * size_of size < length body)

-- a body has no block with this number: no block can have it, or it begins at the body's end or beyond (RFC 7959, 2.2)
abbrev pub LacksBlock : List ℕ → ℕ → BlockSize → Type 0
LacksBlock body number size = (2 ^ 20 ≤ number) ⊎ ((0 < number) × (length body ≤ number * size_of size))

-- a block of a body: as many bytes from its place on as its size says, or fewer at the end; more follow if bytes are left (RFC 7959, 2.2)
pub record IsBlockOf (body : List ℕ) (block : BlockParts) (payload : List ℕ) : Type 0 where
  pub payload_is : payload ≡ take (size_of block.size) (drop (place_of block) body)
  pub more_is : block.more ≡ nat_lt (place_of block + size_of block.size) (length body)

-- a piece of this operation is the block with this number, in this size, of a body (RFC 7959, 2.2)
pub record IsCut (operation body : List ℕ) (size : BlockSize) (number : ℕ) (piece : Piece) : Type 0 where
  pub operation_is : piece.operation ≡ operation
  pub number_is : piece.block.number ≡ number
  pub size_is : piece.block.size ≡ size
  pub has_block : HasBlock body number size
  pub block_is : IsBlockOf body piece.block piece.payload

-- pieces of this operation are the blocks of a body in this size from this number on, up to the last one (RFC 7959, 2.3)
abbrev pub AreCut : List ℕ → List ℕ → BlockSize → ℕ → List Piece → Type 0
AreCut operation body size number [] = ⊥
AreCut operation body size number (piece ∷ later) =
    IsCut operation body size number piece
    × MatchBool piece.block.more (AreCut operation body size (number + 1) later) (later ≡ [])
