-- For the proofs: words of private functions, each the opposite of a refusal in Taking.antt.
use Rattle.std.specs.Prelude.{◌≡◌, ℕ, ◌+◌, ◌^◌, ◌<◌, ◌≤◌, length, true, MatchBool, List}
use Rattle.osc_blocks.specs.declared.body.Stage.TheVariants.{Begun}
use Rattle.osc_blocks.specs.BlockValue.{BlockParts, place_of, size_of}
use Rattle.osc_blocks.specs.InBlocks.{Piece}
use Rattle.osc_blocks.specs.Taking.{Kept}

-- a payload of this length fits what its option says (RFC 7959, 2.2)
abbrev pub HasRightLength : BlockParts → ℕ → Type 0
HasRightLength block n = MatchBool block.more (n ≡ size_of block.size) (n ≤ size_of block.size)

-- the block begins a body, or goes on the one that is begun (RFC 7959, 2.5)
abbrev pub IsInOrder : Kept → BlockParts → Type 0
IsInOrder kept block = 0 < block.number → (kept.stage ≡ Begun) × (place_of block ≡ length kept.bytes)

-- the block begins a body, or has the operation of the one that is kept (RFC 7959, 2.5)
abbrev pub IsOfSameOperation : Kept → List ℕ → BlockParts → Type 0
IsOfSameOperation kept operation block = 0 < block.number → operation ≡ kept.operation

-- the block begins a body, or its request has a higher number than that of the block before it (own rule)
abbrev pub IsNewer : Kept → ℕ → BlockParts → Type 0
IsNewer kept request block = 0 < block.number → kept.request < request

-- the body stays within its room, and the next block can have its number (RFC 7959, 2.2)
pub record HasRoom (most : ℕ) (block : BlockParts) (n : ℕ) : Type 0 where
  pub room : place_of block + n ≤ most
  pub next : block.more ≡ true → block.number + 1 < 2 ^ 20

-- no refusal holds (own rule)
pub record CanTake (most : ℕ) (kept : Kept) (piece : Piece) : Type 0 where
  pub short : length piece.operation ≤ 64
  pub right_length : HasRightLength piece.block (length piece.payload)
  pub in_order : IsInOrder kept piece.block
  pub same_operation : IsOfSameOperation kept piece.operation piece.block
  pub newer : IsNewer kept piece.request piece.block
  pub has_room : HasRoom most piece.block (length piece.payload)
