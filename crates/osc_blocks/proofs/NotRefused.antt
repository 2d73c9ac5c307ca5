-- A block that can be taken isn't refused.
use Rattle.std.proofs.Common.{◌≡◌, ◌≢◌, ℕ, ◌<◌, ◌≤◌, inl, inr, List, length, Bool, true, false, arith, MatchBool}
use Rattle.osc_blocks.specs.declared.block_error.BlockError.{BlockError}
use Rattle.osc_blocks.specs.declared.block_error.BlockError.TheVariants.{LongOperation, WrongLength, OutOfOrder, OtherOperation, OldNumber, TooLarge}
use Rattle.osc_blocks.specs.BlockValue.{BlockParts, size_of}
use Rattle.osc_blocks.specs.InBlocks.{Piece}
use Rattle.osc_blocks.specs.Taking.{Kept, Refuses, HasWrongLength, IsOutOfOrder, IsOfOtherOperation, HasOldNumber, IsTooLarge}
use Rattle.osc_blocks.specs.Judging.{CanTake, HasRightLength, HasRoom, IsInOrder, IsOfSameOperation, IsNewer}

right_not_wrong : (more : Bool) (n size : ℕ) → MatchBool more (n ≡ size) (n ≤ size) → MatchBool more (n ≢ size) (size < n) → ⊥
right_not_wrong true n size right wrong = wrong right
right_not_wrong false n size right wrong = omega (arith, right, wrong)

not_wrong : (block : BlockParts) (n : ℕ) → HasRightLength block n → HasWrongLength block n → ⊥
not_wrong block n right wrong = right_not_wrong block.more n (size_of block.size) right wrong

not_out : (kept : Kept) (block : BlockParts) → IsInOrder kept block → IsOutOfOrder kept block → ⊥
not_out kept block order out = elim out.1 [
  | inl stage ↦ stage (order out.0).0
  | inr place ↦ place (order out.0).1
]

not_other : (kept : Kept) (operation : List ℕ) (block : BlockParts) → IsOfSameOperation kept operation block → IsOfOtherOperation kept operation block → ⊥
not_other kept operation block same other = other.1 (same other.0)

not_old : (kept : Kept) (request : ℕ) (block : BlockParts) → IsNewer kept request block → HasOldNumber kept request block → ⊥
not_old kept request block newer old = let lt = newer old.0 in let le = old.1 in omega (arith, lt, le)

not_large : (most : ℕ) (block : BlockParts) (n : ℕ) → HasRoom most block n → IsTooLarge most block n → ⊥
not_large most block n fits (inl long) = let room = fits.room in omega (arith, room, long)
not_large most block n fits (inr last) = let next = fits.next last.0 in let high = last.1 in omega (arith, next, high)

-- a block that can be taken isn't refused
pub not_refused : (most : ℕ) (kept : Kept) (p : Piece) → CanTake most kept p → (e : BlockError) → ¬ Refuses most kept p e
not_refused most kept p can LongOperation = λ h. let short = can.short in omega (arith, short, h)
not_refused most kept p can WrongLength = not_wrong p.block (length p.payload) can.right_length
not_refused most kept p can OutOfOrder = not_out kept p.block can.in_order
not_refused most kept p can OtherOperation = not_other kept p.operation p.block can.same_operation
not_refused most kept p can OldNumber = not_old kept p.request p.block can.newer
not_refused most kept p can TooLarge = not_large most p.block (length p.payload) can.has_room
