-- To be believed: which blocks a body takes, and what it then holds (RFC 7959, 2.3 to 2.5). most is how many bytes it has room
-- for. Each refusal has a definition, in the order in which the refusals are judged.
use Rattle.std.specs.Prelude.{◌≡◌, ◌≢◌, ℕ, ◌+◌, ◌^◌, ◌<◌, ◌≤◌, ◌⊎◌, ◌==◌, List, [], ◌∷◌, ◌++◌, length, take, Bool, true, false, Option, Some, None, MatchBool, if◌then◌else◌}
use Rattle.osc_blocks.specs.declared.block_error.BlockError.{BlockError}
use Rattle.osc_blocks.specs.declared.block_error.BlockError.TheVariants.{LongOperation, WrongLength, OutOfOrder, OtherOperation, OldNumber, TooLarge}
use Rattle.osc_blocks.specs.declared.body.Stage.{Stage}
use Rattle.osc_blocks.specs.declared.body.Stage.TheVariants.{Empty, Begun, Complete}
use Rattle.osc_blocks.specs.BlockValue.{BlockParts, place_of, size_of}
use Rattle.osc_blocks.specs.InBlocks.{Piece, AreFront, AreIncreasing, IsInBlocks, joined, last_request}

-- what is kept of one body: the number of its last block's request, its operation, its bytes so far, and how far it is (own rule)
pub record Kept : Type 0 where
  pub request : ℕ
  pub operation : List ℕ
  pub bytes : List ℕ
  pub stage : Stage

-- the operation has more bytes than are kept (own rule)
abbrev pub IsLongOperation : List ℕ → Type 0
IsLongOperation operation = 64 < length operation

-- a payload of this length isn't full although more blocks follow, or is longer than the size of a last block (RFC 7959, 2.2)
abbrev pub HasWrongLength : BlockParts → ℕ → Type 0
HasWrongLength block n = MatchBool block.more (n ≢ size_of block.size) (size_of block.size < n)

-- no body is begun that this block goes on, or the block doesn't begin where the bytes so far end (RFC 7959, 2.5)
abbrev pub IsOutOfOrder : Kept → BlockParts → Type 0
IsOutOfOrder kept block = (0 < block.number) × ((kept.stage ≢ Begun) ⊎ (place_of block ≢ length kept.bytes))

-- the block would go on a body of another operation (RFC 7959, 2.5)
abbrev pub IsOfOtherOperation : Kept → List ℕ → BlockParts → Type 0
IsOfOtherOperation kept operation block = (0 < block.number) × (operation ≢ kept.operation)

-- the block would go on a body, and its request has no higher number than that of the block before it (own rule)
abbrev pub HasOldNumber : Kept → ℕ → BlockParts → Type 0
HasOldNumber kept request block = (0 < block.number) × (request ≤ kept.request)

-- the body would pass the room for it, or its next block would have a number that no block can have (RFC 7959, 2.2 and 2.9.3)
abbrev pub IsTooLarge : ℕ → BlockParts → ℕ → Type 0
IsTooLarge most block n = (most < place_of block + n) ⊎ ((block.more ≡ true) × (2 ^ 20 ≤ block.number + 1))

-- the condition of each refusal, whatever else is wrong (own rule)
abbrev pub Refuses : ℕ → Kept → Piece → BlockError → Type 0
Refuses most kept piece LongOperation = IsLongOperation piece.operation
Refuses most kept piece WrongLength = HasWrongLength piece.block (length piece.payload)
Refuses most kept piece OutOfOrder = IsOutOfOrder kept piece.block
Refuses most kept piece OtherOperation = IsOfOtherOperation kept piece.operation piece.block
Refuses most kept piece OldNumber = HasOldNumber kept piece.request piece.block
Refuses most kept piece TooLarge = IsTooLarge most piece.block (length piece.payload)

-- the place of a refusal in the order of judging (own rule)
abbrev pub refusal_rank : BlockError → ℕ
refusal_rank LongOperation = 0
refusal_rank WrongLength = 1
refusal_rank OutOfOrder = 2
refusal_rank OtherOperation = 3
refusal_rank OldNumber = 4
refusal_rank TooLarge = 5

-- the refusal holds, and none judged before it does (own rule)
pub record IsFirstRefusal (most : ℕ) (kept : Kept) (piece : Piece) (e : BlockError) : Type 0 where
  pub holds : Refuses most kept piece e
  pub first : (f : BlockError) → refusal_rank f < refusal_rank e → ¬ Refuses most kept piece f

-- how far a body is after a block (RFC 7959, 2.2)
abbrev pub stage_after : Bool → Stage
stage_after true = Begun
stage_after false = Complete

-- what is kept after a block was taken: the bytes up to its place, and then its payload (RFC 7959, 2.2)
abbrev pub kept_after : Kept → Piece → Kept
kept_after kept piece = record {
  request = piece.request;
  operation = piece.operation;
  bytes = take (place_of piece.block) kept.bytes ++ piece.payload;
  stage = stage_after piece.block.more;
}

-- the pieces of the newest body after one more was taken; a block with number 0 begins a new body (RFC 7959, 2.5)
abbrev pub with_piece : List Piece → Piece → List Piece
with_piece pieces piece = if piece.block.number == 0 then piece ∷ [] else pieces ++ piece ∷ []

-- at this stage a body has come in these pieces, the last one by the request of this number (RFC 7959, 2.3)
abbrev pub KeepsAt : Stage → ℕ → List ℕ → List ℕ → List Piece → Type 0
KeepsAt Empty request operation bytes pieces = pieces ≡ []
KeepsAt Begun request operation bytes pieces =
    AreFront operation 0 pieces × (bytes ≡ joined pieces) × AreIncreasing pieces × (request ≡ last_request 0 pieces)
KeepsAt Complete request operation bytes pieces = IsInBlocks operation 0 pieces bytes

-- what is kept has come in these pieces: none, the front of a body in blocks, or a whole body in blocks (RFC 7959, 2.3)
abbrev pub Keeps : Kept → List Piece → Type 0
Keeps kept pieces = KeepsAt kept.stage kept.request kept.operation kept.bytes pieces

-- the bytes of a body that is complete (RFC 7959, 2.2)
abbrev pub whole_at : Stage → List ℕ → Option (List ℕ)
whole_at Empty bytes = None
whole_at Begun bytes = None
whole_at Complete bytes = Some bytes
