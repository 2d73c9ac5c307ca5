-- How the code is seen: a block as its parts, and a body as what it keeps. No proof of another crate looks into kept_of.
use Rattle.std.specs.Prelude.{◌≡◌, ℕ, List, Option, None, true, false, IsSome}
use Rattle.osc_blocks.specs.declared.block.Block.{Block}
use Rattle.osc_blocks.specs.declared.body.Body.{Body}
use Rattle.osc_blocks.specs.declared.received.Received.{Received}
use Rattle.osc_blocks.specs.declared.received.Received.TheVariants.{More, Whole}
use Rattle.osc_blocks.specs.BlockValue.{BlockParts, next_of}
use Rattle.osc_blocks.specs.InBlocks.{Piece}
use Rattle.osc_blocks.specs.Taking.{Kept, Keeps, whole_at, with_piece}

-- the parts of a block (how the code is seen)
abbrev pub parts_of : Block → BlockParts
parts_of block = record { number = block.number; more = block.more; size = block.size }

-- what a body keeps (how the code is seen)
unfoldable pub kept_of : {most : ℕ} → Body most → Kept
kept_of body = record { request = body.request; operation = body.operation.items; bytes = body.bytes.items; stage = body.stage }

-- the bytes of a body, once its last block was taken (how the code is seen)
abbrev pub whole_of : {most : ℕ} → Body most → Option (List ℕ)
whole_of body = whole_at (kept_of body).stage (kept_of body).bytes

-- the body has come in these pieces so far (RFC 7959, 2.3)
abbrev pub Holds : {most : ℕ} → Body most → List Piece → Type 0
Holds body pieces = Keeps (kept_of body) pieces

-- a piece was taken: whatever pieces the body held, it now holds them and this one, or this one alone if its number is 0 (RFC 7959, 2.5)
abbrev pub Takes : {most : ℕ} → Body most → Body most → Piece → Type 0
Takes old new piece = (pieces : List Piece) → Holds old pieces → Holds new (with_piece pieces piece)

-- what is said of a block that was taken, with the body that is whole after it, if it is (RFC 7959, 2.2 and 2.4)
abbrev pub IsReceived : Received → BlockParts → Option (List ℕ) → Type 0
IsReceived (More next) block whole = (block.more ≡ true) × (parts_of next ≡ next_of block) × (whole ≡ None)
IsReceived Whole block whole = (block.more ≡ false) × IsSome whole
