-- To be believed: laws about bodies after any calls (RFC 7959, 2.3 to 2.5). calls are what a body was asked to take, newest
-- first; most is how many bytes it has room for.
use Rattle.std.specs.Prelude.{◌≡◌, ℕ, ◌^◌, ◌<◌, ◌≤◌, ◌⊎◌, List, [], ◌∷◌, ◌++◌, length, Some}
use Rattle.osc_blocks.specs.declared.block_error.BlockError.{BlockError}
use Rattle.osc_blocks.specs.declared.block_size.BlockSize.{BlockSize}
use Rattle.osc_blocks.specs.declared.body.Body.{Body}
use Rattle.osc_blocks.specs.InBlocks.{Piece, AreIncreasing, IsInBlocks}
use Rattle.osc_blocks.specs.Cut.{AreCut, IsBlockOf}
use Rattle.osc_blocks.specs.RequestTag.{request_tag_of}
use Rattle.osc_blocks.specs.Taking.{Kept, Keeps, Refuses, whole_at}
use Rattle.osc_blocks.specs.Views.{Holds, Takes, whole_of}

-- one call: a piece came, and was taken or refused (own rule)
pub data Call : Type 0 where
  Took : Piece → Call
  Refused : Piece → Call

-- the pieces that were taken, oldest first (own rule)
abbrev pub taken_in : List Call → List Piece
taken_in [] = []
taken_in (Took piece ∷ earlier) = taken_in earlier ++ piece ∷ []
taken_in (Refused piece ∷ earlier) = taken_in earlier

-- what a call does to a body; a refusal changes nothing (RFC 7959, 2.5)
abbrev pub Does : (most : ℕ) → Body most → Body most → Call → Type 0
Does most old new (Took piece) = Takes old new piece
Does most old new (Refused piece) = new ≡ old

-- these calls turn the first body into the last (own rule)
abbrev pub BecomesBy : (most : ℕ) → Body most → Body most → List Call → Type 0
BecomesBy most first last [] = last ≡ first
BecomesBy most first last (call ∷ earlier) = (before : Body most) × BecomesBy most first before earlier × Does most before last call

-- the bytes are the body that the newest pieces of those that were taken are the blocks of (RFC 7959, 2.3)
abbrev pub AreNewestBody : List Piece → List ℕ → Type 0
AreNewestBody taken bytes =
    (older : List Piece) × (newest : List Piece) × (operation : List ℕ) × (taken ≡ older ++ newest) × IsInBlocks operation 0 newest bytes

-- after any calls on an empty body: if it is whole, the newest pieces that it took are the blocks of its bytes, all and in order (RFC 7959, 2.3)
abbrev pub HandsOverBodies : Type 0
HandsOverBodies = (most : ℕ) (first last : Body most) (calls : List Call) (bytes : List ℕ)
    → Holds first [] → BecomesBy most first last calls → whole_of last ≡ Some bytes → AreNewestBody (taken_in calls) bytes

-- the blocks that a body is cut into are this body in blocks, by requests with any increasing numbers (RFC 7959, 2.3)
abbrev pub CutsIntoBlocks : Type 0
CutsIntoBlocks = (operation body : List ℕ) (size : BlockSize) (pieces : List Piece)
    → AreCut operation body size 0 pieces → AreIncreasing pieces → IsInBlocks operation 0 pieces body

-- each block that a body is cut into is taken after those before it, by a request with a higher number, if there is room for that body (RFC 7959, 2.3)
abbrev pub TakesCutBlocks : Type 0
TakesCutBlocks = (most : ℕ) (kept : Kept) (operation body : List ℕ) (size : BlockSize) (earlier : List Piece) (piece : Piece) (later : List Piece)
    → AreCut operation body size 0 (earlier ++ piece ∷ later) → AreIncreasing (earlier ++ piece ∷ later)
    → length operation ≤ 64 → length body ≤ most → Keeps kept earlier → (e : BlockError) → ¬ Refuses most kept piece e

-- what has come in all the blocks that a body is cut into is whole, and is that body (RFC 7959, 2.3)
abbrev pub GivesBackBodies : Type 0
GivesBackBodies = (kept : Kept) (operation body : List ℕ) (size : BlockSize) (pieces : List Piece)
    → AreCut operation body size 0 pieces → Keeps kept pieces → whole_at kept.stage kept.bytes ≡ Some body

-- the piece is one of these (own rule)
abbrev pub IsAmong : List Piece → Piece → Type 0
IsAmong [] piece = ⊥
IsAmong (sent ∷ later) piece = (piece ≡ sent) ⊎ IsAmong later piece

-- each piece that was taken is one of those that were sent (own rule)
abbrev pub AreAmong : List Piece → List Piece → Type 0
AreAmong sent [] = Unit {0}
AreAmong sent (piece ∷ later) = IsAmong sent piece × AreAmong sent later

-- from the piece on that begins it, all that was sent for its operation are blocks of this one body (RFC 9175, 3.5.1)
abbrev pub AreOfOneBody : List Piece → Piece → List ℕ → Type 0
AreOfOneBody sent begins body = (piece : Piece) → IsAmong sent piece → piece.operation ≡ begins.operation → begins.request ≤ piece.request
    → IsBlockOf body piece.block piece.payload

-- the bytes are in the newest pieces that were taken, and are the body that was cut under their operation, if that was one (RFC 9175, 3.5.1)
abbrev pub AreOneBody : List Piece → List Piece → List ℕ → Type 0
AreOneBody sent taken bytes = (older : List Piece) × (begins : Piece) × (later : List Piece) × (taken ≡ older ++ begins ∷ later)
    × IsInBlocks begins.operation 0 (begins ∷ later) bytes × ((body : List ℕ) → AreOfOneBody sent begins body → bytes ≡ body)

-- after any calls on an empty body that took what was sent alone, in any order: if it is whole, no blocks of two bodies were joined (RFC 9175, 3.5.1)
abbrev pub JoinedIsCut : Type 0
JoinedIsCut = (most : ℕ) (first last : Body most) (calls : List Call) (sent : List Piece) (bytes : List ℕ)
    → Holds first [] → BecomesBy most first last calls → AreAmong sent (taken_in calls)
    → whole_of last ≡ Some bytes → AreOneBody sent (taken_in calls) bytes

-- bodies that begin with different numbers have different tags (RFC 9175, 3.4)
abbrev pub OneRequestTag : Type 0
OneRequestTag = (first other : ℕ) → first < 2 ^ 40 → other < 2 ^ 40 → request_tag_of first ≡ request_tag_of other → first ≡ other
