-- To be believed: what a body in blocks is (RFC 7959, 2.2 to 2.5). An operation is a key that blocks of one body share; place is
-- how many bytes of the body come before a block; request is the number of a request, its Partial IV (RFC 8613, 5).
use Rattle.std.specs.Prelude.{◌≡◌, ℕ, ◌+◌, ◌<◌, ◌≤◌, List, [], ◌∷◌, ◌++◌, length, true, false}
use Rattle.osc_blocks.specs.BlockValue.{BlockParts, place_of, size_of}

-- a block as it came: the number of its request, the operation that it belongs to, what its option says, and its payload (RFC 7959, 2.2)
pub record Piece : Type 0 where
  pub request : ℕ
  pub operation : List ℕ
  pub block : BlockParts
  pub payload : List ℕ

-- these four as a piece (RFC 7959, 2.2)
abbrev pub piece_of : ℕ → List ℕ → BlockParts → List ℕ → Piece
piece_of request operation block payload =
    record { request = request; operation = operation; block = block; payload = payload }

-- the payloads of pieces, one after the other (RFC 7959, 2.2)
abbrev pub joined : List Piece → List ℕ
joined [] = []
joined (piece ∷ later) = piece.payload ++ joined later

-- a block of this operation that begins at this place (RFC 7959, 2.2)
pub record BeginsAt (operation : List ℕ) (place : ℕ) (piece : Piece) : Type 0 where
  pub operation_is : piece.operation ≡ operation
  pub place_is : place_of piece.block ≡ place

-- a block with more blocks after it, which has exactly as many bytes as its size says (RFC 7959, 2.2)
pub record IsFull (piece : Piece) : Type 0 where
  pub more : piece.block.more ≡ true
  pub full : length piece.payload ≡ size_of piece.block.size

-- a last block, which has at most as many bytes as its size says (RFC 7959, 2.2)
pub record IsLast (piece : Piece) : Type 0 where
  pub last : piece.block.more ≡ false
  pub within : length piece.payload ≤ size_of piece.block.size

-- full blocks of one operation, the first at this place, and each other one where the one before it ends (RFC 7959, 2.3)
abbrev pub AreFront : List ℕ → ℕ → List Piece → Type 0
AreFront operation place [] = Unit {0}
AreFront operation place (piece ∷ later) =
    BeginsAt operation place piece × IsFull piece × AreFront operation (place + length piece.payload) later

-- each piece came by a request with a higher number than the one before it, the first by one above this number (own rule)
abbrev pub AreAbove : ℕ → List Piece → Type 0
AreAbove request [] = Unit {0}
AreAbove request (piece ∷ later) = (request < piece.request) × AreAbove piece.request later

-- each piece came by a request with a higher number than the one before it (own rule)
abbrev pub AreIncreasing : List Piece → Type 0
AreIncreasing [] = Unit {0}
AreIncreasing (piece ∷ later) = AreAbove piece.request later

-- the number of the request by which the last piece came, or this number if there is none (own rule)
abbrev pub last_request : ℕ → List Piece → ℕ
last_request request [] = request
last_request request (piece ∷ later) = last_request piece.request later

-- the blocks of a body from this place on: full blocks, and then the last one, by requests with increasing numbers; the body is what they carry (RFC 7959, 2.3)
pub record IsInBlocks (operation : List ℕ) (place : ℕ) (pieces : List Piece) (body : List ℕ) : Type 0 where
  pub front : List Piece
  pub last : Piece
  pub pieces_are : pieces ≡ front ++ last ∷ []
  pub in_order : AreFront operation place front
  pub begins : BeginsAt operation (place + length (joined front)) last
  pub ends : IsLast last
  pub increasing : AreIncreasing pieces
  pub body_is : body ≡ joined pieces
