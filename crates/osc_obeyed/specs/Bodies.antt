-- To be believed: bodies that an end joins of blocks, over all that happens at both ends (RFC 7959, 2.3 and 2.5; RFC 8613, 7.4 and 8.4; RFC 9175, 3.5.1). w is the
-- world, s the security context, n how many pending requests the client has room for, most how many bytes a body has room for; operation says which operation a
-- message is of, by whatever the end compares besides the block.
use Rattle.std.specs.Prelude.{◌≡◌, ◌⊎◌, ℕ, ◌≤◌, List, [], ◌∷◌, ◌++◌, Some}
use Rattle.osc_coap.specs.Inner.{InnerParts}
use Rattle.osc_coap.specs.Interpreted.{interpreted}
use Rattle.osc_coap.specs.OptionNumbers as options
use Rattle.osc_context.specs.SecurityContext.{SecurityContext}
use Rattle.osc_life.specs.ServerHistory as server
use Rattle.osc_blocks.specs.BlockValue.{IsBlockValue}
use Rattle.osc_blocks.specs.Cut.{IsBlockOf}
use Rattle.osc_blocks.specs.InBlocks.{Piece, IsInBlocks}
use Rattle.osc_blocks.specs.Laws.{BecomesBy, Call, taken_in}
use Rattle.osc_blocks.specs.Views.{Holds, whole_of}
use Rattle.osc_blocks.specs.declared.body.Body.{Body}
use Rattle.osc_kept.specs.Premises.{IsLawful}
use Rattle.osc_kept.specs.World.{World, Event, Begin, Then, AtServer, Has, Request, Response, answered, heard, sent}

-- a message has this piece: its option of that number says the block, and operation and payload are its own; number is that of its request (RFC 7959, 2.2)
pub record HasPiece (operation : InnerParts → List ℕ) (option number : ℕ) (m : InnerParts) (piece : Piece) : Type 0 where
  pub request_is : piece.request ≡ number
  pub operation_is : piece.operation ≡ operation m
  pub value : List ℕ
  pub value_is : interpreted option m.options ≡ Some value
  pub says : IsBlockValue piece.block value
  pub payload_is : piece.payload ≡ m.payload

-- a request has it in its Block1 (RFC 7959, 2.3)
abbrev pub RequestHas : (InnerParts → List ℕ) → Request → Piece → Type 0
RequestHas operation r piece = HasPiece operation options.block1 r.number r.message piece

-- a response has it in its Block2 (RFC 7959, 2.4)
abbrev pub ResponseHas : (InnerParts → List ℕ) → Response → Piece → Type 0
ResponseHas operation x piece = HasPiece operation options.block2 x.number x.message piece

-- the server delivers the request (RFC 8613, 8.2)
abbrev pub Delivers : Event → Request → Type 0
Delivers (AtServer (server.Datagram now echo mid d) (server.Took (server.Deliver received ticket) reply)) r = r ≡ record { number = ticket.number; message = received.message }
Delivers event r = ⊥

-- it did so, in whatever life (RFC 8613, 8.2)
abbrev pub WasDelivered : World → Request → Type 0
WasDelivered Begin r = ⊥
WasDelivered (Then w event) r = Delivers event r ⊎ WasDelivered w r

-- each of the pieces is in something of which this holds (own rule)
abbrev pub AreIn : {A : Type 0} → (A → Type 0) → (A → Piece → Type 0) → List Piece → Type 0
AreIn holds has [] = Unit {0}
AreIn {A} holds has (piece ∷ later) = ((x : A) × holds x × has x piece) × AreIn holds has later

-- from the piece on that begins it, whatever this holds of has, for its operation, blocks of this one body alone (RFC 9175, 3.5.1)
abbrev pub AreOfBody : {A : Type 0} → (A → Type 0) → (A → Piece → Type 0) → Piece → List ℕ → Type 0
AreOfBody {A} holds has begins body = (x : A) (piece : Piece) → holds x → has x piece → piece.operation ≡ begins.operation → begins.request ≤ piece.request
    → IsBlockOf body piece.block piece.payload

-- the bytes are in the newest pieces that were taken, and are the body of which all that was sealed since they begin has blocks, if there is one (RFC 9175, 3.5.1)
abbrev pub IsThatBody : {A : Type 0} → (A → Type 0) → (A → Piece → Type 0) → List Piece → List ℕ → Type 0
IsThatBody sealed has taken bytes = (older : List Piece) × (begins : Piece) × (later : List Piece) × (taken ≡ older ++ begins ∷ later)
    × IsInBlocks begins.operation 0 (begins ∷ later) bytes × ((body : List ℕ) → AreOfBody sealed has begins body → bytes ≡ body)

-- after any calls on an empty body that took pieces of things of one kind alone: if it is whole, its bytes are the body of which what was sealed has blocks (RFC 7959, 2.3)
abbrev pub BodyIsCut : {A : Type 0} → (A → Type 0) → (A → Type 0) → (A → Piece → Type 0) → Type 0
BodyIsCut came sealed has = (most : ℕ) (first last : Body most) (calls : List Call) (bytes : List ℕ) → Holds first [] → BecomesBy most first last calls
    → AreIn came has (taken_in calls) → whole_of last ≡ Some bytes → IsThatBody sealed has (taken_in calls) bytes

-- what a server joins of delivered requests is the body that the client sealed in them (RFC 7959, 2.3; RFC 8613, 7.4; RFC 9175, 3.5.1)
abbrev pub RequestBodiesAreCut : Type 0
RequestBodiesAreCut = (operation : InnerParts → List ℕ) (n : ℕ) (s : SecurityContext) (w : World) → IsLawful n s w
    → BodyIsCut (λ r. WasDelivered w r) (λ r. Has r (sent s w)) (RequestHas operation)

-- what a client joins of the responses that it heard is the body that the server sealed in them (RFC 7959, 2.4; RFC 8613, 8.4)
abbrev pub ResponseBodiesAreCut : Type 0
ResponseBodiesAreCut = (operation : InnerParts → List ℕ) (n : ℕ) (s : SecurityContext) (w : World) → IsLawful n s w
    → BodyIsCut (λ x. Has x (heard w)) (λ x. Has x (answered s w)) (ResponseHas operation)
