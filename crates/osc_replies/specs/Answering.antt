-- To be believed: a peer with a memory of the requests that it answered (RFC 7252, 4.5; RFC 8613, 7.4 and 8.2). A datagram whose request the memory has a reply for is
-- answered from the memory alone, and moves the peer's clocks; any other is answered as the peer answers it, and the memory keeps the request if it is delivered, or
-- challenged. d is the datagram, count and len are the room of the memory, old and new are the memory before and after.
use Rattle.std.specs.Prelude.{◌≡◌, ◌≢◌, ◌<◌, ◌⊎◌, ℕ, List, [], Result, Ok, Err, length}
use Rattle.std.specs.List.{Contains}
use Rattle.osc_coap.specs.Datagram.{Parts, IsDatagram, datagram_length}
use Rattle.osc_coap.specs.Writing.{LacksRoom}
use Rattle.osc_life.specs.declared.decision.Decided.{Decided}
use Rattle.osc_life.specs.declared.decision.Decision.{Decision}
use Rattle.osc_life.specs.declared.decision.Decision.TheVariants as decisions
use Rattle.osc_context.specs.declared.keeper.KeeperError.{KeeperError}
use Rattle.osc_replies.specs.declared.again.DecidedAgain.{DecidedAgain}
use Rattle.osc_replies.specs.declared.again.DecidedAgain.TheVariants as decided
use Rattle.osc_replies.specs.Memory.{Asks, IsReply, IsReplyKept, Kept, Recalls, kept_after}

-- if the datagram is answered from the memory, this holds of the reply's length (own rule)
abbrev pub IfAgain : Result DecidedAgain KeeperError → (ℕ → Type 0) → Type 0
IfAgain (Ok (decided.Again n)) holds = holds n
IfAgain (Ok (decided.Decided x)) holds = Unit {0}
IfAgain (Err e) holds = Unit {0}

-- if the peer decides about the datagram, this holds of what it decided (own rule)
abbrev pub IfDecided : Result DecidedAgain KeeperError → (Decided → Type 0) → Type 0
IfDecided (Ok (decided.Again n)) holds = Unit {0}
IfDecided (Ok (decided.Decided x)) holds = holds x
IfDecided (Err e) holds = Unit {0}

-- if the datagram isn't answered from the memory, this holds (own rule)
abbrev pub IfNotAgain : Result DecidedAgain KeeperError → Type 0 → Type 0
IfNotAgain (Ok (decided.Again n)) holds = Unit {0}
IfNotAgain (Ok (decided.Decided x)) holds = holds
IfNotAgain (Err e) holds = holds

-- these bytes are the memory's answer to the datagram (RFC 7252, 4.5)
pub record AnswersAgain (memory : List Kept) (d : List ℕ) (mid : ℕ) (reply : List ℕ) : Type 0 where
  pub request : Parts
  pub datagram : IsDatagram request d
  pub answer : Parts
  pub recalls : Recalls memory request mid answer
  pub is : IsDatagram answer reply

-- the memory has no answer to the datagram, or an answer for which there is no room (own rule)
abbrev pub HasNoAnswer : List Kept → List ℕ → ℕ → ℕ → Type 0
HasNoAnswer memory d mid room =
    ((p answer : Parts) → IsDatagram p d → Recalls memory p mid answer → ⊥)
    ⊎ ((p : Parts) × IsDatagram p d × (answer : Parts) × Recalls memory p mid answer × LacksRoom room (datagram_length answer))

-- the memory keeps the request of the datagram with this reply, or with none if it has no bytes (own rule)
pub record KeepsRequest (count : ℕ) (d reply : List ℕ) (old new : List Kept) : Type 0 where
  pub request : Parts
  pub datagram : IsDatagram request d
  pub kept : Kept
  pub asks : Asks request kept.number kept.option kept.text
  pub reply_is : kept.reply ≡ reply
  pub is : new ≡ kept_after count old kept

-- the memory has no room for the request of the datagram (own rule: an option of 46 bytes, and len bytes of ciphertext)
abbrev pub IsTooLong : ℕ → List ℕ → Type 0
IsTooLong len d = (p : Parts) (n : ℕ) (option text : List ℕ) → IsDatagram p d → Asks p n option text → (46 < length option) ⊎ (len < length text)

-- these bytes can't be kept as a reply (own rule)
abbrev pub IsNoReply : ℕ → List ℕ → Type 0
IsNoReply len reply = (len < length reply) ⊎ ((p : Parts) → IsReply p reply → ⊥)

-- what the memory keeps of a datagram that was decided about: a request that is delivered, without a reply yet, or challenged, with the challenge (own rule)
abbrev pub Remembers : ℕ → ℕ → List ℕ → Decision → List ℕ → List Kept → List Kept → Type 0
Remembers count len d (decisions.Deliver x ticket) reply old new = KeepsRequest count d [] old new ⊎ ((new ≡ old) × IsTooLong len d)
Remembers count len d (decisions.Challenge echo issued) reply old new = KeepsRequest count d reply old new ⊎ ((new ≡ old) × (IsTooLong len d ⊎ IsNoReply len reply))
Remembers count len d decision reply old new = new ≡ old

-- what the memory keeps of a reply to the request with this number, if it keeps the request (own rule)
abbrev pub RemembersReply : ℕ → ℕ → List ℕ → List Kept → List Kept → Type 0
RemembersReply len n reply old new = IsReplyKept n reply old new ⊎ ((new ≡ old) × (((k : Kept) → Contains old k → k.number ≢ n) ⊎ IsNoReply len reply))
