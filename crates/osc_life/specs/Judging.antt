-- For the proofs: what a context of a server answers to a request that names it. s is a security context, n the request's number, l the
-- context's present life, r the request, d the datagram as it came, new the datagram as it was left.
use Rattle.std.specs.Prelude.{◌≡◌, ℕ, List, [], Option, Some, None, IsTrue, false}
use Rattle.osc_coap.specs.Datagram.{Parts, IsDatagram}
use Rattle.osc_coap.specs.Inner.{InnerParts}
use Rattle.osc_context.specs.SecurityContext.{SecurityContext, AnswersTo}
use Rattle.osc_context.specs.Views.{as_server, number_of}
use Rattle.osc_window.specs.declared.gate.Gate.{Gate}
use Rattle.osc_window.specs.declared.gate.Gate.TheVariants as gates
use Rattle.osc_window.specs.Views.{takes}
use Rattle.osc_protect.specs.Head.{Head, HasRequestHead}
use Rattle.osc_protect.specs.Protection.{ProtectsRequest, requests}
use Rattle.osc_protect.specs.Refusals.{Names}
use Rattle.osc_protect.specs.StageViews.{CanLendRequest, DecryptsRequest, IsSealedRequest}
use Rattle.osc_protect.specs.Views.{context_of}
use Rattle.osc_protect.specs.declared.stages.DecryptedRequest.{DecryptedRequest}
use Rattle.osc_protect.specs.declared.stages.ReadRequest.{ReadRequest}
use Rattle.osc_life.specs.Doubting.{IsBelow, IsNotBelow}
use Rattle.osc_life.specs.declared.asker.Asker.{Asker}
use Rattle.osc_life.specs.declared.judging.Named.{Named}
use Rattle.osc_life.specs.declared.decision.Decided.{Decided}
use Rattle.osc_life.specs.declared.doubt.Doubt.{Doubt}
use Rattle.osc_life.specs.declared.slot.Slot.{Slot}
use Rattle.osc_life.specs.Agrees.{HoldsLife}
use Rattle.osc_life.specs.Deciding.{Decides}
use Rattle.osc_life.specs.Life.{Life, marked}
use Rattle.osc_life.specs.Replies.{SaysError, bad_tag, replay}
use Rattle.osc_life.specs.LifeAnswer.{Arrival, MeetsLifeRow, SaysChallenge, WantsEcho}
use Rattle.osc_life.specs.ServerHistory as server

-- the reply of a row of the life that the head names (RFC 8613, 7.4, 8.2 and B.1.2)
abbrev pub LifeSays : Life → Arrival → server.Answer → List ℕ → Type 0
LifeSays of a server.Replay reply = SaysError a.bytes a.mid replay reply
LifeSays of a server.BadTag reply = SaysError a.bytes a.mid bad_tag reply
LifeSays of a (server.Challenge j k given issued) reply = SaysChallenge of k a.bytes a.mid given reply
LifeSays of a answer reply = reply ≡ []

-- a row of that life, and its reply (RFC 8613, 7.4, 8.2 and B.1.2)
abbrev pub LifeAnswer : Life → ℕ → ℕ → Arrival → server.Answer → List ℕ → Type 0
LifeAnswer of i n a answer reply = MeetsLifeRow of i n a answer × LifeSays of a answer reply

-- the requester that a reply goes to has the datagram's Type, Message ID and token (RFC 7252, 5.3.2)
abbrev pub IsAskerOf : Asker → List ℕ → Type 0
IsAskerOf a d = (p : Parts) × IsDatagram p d × (a.kind ≡ p.kind) × (a.message_id ≡ p.message_id) × (a.token.items ≡ p.token)

-- the datagram's head names this context and number (RFC 8613, 8.2)
abbrev pub IsNamed : SecurityContext → ℕ → List ℕ → Type 0
IsNamed s n d = (head : Head) × HasRequestHead d head × Names (requests s) head n

-- the gate is closed, and the number isn't below those in doubt, or its window takes the number (how the code is seen)
abbrev pub GatePasses : Gate → Option Doubt → ℕ → Type 0
GatePasses (gates.Restarted kept) doubt n = IsNotBelow doubt n
GatePasses (gates.Open window) doubt n = IsTrue (takes window n)

-- the gate is closed, and the number is below those in doubt, or its window doesn't take the number (how the code is seen)
abbrev pub GateRefuses : Gate → Option Doubt → ℕ → Type 0
GateRefuses (gates.Restarted kept) doubt n = IsBelow doubt n
GateRefuses (gates.Open window) doubt n = takes window n ≡ false

-- the request, as the definitions see a datagram that arrived (how the code is seen)
abbrev pub arrival_of : Named → List ℕ → Arrival
arrival_of r d = record { clock = r.clock; echo = r.fresh.echo; mid = r.fresh.mid; bytes = d }

-- the decision is the answer of the life, with this reply, and the context is as the answer leaves it (how the code is seen)
pub record JudgesTo (l : Life) (r : Named) (d : List ℕ) (result : Decided) (new reply : List ℕ) (place : Option Slot) : Type 0 where
  pub answer : server.Answer
  pub row : LifeAnswer l r.index (number_of r.number) (arrival_of r d) answer reply
  pub decides : Decides result.decision new answer
  pub agrees : HoldsLife place (marked (server.mark_at r.index answer) l)

-- a request that is to be challenged (RFC 8613, B.1.2)
abbrev pub RefusesEcho : Life → Named → List ℕ → Type 0
RefusesEcho l r d = WantsEcho l (number_of r.number) r.clock d

-- the head names the context of this place and the request's number, and what has to be decrypted belongs to that head (RFC 8613, 8.2)
abbrev pub IsNamedAt : Option Slot → Named → List ℕ → Type 0
IsNamedAt None r d = ⊥
IsNamedAt (Some s) r d = IsNamed (as_server (context_of s.context)) (number_of r.number) d × IsSealedRequest (requests (as_server (context_of s.context))) d r.sealed

-- the property holds for each message protected by a datagram that was decrypted to this one and read as the value (RFC 8613, 8.2)
abbrev pub OfWhatWasRead : List ℕ → ReadRequest → (InnerParts → Type 0) → Type 0
OfWhatWasRead new read holds = (x : DecryptedRequest) (s : SecurityContext) (d : List ℕ) (n : ℕ) (m : InnerParts) → CanLendRequest new x read
    → DecryptsRequest (requests s) d x new → ProtectsRequest s n m d → holds m

-- a place that has a context with this kid, and with this kid context or none (RFC 8613, 8.2)
abbrev pub LooksUp : Option Slot → List ℕ → Option (List ℕ) → Type 0
LooksUp None kid kid_context = ⊥
LooksUp (Some s) kid kid_context = AnswersTo (as_server (context_of s.context)) kid kid_context
