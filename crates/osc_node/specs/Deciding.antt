-- To be believed: what a node makes of a datagram that came (RFC 7252, 4.2 to 4.5 and 5.2; RFC 8613, 8.2 and 8.4). old and new are its message
-- layer, or the part of it that has the messages that came; p is what the datagram says, h what an ACK of it needs, now the present moment.
use Rattle.std.specs.Prelude.{◌≡◌, ◌⊎◌, ℕ, List, [], Bool, true, false, Option, Some, None, if◌then◌else◌, ◌||◌, is_some}
use Rattle.osc_coap.specs.Datagram.{IsDatagram, Parts}
use Rattle.osc_coap.specs.declared.message.Kind.TheVariants.{Ack, Rst}
use Rattle.osc_client.specs.declared.decision.ClientDecision.{ClientDecision}
use Rattle.osc_client.specs.declared.decision.ClientDecision.TheVariants as heard
use Rattle.osc_life.specs.declared.decision.Decided.{Decided}
use Rattle.osc_life.specs.declared.decision.Decision.{Decision}
use Rattle.osc_life.specs.declared.decision.Decision.TheVariants as decisions
use Rattle.osc_message.specs.Arriving.{Came}
use Rattle.osc_message.specs.Calls.{EndsCall}
use Rattle.osc_message.specs.HearingCalls.{AnswersBy, IsFirstReason, NotesBy}
use Rattle.osc_message.specs.Incoming.{empty}
use Rattle.osc_message.specs.MessageIds.{Counted, Gives, IsNext, Waits}
use Rattle.osc_message.specs.Taking.{IsUnreadable, Layer, Takes, heading_of}
use Rattle.osc_message.specs.declared.arrival.Again.{Again}
use Rattle.osc_message.specs.declared.arrival.Again.TheVariants as again
use Rattle.osc_message.specs.declared.arrival.Way.{Way}
use Rattle.osc_message.specs.declared.arrivals.Arrived.{Arrived}
use Rattle.osc_message.specs.declared.arrivals.Incomer.{Incomer}
use Rattle.osc_message.specs.declared.arrivals.NoteError.{NoteError}
use Rattle.osc_message.specs.declared.exchanges.Call.{Call}
use Rattle.osc_message.specs.declared.messages.Heading.{Heading}
use Rattle.osc_message.specs.declared.messages.Taken.{Taken}
use Rattle.osc_message.specs.declared.messages.Taken.TheVariants as taken
use Rattle.osc_node.specs.declared.node_decision.NodeDecision.{NodeDecision}
use Rattle.osc_node.specs.declared.node_decision.NodeDecision.TheVariants as node

-- if the peer decided about a request, this holds of what it decided (own rule)
abbrev pub IfRequest : NodeDecision → (Decided → Type 0) → Type 0
IfRequest (node.Request d noted) holds = holds d
IfRequest decision holds = Unit {0}

-- if the peer decided about a response, this holds of what it decided (own rule)
abbrev pub IfResponse : NodeDecision → (ClientDecision → Type 0) → Type 0
IfResponse (node.Response call decision) holds = holds decision
IfResponse decision holds = Unit {0}

-- if the record failed, this holds (own rule)
abbrev pub IfKeeperFailed : NodeDecision → Type 0 → Type 0
IfKeeperFailed node.KeeperFailed holds = holds
IfKeeperFailed decision holds = Unit {0}

-- if the message layer alone decided, this holds (own rule)
abbrev pub IfLayerAlone : NodeDecision → Type 0 → Type 0
IfLayerAlone (node.Request d noted) holds = Unit {0}
IfLayerAlone (node.Response call decision) holds = Unit {0}
IfLayerAlone node.KeeperFailed holds = Unit {0}
IfLayerAlone decision holds = holds

-- a message is kept in mind: from whom, its Message ID, whether it is a CON, and whether its answer is still to come (RFC 7252, 4.5)
pub record Keeps (old new : Came) (from : List ℕ) (h : Heading) (awaits_answer : Bool) (now : ℕ) (a : Arrived) : Type 0 where
  pub message : Incomer
  pub from_is : message.from.items ≡ from
  pub id_is : message.message_id ≡ h.message_id
  pub confirmable_is : message.confirmable ≡ h.confirmable
  pub awaits_is : message.awaits_answer ≡ awaits_answer
  pub notes : NotesBy old new message now a

-- a request is kept in mind with its answer, which is sent now (RFC 7252, 4.5 and 5.2)
pub record KeepsAnswered (old new : Came) (from : List ℕ) (h : Heading) (now : ℕ) (a : Arrived) : Type 0 where
  pub noted : Came
  pub keeps : Keeps old noted from h true now a
  pub way : Way
  pub answers : AnswersBy noted new a (Some way)

-- one of two facts, by whether a message is a CON (RFC 7252, 4.2 and 4.3)
abbrev pub ByType : Bool → Type 0 → Type 0 → Type 0
ByType true con other = con
ByType false con other = other

-- the Message ID of a reply: that of the request in the ACK of a CON, and the next one for a NON (RFC 7252, 5.2.1 and 5.2.3)
abbrev pub IsReplyId : Counted → ℕ → Heading → ℕ → Type 0
IsReplyId ids now h id = ByType h.confirmable (id ≡ h.message_id) (IsNext ids now id)

-- the Message ID of a reply that is sent is given (RFC 7252, 4.4)
abbrev pub GivesReplyId : Counted → Counted → ℕ → Heading → ℕ → Type 0
GivesReplyId before after now h id = ByType h.confirmable (after ≡ before) (Gives before after now id)

-- what is kept in mind of a request: one that is delivered awaits its answer, one that is challenged was answered by that, and no other is, so that
-- nobody puts something in the place of a request to come (own rule: what didn't open isn't in mind)
abbrev pub KeepsRequest : Came → Came → Counted → Counted → List ℕ → Heading → ℕ → ℕ → Decision → Option Arrived → Type 0
KeepsRequest old new before after from h now id (decisions.Deliver x t) (Some a) = Keeps old new from h true now a × (after ≡ before)
KeepsRequest old new before after from h now id (decisions.Deliver x t) None = ⊥
KeepsRequest old new before after from h now id (decisions.Challenge echo issued) (Some a) = KeepsAnswered old new from h now a × GivesReplyId before after now h id
KeepsRequest old new before after from h now id (decisions.Challenge echo issued) None = ⊥
KeepsRequest old new before after from h now id decision noted = (noted ≡ None) × (new ≡ old) × (after ≡ before)

-- a response was delivered, as a notification or as the last one (RFC 8613, 8.4)
abbrev pub is_heard : ClientDecision → Bool
is_heard (heard.Notified x number) = true
is_heard (heard.Deliver x number) = true
is_heard decision = false

-- a response that is a CON is kept in mind, where there is a place: its ACK is all that is sent (RFC 7252, 4.5 and 5.2.2)
abbrev pub KeepsResponse : Came → Came → List ℕ → Heading → ℕ → Type 0
KeepsResponse old new from h now = ByType h.confirmable (((a : Arrived) × Keeps old new from h false now a) ⊎ ((e : NoteError) × IsFirstReason old e × (new ≡ old))) (new ≡ old)

-- a response that was delivered ends its call; any other leaves it (RFC 7252, 5.2; own rule: what anyone could have sent ends no call)
abbrev pub HearsResponse : Layer → Layer → List ℕ → Heading → ℕ → Call → Bool → Type 0
HearsResponse old new from h now call true = EndsCall old.sent new.sent call true × KeepsResponse old.came new.came from h now
HearsResponse old new from h now call false = new ≡ old

-- why a request isn't opened: it couldn't be kept in mind, or no Message ID can be given to its reply (own rule)
abbrev pub IsCrowded : Came → Counted → Heading → ℕ → Type 0
IsCrowded came ids h now = ((e : NoteError) × IsFirstReason came e) ⊎ ((h.confirmable ≡ false) × Waits ids ids now)

-- what is done about a request: the peer decides, and what was opened is in mind; or nothing is done (RFC 7252, 4.5 and 5.2; RFC 8613, 8.2)
abbrev pub AsksBy : Layer → Layer → Counted → Counted → List ℕ → Heading → ℕ → NodeDecision → Type 0
AsksBy old new before after from h now (node.Request d noted) = (new.sent ≡ old.sent)
    × (id : ℕ) × IsReplyId before now h id × KeepsRequest old.came new.came before after from h now id d.decision noted
AsksBy old new before after from h now node.NoPlace = (new ≡ old) × (after ≡ before) × IsCrowded old.came before h now
AsksBy old new before after from h now node.KeeperFailed = (new ≡ old) × (after ≡ before)
AsksBy old new before after from h now decision = ⊥

-- what is done about a response to the request of a call (RFC 7252, 4.5 and 5.2; RFC 8613, 8.4)
abbrev pub HearsBy : Layer → Layer → Counted → Counted → List ℕ → Heading → ℕ → Call → NodeDecision → Type 0
HearsBy old new before after from h now call (node.Response to decision) = (to ≡ call) × (after ≡ before) × HearsResponse old new from h now call (is_heard decision)
HearsBy old new before after from h now call decision = ⊥

-- what the message layer decides alone (RFC 7252, 4.2, 4.3 and 4.5)
abbrev pub settled_as : Taken → NodeDecision
settled_as (taken.Repeated r) = node.Repeated r
settled_as (taken.Acknowledged a) = node.Acknowledged a
settled_as (taken.Reset call) = node.Reset call
settled_as (taken.Reject bytes) = node.Rejected
settled_as other = node.Ignored

-- what is decided, by what the message layer takes the message for (RFC 7252, 4.2 to 4.5 and 5.2)
abbrev pub ComesAs : Layer → Layer → Counted → Counted → List ℕ → ℕ → NodeDecision → Taken → Type 0
ComesAs old new before after from now decision (taken.Request h) = AsksBy old new before after from h now decision
ComesAs old new before after from now decision (taken.Response call h) = HearsBy old new before after from h now call decision
ComesAs old new before after from now decision other = (decision ≡ settled_as other) × (new ≡ old) × (after ≡ before)

-- what a datagram comes to: the message layer takes it for something, and then that is done (RFC 7252, 4.2 to 4.5 and 5.2)
pub record Comes (old new : Layer) (before after : Counted) (from : List ℕ) (now : ℕ) (p : Parts) (decision : NodeDecision) : Type 0 where
  pub mid : Layer
  pub taken_as : Taken
  pub takes : Takes old mid from now p taken_as
  pub comes : ComesAs mid new before after from now decision taken_as

-- what is decided about bytes that are no message, and sent: nothing, or an RST (RFC 7252, 3 and 4.2)
abbrev pub ComesUnread : List ℕ → NodeDecision → List ℕ → Type 0
ComesUnread d node.Rejected text = IsUnreadable d (taken.Reject text)
ComesUnread d node.Ignored text = IsUnreadable d taken.Ignored × (text ≡ [])
ComesUnread d decision text = ⊥

-- what a message gets that came before; an answer that was sent in its ACK lies with who keeps it (RFC 7252, 4.5)
abbrev pub SendsAgain : Again → ℕ → List ℕ → Type 0
SendsAgain again.Acknowledge id text = IsDatagram (empty Ack id) text
SendsAgain again.Nothing id text = text ≡ []
SendsAgain again.Resend id text = text ≡ []

-- how many bytes of the peer's reply to a request are sent: all, if that is a CON or is in mind, else none
-- (RFC 7252, 5.2; own rule: a NON that wasn't opened gets nothing)
abbrev pub sent_of : Heading → Option Arrived → ℕ → ℕ
sent_of h noted reply = if h.confirmable || is_some noted then reply else 0

-- the peer's reply to a request is sent so (RFC 7252, 5.2)
abbrev pub SendsReply : Heading → NodeDecision → ℕ → Type 0
SendsReply h (node.Request d noted) send = send ≡ sent_of h noted d.reply
SendsReply h decision send = send ≡ 0

-- a CON that was heard gets an ACK (RFC 7252, 4.2 and 5.2.2)
abbrev pub SendsAck : Heading → Bool → List ℕ → Type 0
SendsAck h true text = ByType h.confirmable (IsDatagram (empty Ack h.message_id) text) (text ≡ [])
SendsAck h false text = text ≡ []

-- what is sent at once: the peer's reply to a request, an ACK for a CON that was heard or that comes again, an RST for what can't be used
-- (RFC 7252, 4.2, 4.3, 4.5 and 5.2)
abbrev pub Sends : Parts → NodeDecision → ℕ → List ℕ → Type 0
Sends p (node.Request d noted) send text = SendsReply (heading_of p) (node.Request d noted) send
Sends p (node.Response call decision) send text = SendsAck (heading_of p) (is_heard decision) text
Sends p (node.Repeated r) send text = SendsAgain r.again p.message_id text
Sends p node.Rejected send text = IsDatagram (empty Rst p.message_id) text
Sends p decision send text = send ≡ 0
