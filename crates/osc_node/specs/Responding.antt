-- To be believed: a response that a node sends (RFC 7252, 5.2; RFC 8613, 8.3). old and new are the message layer, before and after the counters of
-- Message IDs, sealed is what the peer sealed, text what is sent.
use Rattle.std.specs.Prelude.{◌≡◌, ◌⊎◌, ℕ, List, None, Some}
use Rattle.osc_coap.specs.Datagram.{IsDatagram, Parts}
use Rattle.osc_coap.specs.declared.message.Kind.{Kind}
use Rattle.osc_coap.specs.declared.message.Kind.TheVariants.{Ack, Con, Non}
use Rattle.osc_life.specs.declared.server_error.ReplyError.{ReplyError}
use Rattle.osc_message.specs.Calls.{BeginsBy, IsFirstReason}
use Rattle.osc_message.specs.Hearing.{Heard}
use Rattle.osc_message.specs.HearingCalls.{AnswersBy, IsInMind, WayBy}
use Rattle.osc_message.specs.MessageIds.{Counted, Gives, Waits}
use Rattle.osc_message.specs.Taking.{Layer}
use Rattle.osc_message.specs.declared.arrival.Way.TheVariants.{InAck, Separate}
use Rattle.osc_message.specs.declared.arrivals.Arrived.{Arrived}
use Rattle.osc_message.specs.declared.exchange.Awaits.TheVariants.{Acknowledgement}
use Rattle.osc_message.specs.declared.exchanges.Call.{Call}
use Rattle.osc_message.specs.declared.exchanges.Outgoing.{Outgoing}
use Rattle.osc_node.specs.declared.responding.Responded.{Responded}
use Rattle.osc_node.specs.declared.responding.Responded.TheVariants as responded
use Rattle.osc_node.specs.declared.send_error.RespondError.{RespondError}
use Rattle.osc_node.specs.declared.send_error.RespondError.TheVariants as errors

-- how many bytes are sent (own rule)
abbrev pub length_of : Responded → ℕ
length_of (responded.InAck len) = len
length_of (responded.Non len) = len
length_of (responded.Con s) = s.len

-- a CON to where the request came from, with this Message ID, which awaits its ACK (RFC 7252, 5.2.2)
pub record IsResponseTo (x : Heard) (id : ℕ) (m : Outgoing) : Type 0 where
  pub to_is : m.to.items ≡ x.from
  pub id_is : m.message_id ≡ id
  pub awaits : m.awaits ≡ Acknowledgement

-- a response in a message of its own is on its way: it is the sealed one, as a CON with this Message ID (RFC 7252, 4.2 and 5.2.2)
pub record SendsSeparately (old new : Layer) (now random : ℕ) (x : Heard) (id : ℕ) (sealed text : List ℕ) (call : Call) : Type 0 where
  pub message : Outgoing
  pub is : IsResponseTo x id message
  pub begins : BeginsBy old.sent new.sent message now random call
  pub sends : (p : Parts) → IsDatagram p sealed → IsDatagram (record p { kind = Con; message_id = id }) text

-- how a response is sent: in the ACK of its request while none was sent; else a request that is a CON gets a CON, and any other a NON
-- (RFC 7252, 5.2.1 to 5.2.3)
abbrev pub Responds : Layer → Layer → ℕ → ℕ → Arrived → Kind → ℕ → List ℕ → List ℕ → Responded → Type 0
Responds old new now random a kind id sealed text (responded.InAck len) = AnswersBy old.came new.came a (Some InAck) × (new.sent ≡ old.sent) × (text ≡ sealed)
Responds old new now random a kind id sealed text (responded.Non len) = AnswersBy old.came new.came a (Some Separate) × (new.sent ≡ old.sent) × (text ≡ sealed) × (kind ≡ Con → ⊥)
Responds old new now random a kind id sealed text (responded.Con s) = AnswersBy old.came new.came a (Some Separate) × (x : Heard) × IsInMind old.came a x
    × SendsSeparately old new now random x id sealed text s.call × (kind ≡ Con)

-- a response in a message of its own has the next Message ID, and one in an ACK that of its request (RFC 7252, 4.4 and 5.2.1)
abbrev pub HasId : Counted → Counted → ℕ → ℕ → ℕ → Responded → Type 0
HasId before after now request id (responded.InAck len) = (id ≡ request) × (after ≡ before)
HasId before after now request id r = Gives before after now id

-- the Type of a response, by how it is sent (RFC 7252, 5.2.1 to 5.2.3)
abbrev pub sent_as : Responded → Kind
sent_as (responded.InAck len) = Ack
sent_as (responded.Non len) = Non
sent_as (responded.Con s) = Con

-- why a response isn't sent: its request isn't in mind, or was answered before; the message layer can't send a CON to where it came from; no Message
-- ID can be given; or the peer doesn't seal it (own rule: the order)
abbrev pub IsUnsent : Layer → Counted → ℕ → Arrived → Kind → RespondError → Type 0
IsUnsent old before now a kind errors.Forgotten = WayBy old.came a None
IsUnsent old before now a kind (errors.Layer e) = WayBy old.came a (Some Separate) × (kind ≡ Con) × (x : Heard) × IsInMind old.came a x × IsFirstReason old.sent x.from e
IsUnsent old before now a kind errors.NoMessageId = WayBy old.came a (Some Separate) × Waits before before now
IsUnsent old before now a kind (errors.Refused e) = WayBy old.came a None → ⊥

-- if the peer doesn't seal it, this holds of its refusal (own rule)
abbrev pub IfRefused : RespondError → (ReplyError → Type 0) → Type 0
IfRefused errors.Forgotten holds = Unit {0}
IfRefused (errors.Layer e) holds = Unit {0}
IfRefused errors.NoMessageId holds = Unit {0}
IfRefused (errors.Refused e) holds = holds e

-- if the peer wasn't asked to seal it, this holds (own rule)
abbrev pub IfNotAsked : RespondError → Type 0 → Type 0
IfNotAsked errors.Forgotten holds = holds
IfNotAsked (errors.Layer e) holds = holds
IfNotAsked errors.NoMessageId holds = holds
IfNotAsked (errors.Refused e) holds = Unit {0}

-- where a response isn't sent, no Message ID is given if the peer wasn't asked to seal it, and one at most if it was (RFC 7252, 4.4)
abbrev pub GivesUnsent : Counted → Counted → ℕ → RespondError → Type 0
GivesUnsent before after now (errors.Refused e) = (after ≡ before) ⊎ ((id : ℕ) × Gives before after now id)
GivesUnsent before after now other = after ≡ before
