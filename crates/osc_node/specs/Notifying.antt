-- To be believed: a notification that a node sends (RFC 7641, 4.2 and 4.5; RFC 8613, 8.3.1). old and new are the message layer, before and after the
-- counters of Message IDs, to is an address, id a Message ID, p the plain notification.
use Rattle.std.specs.Prelude.{◌≡◌, ℕ, List}
use Rattle.osc_coap.specs.Datagram.{Parts}
use Rattle.osc_coap.specs.declared.message.Kind.{Kind}
use Rattle.osc_coap.specs.declared.message.Kind.TheVariants.{Con, Non}
use Rattle.osc_life.specs.declared.server_error.ReplyError.{ReplyError}
use Rattle.osc_message.specs.Calls.{BeginsBy, IsFirstReason}
use Rattle.osc_message.specs.MessageIds.{Counted, Gives, Waits}
use Rattle.osc_message.specs.Taking.{Layer}
use Rattle.osc_message.specs.declared.exchange.Awaits.TheVariants.{Acknowledgement}
use Rattle.osc_message.specs.declared.exchanges.BeginError.{BeginError}
use Rattle.osc_message.specs.declared.exchanges.Outgoing.{Outgoing}
use Rattle.osc_message.specs.declared.separate.Separate.{Separate}
use Rattle.osc_message.specs.declared.separate.Separate.TheVariants as separate
use Rattle.osc_node.specs.declared.notifying.Notified.{Notified}
use Rattle.osc_node.specs.declared.notifying.Notified.TheVariants as notified
use Rattle.osc_node.specs.declared.send_error.NotifyError.{NotifyError}
use Rattle.osc_node.specs.declared.send_error.NotifyError.TheVariants as errors

-- the Type of a message of its own (RFC 7252, 4.2 and 4.3)
abbrev pub kind_of : Separate → Kind
kind_of separate.Con = Con
kind_of separate.Non = Non

-- the notification as it is sealed: with this Type and this Message ID (RFC 7252, 4.2 and 4.3)
abbrev pub headed : Separate → ℕ → Parts → Parts
headed s id p = record p { kind = kind_of s; message_id = id }

-- how many bytes are sent (own rule)
abbrev pub length_of : Notified → ℕ
length_of (notified.Non len) = len
length_of (notified.Con s) = s.len

-- a CON to this address, with this Message ID, which awaits its ACK (RFC 7641, 4.5)
pub record IsNotificationTo (to : List ℕ) (id : ℕ) (m : Outgoing) : Type 0 where
  pub to_is : m.to.items ≡ to
  pub id_is : m.message_id ≡ id
  pub awaits : m.awaits ≡ Acknowledgement

-- a CON is on its way then, and a NON is sent once (RFC 7252, 4.2 and 4.3; RFC 7641, 4.5)
abbrev pub Notifies : Layer → Layer → ℕ → ℕ → List ℕ → ℕ → Separate → Notified → Type 0
Notifies old new now random to id separate.Non (notified.Non len) = new ≡ old
Notifies old new now random to id separate.Con (notified.Con s) = (new.came ≡ old.came) × (m : Outgoing) × IsNotificationTo to id m
    × BeginsBy old.sent new.sent m now random s.call
Notifies old new now random to id s n = ⊥

-- a CON can be sent there now (how the code is seen)
abbrev pub CanNotify : Layer → List ℕ → Separate → Type 0
CanNotify t to separate.Con = (e : BeginError) → IsFirstReason t.sent to e → ⊥
CanNotify t to separate.Non = Unit {0}

-- why a notification isn't sent: the message layer can't send a CON to this address, no Message ID can be given, or the peer doesn't seal it, under a
-- Message ID that is given (own rule: the order)
abbrev pub IsUnsent : Layer → Counted → Counted → ℕ → List ℕ → Separate → NotifyError → Type 0
IsUnsent old before after now to s (errors.Layer e) = (s ≡ separate.Con) × IsFirstReason old.sent to e × (after ≡ before)
IsUnsent old before after now to s errors.NoMessageId = Waits before after now
IsUnsent old before after now to s (errors.Refused e) = (id : ℕ) × Gives before after now id

-- if the peer doesn't seal it, this holds of its refusal (own rule)
abbrev pub IfRefused : NotifyError → (ReplyError → Type 0) → Type 0
IfRefused (errors.Layer e) holds = Unit {0}
IfRefused errors.NoMessageId holds = Unit {0}
IfRefused (errors.Refused e) holds = holds e

-- if the peer wasn't asked to seal it, this holds (own rule)
abbrev pub IfNotAsked : NotifyError → Type 0 → Type 0
IfNotAsked (errors.Layer e) holds = holds
IfNotAsked errors.NoMessageId holds = holds
IfNotAsked (errors.Refused e) holds = Unit {0}
