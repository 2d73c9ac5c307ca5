-- To be believed: a request that a node sends (RFC 7252, 4.2, 4.4 and 5.2; RFC 8613, 8.1). old and new are the message layer, before and after the
-- counters of Message IDs, p is the plain request, id a Message ID.
use Rattle.std.specs.Prelude.{◌≡◌, ℕ, List}
use Rattle.osc_coap.specs.Datagram.{Parts}
use Rattle.osc_coap.specs.declared.message.Kind.TheVariants.{Con}
use Rattle.osc_client.specs.declared.client_outcome.RequestError.{RequestError}
use Rattle.osc_message.specs.Calls.{BeginsBy, IsFirstReason}
use Rattle.osc_message.specs.MessageIds.{Counted, Gives, Waits}
use Rattle.osc_message.specs.Taking.{Layer}
use Rattle.osc_message.specs.declared.exchange.Awaits.TheVariants.{Response}
use Rattle.osc_message.specs.declared.exchanges.Call.{Call}
use Rattle.osc_message.specs.declared.exchanges.Outgoing.{Outgoing}
use Rattle.osc_node.specs.declared.send_error.SendError.{SendError}
use Rattle.osc_node.specs.declared.send_error.SendError.TheVariants as errors

-- the request as it is sealed: a CON with this Message ID (RFC 7252, 4.2)
abbrev pub confirmable : ℕ → Parts → Parts
confirmable id p = record p { kind = Con; message_id = id }

-- what is on its way: a CON to this address with this Message ID and this token, which awaits its response (RFC 7252, 4.2 and 5.2)
pub record IsRequestTo (to : List ℕ) (id : ℕ) (token : List ℕ) (m : Outgoing) : Type 0 where
  pub to_is : m.to.items ≡ to
  pub id_is : m.message_id ≡ id
  pub token_is : m.token.items ≡ token
  pub awaits : m.awaits ≡ Response

-- the request is on its way, under the next Message ID (RFC 7252, 4.2 and 4.4)
pub record SendsRequest (old new : Layer) (before after : Counted) (now random : ℕ) (to : List ℕ) (p : Parts) (id : ℕ) (call : Call) : Type 0 where
  pub given : Gives before after now id
  pub message : Outgoing
  pub is : IsRequestTo to id p.token message
  pub begins : BeginsBy old.sent new.sent message now random call
  pub came : new.came ≡ old.came

-- why a request isn't sent: the message layer can't send a CON to this address, no Message ID can be given, or the peer doesn't seal it, under a
-- Message ID that is given (own rule: the order)
abbrev pub IsUnsent : Layer → Counted → Counted → ℕ → List ℕ → SendError → Type 0
IsUnsent old before after now to (errors.Layer e) = IsFirstReason old.sent to e × (after ≡ before)
IsUnsent old before after now to errors.NoMessageId = Waits before after now
IsUnsent old before after now to (errors.Refused e) = (id : ℕ) × Gives before after now id

-- if the peer doesn't seal it, this holds of its refusal (own rule)
abbrev pub IfRefused : SendError → (RequestError → Type 0) → Type 0
IfRefused (errors.Layer e) holds = Unit {0}
IfRefused errors.NoMessageId holds = Unit {0}
IfRefused (errors.Refused e) holds = holds e

-- if the peer wasn't asked to seal it, this holds (own rule)
abbrev pub IfNotAsked : SendError → Type 0 → Type 0
IfNotAsked (errors.Layer e) holds = holds
IfNotAsked errors.NoMessageId holds = holds
IfNotAsked (errors.Refused e) holds = Unit {0}
