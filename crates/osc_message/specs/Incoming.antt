-- To be believed: what a message does that comes, by its Type and its code, whether the same one came before, and whether a message of ours is one
-- that it is for (RFC 7252, 4.2 to 4.5, 5.2 and 5.3.2).
use Rattle.std.specs.Prelude.{ℕ, [], Bool, if◌then◌else◌, ◌==◌, ◌&&◌}
use Rattle.osc_coap.specs.Code.{is_request_code, is_response_code}
use Rattle.osc_coap.specs.Datagram.{Parts}
use Rattle.osc_coap.specs.declared.message.Kind.{Kind}
use Rattle.osc_coap.specs.declared.message.Kind.TheVariants.{Con, Non, Ack, Rst}
use Rattle.osc_message.specs.declared.incoming.Incoming.{Incoming}
use Rattle.osc_message.specs.declared.incoming.Incoming.TheVariants.{Again, Request, Response, Acknowledged, Reset, Reject, Ignore}

-- a CON or NON that isn't empty: a response that is awaited, one that came before, a request, or what can't be used
-- (RFC 7252, 4.5 and 5.2; own rule: what is awaited is looked at first, so that nobody keeps it away by a message with its Message ID)
abbrev pub full : ℕ → Bool → Bool → Incoming → Incoming
full code came_before is_awaited unusable =
    if is_response_code code && is_awaited then Response
    else if came_before then Again
    else if is_request_code code then Request
    else unusable

-- the rows: an empty CON is a ping, and gets an RST (4.3), an empty NON nothing (4.3); what can't be used gets an RST if it is a CON (4.2), and
-- nothing if it is a NON (4.3; own rule: it could get an RST); an ACK or RST that is for no message of ours does nothing (4.2) (RFC 7252, 4.2 to 4.5)
abbrev pub row : Kind → ℕ → Bool → Bool → Incoming
row Con code came_before is_awaited = if code == 0 then Reject else full code came_before is_awaited Reject
row Non code came_before is_awaited = if code == 0 then Ignore else full code came_before is_awaited Ignore
row Ack code came_before is_awaited = if is_awaited && (code == 0) then Acknowledged else if is_awaited && is_response_code code then Response else Ignore
row Rst code came_before is_awaited = if is_awaited && (code == 0) then Reset else Ignore

-- an empty message (RFC 7252, 4.1)
abbrev pub empty : Kind → ℕ → Parts
empty kind message_id = record { kind = kind; code = 0; message_id = message_id; token = []; options = []; payload = [] }
