-- To be believed: what is sealed into a buffer with enough room isn't refused for want of it (RFC 8613, 8.1 and 8.3). s is a security context,
-- n a request's number, own a response's own Partial IV or none, p what a plain message says, plain its datagram, room the length of the buffer.
use Rattle.std.specs.Prelude.{ℕ, ◌≤◌, Bool, List, Option, length}
use Rattle.osc_coap.specs.Datagram.{Parts, IsDatagram}
use Rattle.osc_coap.specs.declared.message.Kind.{Kind}
use Rattle.osc_context.specs.SecurityContext.{SecurityContext}
use Rattle.osc_protect.specs.Protection.{requests, responses_to}
use Rattle.osc_protect.specs.SealRefusals.{RefusesToSeal}
use Rattle.osc_protect.specs.declared.protect_error.ProtectError.TheVariants.{NoRoom}
use Rattle.osc_room.specs.Room.{HasRoomFor, IdentifiersFit}

-- no request is, of a context with identifiers of such lengths (RFC 8613, 8.1)
abbrev pub RequestsHaveRoom : Type 0
RequestsHaveRoom = (s : SecurityContext) (n : ℕ) (p : Parts) (plain : List ℕ) (room : ℕ) → IdentifiersFit s → IsDatagram p plain
    → HasRoomFor s.features.observe plain room → RefusesToSeal (requests s) n p room NoRoom → ⊥

-- no response is, also under another head, whether its request registers an observation or not (RFC 8613, 4.1.3.5.2 and 8.3)
abbrev pub ResponsesHaveRoom : Type 0
ResponsesHaveRoom = (s : SecurityContext) (registers : Bool) (n : ℕ) (own : Option ℕ) (p : Parts) (kind : Kind) (message_id : ℕ) (token plain : List ℕ) (room : ℕ)
    → IsDatagram p plain → length token ≤ 8 → HasRoomFor (responses_to s registers n).features.observe plain room
    → RefusesToSeal (responses_to s registers n) own (record p { kind = kind; message_id = message_id; token = token }) room NoRoom → ⊥
