-- To be believed: what `protect` prints (RFC 8613, 8.1 and 8.3; own rule: the lines). f is a protection, of requests or of responses, i one
-- of its numbers, g what a security context is derived from, client and server are that context, with this end as its client or as its
-- server, d is a plain datagram and p its parts.
use Rattle.std.specs.Prelude.{◌≡◌, ℕ, List, [], ◌∷◌}
use Rattle.std.specs.Option.{option_map}
use Rattle.osc_coap.specs.Datagram.{Parts, IsDatagram}
use Rattle.osc_coap.specs.Fault.{HasFault}
use Rattle.osc_coap.specs.Text.{error_text}
use Rattle.osc_coap.specs.declared.format_error.FormatError.{FormatError}
use Rattle.osc_context.specs.SecurityContext.{SecurityContext}
use Rattle.osc_context.specs.Views.{number_of}
use Rattle.osc_text.specs.declared.agreed.Agreed.{Agreed}
use Rattle.osc_protect.specs.Protection.{Protection, requests, responses_to}
use Rattle.osc_protect.specs.Sealed.{IsSealed}
use Rattle.osc_protect.specs.SealRefusals.{RefusesToSeal}
use Rattle.osc_protect.specs.Text.{protect_error_text}
use Rattle.osc_protect.specs.Views.{registers, request_number}
use Rattle.osc_protect.specs.declared.protect_error.ProtectError.{ProtectError}
use Rattle.osc_text.specs.Contexts.{agreed_client, agreed_server, InContext, Told}
use Rattle.osc_text.specs.declared.protection.Sealing.{Sealing}
use Rattle.osc_text.specs.declared.protection.Sealing.TheVariants.{Request, Response}
use Rattle.osc_text.specs.Lines.{hex_line, refused_line}

-- the room for each sealed message: the most bytes of a datagram, so that no message is too long for it (own rule)
abbrev pub most_room : ℕ
most_room = 65535

-- what `protect` prints for a message, and the status: the sealed bytes in hex, or a refusal with status 2 (RFC 8613, 8.1 and 8.3)
pub data SealedText {I : Type 0} (f : Protection I) (i : I) (p : Parts) (lines : List (List ℕ)) (status : ℕ) : Type 0 where
  sealed : (bytes : List ℕ) → IsSealed f i p bytes → lines ≡ hex_line bytes ∷ [] → status ≡ 0 → SealedText f i p lines status
  refused : (e : ProtectError) → RefusesToSeal f i p most_room e → lines ≡ refused_line (protect_error_text e) ∷ [] → status ≡ 2 → SealedText f i p lines status

-- the same, by what is asked for: this end seals a request as the client, and a response as the server (RFC 8613, 8.1 and 8.3)
abbrev pub SealingText : (client server : SecurityContext) → Sealing → Parts → Told
SealingText client server (Request number) p = SealedText (requests client) (number_of number) p
SealingText client server (Response request own) p = SealedText (responses_to server (registers request) (request_number request)) (option_map number_of own) p

-- what is told of a plain datagram's parts; a datagram with a fault is refused for that fault, with its place (RFC 7252, 3)
pub data PlainText (told : Parts → Told) (d : List ℕ) (lines : List (List ℕ)) (status : ℕ) : Type 0 where
  message : (p : Parts) → IsDatagram p d → told p lines status → PlainText told d lines status
  faulty : (e : FormatError) → HasFault d e.fault e.place → lines ≡ refused_line (error_text e) ∷ [] → status ≡ 2 → PlainText told d lines status

-- what `protect` prints for a plain datagram (RFC 8613, 8.1 and 8.3)
abbrev pub ProtectText : Agreed → Sealing → List ℕ → Told
ProtectText g what d = InContext g.params (PlainText (SealingText (agreed_client g) (agreed_server g) what) d)
