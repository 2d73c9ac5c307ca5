-- To be believed: what `open` prints (RFC 8613, 8.2 and 8.4; own rule: the lines). f is a protection, of requests or of responses, i one of
-- its numbers, g what a security context is derived from, client and server are that context, with this end as its client or as its server,
-- d is a datagram, p its parts, m the message that it protects.
use Rattle.std.specs.Prelude.{◌≡◌, ℕ, List, [], ◌∷◌, ◌++◌, map, Option, codes}
use Rattle.osc_coap.specs.declared.message.Kind.{Kind}
use Rattle.osc_coap.specs.OptionSpelling.{Entry}
use Rattle.osc_coap.specs.Datagram.{Parts, IsDatagram}
use Rattle.osc_coap.specs.Inner.{InnerParts}
use Rattle.osc_coap.specs.Search.{values_at, first_of}
use Rattle.osc_coap.specs.OptionNumbers.{uri_host, uri_port}
use Rattle.osc_context.specs.SecurityContext.{SecurityContext}
use Rattle.osc_text.specs.declared.agreed.Agreed.{Agreed}
use Rattle.osc_protect.specs.Protection.{Protection, Protects, requests, responses_to}
use Rattle.osc_protect.specs.Text.{unprotect_error_text}
use Rattle.osc_protect.specs.Refusals.{RefusesToOpen}
use Rattle.osc_protect.specs.Views.{registers, request_number}
use Rattle.osc_protect.specs.declared.unprotect_error.UnprotectError.{UnprotectError}
use Rattle.osc_text.specs.Contexts.{agreed_client, agreed_server, InContext, Told}
use Rattle.osc_text.specs.declared.opening.Opening.{Opening}
use Rattle.osc_text.specs.declared.opening.Opening.TheVariants.{Request, Response}
use Rattle.osc_text.specs.Lines.{head_lines, number_line, bytes_line, part_lines, option_line, refused_line}

-- what `open` prints for a datagram that opens, one field per row (own rule)
pub record Printed : Type 0 where
  pub kind : Kind
  pub message_id : ℕ
  pub token : List ℕ
  pub code : ℕ
  pub number : Option ℕ
  pub uri_host : Option (List ℕ)
  pub uri_port : Option (List ℕ)
  pub options : List Entry
  pub payload : List ℕ

-- all lines for a datagram that opens, in their order (own rule)
abbrev pub opened_lines : Printed → List (List ℕ)
opened_lines x = head_lines x.kind x.message_id x.token x.code ++ (number_line x.number ∷ (part_lines (codes "uri-host") x.uri_host ++ (part_lines (codes "uri-port") x.uri_port ++ (map option_line x.options ++ (bytes_line (codes "payload") x.payload ∷ [])))))

-- the datagram's head, Uri-Host and Uri-Port, its number or none, and the rest of what it protects (RFC 8613, 8.2 and 8.4)
abbrev pub printed_of : Parts → Option ℕ → InnerParts → Printed
printed_of p n m = record { kind = p.kind; message_id = p.message_id; token = p.token; code = m.code; number = n; uri_host = first_of (values_at uri_host p.options); uri_port = first_of (values_at uri_port p.options); options = m.options; payload = m.payload }

-- what `open` prints for a datagram under a protection, and the status: 2 for a refusal (RFC 8613, 8.2 and 8.4)
pub data DatagramText {I : Type 0} (f : Protection I) (d : List ℕ) (lines : List (List ℕ)) (status : ℕ) : Type 0 where
  opened : (p : Parts) (i : I) (m : InnerParts) → IsDatagram p d → Protects f i m d → lines ≡ opened_lines (printed_of p (f.parts i).piv m) → status ≡ 0 → DatagramText f d lines status
  refused : (e : UnprotectError) → RefusesToOpen f d e → lines ≡ refused_line (unprotect_error_text e) ∷ [] → status ≡ 2 → DatagramText f d lines status

-- the same, by what is asked for: this end opens a request as the server, and a response as the client (RFC 8613, 8.2 and 8.4)
abbrev pub OpeningText : (client server : SecurityContext) → Opening → List ℕ → Told
OpeningText client server Request d = DatagramText (requests server) d
OpeningText client server (Response request) d = DatagramText (responses_to client (registers request) (request_number request)) d

-- what `open` prints for a datagram (RFC 8613, 8.2 and 8.4)
abbrev pub OpenText : Agreed → Opening → List ℕ → Told
OpenText g what d = InContext g.params (OpeningText (agreed_client g) (agreed_server g) what d)
