-- A datagram has one text.
use Rattle.std.proofs.Common.{◌≡◌, ℕ, Bool, true, false, List, [], ◌∷◌, refl, sym, ap, ◌∙◌, inl, inr, Result, Ok, Err, IfOk, IfErr}
use Rattle.osc_coap.specs.Laws.{DatagramIsOneMessage}
use Rattle.osc_protect.specs.Laws.{OneMessage, OneNotification, OneRequest, OneResponse}
use Rattle.osc_protect.specs.Opening.{Opens}
use Rattle.osc_context.specs.SecurityContext.{SecurityContext}
use Rattle.osc_protect.specs.Protection.{Protection, requests, responses_to}
use Rattle.osc_protect.specs.Refusals.{RefusesToOpen}
use Rattle.osc_protect.specs.Views.{message_of, registers, request_number}
use Rattle.osc_protect.specs.declared.opened.Opened.{Opened}
use Rattle.osc_protect.specs.declared.unprotect_error.UnprotectError.{UnprotectError}
use Rattle.osc_protect.specs.Text.{unprotect_error_text}
use Rattle.osc_text.specs.declared.opening.Opening.{Opening}
use Rattle.osc_text.specs.declared.opening.Opening.TheVariants.{Request, Response}
use Rattle.osc_text.specs.Lines.{refused_line}
use Rattle.osc_text.specs.Opening.{DatagramText, OpeningText, opened_lines, printed_of}
use Rattle.osc_text.specs.Outcomes.{open_lines, open_status, seen}
use Rattle.osc_text.specs.Opening.DatagramText.{opened, refused}
use Rattle.osc_text.proofs.ContextTexts.{TellsOnce, TellsStatus}

-- what was opened prints as what the datagram protects and shows
seen_is : {I : Type 0} (f : Protection I) (d : List ℕ) (o : Opened) (h : Opens f d o) → seen o ≡ printed_of h.outer (f.parts h.number).piv (message_of o)
seen_is f d o h = rw (h.shows.kind, h.shows.message_id, h.shows.token, h.number_is, h.shows.uri_host, h.shows.uri_port) refl

-- the text of what came of an open
pub text_of_outcome : {I : Type 0} (f : Protection I) (d : List ℕ) (r : Result Opened UnprotectError) → IfOk r (λ o. Opens f d o) → IfErr r (λ e. RefusesToOpen f d e) → DatagramText f d (open_lines r) (open_status r)
text_of_outcome f d (Ok o) opens refuses = opened opens.outer opens.number (message_of o) opens.datagram opens.protects (ap opened_lines (seen_is f d o opens)) refl
text_of_outcome f d (Err e) opens refuses = refused e refuses refl refl

-- a datagram has one text and one status under a protection
one_datagram_text : {I : Type 0} (f : Protection I) → DatagramIsOneMessage → OneMessage f → (d : List ℕ) → TellsOnce (DatagramText f d)
one_datagram_text f one law d xs ys a b (opened p i m is_p protects text status) (opened q k l is_q protects_too text_too status_too) =
    let same : opened_lines (printed_of p (f.parts i).piv m) ≡ opened_lines (printed_of q (f.parts k).piv l) = rw (one p q d is_p is_q, law.number d i k m l protects protects_too, law.message d i k m l protects protects_too) refl in
    (text ∙ same ∙ sym text_too, status ∙ sym status_too)
one_datagram_text f one law d xs ys a b (opened p i m is_p protects text status) (refused e refuses text_too status_too) = absurd (law.never_both d i m e protects refuses)
one_datagram_text f one law d xs ys a b (refused e refuses text status) (opened q k l is_q protects text_too status_too) = absurd (law.never_both d k l e protects refuses)
one_datagram_text f one law d xs ys a b (refused e refuses text status) (refused g refuses_too text_too status_too) =
    (text ∙ ap (λ (r : UnprotectError). refused_line (unprotect_error_text r) ∷ []) (law.refusal d e g refuses refuses_too) ∙ sym text_too, status ∙ sym status_too)

-- a datagram is at most one response, whether the request registers an observation or not
response_law : OneResponse → OneNotification → (s : SecurityContext) (r : Bool) (n : ℕ) → OneMessage (responses_to s r n)
response_law response notification s true n = notification s n
response_law response notification s false n = response s n

-- and one by what is asked
pub one_opening_text : DatagramIsOneMessage → OneRequest → OneResponse → OneNotification → (client server : SecurityContext) (what : Opening) (d : List ℕ) → TellsOnce (OpeningText client server what d)
one_opening_text one request response notification client server Request d = one_datagram_text (requests server) one (request server) d
one_opening_text one request response notification client server (Response r) d = one_datagram_text (responses_to client (registers r) (request_number r)) one (response_law response notification client (registers r) (request_number r)) d

-- a text comes with status 0 or 2
datagram_status : {I : Type 0} (f : Protection I) (d : List ℕ) → TellsStatus (DatagramText f d)
datagram_status f d lines n (opened p i m is_p protects text status) = inl status
datagram_status f d lines n (refused e refuses text status) = inr status

-- by what is asked too
pub opening_status : (client server : SecurityContext) (what : Opening) (d : List ℕ) → TellsStatus (OpeningText client server what d)
opening_status client server Request d = datagram_status (requests server) d
opening_status client server (Response r) d = datagram_status (responses_to client (registers r) (request_number r)) d
