-- A plain datagram has one text by what is asked.
use Rattle.std.proofs.Common.{◌≡◌, ◌≤◌, ℕ, Bool, true, false, List, [], ◌∷◌, length, take, refl, sym, ap, subst, ◌∙◌, inl, inr, option_map, Result, Ok, Err, IfOk, IfErr}
use Rattle.osc_coap.specs.Datagram.{Parts}
use Rattle.osc_coap.specs.Laws.{DatagramIsOneMessage, DatagramHasOneFault, DatagramHasNoFault}
use Rattle.osc_coap.specs.Text.{error_text}
use Rattle.osc_coap.specs.declared.format_error.FormatError.{FormatError}
use Rattle.osc_context.specs.SecurityContext.{SecurityContext}
use Rattle.osc_context.specs.Views.{number_of}
use Rattle.osc_protect.specs.Laws.{OneForm, OneSealed}
use Rattle.osc_protect.specs.Protection.{Protection, requests, responses_to}
use Rattle.osc_protect.specs.Sealed.{IsSealed}
use Rattle.osc_protect.specs.SealRefusals.{RefusesToSeal}
use Rattle.osc_protect.specs.Text.{protect_error_text}
use Rattle.osc_protect.specs.Views.{registers, request_number}
use Rattle.osc_protect.specs.declared.protect_error.ProtectError.{ProtectError}
use Rattle.osc_text.specs.Contexts.{Told}
use Rattle.osc_text.specs.declared.protection.Sealing.{Sealing}
use Rattle.osc_text.specs.declared.protection.Sealing.TheVariants.{Request, Response}
use Rattle.osc_text.specs.Lines.{hex_line, refused_line}
use Rattle.osc_text.specs.Protecting.{PlainText, SealedText, SealingText, most_room}
use Rattle.osc_text.specs.Outcomes.{seal_lines, seal_status}
use Rattle.osc_text.specs.Protecting.PlainText.{message, faulty}
use Rattle.osc_text.specs.Protecting.SealedText.{sealed, refused}
use Rattle.osc_text.proofs.ContextTexts.{TellsOnce, TellsStatus}

-- the text of what came of a seal
pub text_of_outcome : {I : Type 0} (f : Protection I) (i : I) (p : Parts) (buffer : List ℕ) (r : Result ℕ ProtectError) → IfOk r (λ n. IsSealed f i p (take n buffer)) → IfErr r (λ e. RefusesToSeal f i p most_room e) → SealedText f i p (seal_lines buffer r) (seal_status r)
text_of_outcome f i p buffer (Ok n) is refuses = sealed (take n buffer) is refl refl
text_of_outcome f i p buffer (Err e) is refuses = refused e refuses refl refl

-- what is sealed has room
has_room : {I : Type 0} (f : Protection I) (i : I) (p : Parts) (d : List ℕ) → IsSealed f i p d → length d ≤ most_room
has_room f i p d is = is.holds.2.fits

-- a message has one text and one status under a protection, by one number
one_sealed_text : {I : Type 0} (f : Protection I) → OneForm f → (i : I) (p : Parts) → TellsOnce (SealedText f i p)
one_sealed_text f law i p xs ys a b (sealed d is text status) (sealed e is_too text_too status_too) =
    (text ∙ ap (λ (z : List ℕ). hex_line z ∷ []) (law.bytes i p d e is is_too) ∙ sym text_too, status ∙ sym status_too)
one_sealed_text f law i p xs ys a b (sealed d is text status) (refused e refuses text_too status_too) = absurd (law.never_both i p most_room d e is (has_room f i p d is) refuses)
one_sealed_text f law i p xs ys a b (refused e refuses text status) (sealed d is text_too status_too) = absurd (law.never_both i p most_room d e is (has_room f i p d is) refuses)
one_sealed_text f law i p xs ys a b (refused e refuses text status) (refused g refuses_too text_too status_too) =
    (text ∙ ap (λ (r : ProtectError). refused_line (protect_error_text r) ∷ []) (law.refusal i p most_room e g refuses refuses_too) ∙ sym text_too, status ∙ sym status_too)

-- a response has at most one sealed form, whether the request registers an observation or not
response_form : OneSealed → (s : SecurityContext) (r : Bool) (n : ℕ) → OneForm (responses_to s r n)
response_form law s true n = law.notification s n
response_form law s false n = law.response s n

-- and one by what is asked
pub one_sealing_text : OneSealed → (client server : SecurityContext) (what : Sealing) (p : Parts) → TellsOnce (SealingText client server what p)
one_sealing_text law client server (Request number) p = one_sealed_text (requests client) (law.request client) (number_of number) p
one_sealing_text law client server (Response r own) p = one_sealed_text (responses_to server (registers r) (request_number r)) (response_form law server (registers r) (request_number r)) (option_map number_of own) p

-- the line of a fault is that of its name and its place
same_line : (e f : FormatError) → e.fault ≡ f.fault → e.place ≡ f.place → refused_line (error_text e) ≡ refused_line (error_text f)
same_line e f fault place = rw (fault, place) refl

-- a plain datagram has one text and one status, where its message has
pub one_plain_text : DatagramIsOneMessage → DatagramHasOneFault → DatagramHasNoFault → (told : Parts → Told) → ((p : Parts) → TellsOnce (told p)) → (d : List ℕ) → TellsOnce (PlainText told d)
one_plain_text one one_fault never told once d xs ys a b (message p is_p it) (message q is_q it_too) =
    once q xs ys a b (subst (λ (r : Parts). told r xs a) (one p q d is_p is_q) it) it_too
one_plain_text one one_fault never told once d xs ys a b (message p is_p it) (faulty f fault text_too status_too) = absurd (never p d f.fault f.place is_p fault)
one_plain_text one one_fault never told once d xs ys a b (faulty e fault text status) (message q is_q it_too) = absurd (never q d e.fault e.place is_q fault)
one_plain_text one one_fault never told once d xs ys a b (faulty e fault text status) (faulty f fault_too text_too status_too) =
    let same = one_fault d e.fault f.fault e.place f.place fault fault_too in
    (text ∙ ap (λ (z : List ℕ). z ∷ []) (same_line e f same.0 same.1) ∙ sym text_too, status ∙ sym status_too)

-- a message's text comes with status 0 or 2
sealed_status : {I : Type 0} (f : Protection I) (i : I) (p : Parts) → TellsStatus (SealedText f i p)
sealed_status f i p lines k (sealed bytes is text status) = inl status
sealed_status f i p lines k (refused e refuses text status) = inr status

-- by what is asked too
pub sealing_status : (client server : SecurityContext) (what : Sealing) (p : Parts) → TellsStatus (SealingText client server what p)
sealing_status client server (Request number) p = sealed_status (requests client) (number_of number) p
sealing_status client server (Response r own) p = sealed_status (responses_to server (registers r) (request_number r)) (option_map number_of own) p

-- and a plain datagram's, where its message's does
pub plain_status : (told : Parts → Told) → ((p : Parts) → TellsStatus (told p)) → (d : List ℕ) → TellsStatus (PlainText told d)
plain_status told status d lines k (message p is_p it) = status p lines k it
plain_status told status d lines k (faulty e fault text two) = inr two
