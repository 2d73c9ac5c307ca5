-- What a peer asks and hears, as C reads it. p are its bytes before the call, q those after it, n of the places ps hold a request before it, m of qs after it, a is the
-- history of its client before it, old are the numbers then.
use Rattle.std.proofs.Common.{◌≡◌, ◌∙◌, ap, refl, sym, subst, ℕ, Bool, true, false, List}
use Rattle.osc_coap.specs.Fault.{HasFault}
use Rattle.osc_coap.specs.Laws.{DatagramHasNoFault, DatagramHasOneFault}
use Rattle.osc_coap.specs.declared.format_error.Fault.{Fault}
use Rattle.osc_context.specs.Views.{number_of}
use Rattle.osc_context.specs.declared.partial_iv.Piv.{Piv}
use Rattle.osc_protect.specs.declared.opened.Opened.{Opened}
use Rattle.osc_observe.specs.Views.{received_of}
use Rattle.osc_client.specs.ClientHistory as answers
use Rattle.osc_client.specs.ClientHistory.{Answer, Datagram, Deliver, History, Notified, Took}
use Rattle.osc_client.specs.Views.{ClientShows}
use Rattle.osc_client.specs.declared.client_outcome.ClientOutcome.{ClientOutcome}
use Rattle.osc_client.specs.declared.client_outcome.ClientOutcome.TheVariants as outcomes
use Rattle.osc_handle.specs.PendingBytes.{ArePending}
use Rattle.osc_handle.specs.declared.pending_handle.PendingHandle.{PendingHandle}
use Rattle.osc_kept_ends.specs.Numbering.{Own}
use Rattle.osc_peer_handle.specs.PeerBytes.{IsPeer}
use Rattle.osc_peer_handle.specs.declared.peer_handle.PeerHandle.{PeerHandle}
use Rattle.osc_peer_handle.specs.declared.record_handle.RecordHandle.{RecordHandle}
use Rattle.osc_c.specs.Asking.{IsAnswerStatus, IsOutcomeStatus, ReadsTaking, heard_as, shown_as}
use Rattle.osc_c.specs.Opened.{Shows}
use Rattle.osc_c.specs.declared.opened_view.OpenedView.{OpenedView}
use Rattle.osc_c.specs.PeerAskingCalls.{PeerAnswersBy, RefusesPeerAsking, StepsAmong, TakesAmong}
use Rattle.osc_c.specs.PeerAskingCalls.RefusesPeerAsking.{bad_handle, malformed, save_first, refused}
use Rattle.osc_status.specs.Statuses.{code, format_status}
use Rattle.osc_status.specs.declared.status.Status.{Status}

-- what is shown has the status of the answer
says_too : (outcome : ClientOutcome) (answer : Answer) (status : Status) (detail : ℕ) → ClientShows outcome answer → IsOutcomeStatus outcome status detail → IsAnswerStatus answer status detail
says_too (outcomes.Malformed e) (answers.Malformed fault place) status detail shows says = (says.0 ∙ ap format_status shows.0, says.1 ∙ shows.1)
says_too outcomes.NotResponse answers.NotResponse status detail shows says = says
says_too outcomes.UnknownToken answers.UnknownToken status detail shows says = says
says_too outcomes.Unprotected answers.Unprotected status detail shows says = says
says_too outcomes.Undecodable answers.Undecodable status detail shows says = says
says_too outcomes.Old answers.Old status detail shows says = says
says_too outcomes.BadTag answers.BadTag status detail shows says = says
says_too outcomes.BadInner answers.BadInner status detail shows says = says
says_too (outcomes.Notified o n) (answers.Notified received number) status detail shows says = absurd says
says_too (outcomes.Deliver o n) (answers.Deliver received number) status detail shows says = absurd says
says_too outcome answer status detail shows says = absurd shows

pub peer_answers_by : (p : PeerHandle) (ps : List PendingHandle) (a : History) (q : PeerHandle) (m : ℕ) (qs : List PendingHandle) (now : ℕ) (d : List ℕ) (outcome : ClientOutcome) (status : Status) (detail : ℕ) (old : Own)
    → TakesAmong p ps a now d outcome old q m qs → IsOutcomeStatus outcome status detail → PeerAnswersBy p ps a q m qs now d old status detail
peer_answers_by p ps a q m qs now d outcome status detail old takes says =
    record { answer = takes.answer; says = says_too outcome takes.answer status detail takes.shows says; step = takes.step }

-- what is shown is the answer
heard_is : (stays : Bool) (o : Opened) (n : Piv) (answer : Answer) → ClientShows (shown_as stays o n) answer → answer ≡ heard_as stays (received_of o) (number_of n)
heard_is true o n (Notified received number) s = λ i. Notified (sym s.0 i) (sym s.1 i)
heard_is false o n (Deliver received number) s = λ i. Deliver (sym s.0 i) (sym s.1 i)
heard_is true o n answer s = absurd s
heard_is false o n answer s = absurd s

pub peer_heard_to : (p : PeerHandle) (ps : List PendingHandle) (a : History) (q : PeerHandle) (m : ℕ) (qs : List PendingHandle) (now : ℕ) (d : List ℕ) (outcome : ClientOutcome) (stays : Bool) (o : Opened) (n : Piv) (old : Own)
    → outcome ≡ shown_as stays o n → TakesAmong p ps a now d outcome old q m qs
    → StepsAmong p ps a (Datagram now d) (Took (heard_as stays (received_of o) (number_of n))) old q m qs
peer_heard_to p ps a q m qs now d outcome stays o n old is takes =
    subst (λ x. StepsAmong p ps a (Datagram now d) (Took x) old q m qs) (heard_is stays o n takes.answer (subst (λ x. ClientShows x takes.answer) is takes.shows)) takes.step

-- that is what C reads
pub heard_read : (stays : Bool) (o : Opened) (n : ℕ) (detail request : ℕ) → request ≡ n → ReadsTaking (Took (heard_as stays (received_of o) n)) 0 detail request stays
heard_read true o n detail request same = (refl, same, refl)
heard_read false o n detail request same = (refl, same, refl)

-- whether it's a notification leaves the rest of what is shown
pub shows_too : (view : OpenedView) (o : Opened) (stays : Bool) → Shows view o → Shows (record view { is_notification = stays }) o
shows_too view o stays s =
    record {
      kind = s.kind;
      message_id = s.message_id;
      token = s.token;
      code = s.code;
      payload = s.payload;
      number = s.number;
      uri_host = s.uri_host;
      uri_port = s.uri_port;
    }

-- a plain message that is none
pub peer_request_faulty : DatagramHasOneFault → DatagramHasNoFault → (p : PeerHandle) (n : ℕ) (ps : List PendingHandle) (kept : RecordHandle) (now : ℕ) (plain : List ℕ) (room : ℕ) (q : PeerHandle) (m : ℕ) (qs : List PendingHandle)
    (status : Status) (result detail : ℕ) → RefusesPeerAsking p n ps kept now plain room q m qs status detail → result ≡ code status → IsPeer p → ArePending n ps → (fault : Fault) (place : ℕ) → HasFault plain fault place
    → (result ≡ code (format_status fault)) × (detail ≡ place)
peer_request_faulty first never p n ps kept now plain room q m qs status result detail (bad_handle bad a b c is zero) says whole pending fault place has = absurd (bad whole pending)
peer_request_faulty first never p n ps kept now plain room q m qs status result detail (malformed w x a b c other at from is put) says whole pending fault place has =
    let one = first plain other fault at place from has in (says ∙ ap code (is ∙ ap format_status one.0), put ∙ one.1)
peer_request_faulty first never p n ps kept now plain room q m qs status result detail (save_first w x a b c parts from asks zero wants) says whole pending fault place has = absurd (never parts plain fault place from has)
peer_request_faulty first never p n ps kept now plain room q m qs status result detail (refused w x parts from e is holds) says whole pending fault place has = absurd (never parts plain fault place from has)
