-- What C reads of a peer is what the one answer to an event says. p are its bytes before the call, q those after it, h is the history of its server before it, a of its
-- client, g and b are those once they passed over the numbers of the other role, o are the numbers before it.
use Rattle.std.proofs.Common.{◌≡◌, ◌≢◌, ◌∙◌, ◌+◌, ap, arith, inl, inr, refl, sym, subst, ℕ, Bool, List, Option, Some, None, length}
use Rattle.std.specs.Option.{option_map}
use Rattle.std.proofs.lemmas.Option.{none-some, same_Some}
use Rattle.osc_coap.specs.Datagram.{Parts, IsDatagram}
use Rattle.osc_coap.specs.Laws.{DatagramHasNoFault, DatagramIsOneMessage}
use Rattle.osc_client.specs.ClientAnswer.{ClientAnswer}
use Rattle.osc_client.specs.ClientHistory as client
use Rattle.osc_laws.specs.ClientLaws.{AllClientAnswers, OneClientAnswer}
use Rattle.osc_laws.specs.Laws.{AllAnswers, OneServerAnswer}
use Rattle.osc_endpoint.specs.ServerAnswer.{ServerAnswer}
use Rattle.osc_life.specs.Life.{Life, PassedOver, marked, next_own}
use Rattle.osc_life.specs.LifeAnswer.{asks_own}
use Rattle.osc_life.specs.ServerHistory as server
use Rattle.osc_handle.specs.PendingBytes.{ArePending}
use Rattle.osc_handle.specs.ServerBytes.{IsSpent}
use Rattle.osc_handle.specs.TicketBytes.{IsTicket, ticket_in}
use Rattle.osc_handle.specs.declared.pending_handle.PendingHandle.{PendingHandle}
use Rattle.osc_handle.specs.declared.ticket_handle.TicketHandle.{TicketHandle}
use Rattle.osc_kept_ends.specs.EchoNumber.{echo_of}
use Rattle.osc_kept_ends.specs.Numbering.{Own, upcoming}
use Rattle.osc_kept_ends.specs.Peering.{ClientPasses, ServerPasses}
use Rattle.osc_peer_handle.specs.PeerBytes.{CatchesUp, CatchesUpAsking, IsTicketOf, ServesBehind, StepsAnswering, inside_of, next_in}
use Rattle.osc_peer_handle.specs.declared.peer_handle.PeerHandle.{PeerHandle}
use Rattle.osc_peer_handle.specs.declared.record_handle.RecordHandle.{RecordHandle}
use Rattle.osc_c.specs.Asking as asks
use Rattle.osc_c.specs.PeerAskingCalls.{AsksAmong, RefusesPeerAsking, RefusesPeerHearing, StepsAmong}
use Rattle.osc_c.specs.PeerAskingCalls.RefusesPeerAsking.{bad_handle as ask_handle, malformed as ask_malformed, save_first as ask_first, refused as ask_refused}
use Rattle.osc_c.specs.PeerAskingCalls.RefusesPeerHearing.{bad_handle as hear_handle, refused as hear_refused}
use Rattle.osc_c.specs.PeerCalls.{AsksToSave, RefusesPeerNotifying, RefusesPeerReplying, RefusesPeerServing}
use Rattle.osc_c.specs.PeerCalls.RefusesPeerNotifying.{bad_handle as notify_handle, malformed as notify_malformed, save_first as notify_first, refused as notify_refused}
use Rattle.osc_c.specs.PeerCalls.RefusesPeerReplying.{bad_handle as reply_handle, malformed as reply_malformed, save_first as reply_first, spent as reply_spent, refused as reply_refused}
use Rattle.osc_c.specs.PeerCalls.RefusesPeerServing.{bad_handle as serve_handle, save_first as serve_first, keep_first as serve_keep, refused as serve_refused}
use Rattle.osc_c.specs.Answering as serves
use Rattle.osc_status.specs.Statuses.{code}
use Rattle.osc_status.specs.declared.status.Status.{Status}
use Rattle.osc_status.specs.declared.status.Status.TheVariants.{LivesExhausted, SaveFirst}

-- ---- numbers are passed over in one way

more : (l : Life) (count : ℕ) → next_own l + count ≡ next_own (marked (Some (PassedOver count)) l)
more l count = omega arith

passes_once : (h g k : server.History) (n : ℕ) → ServerPasses h g → ServerPasses h k → option_map next_own (server.life g 0) ≡ Some n → option_map next_own (server.life k 0) ≡ Some n → g ≡ k
passes_once h g k n x y reaches other =
    x.is ∙ ap (λ count. server.Then h (server.Skip 0 count) server.Skipped) (same_count (server.life h 0) x.count y.count n (at h g n x reaches) (at h k n y other)) ∙ sym y.is where
      at : (h g : server.History) (n : ℕ) (x : ServerPasses h g) → option_map next_own (server.life g 0) ≡ Some n → option_map next_own (option_map (marked (Some (PassedOver x.count))) (server.life h 0)) ≡ Some n
      at h g n x is = ap (λ k. option_map next_own (server.life k 0)) (sym x.is) ∙ is

      same_count : (o : Option Life) (i j n : ℕ) → option_map next_own (option_map (marked (Some (PassedOver i))) o) ≡ Some n → option_map next_own (option_map (marked (Some (PassedOver j))) o) ≡ Some n → i ≡ j
      same_count None i j n one other = absurd (none-some n one)
      same_count (Some l) i j n one other =
          let first : next_own l + i ≡ n = more l i ∙ same_Some (next_own (marked (Some (PassedOver i)) l)) n one in
          let second : next_own l + j ≡ n = more l j ∙ same_Some (next_own (marked (Some (PassedOver j)) l)) n other in
          omega (arith, first, second)

passes_once_asking : (room : ℕ) (a b c : client.History) (n : ℕ) → ClientPasses room a b → ClientPasses room a c → client.next b ≡ n → client.next c ≡ n → b ≡ c
passes_once_asking room a b c n x y reaches other =
    let first : client.next a + x.count ≡ n = ap client.next (sym x.is) ∙ reaches in
    let second : client.next a + y.count ≡ n = ap client.next (sym y.is) ∙ other in
    x.is ∙ ap (λ count. client.Then a (client.Skip count) client.Skipped) (omega (arith, first, second)) ∙ sym y.is

-- ---- what holds of one answer holds of each

pub answered_once : OneServerAnswer → (P : server.Entry → Type 0) (p q : PeerHandle) (h g : server.History) (o : Own) (event : server.Event) (mine other : server.Entry) → ServesBehind p o h → CatchesUp h g o
    → StepsAnswering p h event mine o q → ServerAnswer g event other → P mine → P other
answered_once one P p q h g o event mine other w catches step y holds =
    let same : step.g ≡ g = passes_once h step.g g (upcoming o) step.passes catches.0 step.reaches catches.1 in
    subst P (one g event mine other (subst AllAnswers (sym catches.0.is) (w.serves.answers, catches.0.row)) (subst (λ k. ServerAnswer k event mine) same step.row) y) holds

pub heard_once : OneClientAnswer → (P : client.Entry → Type 0) (p q : PeerHandle) (n m : ℕ) (ps qs : List PendingHandle) (a b : client.History) (o : Own) (event : client.Event) (mine other : client.Entry) → AsksAmong p n ps o a
    → CatchesUpAsking (length ps) a b o → StepsAmong p ps a event mine o q m qs → ClientAnswer (length ps) b event other → P mine → P other
heard_once one P p q n m ps qs a b o event mine other w catches step y holds =
    let same : step.b ≡ b = passes_once_asking (length ps) a step.b b (upcoming o) step.passes catches.0 step.reaches catches.1 in
    subst P (one (length ps) b event mine other (subst (AllClientAnswers (length ps)) (sym catches.0.is) (w.answers, catches.0.row)) (subst (λ k. ClientAnswer (length ps) k event mine) same step.row) y) holds

-- no record has to be saved
none_to_save : (p : PeerHandle) (sender received : ℕ) (kept : RecordHandle) (status : Status) (result : ℕ) → AsksToSave p sender received kept status → result ≡ code status → result ≢ code SaveFirst → result ≢ code LivesExhausted → ⊥
none_to_save p sender received kept status result (inl asks) says none never = none (says ∙ ap code asks.0)
none_to_save p sender received kept status result (inr asks) says none never = never (says ∙ ap code asks.0)

-- ---- what C reads of a refusal

-- the number of the status that an answer has is read of it
status_read : (answer : server.Answer) (status : Status) (result detail : ℕ) (ticket : server.TicketValues) (reply : List ℕ) → serves.IsAnswerStatus answer status detail → result ≡ code status
    → serves.ReadsServing (server.Took answer reply) result detail ticket reply
status_read (server.Malformed fault place) status result detail ticket reply is says = (status, says, is, refl)
status_read server.NotRequest status result detail ticket reply is says = (status, says, is, refl)
status_read server.Plain status result detail ticket reply is says = (status, says, is, refl)
status_read server.Undecodable status result detail ticket reply is says = (status, says, is, refl)
status_read server.NoContext status result detail ticket reply is says = (status, says, is, refl)
status_read server.Replay status result detail ticket reply is says = (status, says, is, refl)
status_read server.BadTag status result detail ticket reply is says = (status, says, is, refl)
status_read (server.BadInner i n) status result detail ticket reply is says = (status, says, is, refl)
status_read (server.Challenge i n echo issued) status result detail ticket reply is says = (status, says, is, refl)
status_read server.SequenceExhausted status result detail ticket reply is says = (status, says, is, refl)
status_read (server.Deliver received t) status result detail ticket reply is says = absurd is

-- the number of the status that a client's answer has is read of it
status_taken : (answer : client.Answer) (status : Status) (result detail request : ℕ) (stays : Bool) → asks.IsAnswerStatus answer status detail → result ≡ code status → asks.ReadsTaking (client.Took answer) result detail request stays
status_taken (client.Malformed fault place) status result detail request stays is says = (status, says, is)
status_taken client.NotResponse status result detail request stays is says = (status, says, is)
status_taken client.UnknownToken status result detail request stays is says = (status, says, is)
status_taken client.Unprotected status result detail request stays is says = (status, says, is)
status_taken client.Undecodable status result detail request stays is says = (status, says, is)
status_taken client.Old status result detail request stays is says = (status, says, is)
status_taken client.BadTag status result detail request stays is says = (status, says, is)
status_taken client.BadInner status result detail request stays is says = (status, says, is)
status_taken (client.Notified received n) status result detail request stays is says = absurd is
status_taken (client.Deliver received n) status result detail request stays is says = absurd is

pub peer_serving_read : OneServerAnswer → (p q : PeerHandle) (kept : RecordHandle) (now mid : ℕ) (d reply : List ℕ) (status : Status) (result detail : ℕ) (ticket : server.TicketValues) → RefusesPeerServing p q kept now mid d reply status detail
    → result ≡ code status → (h g : server.History) (o : Own) (entry : server.Entry) → ServesBehind p o h → CatchesUp h g o → result ≢ code SaveFirst → result ≢ code LivesExhausted
    → ServerAnswer g (server.Datagram now (echo_of (next_in p)) mid d) entry → serves.ReadsServing entry result detail ticket reply
peer_serving_read one p q kept now mid d reply status result detail ticket (serve_handle bad same empty is zero) says h g o entry w catches none never y = absurd (bad w.has.whole)
peer_serving_read one p q kept now mid d reply status result detail ticket (serve_first whole same empty asks zero wants) says h g o entry w catches none never y = absurd (none_to_save p _ _ kept status result asks says none never)
peer_serving_read one p q kept now mid d reply status result detail ticket (serve_keep whole same empty number asks zero keeps) says h g o entry w catches none never y = absurd (none_to_save p _ _ kept status result asks says none never)
peer_serving_read one p q kept now mid d reply status result detail ticket (serve_refused whole by) says h g o entry w catches none never y =
    let took = by h o w in
    answered_once one (λ x. serves.ReadsServing x result detail ticket reply) p q h g o (server.Datagram now (echo_of (next_in p)) mid d) (server.Took took.answer reply) entry w catches took.step y
    (status_read took.answer status result detail ticket reply took.says says)

pub peer_replying_read : OneServerAnswer → DatagramIsOneMessage → DatagramHasNoFault → (p : PeerHandle) (kept : RecordHandle) (t : TicketHandle) (own : Bool) (mid : ℕ) (plain : List ℕ) (room : ℕ) (q : PeerHandle) (status : Status) (result detail : ℕ) (text : List ℕ)
    → RefusesPeerReplying p kept t own mid plain room q status detail → result ≡ code status → (m : Parts) → IsDatagram m plain → IsTicket t → IsTicketOf p t → (h g : server.History) (o : Own) (entry : server.Entry) → ServesBehind p o h → CatchesUp h g o
    → (IsSpent h (ticket_in (inside_of p t)) (asks_own (ticket_in (inside_of p t)) own) → ⊥) → result ≢ code SaveFirst → result ≢ code LivesExhausted
    → ServerAnswer g (server.Reply (ticket_in (inside_of p t)) (asks_own (ticket_in (inside_of p t)) own) mid m room) entry → serves.ReadsReplying entry result detail text
peer_replying_read one message no_fault p kept t own mid plain room q status result detail text (reply_handle bad is zero) says m of ticket named h g o entry w catches alive none never y = absurd (bad w.has.whole ticket)
peer_replying_read one message no_fault p kept t own mid plain room q status result detail text (reply_malformed a b fault place has is at) says m of ticket named h g o entry w catches alive none never y = absurd (no_fault m plain fault place of has)
peer_replying_read one message no_fault p kept t own mid plain room q status result detail text (reply_first a b parts from asks zero wants) says m of ticket named h g o entry w catches alive none never y =
    absurd (none_to_save p _ _ kept status result asks says none never)
peer_replying_read one message no_fault p kept t own mid plain room q status result detail text (reply_spent a b parts from spent is zero) says m of ticket named h g o entry w catches alive none never y = absurd (alive (spent h o w))
peer_replying_read one message no_fault p kept t own mid plain room q status result detail text (reply_refused a b parts from e is holds) says m of ticket named h g o entry w catches alive none never y =
    let v = ticket_in (inside_of p t) in
    let step = subst (λ (x : Parts). StepsAnswering p h (server.Reply v (asks_own v own) mid x room) (server.NotReplied e) o q) (message parts m plain from of) (holds named h o w) in
    answered_once one (λ x. serves.ReadsReplying x result detail text) p q h g o (server.Reply v (asks_own v own) mid m room) (server.NotReplied e) entry w catches step y (status, says, is)

pub peer_notifying_read : OneServerAnswer → DatagramIsOneMessage → DatagramHasNoFault → (p : PeerHandle) (kept : RecordHandle) (t : TicketHandle) (plain : List ℕ) (room : ℕ) (q : PeerHandle) (status : Status) (result detail : ℕ) (text : List ℕ)
    → RefusesPeerNotifying p kept t plain room q status detail → result ≡ code status → (m : Parts) → IsDatagram m plain → IsTicket t → IsTicketOf p t → (h g : server.History) (o : Own) (entry : server.Entry) → ServesBehind p o h → CatchesUp h g o
    → result ≢ code SaveFirst → result ≢ code LivesExhausted → ServerAnswer g (server.Notify (ticket_in (inside_of p t)) m room) entry → serves.ReadsReplying entry result detail text
peer_notifying_read one message no_fault p kept t plain room q status result detail text (notify_handle bad is zero) says m of ticket named h g o entry w catches none never y = absurd (bad w.has.whole ticket)
peer_notifying_read one message no_fault p kept t plain room q status result detail text (notify_malformed a b fault place has is at) says m of ticket named h g o entry w catches none never y = absurd (no_fault m plain fault place of has)
peer_notifying_read one message no_fault p kept t plain room q status result detail text (notify_first a b parts from asks zero wants) says m of ticket named h g o entry w catches none never y = absurd (none_to_save p _ _ kept status result asks says none never)
peer_notifying_read one message no_fault p kept t plain room q status result detail text (notify_refused a b parts from e is holds) says m of ticket named h g o entry w catches none never y =
    let v = ticket_in (inside_of p t) in
    let step = subst (λ (x : Parts). StepsAnswering p h (server.Notify v x room) (server.NotReplied e) o q) (message parts m plain from of) (holds named h o w) in
    answered_once one (λ x. serves.ReadsReplying x result detail text) p q h g o (server.Notify v m room) (server.NotReplied e) entry w catches step y (status, says, is)

pub peer_asking_read : OneClientAnswer → DatagramIsOneMessage → DatagramHasNoFault → (p : PeerHandle) (n : ℕ) (ps : List PendingHandle) (kept : RecordHandle) (now : ℕ) (plain : List ℕ) (room : ℕ) (q : PeerHandle) (m : ℕ) (qs : List PendingHandle)
    (status : Status) (result detail : ℕ) (text : List ℕ) → RefusesPeerAsking p n ps kept now plain room q m qs status detail → result ≡ code status → (parts : Parts) → IsDatagram parts plain → ArePending n ps → (a b : client.History) (o : Own)
    (entry : client.Entry) → AsksAmong p n ps o a → CatchesUpAsking (length ps) a b o → result ≢ code SaveFirst → result ≢ code LivesExhausted → ClientAnswer (length ps) b (client.Request now parts room) entry → asks.ReadsAsking entry result detail text
peer_asking_read one message no_fault p n ps kept now plain room q m qs status result detail text (ask_handle bad x y z is zero) says parts of pending a b o entry w catches none never row = absurd (bad w.has.whole pending)
peer_asking_read one message no_fault p n ps kept now plain room q m qs status result detail text (ask_malformed whole placed x y z fault place has is at) says parts of pending a b o entry w catches none never row = absurd (no_fault parts plain fault place of has)
peer_asking_read one message no_fault p n ps kept now plain room q m qs status result detail text (ask_first whole placed x y z other from asked zero wants) says parts of pending a b o entry w catches none never row =
    absurd (none_to_save p _ _ kept status result asked says none never)
peer_asking_read one message no_fault p n ps kept now plain room q m qs status result detail text (ask_refused whole placed other from e is holds) says parts of pending a b o entry w catches none never row =
    let step = subst (λ (x : Parts). StepsAmong p ps a (client.Request now x room) (client.NotSent e) o q m qs) (message other parts plain from of) (holds a o w) in
    heard_once one (λ x. asks.ReadsAsking x result detail text) p q n m ps qs a b o (client.Request now parts room) (client.NotSent e) entry w catches step row (status, says, is)

pub peer_hearing_read : OneClientAnswer → (p : PeerHandle) (n : ℕ) (ps : List PendingHandle) (q : PeerHandle) (m : ℕ) (qs : List PendingHandle) (now : ℕ) (d : List ℕ) (status : Status) (result detail request : ℕ) (stays : Bool)
    → RefusesPeerHearing p n ps q m qs now d status detail → result ≡ code status → ArePending n ps → (a b : client.History) (o : Own) (entry : client.Entry) → AsksAmong p n ps o a → CatchesUpAsking (length ps) a b o
    → ClientAnswer (length ps) b (client.Datagram now d) entry → asks.ReadsTaking entry result detail request stays
peer_hearing_read one p n ps q m qs now d status result detail request stays (hear_handle bad x y z is zero) says pending a b o entry w catches row = absurd (bad w.has.whole pending)
peer_hearing_read one p n ps q m qs now d status result detail request stays (hear_refused whole placed by) says pending a b o entry w catches row =
    let took = by a o w in
    heard_once one (λ x. asks.ReadsTaking x result detail request stays) p q n m ps qs a b o (client.Datagram now d) (client.Took took.answer) entry w catches took.step row (status_taken took.answer status result detail request stays took.says says)
