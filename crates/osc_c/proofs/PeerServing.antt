-- What a peer answers, as C reads it. p are its bytes before the call, q those after it, h is the history of its server before it, old are the numbers then.
use Rattle.std.proofs.Common.{◌≡◌, ◌<◌, ◌∙◌, ap, sym, subst, refl, ℕ, Bool, List, Option, Some, None, Result, Err}
use Rattle.std.specs.Prelude.{unwrap_or}
use Rattle.std.specs.Option.{option_map}
use Rattle.osc_coap.specs.Fault.{HasFault}
use Rattle.osc_coap.specs.Laws.{DatagramHasNoFault, DatagramHasOneFault}
use Rattle.osc_coap.specs.declared.format_error.Fault.{Fault}
use Rattle.osc_protect.specs.declared.opened.Opened.{Opened}
use Rattle.osc_observe.specs.Received.{Received}
use Rattle.osc_observe.specs.Views.{received_of}
use Rattle.osc_life.specs.Life.{Life, Mark, marked}
use Rattle.osc_life.specs.ServerHistory as server
use Rattle.osc_life.specs.Views.{Shows, values_of}
use Rattle.osc_life.specs.declared.outcome.Outcome.{Outcome}
use Rattle.osc_life.specs.declared.outcome.Outcome.TheVariants as outcomes
use Rattle.osc_life.specs.declared.start.Fresh.{Fresh}
use Rattle.osc_life.specs.declared.ticket.Ticket.{Ticket}
use Rattle.osc_endpoint.specs.Agrees.{server_of}
use Rattle.osc_endpoint.specs.ServerAnswer.{ServerAnswer}
use Rattle.osc_endpoint.proofs.Places.{life_at}
use Rattle.osc_handle.proofs.Tables.{slot_at}
use Rattle.osc_handle.specs.SingleServerBytes.{table_of}
use Rattle.osc_handle.specs.TicketBytes.{IsTicket}
use Rattle.osc_handle.specs.declared.ticket_handle.TicketHandle.{TicketHandle}
use Rattle.osc_kept_ends.proofs.ServerSteps.{only_first}
use Rattle.osc_kept_ends.specs.EchoNumber.{echo_of}
use Rattle.osc_kept_ends.specs.Numbering.{Own}
use Rattle.osc_kept_ends.specs.Peering.{TakesBelow}
use Rattle.osc_peer_handle.specs.PeerBytes.{IsPeer, ServesBehind, StepsAnswering, TakesAnswering, next_in}
use Rattle.osc_peer_handle.specs.declared.peer_handle.PeerHandle.{PeerHandle}
use Rattle.osc_peer_handle.specs.declared.record_handle.RecordHandle.{RecordHandle}
use Rattle.osc_c.proofs.Moved.{same_error}
use Rattle.osc_c.specs.PeerCalls.{PeerTakesBy, RefusesPeerNotifying, RefusesPeerReplying}
use Rattle.osc_c.specs.PeerCalls.RefusesPeerNotifying.{bad_handle as notify_handle, malformed as notify_malformed, save_first as notify_first, refused as notify_refused}
use Rattle.osc_c.specs.PeerCalls.RefusesPeerReplying.{bad_handle as reply_handle, malformed as reply_malformed, save_first as reply_first, spent as reply_spent, refused as reply_refused}
use Rattle.osc_c.specs.Answering.{IsAnswerStatus, IsOutcomeStatus}
use Rattle.osc_status.specs.Statuses.{code, format_status}
use Rattle.osc_status.specs.declared.status.Status.{Status}

-- the Echo value of a peer's challenge, and the message ID
abbrev pub fresh_of : PeerHandle → ℕ → Fresh
fresh_of p mid = record { echo = echo_of (next_in p); mid = mid }

-- the answer that an outcome shows has its status
says_too : (outcome : Outcome) (answer : server.Answer) (status : Status) (detail : ℕ) → Shows outcome answer → IsOutcomeStatus outcome status detail → IsAnswerStatus answer status detail
says_too (outcomes.Malformed e) (server.Malformed fault place) status detail shows says = (says.0 ∙ ap format_status shows.0, says.1 ∙ shows.1)
says_too outcomes.NotRequest server.NotRequest status detail shows says = says
says_too outcomes.Plain server.Plain status detail shows says = says
says_too outcomes.Undecodable server.Undecodable status detail shows says = says
says_too outcomes.NoContext server.NoContext status detail shows says = says
says_too outcomes.Replay server.Replay status detail shows says = says
says_too outcomes.BadTag server.BadTag status detail shows says = says
says_too outcomes.BadInner (server.BadInner i n) status detail shows says = says
says_too (outcomes.Challenge echo issued) (server.Challenge i n given moment) status detail shows says = says
says_too outcomes.SequenceExhausted server.SequenceExhausted status detail shows says = says
says_too (outcomes.Deliver o t) (server.Deliver received ticket) status detail shows says = absurd says
says_too outcome answer status detail shows says = absurd shows

pub peer_takes_by : (p : PeerHandle) (h : server.History) (q : PeerHandle) (now mid : ℕ) (d reply : List ℕ) (outcome : Outcome) (status : Status) (detail : ℕ) (old : Own)
    → TakesAnswering p h now (fresh_of p mid) d outcome reply old q → IsOutcomeStatus outcome status detail → PeerTakesBy p h q now mid d reply old status detail
peer_takes_by p h q now mid d reply outcome status detail old takes says =
    record { answer = takes.answer; says = says_too outcome takes.answer status detail takes.shows says; step = takes.step }

delivered_by : (p : PeerHandle) (h : server.History) (q : PeerHandle) (now mid : ℕ) (echo d reply : List ℕ) (o : Opened) (t : Ticket) (answer : server.Answer) (old : Own) → Shows (outcomes.Deliver o t) answer
    → StepsAnswering p h (server.Datagram now echo mid d) (server.Took answer reply) old q → StepsAnswering p h (server.Datagram now echo mid d) (server.Took (server.Deliver (received_of o) (values_of t)) reply) old q
delivered_by p h q now mid echo d reply o t (server.Deliver received ticket) old shows x =
    subst (λ r. StepsAnswering p h (server.Datagram now echo mid d) (server.Took (server.Deliver r (values_of t)) reply) old q) (sym shows.0)
    (subst (λ v. StepsAnswering p h (server.Datagram now echo mid d) (server.Took (server.Deliver received v) reply) old q) (sym shows.1) x)
delivered_by p h q now mid echo d reply o t answer old shows x = absurd shows

-- what was delivered is the answer
pub peer_delivered_to : (p : PeerHandle) (h : server.History) (q : PeerHandle) (now mid : ℕ) (d reply : List ℕ) (outcome : Outcome) (o : Opened) (t : Ticket) (old : Own) → outcome ≡ outcomes.Deliver o t
    → TakesAnswering p h now (fresh_of p mid) d outcome reply old q
    → StepsAnswering p h (server.Datagram now (echo_of (next_in p)) mid d) (server.Took (server.Deliver (received_of o) (values_of t)) reply) old q
peer_delivered_to p h q now mid d reply outcome o t old is takes =
    delivered_by p h q now mid (echo_of (next_in p)) d reply o t takes.answer old (subst (λ x. Shows x takes.answer) is takes.shows) takes.step

-- its number is below the one that was saved
pub delivered_below : (outcome : Outcome) (o : Opened) (t : Ticket) (received : ℕ) → outcome ≡ outcomes.Deliver o t → TakesBelow outcome received → (values_of t).number < received
delivered_below outcome o t received is below = subst (λ x. TakesBelow x received) is below

-- ---- the ticket of a delivery

same_count : (m : Option Mark) (of : Life) → (marked m of).count ≡ of.count
same_count None of = refl
same_count (Some mark) of = refl

same_life : (o : Option Life) (a b : Life) → o ≡ Some a → o ≡ Some b → a ≡ b
same_life o a b x y = ap (λ (l : Option Life). unwrap_or l a) (sym x ∙ y)

-- it is of the one context, and of the life that the bytes have
pub names_life : (q : PeerHandle) (new : Own) (g : server.History) (now mid : ℕ) (echo d reply : List ℕ) (received : Received) (t : server.TicketValues)
    → ServerAnswer g (server.Datagram now echo mid d) (server.Took (server.Deliver received t) reply)
    → ServesBehind q new (server.Then g (server.Datagram now echo mid d) (server.Took (server.Deliver received t) reply)) → (t.context ≡ 0) × (t.life ≡ q.server.server.slot.life)
names_life q new g now mid echo d reply received t row k =
    let h = server.Then g (server.Datagram now echo mid d) (server.Took (server.Deliver received t) reply) in
    let i = row.0.0 in
    let of = row.0.2 in
    let m = server.mark_at i (server.Deliver received t) in
    let lives : server.life h i ≡ Some (marked m of) = ap (option_map (marked m)) row.0.3.life_is in
    let first : i ≡ 0 = only_first (server_of 1 q.server.server.clock k.serves.slots) h i (marked m of) k.serves.agrees k.one lives in
    let b = record q.server.server.slot { next = k.reached } in
    let (slot, at, stands) = slot_at (table_of b) k.serves.slots 0 b k.serves.table refl in
    let (l, life_is, holds) = life_at k.serves.slots (server.life h) 0 (Some slot) k.serves.agrees.places at in
    let same : marked m of ≡ l = same_life (server.life h 0) (marked m of) l (subst (λ j. server.life h j ≡ Some (marked m of)) first lives) life_is in (
      ap (λ (v : server.TicketValues). v.context) row.0.4.2 ∙ first,
      ap (λ (v : server.TicketValues). v.life) row.0.4.2 ∙ sym (same_count m of) ∙ ap (λ (x : Life). x.count) same ∙ sym holds.life ∙ sym stands.life,
    )

-- ---- plain messages that are none

pub peer_reply_faulty : DatagramHasOneFault → DatagramHasNoFault → (p : PeerHandle) (kept : RecordHandle) (t : TicketHandle) (own : Bool) (mid : ℕ) (plain : List ℕ) (room : ℕ) (q : PeerHandle) (status : Status) (result detail : ℕ)
    → RefusesPeerReplying p kept t own mid plain room q status detail → result ≡ code status → IsPeer p → IsTicket t → (fault : Fault) (place : ℕ) → HasFault plain fault place
    → (result ≡ code (format_status fault)) × (detail ≡ place)
peer_reply_faulty first never p kept t own mid plain room q status result detail (reply_handle bad is zero) says whole ticket fault place has = absurd (bad whole ticket)
peer_reply_faulty first never p kept t own mid plain room q status result detail (reply_malformed a b other at from is put) says whole ticket fault place has =
    let same = first plain other fault at place from has in (says ∙ ap code (is ∙ ap format_status same.0), put ∙ same.1)
peer_reply_faulty first never p kept t own mid plain room q status result detail (reply_first a b m from asks zero wants) says whole ticket fault place has = absurd (never m plain fault place from has)
peer_reply_faulty first never p kept t own mid plain room q status result detail (reply_spent a b m from spent is zero) says whole ticket fault place has = absurd (never m plain fault place from has)
peer_reply_faulty first never p kept t own mid plain room q status result detail (reply_refused a b m from e is holds) says whole ticket fault place has = absurd (never m plain fault place from has)

pub peer_notify_faulty : DatagramHasOneFault → DatagramHasNoFault → (p : PeerHandle) (kept : RecordHandle) (t : TicketHandle) (plain : List ℕ) (room : ℕ) (q : PeerHandle) (status : Status) (result detail : ℕ)
    → RefusesPeerNotifying p kept t plain room q status detail → result ≡ code status → IsPeer p → IsTicket t → (fault : Fault) (place : ℕ) → HasFault plain fault place
    → (result ≡ code (format_status fault)) × (detail ≡ place)
peer_notify_faulty first never p kept t plain room q status result detail (notify_handle bad is zero) says whole ticket fault place has = absurd (bad whole ticket)
peer_notify_faulty first never p kept t plain room q status result detail (notify_malformed a b other at from is put) says whole ticket fault place has =
    let same = first plain other fault at place from has in (says ∙ ap code (is ∙ ap format_status same.0), put ∙ same.1)
peer_notify_faulty first never p kept t plain room q status result detail (notify_first a b m from asks zero wants) says whole ticket fault place has = absurd (never m plain fault place from has)
peer_notify_faulty first never p kept t plain room q status result detail (notify_refused a b m from e is holds) says whole ticket fault place has = absurd (never m plain fault place from has)

-- ---- refusals

-- a refusal is no other one
pub apart : {T E : Type 0} (r e other : E) → r ≡ e → (e ≡ other → ⊥) → ◌≡◌ {A = Result T E} (Err r) (Err other) → ⊥
apart r e other is differ same = differ (sym is ∙ same_error same)
