-- To be believed: why a call of C on a peer does nothing, or less, row by row in the order in which the reasons are checked, and what it leaves. p are the peer's
-- bytes before, new those after, kept are the bytes of the record to save, c are the bytes of a context, t of a ticket, d is a datagram, plain the datagram of a plain
-- message, room the length of the buffer.
use Rattle.std.specs.Prelude.{◌≡◌, ◌≢◌, ◌⊎◌, ◌+◌, ◌<◌, ◌≤◌, ◌^◌, ℕ, Bool, List, [], true, not}
use Rattle.osc_coap.specs.Datagram.{Parts, IsDatagram}
use Rattle.osc_coap.specs.Fault.{HasFault}
use Rattle.osc_coap.specs.declared.format_error.Fault.{Fault}
use Rattle.osc_context.specs.Reserving.{next_limit}
use Rattle.osc_life.specs.Life.{is_open_life}
use Rattle.osc_life.specs.LifeAnswer.{asks_own}
use Rattle.osc_life.specs.ServerHistory.{Answer, Datagram, History, NotReplied, Notify, Reply, Took, life}
use Rattle.osc_life.specs.declared.server_error.ReplyError.{ReplyError}
use Rattle.osc_window.specs.Window.{HasPlaces}
use Rattle.osc_context_handle.specs.ContextBytes.{IsContext}
use Rattle.osc_context_handle.specs.declared.context_handle.ContextHandle.{ContextHandle}
use Rattle.osc_handle.specs.ServerBytes.{IsSpent}
use Rattle.osc_handle.specs.TicketBytes.{IsTicket, ticket_in}
use Rattle.osc_handle.specs.declared.ticket_handle.TicketHandle.{TicketHandle}
use Rattle.osc_kept_ends.specs.EchoNumber.{echo_of}
use Rattle.osc_kept_ends.specs.Numbering.{Allowed, Own, Reserve, upcoming}
use Rattle.osc_peer_handle.specs.PeerBytes.{HasNumbers, HasToSave, IsPeer, IsTicketOf, KeepsFirst, ServesBehind, StepsAnswering, inside_of, next_in}
use Rattle.osc_peer_handle.specs.RecordBytes.{IsRecordOf}
use Rattle.osc_peer_handle.specs.declared.peer_handle.PeerHandle.{PeerHandle}
use Rattle.osc_peer_handle.specs.declared.record_handle.RecordHandle.{RecordHandle}
use Rattle.osc_c.specs.Answering.{IsAnswerStatus, IsReplyStatus}
use Rattle.osc_status.specs.Statuses.{format_status}
use Rattle.osc_status.specs.declared.status.Status.{Status}
use Rattle.osc_status.specs.declared.status.Status.TheVariants.{BadHandle, BadNumber, LivesExhausted, OldRecord, SaveFirst, SequenceExhausted, TicketSpent}

-- the record to save next, if it has these numbers (RFC 8613, 7.4 and B.1.1)
abbrev pub next_record : PeerHandle → ℕ → ℕ → RecordHandle
next_record p sender received = record { name = p.name; generation = p.generation + 1; sender = sender; received = received }

-- a record with these numbers has to be saved first; or no record can be saved any more, for a count of 64 bits is at its end (RFC 8613, 7.4 and B.1.1)
abbrev pub AsksToSave : PeerHandle → ℕ → ℕ → RecordHandle → Status → Type 0
AsksToSave p sender received kept status = ((status ≡ SaveFirst) × (kept ≡ next_record p sender received)) ⊎ ((status ≡ LivesExhausted) × (p.generation + 1 < 2 ^ 64 → ⊥))

-- why a peer doesn't begin behind a record (RFC 8613, 7.2.1 and B.1)
pub data RefusesAgain (c : ContextHandle) (r : RecordHandle) (places : ℕ) (status : Status) : Type 0 where
  bad_handle : (IsContext c → ⊥) → status ≡ BadHandle → RefusesAgain c r places status
  bad_number : IsContext c → (HasPlaces places → ⊥) → status ≡ BadNumber → RefusesAgain c r places status
  old_record : IsContext c → HasPlaces places → (IsRecordOf c r → ⊥) → status ≡ OldRecord → RefusesAgain c r places status
  exhausted : IsContext c → HasPlaces places → IsRecordOf c r → 2 ^ 40 ≤ r.sender → status ≡ SequenceExhausted → RefusesAgain c r places status

-- with these numbers, the record isn't one to save next (RFC 8613, 7.4 and B.1.1)
abbrev pub IsNotNext : PeerHandle → RecordHandle → Own → Type 0
IsNotNext p r o = (r.name ≢ p.name) ⊎ (r.generation ≢ p.generation + 1) ⊎ (r.received < p.received) ⊎ (2 ^ 40 < r.received)
    ⊎ ((r.sender ≢ o.limit) × (Allowed Reserve o → r.sender ≢ next_limit o.limit))

-- why a save isn't accepted (RFC 8613, 7.4 and B.1.1)
pub data RefusesPeerSaved (p : PeerHandle) (r : RecordHandle) (status : Status) : Type 0 where
  bad_handle : (IsPeer p → ⊥) → status ≡ BadHandle → RefusesPeerSaved p r status
  bad_number : IsPeer p → ((o : Own) → HasNumbers p o → IsNotNext p r o) → status ≡ BadNumber → RefusesPeerSaved p r status

-- the answer to a datagram has this status and detail, and the bytes are as it says (RFC 8613, 8.2)
pub record PeerTakesBy (p : PeerHandle) (h : History) (new : PeerHandle) (now mid : ℕ) (d reply : List ℕ) (old : Own) (status : Status) (detail : ℕ) : Type 0 where
  pub answer : Answer
  pub says : IsAnswerStatus answer status detail
  pub step : StepsAnswering p h (Datagram now (echo_of (next_in p)) mid d) (Took answer reply) old new

-- why nothing is delivered; if a record has to be saved first, nothing changes, and there is no reply (RFC 8613, 7.4, 8.2 and B.1.1)
pub data RefusesPeerServing (p new : PeerHandle) (kept : RecordHandle) (now mid : ℕ) (d reply : List ℕ) (status : Status) (detail : ℕ) : Type 0 where
  bad_handle : (IsPeer p → ⊥) → new ≡ p → reply ≡ [] → status ≡ BadHandle → detail ≡ 0 → RefusesPeerServing p new kept now mid d reply status detail
  save_first : IsPeer p → new ≡ p → reply ≡ [] → AsksToSave p (next_limit p.server.reserved) p.received kept status → detail ≡ 0
      → ((h : History) (o : Own) → ServesBehind p o h → HasToSave (not (is_open_life (life h 0))) (upcoming o) p) → RefusesPeerServing p new kept now mid d reply status detail
  keep_first : IsPeer p → new ≡ p → reply ≡ [] → (number : ℕ) → AsksToSave p p.server.reserved number kept status → detail ≡ 0
      → ((h : History) (o : Own) → ServesBehind p o h → KeepsFirst p.received h now (record { echo = echo_of (next_in p); mid = mid }) d number)
      → RefusesPeerServing p new kept now mid d reply status detail
  refused : IsPeer p → ((h : History) (old : Own) → ServesBehind p old h → PeerTakesBy p h new now mid d reply old status detail)
      → RefusesPeerServing p new kept now mid d reply status detail

-- why no reply is sealed; nothing changes (RFC 8613, 8.3 and B.1.1)
pub data RefusesPeerReplying (p : PeerHandle) (kept : RecordHandle) (t : TicketHandle) (own : Bool) (mid : ℕ) (plain : List ℕ) (room : ℕ) (new : PeerHandle) (status : Status) (detail : ℕ) : Type 0 where
  bad_handle : (IsPeer p → IsTicket t → ⊥) → status ≡ BadHandle → detail ≡ 0 → RefusesPeerReplying p kept t own mid plain room new status detail
  malformed : IsPeer p → IsTicket t → (fault : Fault) (place : ℕ) → HasFault plain fault place → status ≡ format_status fault → detail ≡ place
      → RefusesPeerReplying p kept t own mid plain room new status detail
  save_first : IsPeer p → IsTicket t → (q : Parts) → IsDatagram q plain → AsksToSave p (next_limit p.server.reserved) p.received kept status → detail ≡ 0
      → ((h : History) (o : Own) → ServesBehind p o h → HasToSave (asks_own (ticket_in (inside_of p t)) own) (upcoming o) p) → RefusesPeerReplying p kept t own mid plain room new status detail
  spent : IsPeer p → IsTicket t → (q : Parts) → IsDatagram q plain → ((h : History) (o : Own) → ServesBehind p o h → IsSpent h (ticket_in (inside_of p t)) (asks_own (ticket_in (inside_of p t)) own))
      → status ≡ TicketSpent → detail ≡ 0 → RefusesPeerReplying p kept t own mid plain room new status detail
  refused : IsPeer p → IsTicket t → (q : Parts) → IsDatagram q plain → (e : ReplyError) → IsReplyStatus e status detail
      → (IsTicketOf p t → (h : History) (old : Own) → ServesBehind p old h
      → StepsAnswering p h (Reply (ticket_in (inside_of p t)) (asks_own (ticket_in (inside_of p t)) own) mid q room) (NotReplied e) old new)
      → RefusesPeerReplying p kept t own mid plain room new status detail

-- why no notification is sealed; nothing changes (RFC 8613, 8.3.1 and B.1.1)
pub data RefusesPeerNotifying (p : PeerHandle) (kept : RecordHandle) (t : TicketHandle) (plain : List ℕ) (room : ℕ) (new : PeerHandle) (status : Status) (detail : ℕ) : Type 0 where
  bad_handle : (IsPeer p → IsTicket t → ⊥) → status ≡ BadHandle → detail ≡ 0 → RefusesPeerNotifying p kept t plain room new status detail
  malformed : IsPeer p → IsTicket t → (fault : Fault) (place : ℕ) → HasFault plain fault place → status ≡ format_status fault → detail ≡ place
      → RefusesPeerNotifying p kept t plain room new status detail
  save_first : IsPeer p → IsTicket t → (q : Parts) → IsDatagram q plain → AsksToSave p (next_limit p.server.reserved) p.received kept status → detail ≡ 0
      → ((h : History) (o : Own) → ServesBehind p o h → HasToSave true (upcoming o) p) → RefusesPeerNotifying p kept t plain room new status detail
  refused : IsPeer p → IsTicket t → (q : Parts) → IsDatagram q plain → (e : ReplyError) → IsReplyStatus e status detail
      → (IsTicketOf p t → (h : History) (old : Own) → ServesBehind p old h → StepsAnswering p h (Notify (ticket_in (inside_of p t)) q room) (NotReplied e) old new)
      → RefusesPeerNotifying p kept t plain room new status detail
