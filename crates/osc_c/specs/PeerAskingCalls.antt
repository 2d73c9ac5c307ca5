-- To be believed: why a call of C on a peer asks nothing, or hears nothing, row by row in the order in which the reasons are checked, and what it leaves. p are the
-- peer's bytes before, new those after, n of the places ps hold a request that is pending before, m of qs after, kept are the bytes of the record to save, d is a
-- datagram, plain the datagram of a plain message, room the length of the buffer, a the history of the peer's client.
use Rattle.std.specs.Prelude.{◌≡◌, ℕ, List, false, length, true}
use Rattle.osc_coap.specs.Datagram.{Parts, IsDatagram}
use Rattle.osc_coap.specs.Fault.{HasFault}
use Rattle.osc_coap.specs.declared.format_error.Fault.{Fault}
use Rattle.osc_context.specs.Reserving.{next_limit}
use Rattle.osc_client.specs.ClientHistory.{Answer, Datagram, Entry, Event, Forget, Forgot, History, NotSent, Request, Took}
use Rattle.osc_client.specs.declared.client_outcome.ClientOutcome.{ClientOutcome}
use Rattle.osc_client.specs.declared.client_outcome.RequestError.{RequestError}
use Rattle.osc_handle.specs.PendingBytes.{ArePending, asked_among}
use Rattle.osc_handle.specs.declared.pending_handle.PendingHandle.{PendingHandle}
use Rattle.osc_kept_ends.specs.Numbering.{Own}
use Rattle.osc_peer_handle.specs.PeerBytes.{AsksBehind, HasToSave, IsPeer, StepsAsking, TakesAsking, next_in}
use Rattle.osc_peer_handle.specs.declared.peer_handle.PeerHandle.{PeerHandle}
use Rattle.osc_peer_handle.specs.declared.record_handle.RecordHandle.{RecordHandle}
use Rattle.osc_c.specs.Asking.{IsAnswerStatus, IsAskingStatus}
use Rattle.osc_c.specs.PeerCalls.{AsksToSave}
use Rattle.osc_status.specs.Statuses.{format_status}
use Rattle.osc_status.specs.declared.status.Status.{Status}
use Rattle.osc_status.specs.declared.status.Status.TheVariants.{BadHandle, NotPending}

-- with these requests pending, the bytes have these numbers, and their client is as its history says; there is room for as many requests as places (RFC 8613, 8.1)
abbrev pub AsksAmong : PeerHandle → ℕ → List PendingHandle → Own → History → Type 0
AsksAmong p n ps o a = AsksBehind p (asked_among n ps) (length ps) o a

-- what a call of the client's role does, with its pending requests in these places (RFC 8613, 8.1 and 8.4)
abbrev pub StepsAmong : PeerHandle → List PendingHandle → History → Event → Entry → Own → PeerHandle → ℕ → List PendingHandle → Type 0
StepsAmong p ps a event entry old new m qs = StepsAsking p (length ps) a event entry old new (asked_among m qs)

-- and what became of a datagram (RFC 8613, 8.4)
abbrev pub TakesAmong : PeerHandle → List PendingHandle → History → ℕ → List ℕ → ClientOutcome → Own → PeerHandle → ℕ → List PendingHandle → Type 0
TakesAmong p ps a now d outcome old new m qs = TakesAsking p (length ps) a now d outcome old new (asked_among m qs)

-- why no request is sealed; only a refusal of the last row moves the clock, and any other changes nothing (RFC 8613, 8.1 and B.1.1)
pub data RefusesPeerAsking (p : PeerHandle) (n : ℕ) (ps : List PendingHandle) (kept : RecordHandle) (now : ℕ) (plain : List ℕ) (room : ℕ) (new : PeerHandle) (m : ℕ) (qs : List PendingHandle) (status : Status) (detail : ℕ) : Type 0 where
  bad_handle : (IsPeer p → ArePending n ps → ⊥) → new ≡ p → m ≡ n → qs ≡ ps → status ≡ BadHandle → detail ≡ 0 → RefusesPeerAsking p n ps kept now plain room new m qs status detail
  malformed : IsPeer p → ArePending n ps → new ≡ p → m ≡ n → qs ≡ ps → (fault : Fault) (place : ℕ) → HasFault plain fault place → status ≡ format_status fault → detail ≡ place
      → RefusesPeerAsking p n ps kept now plain room new m qs status detail
  save_first : IsPeer p → ArePending n ps → new ≡ p → m ≡ n → qs ≡ ps → (q : Parts) → IsDatagram q plain → AsksToSave p (next_limit p.server.reserved) p.received kept status → detail ≡ 0
      → HasToSave true (next_in p) p → RefusesPeerAsking p n ps kept now plain room new m qs status detail
  refused : IsPeer p → ArePending n ps → (q : Parts) → IsDatagram q plain → (e : RequestError) → IsAskingStatus e status detail
      → ((a : History) (old : Own) → AsksAmong p n ps old a → StepsAmong p ps a (Request now q room) (NotSent e) old new m qs) → RefusesPeerAsking p n ps kept now plain room new m qs status detail

-- the answer to a datagram has this status and detail, and the bytes are as it says (RFC 8613, 8.4)
pub record PeerAnswersBy (p : PeerHandle) (ps : List PendingHandle) (a : History) (new : PeerHandle) (m : ℕ) (qs : List PendingHandle) (now : ℕ) (d : List ℕ) (old : Own) (status : Status) (detail : ℕ) : Type 0 where
  pub answer : Answer
  pub says : IsAnswerStatus answer status detail
  pub step : StepsAmong p ps a (Datagram now d) (Took answer) old new m qs

-- why nothing is delivered (RFC 8613, 8.4)
pub data RefusesPeerHearing (p : PeerHandle) (n : ℕ) (ps : List PendingHandle) (new : PeerHandle) (m : ℕ) (qs : List PendingHandle) (now : ℕ) (d : List ℕ) (status : Status) (detail : ℕ) : Type 0 where
  bad_handle : (IsPeer p → ArePending n ps → ⊥) → new ≡ p → m ≡ n → qs ≡ ps → status ≡ BadHandle → detail ≡ 0 → RefusesPeerHearing p n ps new m qs now d status detail
  refused : IsPeer p → ArePending n ps → ((a : History) (old : Own) → AsksAmong p n ps old a → PeerAnswersBy p ps a new m qs now d old status detail)
      → RefusesPeerHearing p n ps new m qs now d status detail

-- why no request is forgotten (own rule)
pub data RefusesPeerForgetting (p : PeerHandle) (n : ℕ) (ps : List PendingHandle) (new : PeerHandle) (m : ℕ) (qs : List PendingHandle) (token : List ℕ) (status : Status) : Type 0 where
  bad_handle : (IsPeer p → ArePending n ps → ⊥) → new ≡ p → m ≡ n → qs ≡ ps → status ≡ BadHandle → RefusesPeerForgetting p n ps new m qs token status
  not_pending : IsPeer p → ArePending n ps → status ≡ NotPending
      → ((a : History) (old : Own) → AsksAmong p n ps old a → StepsAmong p ps a (Forget token) (Forgot false) old new m qs) → RefusesPeerForgetting p n ps new m qs token status
