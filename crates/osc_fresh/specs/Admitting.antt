-- To be believed: a peer that delivers fresh requests alone (RFC 8613, 7.3; RFC 9175, 2.3). d is the datagram as it came, left as it was left, wishes is what the
-- server wanted before, old, mid and new are the peer before, in between and after.
use Rattle.std.specs.Prelude.{◌≡◌, ◌≤◌, ◌+◌, ℕ, List, Some, drop, take, true}
use Rattle.osc_context.specs.declared.record_keeper.RecordKeeper as keeper
use Rattle.osc_life.specs.Deciding.{ReadsAs}
use Rattle.osc_life.specs.LifeAnswer.{asks_own}
use Rattle.osc_life.specs.ServerHistory as server
use Rattle.osc_life.specs.Views.{values_of}
use Rattle.osc_life.specs.declared.decision.Decided.{Decided}
use Rattle.osc_life.specs.declared.decision.Decision.TheVariants as decisions
use Rattle.osc_life.specs.declared.server_error.ReplyError.TheVariants as replies
use Rattle.osc_life.specs.declared.ticket.Ticket.{Ticket}
use Rattle.osc_observe.specs.Received.{Received}
use Rattle.osc_protect.specs.declared.stages.ReadRequest.{ReadRequest}
use Rattle.osc_kept_ends.specs.declared.kept_peer.KeptPeer.{KeptPeer}
use Rattle.osc_kept_ends.specs.EchoNumber.{echo_of}
use Rattle.osc_kept_ends.specs.Numbering.{upcoming}
use Rattle.osc_kept_ends.specs.Peering.{DeliversBelow, PeerDecides, PeerStep, ServerIsBehind}
use Rattle.osc_kept_ends.specs.PeerOwning.{own_in}
use Rattle.osc_fresh.specs.declared.decided_fresh.DecidedFresh.{DecidedFresh}
use Rattle.osc_fresh.specs.declared.decided_fresh.DecidedFresh.TheVariants as fresh
use Rattle.osc_fresh.specs.declared.wishes.Wishes.{Wishes}
use Rattle.osc_fresh.specs.Views.{last_of}
use Rattle.osc_fresh.specs.Wishing.{IsFresh, unobeyed_message}

-- if the decision stands, this holds of it (own rule)
abbrev pub IfDecided : DecidedFresh → (Decided → Type 0) → Type 0
IfDecided (fresh.Decided d) holds = holds d
IfDecided x holds = Unit {0}

-- if a request isn't known to be fresh, this holds (own rule)
abbrev pub IfStale : DecidedFresh → Type 0 → Type 0
IfStale (fresh.Decided d) holds = Unit {0}
IfStale x holds = holds

-- the ticket of a request is answered by a challenge with the value of the peer's next number, or the challenge is refused; if the record failed, nothing changed
-- (RFC 8613, 8.3; RFC 9175, 2.3 and A, method 3)
abbrev pub Challenges : {R : Type 0} {r : keeper.Ghosts R} {N : ℕ} → ℕ → Ticket → DecidedFresh → List ℕ → KeptPeer R N r → KeptPeer R N r → Type 0
Challenges mid t (fresh.Challenged n) out old new = (h : server.History) → ServerIsBehind old.server (upcoming (own_in old.source)) h
    → PeerStep h (server.Reply (values_of t) (asks_own (values_of t) true) mid (unobeyed_message (echo_of (upcoming (own_in old.source)))) 64) (server.Replied (take n out))
    (own_in old.source) (own_in new.source) new.server
Challenges mid t (fresh.Unanswered replies.KeeperFailed) out old new = (new.server ≡ old.server) × (own_in new.source ≡ own_in old.source)
Challenges mid t (fresh.Unanswered e) out old new = (h : server.History) → ServerIsBehind old.server (upcoming (own_in old.source)) h
    → PeerStep h (server.Reply (values_of t) (asks_own (values_of t) true) mid (unobeyed_message (echo_of (upcoming (own_in old.source)))) 64) (server.NotReplied e)
    (own_in old.source) (own_in new.source) new.server
Challenges mid t (fresh.Decided d) out old new = Unit {0}

-- the challenge is remembered with the number of which its value is made and the moment; if there is none, what was remembered stays (RFC 9175, 2.3)
abbrev pub Remembers : ℕ → ℕ → DecidedFresh → Wishes → Wishes → Type 0
Remembers number now (fresh.Challenged n) wishes after = last_of after ≡ Some (record { number = number; moment = now })
Remembers number now x wishes after = after ≡ wishes

-- so many bytes stand at the front of the room: the challenge, or the reply of what was decided (own rule)
abbrev pub reply_of : DecidedFresh → ℕ
reply_of (fresh.Challenged n) = n
reply_of (fresh.Unanswered e) = 0
reply_of (fresh.Decided d) = d.reply

-- so many times more the record failed: once if that is why there is no answer, else not (own rule)
abbrev pub failures_more : DecidedFresh → ℕ
failures_more (fresh.Unanswered replies.KeeperFailed) = 1
failures_more x = 0

-- the peer delivers a request that isn't known to be fresh, and that is challenged; before is the caller's room when it was decided (RFC 8613, 7.3)
pub record AsksAnew {R : Type 0} {r : keeper.Ghosts R} {N : ℕ} (wishes : Wishes) (now mid : ℕ) (decided : Decided) (left : List ℕ) (x : DecidedFresh) (before out : List ℕ) (after : Wishes) (old new : KeptPeer R N r) : Type 0 where
  pub read : ReadRequest
  pub ticket : Ticket
  pub is : decided.decision ≡ decisions.Deliver read ticket
  pub stale : (received : Received) → ReadsAs read left received → IsFresh wishes.fresh_ms (last_of wishes) received.message now → ⊥
  pub challenges : Challenges mid ticket x out old new
  pub remembers : Remembers (upcoming (own_in old.source)) now x wishes after
  pub behind : drop (reply_of x) out ≡ drop (reply_of x) before
  pub failures : r.failures new.source.keeper ≡ r.failures old.source.keeper + failures_more x
  pub client : new.client ≡ old.client
  pub rises : r.received_floor old.source.keeper ≤ r.received_floor new.source.keeper

-- so it does with a datagram, about which it decided before; room is the caller's room as it came (RFC 8613, 7.3 and 8.2)
pub record DecidesAndAsks {R : Type 0} {r : keeper.Ghosts R} {N : ℕ} (wishes : Wishes) (now mid : ℕ) (d left : List ℕ) (x : DecidedFresh) (room out : List ℕ) (after : Wishes) (old new : KeptPeer R N r) : Type 0 where
  pub decided : Decided
  pub before : List ℕ
  pub between : KeptPeer R N r
  pub decides : (h : server.History) → ServerIsBehind old.server (upcoming (own_in old.source)) h
      → PeerDecides h now (record { echo = echo_of (upcoming (own_in old.source)); mid = mid }) d decided left (take decided.reply before) (own_in old.source) (own_in between.source)
      between.server
  pub behind : drop decided.reply before ≡ drop decided.reply room
  pub kept : DeliversBelow decided.decision (r.received_floor between.source.keeper)
  pub failures : r.failures between.source.keeper ≡ r.failures old.source.keeper
  pub client : between.client ≡ old.client
  pub rises : r.received_floor old.source.keeper ≤ r.received_floor between.source.keeper
  pub asks : AsksAnew wishes now mid decided left x before out after between new
