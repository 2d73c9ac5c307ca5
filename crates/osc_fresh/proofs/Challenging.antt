-- What a peer does that wants fresh requests, by cases.
use Rattle.std.proofs.Common.{◌≡◌, ◌≢◌, ℕ, ◌+◌, List, arith, refl, true}
use Rattle.osc_context.specs.declared.record_keeper.RecordKeeper as keeper
use Rattle.osc_life.specs.Deciding.{Decides}
use Rattle.osc_life.specs.LifeAnswer.{asks_own}
use Rattle.osc_life.specs.ServerHistory as server
use Rattle.osc_life.specs.Views.{values_of}
use Rattle.osc_life.specs.declared.decision.Decision.{Decision}
use Rattle.osc_life.specs.declared.decision.Decision.TheVariants as decisions
use Rattle.osc_life.specs.declared.server_error.ReplyError.{ReplyError}
use Rattle.osc_life.specs.declared.server_error.ReplyError.TheVariants as replies
use Rattle.osc_life.specs.declared.ticket.Ticket.{Ticket}
use Rattle.osc_observe.specs.Received.{Received}
use Rattle.osc_protect.specs.declared.stages.ReadRequest.{ReadRequest}
use Rattle.osc_kept_ends.specs.declared.kept_peer.KeptPeer.{KeptPeer}
use Rattle.osc_kept_ends.specs.EchoNumber.{echo_of}
use Rattle.osc_kept_ends.specs.Numbering.{upcoming}
use Rattle.osc_kept_ends.specs.Peering.{PeerStep, ServerIsBehind}
use Rattle.osc_kept_ends.specs.PeerOwning.{own_in}
use Rattle.osc_fresh.specs.declared.decided_fresh.DecidedFresh.TheVariants as fresh
use Rattle.osc_fresh.specs.declared.decided_fresh.DecidedFresh.{DecidedFresh}
use Rattle.osc_fresh.specs.Admitting.{Challenges, IfStale, failures_more}
use Rattle.osc_fresh.specs.Wishing.{unobeyed_message}

pub unanswered : {R : Type 0} {r : keeper.Ghosts R} {N : ℕ} (mid : ℕ) (t : Ticket) (e : ReplyError) (out : List ℕ) (old new : KeptPeer R N r)
    → (e ≢ replies.KeeperFailed → (h : server.History) → ServerIsBehind old.server (upcoming (own_in old.source)) h
    → PeerStep h (server.Reply (values_of t) (asks_own (values_of t) true) mid (unobeyed_message (echo_of (upcoming (own_in old.source)))) 64) (server.NotReplied e)
    (own_in old.source) (own_in new.source) new.server)
    → (e ≡ replies.KeeperFailed → (new.server ≡ old.server) × (own_in new.source ≡ own_in old.source)) → Challenges mid t (fresh.Unanswered e) out old new
unanswered mid t replies.KeeperFailed out old new f g = g refl
unanswered mid t e out old new f g = f (λ x. cc)

pub failed_more : (e : ReplyError) (old new : ℕ) → (e ≢ replies.KeeperFailed → new ≡ old) → (e ≡ replies.KeeperFailed → new ≡ old + 1) → new ≡ old + failures_more (fresh.Unanswered e)
failed_more replies.KeeperFailed old new f g = g refl
failed_more e old new f g = omega (arith, f (λ x. cc))

pub not_delivered : (decision : Decision) (left : List ℕ) (received : Received) (ticket : server.TicketValues) → ((x : ReadRequest) (t : Ticket) → decision ≡ decisions.Deliver x t → ⊥)
    → Decides decision left (server.Deliver received ticket) → ⊥
not_delivered (decisions.Deliver x t) left received ticket none d = none x t refl
not_delivered decision left received ticket none d = d

pub weaker : {P Q : Type 0} (x : DecidedFresh) → (P → Q) → IfStale x P → IfStale x Q
weaker (fresh.Decided d) f h = tt
weaker (fresh.Challenged n) f h = f h
weaker (fresh.Unanswered e) f h = f h
