-- To be believed: a peer that delivers fresh requests alone, within the list of what happens at two devices (RFC 8613, 7.3, 8.2 and 8.3; RFC 9175, 2.3). w is the
-- list before, u the list in between, s the context as the device asks under it, old, between and new are the peer before, in between and after.
use Rattle.std.specs.Prelude.{◌≡◌, ℕ, List, Some, take, true}
use Rattle.osc_context.specs.SecurityContext.{SecurityContext}
use Rattle.osc_context.specs.declared.record_keeper.RecordKeeper as keeper
use Rattle.osc_endpoint.specs.Tickets.{TakesTickets}
use Rattle.osc_life.specs.LifeAnswer.{asks_own}
use Rattle.osc_life.specs.ServerHistory as server
use Rattle.osc_life.specs.Views.{values_of}
use Rattle.osc_life.specs.declared.server_error.ReplyError.TheVariants as replies
use Rattle.osc_life.specs.declared.ticket.Ticket.{Ticket}
use Rattle.osc_observe.specs.Received.{Received}
use Rattle.osc_kept_ends.specs.declared.kept_peer.KeptPeer.{KeptPeer}
use Rattle.osc_kept_ends.specs.EchoNumber.{echo_of}
use Rattle.osc_kept_ends.specs.Numbering.{upcoming}
use Rattle.osc_kept_ends.specs.PeerOwning.{own_in}
use Rattle.osc_kept.specs.World.{AtServer, server_history}
use Rattle.osc_fresh.specs.declared.decided_fresh.DecidedFresh.{DecidedFresh}
use Rattle.osc_fresh.specs.declared.decided_fresh.DecidedFresh.TheVariants as fresh
use Rattle.osc_fresh.specs.Wishing.{unobeyed_message}
use Rattle.osc_peers.specs.Peers.{Back, Peers, back}
use Rattle.osc_peers.specs.Roles.{turned}
use Rattle.osc_peer_calls.specs.GoingOn.{Adds, server_skip}
use Rattle.osc_peer_calls.specs.PeerCalls.{After, AnswersAfter, RunsIn}

-- each reply of the device so far took a ticket that a delivery gave and that no earlier one took (own rule)
abbrev pub TicketsAreTaken : SecurityContext → Peers → Type 0
TicketsAreTaken s w = (h : server.History) → server_history (turned s) (back w) ≡ Some h → TakesTickets h

-- the challenge to a ticket's request is added, or its refusal; if the record failed, nothing is (RFC 8613, 8.3; RFC 9175, 2.3 and A, method 3)
abbrev pub ChallengesAfter : {R : Type 0} {r : keeper.Ghosts R} {N : ℕ} → SecurityContext → Peers → ℕ → Ticket → DecidedFresh → List ℕ → KeptPeer R N r → KeptPeer R N r → Type 0
ChallengesAfter s u mid t (fresh.Challenged n) out between new =
    AnswersAfter s u (server.Reply (values_of t) (asks_own (values_of t) true) mid (unobeyed_message (echo_of (upcoming (own_in between.source)))) 64) (server.Replied (take n out)) new
ChallengesAfter s u mid t (fresh.Unanswered replies.KeeperFailed) out between new = RunsIn s u new
ChallengesAfter s u mid t (fresh.Unanswered e) out between new =
    AnswersAfter s u (server.Reply (values_of t) (asks_own (values_of t) true) mid (unobeyed_message (echo_of (upcoming (own_in between.source)))) 64) (server.NotReplied e) new
ChallengesAfter s u mid t (fresh.Decided d) out between new = Unit {0}

-- the delivery of a request that isn't known to be fresh is added, and then its challenge (RFC 8613, 7.3, 8.2 and 8.3)
pub record AsksAnewInList {R : Type 0} {r : keeper.Ghosts R} {N : ℕ} (s : SecurityContext) (w : Peers) (now mid : ℕ) (d : List ℕ) (x : DecidedFresh) (out : List ℕ) (old new : KeptPeer R N r) : Type 0 where
  pub received : Received
  pub ticket : Ticket
  pub reply : List ℕ
  pub between : KeptPeer R N r
  pub u : Peers
  pub adds : Adds server_skip w (Back (AtServer (server.Datagram now (echo_of (upcoming (own_in old.source))) mid d) (server.Took (server.Deliver received (values_of ticket)) reply))) u
  pub after : After s w u between
  pub challenges : ChallengesAfter s u mid ticket x out between new
