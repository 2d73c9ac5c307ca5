-- A datagram that is decided about, and a request that is challenged. w is the list before, u the list in between, old, between and new are the peer before, in
-- between and after.
use Rattle.std.proofs.Common.{◌≡◌, ◌||◌, ℕ, ◌∙◌, sym, ap, subst, refl, inl, inr, Bool, true, false, Option, Some, None, List, [], ◌∷◌, take}
use Rattle.std.specs.Prelude.{IfOk, Result, Ok, Err}
use Rattle.std.specs.Option.{option_map}
use Rattle.osc_context.specs.SecurityContext.{SecurityContext}
use Rattle.osc_context.specs.declared.record_keeper.RecordKeeper as keeper
use Rattle.osc_endpoint.specs.Tickets.{AreLeft, TakesTickets}
use Rattle.osc_life.specs.Deciding as deciding
use Rattle.osc_life.specs.LifeAnswer.{asks_own}
use Rattle.osc_life.specs.ServerHistory as server
use Rattle.osc_life.specs.Views.{values_of}
use Rattle.osc_life.specs.declared.decision.Decided.{Decided}
use Rattle.osc_life.specs.declared.decision.Decision.TheVariants as decisions
use Rattle.osc_life.specs.declared.server_error.ReplyError.TheVariants as replies
use Rattle.osc_life.specs.declared.ticket.Ticket.{Ticket}
use Rattle.osc_observe.specs.Received.{Received}
use Rattle.osc_protect.specs.declared.stages.ReadRequest.{ReadRequest}
use Rattle.osc_kept_ends.specs.declared.kept_peer.KeptPeer.{KeptPeer}
use Rattle.osc_kept_ends.specs.EchoNumber.{echo_of}
use Rattle.osc_kept_ends.specs.Numbering.{upcoming}
use Rattle.osc_kept_ends.specs.PeerOwning.{own_in}
use Rattle.osc_kept_ends.specs.Peering.{DeliversBelow, PeerDecides, PeerStep, ServerIsBehind}
use Rattle.osc_kept_ends.proofs.PeerSteps.{kept_behind, server_at, upcoming_on}
use Rattle.osc_kept.specs.EchoNumbers.{sealed_echo}
use Rattle.osc_kept.specs.InWorld.{IsHeld}
use Rattle.osc_kept.specs.World.{AtServer, server_history}
use Rattle.osc_fresh.specs.declared.decided_fresh.DecidedFresh.{DecidedFresh}
use Rattle.osc_fresh.specs.declared.decided_fresh.DecidedFresh.TheVariants as fresh
use Rattle.osc_fresh.specs.declared.wishes.Wishes.{Wishes}
use Rattle.osc_fresh.specs.Admitting.{Challenges, DecidesAndAsks, IfDecided, IfStale}
use Rattle.osc_fresh.specs.Wishing.{unobeyed_message}
use Rattle.osc_peers.specs.Peers.{Back, Peers, back}
use Rattle.osc_peers.specs.Roles.{turned}
use Rattle.osc_peer_calls.specs.AskingAnew.{AsksAnewInList, ChallengesAfter, TicketsAreTaken}
use Rattle.osc_peer_calls.specs.Counting.{AreCounted}
use Rattle.osc_peer_calls.specs.GoingOn.{Adds, AnswersInList, DeliversUnder, IsDrawn, IsPassed, server_skip}
use Rattle.osc_peer_calls.specs.PeerCalls.{AnswersAfter, DecidesInList, NobodyForgesTo, RunsIn}
use Rattle.osc_peer_calls.proofs.CallLemmas.{answers_after, decided_under, reply_trusts, runs_still, serves, serves_on}

-- ---- a decision

pub decided_after : {R : Type 0} {r : keeper.Ghosts R} {N : ℕ} → AnswersInList → (s : SecurityContext) (w : Peers) (old new : KeptPeer R N r) (runs : RunsIn s w old) (now mid : ℕ)
    (d left : List ℕ) (decided : Decided) (reply : List ℕ) → AreCounted N s w → NobodyForgesTo s w d
    → PeerDecides runs.h now (record { echo = echo_of (upcoming (own_in old.source)); mid = mid }) d decided left reply (own_in old.source) (own_in new.source) new.server
    → DeliversBelow decided.decision (r.received_floor new.source.keeper) → new.client ≡ old.client → DecidesInList s w now mid d decided.decision left reply old new
decided_after law s w old new runs now mid d left decided reply counted forges does below client_is =
    let step = does.decides.step in
    let is = server_at new.server _ (upcoming does.mid) (upcoming (own_in new.source)) (upcoming_on does.mid (own_in new.source) does.kept_on) (kept_behind _ _ _ step.kept) in (
      does.decides.answer,
      does.decides.decides,
      answers_after law s w old new runs does.g _ _ counted (inr does.passes) tt refl step.row (serves_on _ _ _ _ does.mid (own_in new.source) _ step does.kept_on) forges is client_is
          (decided_under decided.decision left does.decides.answer reply _ does.decides.decides below),
    )

-- ---- the ticket of a delivery is held

abbrev Taken : Option server.History → Type 0
Taken o = (h : server.History) → o ≡ Some h → TakesTickets h

skipped : (o : Option server.History) (count : ℕ) → Taken o → Taken (option_map (λ h. server.Then h (server.Skip 0 count) server.Skipped) o)
skipped None count all h e = cc
skipped (Some g) count all h e =
    let (ts, left) = all g refl in
    let is : server.Then g (server.Skip 0 count) server.Skipped ≡ h = cc in
    (ts, subst (λ x. AreLeft x ts) is left)

passed : (s : SecurityContext) (w p : Peers) → IsPassed server_skip w p → TicketsAreTaken s w → TicketsAreTaken s p
passed s w p (inl e) all = subst (λ x. TicketsAreTaken s x) (sym e) all
passed s w p (inr (count, e)) all = subst (λ x. TicketsAreTaken s x) (sym e) (skipped (server_history (turned s) (back w)) count all)

drawn : (s : SecurityContext) (w p : Peers) → IsDrawn w p → TicketsAreTaken s w → TicketsAreTaken s p
drawn s w p (inl e) all = subst (λ x. TicketsAreTaken s x) (sym e) all
drawn s w p (inr (inl e)) all = subst (λ x. TicketsAreTaken s x) (sym e) all
drawn s w p (inr (inr e)) all = subst (λ x. TicketsAreTaken s x) (sym e) all

gives : (o : Option server.History) (now mid : ℕ) (echo d reply : List ℕ) (received : Received) (t : server.TicketValues) → Taken o → (h : server.History)
    → option_map (λ g. server.Then g (server.Datagram now echo mid d) (server.Took (server.Deliver received t) reply)) o ≡ Some h → IsHeld h t
gives None now mid echo d reply received t all h e = cc
gives (Some g) now mid echo d reply received t all h e =
    let (ts, left) = all g refl in
    let is : server.Then g (server.Datagram now echo mid d) (server.Took (server.Deliver received t) reply) ≡ h = cc in
    (t ∷ ts, ts, subst (λ x. AreLeft x (t ∷ ts)) is (ts, left, refl), ([], ts, refl, refl))

pub is_held : (s : SecurityContext) (w u : Peers) (now mid : ℕ) (echo d reply : List ℕ) (received : Received) (t : server.TicketValues)
    → Adds server_skip w (Back (AtServer (server.Datagram now echo mid d) (server.Took (server.Deliver received t) reply))) u → TicketsAreTaken s w
    → (h : server.History) → server_history (turned s) (back u) ≡ Some h → IsHeld h t
is_held s w u now mid echo d reply received t adds all h e =
    gives (server_history (turned s) (back adds.drawn)) now mid echo d reply received t (drawn s adds.passed adds.drawn adds.draws (passed s w adds.passed adds.passes all)) h
    (sym (ap (λ x. server_history (turned s) (back x)) adds.ends) ∙ e)

-- ---- the challenge

pub asked : (t : server.TicketValues) → asks_own t true ≡ true
asked t = go t.observes
  where
    go : (b : Bool) → (b || true) ≡ true
    go true = refl
    go false = refl

pub says : (n : ℕ) → sealed_echo (unobeyed_message (echo_of n)) ≡ Some (echo_of n)
says n = refl

answered_so : {R : Type 0} {r : keeper.Ghosts R} {N : ℕ} → AnswersInList → (s : SecurityContext) (u : Peers) (between new : KeptPeer R N r) (runs : RunsIn s u between) (mid : ℕ) (t : Ticket)
    (entry : server.Entry) → AreCounted N s u → IsHeld runs.h (values_of t) → new.client ≡ between.client → DeliversUnder entry (r.received_floor new.source.keeper)
    → ((h : server.History) → ServerIsBehind between.server (upcoming (own_in between.source)) h
    → PeerStep h (server.Reply (values_of t) (asks_own (values_of t) true) mid (unobeyed_message (echo_of (upcoming (own_in between.source)))) 64) entry (own_in between.source) (own_in new.source) new.server)
    → AnswersAfter s u (server.Reply (values_of t) (asks_own (values_of t) true) mid (unobeyed_message (echo_of (upcoming (own_in between.source)))) 64) entry new
answered_so law s u between new runs mid t entry counted held client_is under does =
    let (h, passes, step) = does runs.h runs.server in
    let v = values_of t in
    let n : ℕ = upcoming (own_in between.source) in
    let p = unobeyed_message (echo_of n) in
    answers_after law s u between new runs h (server.Reply v (asks_own v true) mid p 64) entry counted (inr passes) tt (inr (asked v, says n)) step.row (serves _ _ _ _ _ _ step)
    (reply_trusts (turned s) (back u) runs.h v (asks_own v true) mid p 64 entry held) (kept_behind _ _ _ step.kept) client_is under

challenged : {R : Type 0} {r : keeper.Ghosts R} {N : ℕ} → AnswersInList → (s : SecurityContext) (u : Peers) (between new : KeptPeer R N r) (runs : RunsIn s u between) (mid : ℕ) (t : Ticket)
    (x : DecidedFresh) (out : List ℕ) → AreCounted N s u → IsHeld runs.h (values_of t) → new.client ≡ between.client → Challenges mid t x out between new → ChallengesAfter s u mid t x out between new
challenged law s u between new runs mid t (fresh.Challenged n) out counted held client_is does =
    answered_so law s u between new runs mid t (server.Replied (take n out)) counted held client_is tt does
challenged law s u between new runs mid t (fresh.Unanswered replies.KeeperFailed) out counted held client_is does = runs_still s u between new does.0 client_is does.1 runs
challenged law s u between new runs mid t (fresh.Unanswered e) out counted held client_is does = answered_so law s u between new runs mid t (server.NotReplied e) counted held client_is tt does
challenged law s u between new runs mid t (fresh.Decided d) out counted held client_is does = tt

given_as : (read : ReadRequest) (t : Ticket) (left : List ℕ) (answer : server.Answer) → deciding.Decides (decisions.Deliver read t) left answer
    → (received : Received) × (answer ≡ server.Deliver received (values_of t))
given_as read t left (server.Deliver received ticket) is = (received, ap (λ v. server.Deliver received v) (sym is.1))
given_as read t left answer is = absurd is

pub asks_anew : {R : Type 0} {r : keeper.Ghosts R} {N : ℕ} → AnswersInList → (s : SecurityContext) (w : Peers) (old new : KeptPeer R N r) (runs : RunsIn s w old) (wishes left_wishes : Wishes)
    (now mid : ℕ) (d left : List ℕ) (x : DecidedFresh) (room out : List ℕ) → AreCounted N s w → NobodyForgesTo s w d → TicketsAreTaken s w
    → DecidesAndAsks wishes now mid d left x room out left_wishes old new → AsksAnewInList s w now mid d x out old new
asks_anew law s w old new runs wishes left_wishes now mid d left x room out counted forges taken a =
    let reply : List ℕ = take a.decided.reply a.before in
    let (answer, is, added) = decided_after law s w old a.between runs now mid d left a.decided reply counted forges (a.decides runs.h runs.server) a.kept a.client in
    let (v, adds, aft) = added in
    let (received, e) = given_as a.asks.read a.asks.ticket left answer (subst (λ z. deciding.Decides z left answer) a.asks.is is) in
    let t = values_of a.asks.ticket in
    let given = subst (λ z. Adds server_skip w (Back (AtServer (server.Datagram now (echo_of (upcoming (own_in old.source))) mid d) (server.Took z reply))) v) e adds in
    record {
      received = received;
      ticket = a.asks.ticket;
      reply = reply;
      between = a.between;
      u = v;
      adds = given;
      after = aft;
      challenges = challenged law s v a.between new aft.runs mid a.asks.ticket x out aft.claimed.counted
          (is_held s w v now mid (echo_of (upcoming (own_in old.source))) d reply received t given taken aft.runs.h aft.runs.runs.server_is) a.asks.client a.asks.challenges;
    }

-- ---- what several clauses say of a decision gives another thing

pub both_decided : {E : Type 0} {P Q S : Decided → Type 0} (r : Result DecidedFresh E) → ((d : Decided) → P d → Q d → S d) → IfOk r (λ x. IfDecided x P) → IfOk r (λ x. IfDecided x Q)
    → IfOk r (λ x. IfDecided x S)
both_decided (Ok (fresh.Decided d)) f p q = f d p q
both_decided (Ok x) f p q = tt
both_decided (Err e) f p q = tt

pub stale_then : {E : Type 0} {P Q : DecidedFresh → Type 0} (r : Result DecidedFresh E) → ((x : DecidedFresh) → P x → Q x) → IfOk r (λ x. IfStale x (P x)) → IfOk r (λ x. IfStale x (Q x))
stale_then (Ok (fresh.Decided d)) f p = tt
stale_then (Ok (fresh.Challenged n)) f p = f (fresh.Challenged n) p
stale_then (Ok (fresh.Unanswered e)) f p = f (fresh.Unanswered e) p
stale_then (Err e) f p = tt
