-- A datagram of which no request is delivered that isn't known to be fresh, as a step of a run. w and v are what the server wishes before and after, a is the
-- datagram's arrival.
use Rattle.std.proofs.Common.{◌≡◌, ◌<◌, ◌^◌, ◌∙◌, Bor, ℕ, ap, sym, subst, refl, arith, true, List, [], take, Option, Some, None, Ok, Err}
use Rattle.std.specs.Option.{ForSome, option_map}
use Rattle.osc_coap.specs.Inner.{InnerParts}
use Rattle.osc_context.specs.Views.{number_of}
use Rattle.osc_context.specs.declared.record_keeper.RecordKeeper as keeper
use Rattle.osc_endpoint.specs.declared.server.ServerOf.{ServerOf}
use Rattle.osc_endpoint.specs.declared.server_event.SealedResponse.{SealedResponse}
use Rattle.osc_endpoint.specs.declared.server_event.ServerEntry.TheVariants as served
use Rattle.osc_life.specs.Deciding.{Decides}
use Rattle.osc_life.specs.LifeAnswer.{asks_own}
use Rattle.osc_life.specs.Logged.{Logs, ticket_of}
use Rattle.osc_life.specs.ServerHistory as server
use Rattle.osc_life.specs.Views.{values_of}
use Rattle.osc_life.specs.declared.decision.Decided.{Decided}
use Rattle.osc_life.specs.declared.decision.Decision.{Decision}
use Rattle.osc_life.specs.declared.decision.Decision.TheVariants as decisions
use Rattle.osc_life.specs.declared.seen.Seen.{Seen}
use Rattle.osc_life.specs.declared.seen.Seen.TheVariants as seen
use Rattle.osc_life.specs.declared.server_error.ReplyError.{ReplyError}
use Rattle.osc_life.specs.declared.server_error.ReplyError.TheVariants as replies
use Rattle.osc_observe.specs.Received.{Received}
use Rattle.osc_kept_ends.specs.declared.kept_peer.KeptPeer.{KeptPeer}
use Rattle.osc_kept_ends.specs.declared.peer_source.PeerSource.{PeerSource}
use Rattle.osc_kept_ends.specs.EchoNumber.{echo_of}
use Rattle.osc_kept_ends.specs.KeptServing.{KeptStep}
use Rattle.osc_kept_ends.specs.Numbering.{upcoming}
use Rattle.osc_kept_ends.specs.PeerOwning.{own_in}
use Rattle.osc_kept_ends.specs.Peering.{DeliversBelow, PeerDecides, ServerIsBehind}
use Rattle.osc_kept_ends.proofs.PeerSteps.{from_delivery, kept_behind, server_at, some_is, upcoming_on}
use Rattle.osc_kept_ends.proofs.ServerSteps.{reply_left}
use Rattle.osc_fresh.specs.Admitting.{DecidesAndAsks, IfDecided, IfStale}
use Rattle.osc_fresh.specs.Views.{last_of}
use Rattle.osc_fresh.specs.Wishing.{Asked, IsFresh}
use Rattle.osc_fresh.specs.declared.decided_fresh.DecidedFresh.{DecidedFresh}
use Rattle.osc_fresh.specs.declared.decided_fresh.DecidedFresh.TheVariants as fresh
use Rattle.osc_fresh.specs.declared.wishes.Wishes.{Wishes}
use Rattle.osc_peer_runs.specs.declared.peer_event.PeerArrival.{PeerArrival}
use Rattle.osc_peer_runs.specs.declared.peer_event.PeerEntry.TheVariants as entries
use Rattle.osc_peer_runs.specs.PeerRuns.{FreshStep, IfDelivered, Serves, TakesStale, Worked, asking_anew}
use Rattle.osc_peer_runs.proofs.PeerRunLemmas.{asks_all, serves_step, took_step}

-- ---- what is said of a decision that is known

pub stale_of : (x y : DecidedFresh) (P : DecidedFresh → Type 0) → x ≡ y → IfStale x (P x) → IfStale y (P y)
stale_of x y P is holds = subst (λ z. IfStale z (P z)) is holds

pub decided_of : (x : DecidedFresh) (d : Decided) (P : Decided → Type 0) → x ≡ fresh.Decided d → IfDecided x P → P d
decided_of x d P is holds = subst (λ z. IfDecided z P) is holds

-- ---- what is delivered

-- the ticket of what was decided is below what the record holds
decided_below : (decision : Decision) (left : List ℕ) (answer : server.Answer) (floor : ℕ) → Decides decision left answer → DeliversBelow decision floor
    → ForSome (ticket_of answer) (λ t. t.number < floor)
decided_below (decisions.Deliver x t) left (server.Deliver received ticket) floor decides below =
    λ v is. subst (λ (z : server.TicketValues). z.number < floor) (decides.1 ∙ some_is is) below
decided_below decision left (server.Deliver received ticket) floor decides below = absurd decides
decided_below decision left answer floor decides below = λ v is. absurd (let e : None ≡ Some v = is in cc)

-- what holds of the message of an answer holds of that of its entry
delivered_holds : (x : Seen) (reply : Bor (List ℕ)) (answer : server.Answer) (holds : InnerParts → Type 0) → Logs x answer
    → ((received : Received) (ticket : server.TicketValues) → answer ≡ server.Deliver received ticket → holds received.message) → IfDelivered (served.Took x reply) holds
delivered_holds (seen.Deliver opened context number) reply (server.Deliver received ticket) holds logs told =
    subst holds (sym (ap (λ (z : Received). z.message) logs.0)) (told received ticket refl)
delivered_holds (seen.Deliver opened context number) reply answer holds logs told = absurd logs
delivered_holds x reply answer holds logs told = tt

-- what was decided about a datagram is a step, behind which the server is
pub decided_step : {R : Type 0} {r : keeper.Ghosts R} (h : server.History) (old new : PeerSource R r) (after : ServerOf 1) (a : PeerArrival) (w : Wishes) (decided : Decided) (left : List ℕ)
    (reply : Bor (List ℕ)) (x : Seen) (o : Option server.TicketValues)
    → PeerDecides h a.now (record { echo = echo_of (upcoming (own_in old)); mid = a.mid }) a.bytes.items decided left reply.now (own_in old) (own_in new) after
    → DeliversBelow decided.decision (r.received_floor new.keeper) → Worked old new
    → ((received : Received) (ticket : server.TicketValues) → Decides decided.decision left (server.Deliver received ticket) → IsFresh w.fresh_ms (last_of w) received.message a.now)
    → ((answer : server.Answer) → Decides decided.decision left answer → Logs x answer × (o ≡ ticket_of answer))
    → (g : server.History) × FreshStep h old (last_of w) w.fresh_ms a (entries.Served (served.Took x reply)) g new (last_of w) o × ServerIsBehind after (upcoming (own_in new)) g
decided_step {r = r} h old new after a w decided left reply x o p below worked recent told =
    let answer = p.decides.answer in
    let decides = p.decides.decides in
    let step = p.decides.step in
    let logs = told answer decides in
    let g = server.Then p.g (server.Datagram a.now (echo_of (upcoming (own_in old))) a.mid a.bytes.items) (server.Took answer reply.now) in (
      g,
      (
        took_step h old a x reply g new o answer logs.0 (p.g, p.passes, (step.row, refl), p.mid, step.numbers, p.kept_on, worked) logs.1
            (decided_below decided.decision left answer (r.received_floor new.keeper) decides below),
        delivered_holds x reply answer (λ m. IsFresh w.fresh_ms (last_of w) m a.now) logs.0
            (λ received ticket is. recent received ticket (subst (Decides decided.decision left) is decides)),
        refl,
      ),
      server_at after g (upcoming p.mid) (upcoming (own_in new)) (upcoming_on p.mid (own_in new) p.kept_on) (kept_behind after g (upcoming p.mid) step.kept),
    )

-- ---- what is challenged

-- a request that isn't known to be fresh was taken, and the server is behind that
abbrev Stale : {R : Type 0} {r : keeper.Ghosts R} {N : ℕ} → server.History → Wishes → PeerArrival → KeptPeer R N r → KeptPeer R N r → server.TicketValues → Type 0
Stale h w a old new t = (g : server.History) × TakesStale h old.source (last_of w) w.fresh_ms a g new.source t × ServerIsBehind new.server (upcoming (own_in new.source)) g

taken_stale : {R : Type 0} {r : keeper.Ghosts R} {N : ℕ} (h : server.History) (w v : Wishes) (a : PeerArrival) (left : List ℕ) (x : DecidedFresh) (room out : List ℕ) (old new : KeptPeer R N r)
    (s : DecidesAndAsks w a.now a.mid a.bytes.items left x room out v old new) → ServerIsBehind old.server (upcoming (own_in old.source)) h → Stale h w a old s.between (values_of s.asks.ticket)
taken_stale {r = r} h w v a left x room out old new s b =
    let p = s.decides h b in
    let mid = s.between in
    let t = values_of s.asks.ticket in
    let event = server.Datagram a.now (echo_of (upcoming (own_in old.source))) a.mid a.bytes.items in
    let decides = subst (λ (z : Decision). Decides z left p.decides.answer) s.asks.is p.decides.decides in
    let (received, is) = from_delivery s.asks.read s.asks.ticket left p.decides.answer decides in
    let delivered = subst (λ (z : server.Answer). KeptStep p.g event (server.Took z (take s.decided.reply s.before)) (own_in old.source) p.mid mid.server) is p.decides.step in
    let step = subst (λ (z : List ℕ). KeptStep p.g event (server.Took (server.Deliver received t) z) (own_in old.source) p.mid mid.server) delivered.row.1 delivered in
    let g = server.Then p.g event (server.Took (server.Deliver received t) []) in (
      g,
      (
        received,
        (p.g, p.passes, (step.row, refl), p.mid, step.numbers, p.kept_on, (s.failures, s.rises)),
        (λ known. s.asks.stale received (subst (Decides (decisions.Deliver s.asks.read s.asks.ticket) left) is decides).0 known),
        subst (λ (z : Decision). DeliversBelow z (r.received_floor mid.source.keeper)) s.asks.is s.kept,
      ),
      server_at mid.server g (upcoming p.mid) (upcoming (own_in mid.source)) (upcoming_on p.mid (own_in mid.source) p.kept_on) (kept_behind mid.server g (upcoming p.mid) step.kept),
    )

-- and challenged
pub challenged_step : {R : Type 0} {r : keeper.Ghosts R} {N : ℕ} (h : server.History) (w v : Wishes) (a : PeerArrival) (left : List ℕ) (n : ℕ) (room out : List ℕ) (sealed : SealedResponse) (old new : KeptPeer R N r)
    → sealed.datagram.now ≡ take n out
    → ((number : ℕ) → option_map (λ c. c.number) (last_of v) ≡ Some number → number < 2 ^ 40 → option_map number_of sealed.number ≡ Some number)
    → DecidesAndAsks w a.now a.mid a.bytes.items left (fresh.Challenged n) room out v old new → ServerIsBehind old.server (upcoming (own_in old.source)) h
    → (g : server.History) × FreshStep h old.source (last_of w) w.fresh_ms a (entries.Challenged (Ok sealed)) g new.source (last_of v) None × ServerIsBehind new.server (upcoming (own_in new.source)) g
challenged_step {r = r} h w v a left n room out sealed old new is numbered s b =
    let t = values_of s.asks.ticket in
    let mid = s.between in
    let (between, stale, behind) = taken_stale h w v a left (fresh.Challenged n) room out old new s b in
    let failures : r.failures new.source.keeper ≡ r.failures mid.source.keeper = omega (arith, s.asks.failures) in
    let (g, serves, after) = serves_step between (asking_anew t a.mid mid.source) (server.Replied (take n out)) mid.source new.source new.server (s.asks.challenges between behind) (failures, s.asks.rises) in
    let said = subst (λ (z : List ℕ). Serves between (asking_anew t a.mid mid.source) (server.Replied z) mid.source g new.source) (sym is) serves in
    let (passed, passes, step) = s.asks.challenges between behind in
    let left = reply_left passed t (asks_own t true) a.mid _ _ _ (own_in mid.source) _ _ step (asks_all t) in
    let number = numbered (upcoming (own_in mid.source)) (ap (option_map (λ (c : Asked). c.number)) s.asks.remembers) left in
    (g, (between, mid.source, t, stale, said, s.asks.remembers, refl, number), after)

-- or not, for this reason
pub unanswered_step : {R : Type 0} {r : keeper.Ghosts R} {N : ℕ} (h : server.History) (w v : Wishes) (a : PeerArrival) (left : List ℕ) (e : ReplyError) (room out : List ℕ) (old new : KeptPeer R N r)
    → DecidesAndAsks w a.now a.mid a.bytes.items left (fresh.Unanswered e) room out v old new → ServerIsBehind old.server (upcoming (own_in old.source)) h
    → (g : server.History) × FreshStep h old.source (last_of w) w.fresh_ms a (entries.Challenged (Err e)) g new.source (last_of v) None × ServerIsBehind new.server (upcoming (own_in new.source)) g
unanswered_step {r = r} h w v a left replies.KeeperFailed room out old new s b =
    let t = values_of s.asks.ticket in
    let mid = s.between in
    let (between, stale, behind) = taken_stale h w v a left (fresh.Unanswered replies.KeeperFailed) room out old new s b in
    let same = s.asks.challenges in (
      between,
      (between, mid.source, t, stale, refl, same.1, (s.asks.failures, s.asks.rises), ap last_of s.asks.remembers, refl),
      server_at new.server between (upcoming (own_in mid.source)) (upcoming (own_in new.source)) (ap upcoming same.1)
          (subst (λ (z : ServerOf 1). ServerIsBehind z (upcoming (own_in mid.source)) between) (sym same.0) behind),
    )
unanswered_step {r = r} h w v a left e room out old new s b =
    let t = values_of s.asks.ticket in
    let mid = s.between in
    let (between, stale, behind) = taken_stale h w v a left (fresh.Unanswered e) room out old new s b in
    let failures : r.failures new.source.keeper ≡ r.failures mid.source.keeper = omega (arith, s.asks.failures) in
    let (g, serves, after) = serves_step between (asking_anew t a.mid mid.source) (server.NotReplied e) mid.source new.source new.server (s.asks.challenges between behind) (failures, s.asks.rises) in
    (g, (between, mid.source, t, stale, serves, ap last_of s.asks.remembers, refl), after)
