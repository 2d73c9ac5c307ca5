use Rattle.std.proofs.Common.{◌≡◌, ◌∙◌, ap, arith, drop, length, refl, subst, sym, take, List, ℕ}
use Rattle.std.proofs.lemmas.List.{take_at}
use Rattle.osc_fresh.specs.Admitting.{DecidesAndAsks}
use Rattle.osc_fresh.specs.Views.{last_of}
use Rattle.osc_fresh.specs.Wishing.{IsFresh}
use Rattle.osc_fresh.specs.declared.decided_fresh.DecidedFresh.{DecidedFresh}
use Rattle.osc_fresh.specs.declared.decided_fresh.DecidedFresh.TheVariants as fresh
use Rattle.osc_kept_ends.specs.EchoNumber.{echo_of}
use Rattle.osc_kept_ends.specs.Numbering.{upcoming}
use Rattle.osc_kept_ends.specs.PeerOwning.{own_in}
use Rattle.osc_kept_ends.specs.Peering.{DeliversBelow, PeerDecides, ServerIsBehind}
use Rattle.osc_life.specs.Deciding.{Decides}
use Rattle.osc_life.specs.ServerHistory.{Advance, Advanced, Deliver, History, Then, TicketValues}
use Rattle.osc_life.specs.declared.decision.Decided.{Decided}
use Rattle.osc_observe.specs.Received.{Received}
use Rattle.osc_peer_runs.proofs.FreshSteps.{challenged_step, decided_of, decided_step, stale_of, unanswered_step}
use Rattle.osc_peer_runs.proofs.serving.take_fresh.Goals as goal

pub returns-in-Ok-Challenged-clause-served : goal.returns-in-Ok-Challenged-clause-served
returns-in-Ok-Challenged-clause-served g c = λ h b.
    let a = c.args.arrival.now in
    let old = c.args.peer.now in
    let new = c.decide.new.peer in
    let asks : List ℕ → DecidedFresh → Type 0 = λ d x. DecidesAndAsks c.args.wishes.now a.now a.mid d c.decide.new.datagram x a.out c.decide.new.out c.decide.new.self old new in
    let s = stale_of c.in-Ok-Challenged.field-0 (fresh.Challenged c.in-Ok-Challenged.len) (asks c.deref_mut.result.now) c.in-Ok-Challenged.field-0-is c.in-Ok-Challenged.ensures.stale in
    challenged_step h c.args.wishes.now c.decide.new.self a c.decide.new.datagram c.in-Ok-Challenged.len a.out c.decide.new.out
    (record { number = c.sealed_number-number.result; datagram = record { ref_ptr = (0, 0); now = take c.in-Ok-Challenged.len c.decide.new.out } }) old new refl
    (λ n is below. c.sealed_number-number.ensures n (c.challenge_number.ensures ∙ is) (λ yes. below))
    (subst (λ (d : List ℕ). asks d (fresh.Challenged c.in-Ok-Challenged.len)) c.deref_mut.ensures.value s) b

pub returns-in-Ok-Unanswered-clause-served : goal.returns-in-Ok-Unanswered-clause-served
returns-in-Ok-Unanswered-clause-served g c = λ h b.
    let a = c.args.arrival.now in
    let old = c.args.peer.now in
    let new = c.decide.new.peer in
    let asks : List ℕ → DecidedFresh → Type 0 = λ d x. DecidesAndAsks c.args.wishes.now a.now a.mid d c.decide.new.datagram x a.out c.decide.new.out c.decide.new.self old new in
    let s = stale_of c.in-Ok-Unanswered.field-0 (fresh.Unanswered c.in-Ok-Unanswered.error) (asks c.deref_mut.result.now) c.in-Ok-Unanswered.field-0-is c.in-Ok-Unanswered.ensures.stale in
    unanswered_step h c.args.wishes.now c.decide.new.self a c.decide.new.datagram c.in-Ok-Unanswered.error a.out c.decide.new.out old new
    (subst (λ (d : List ℕ). asks d (fresh.Unanswered c.in-Ok-Unanswered.error)) c.deref_mut.ensures.value s) b

pub returns-in-Err-clause-served : goal.returns-in-Err-clause-served
returns-in-Err-clause-served g c = λ h b.
    let w = c.in-Err.ensures.waits refl h b in (
      Then w.g (Advance c.args.arrival.now.now) Advanced,
      ((w.g, w.passes, refl, w.mid, w.drawn, w.kept_on, (c.in-Err.ensures.failed refl, c.decide.ensures.rises), refl, refl), tt, ap last_of (c.in-Err.ensures.unchanged refl)),
      w.behind,
    )

pub returns-clause-served : goal.returns-clause-served
returns-clause-served g c = λ h b.
    let a = c.args.arrival.now in
    let w = c.args.wishes.now in
    let old = c.args.peer.now in
    let new = c.decide.new.peer in
    let left = c.decide.new.datagram in
    let x = c.in-Ok-Decided.field-0 in
    let decided = c.in-Ok-Decided.decided in
    let is = c.in-Ok-Decided.field-0-is in
    let said = c.in-Ok-Decided.ensures in
    let decides : List ℕ → Decided → Type 0 = λ bytes d.
    PeerDecides h a.now (record { echo = echo_of (upcoming (own_in old.source)); mid = a.mid }) bytes d left (take d.reply c.decide.new.out) (own_in old.source) (own_in new.source) new.server in
    let p = decided_of x decided (λ d. (k : History) → ServerIsBehind old.server (upcoming (own_in old.source)) k
    → PeerDecides k a.now (record { echo = echo_of (upcoming (own_in old.source)); mid = a.mid }) c.deref_mut.result.now d left (take d.reply c.decide.new.out) (own_in old.source) (own_in new.source) new.server) is said.passed h b in
    let below = decided_of x decided (λ d. DeliversBelow d.decision (g.R.RecordKeeper.received_floor new.source.keeper)) is said.kept in
    let worked = decided_of x decided (λ d. g.R.RecordKeeper.failures new.source.keeper ≡ g.R.RecordKeeper.failures old.source.keeper) is said.worked in
    let recent = decided_of x decided (λ d. (received : Received) (ticket : TicketValues) → Decides d.decision left (Deliver received ticket) → IsFresh w.fresh_ms (last_of w) received.message a.now) is said.recent in
    let lent : c.deref.result.now ≡ left = c.deref.ensures.value ∙ take_at left (drop (length left) a.bytes.items) a.bytes.len (omega (arith, c.decide.auto.datagram, c.deref_mut.ensures.len)) in
    let same = decided_of x decided (λ d. c.decide.new.self ≡ w) is said.same in
    let (after, step, behind) = decided_step h old.source new.source new.server a w decided left _ c.part-seen.result.0 _ (subst (λ (d : List ℕ). decides d decided) c.deref_mut.ensures.value p) below
    (worked, c.decide.ensures.rises) recent (λ answer d. c.part-seen.ensures.shown answer (c.outcome.ensures.shows answer (subst (λ (z : List ℕ). Decides decided.decision z answer) (sym lent) d))) in
    (after, (step.0, step.1, ap last_of same), behind)
