use Rattle.std.proofs.Common.{ℕ, arith, refl, sym, subst, take, true}
use Rattle.osc_life.specs.LifeAnswer.{asks_own}
use Rattle.osc_life.specs.ServerHistory as served
use Rattle.osc_life.specs.Views.{values_of}
use Rattle.osc_observe.specs.Received.{Received}
use Rattle.osc_kept_ends.specs.EchoNumber.{echo_of}
use Rattle.osc_kept_ends.specs.Numbering.{upcoming}
use Rattle.osc_kept_ends.specs.PeerOwning.{own_in}
use Rattle.osc_kept_ends.specs.Peering.{PeerStep}
use Rattle.osc_fresh.specs.Views.{last_of}
use Rattle.osc_fresh.specs.Wishing.{IsFresh, unobeyed_message}
use Rattle.osc_fresh.proofs.Challenging.{failed_more, not_delivered, unanswered}
use Rattle.osc_fresh.proofs.wishes.Wishes.admit.Goals as goal

pub returns-then-is_fresh-clause-recent : goal.returns-then-is_fresh-clause-recent
returns-then-is_fresh-clause-recent g c = λ received ticket (reads, is).
    subst (λ (r : Received). IsFresh c.args.self.now.fresh_ms (last_of c.args.self.now) r.message c.args.now) (reads.2 c.opened.result (c.opened.ensures reads.0 reads.1))
    (c.is_fresh.ensures.yes c.if-is_fresh.true)

pub returns-in-Ok-clause-stale : goal.returns-in-Ok-clause-stale
returns-in-Ok-clause-stale g c = record {
  read = c.in-Deliver.read;
  ticket = c.in-Deliver.ticket;
  is = c.in-Deliver.is;
  stale = λ received reads fresh. c.is_fresh.ensures.no c.if-is_fresh.false
      (subst (λ (r : Received). IsFresh c.args.self.now.fresh_ms (last_of c.args.self.now) r.message c.args.now) (sym (reads.2 c.opened.result (c.opened.ensures reads.0 reads.1))) fresh);
  challenges = λ h behind. subst (λ (k : ℕ). PeerStep h (served.Reply (values_of c.in-Deliver.ticket) (asks_own (values_of c.in-Deliver.ticket) true) c.args.mid
      (unobeyed_message (echo_of (upcoming (own_in c.args.peer.now.source)))) k) (served.Replied (take c.in-Ok.len c.challenge.new.out))
      (own_in c.args.peer.now.source) (own_in c.challenge.new.peer.source) c.challenge.new.peer.server) c.told-out (c.in-Ok.ensures.answered tt h behind);
  remembers = c.in-Ok.ensures.issued;
  behind = c.in-Ok.ensures.behind;
  failures = omega (arith, c.in-Ok.ensures.worked tt);
  client = c.challenge.ensures.client;
  rises = c.challenge.ensures.rises;
}

pub returns-in-Err-clause-stale : goal.returns-in-Err-clause-stale
returns-in-Err-clause-stale g c = record {
  read = c.in-Deliver.read;
  ticket = c.in-Deliver.ticket;
  is = c.in-Deliver.is;
  stale = λ received reads fresh. c.is_fresh.ensures.no c.if-is_fresh.false
      (subst (λ (r : Received). IsFresh c.args.self.now.fresh_ms (last_of c.args.self.now) r.message c.args.now) (sym (reads.2 c.opened.result (c.opened.ensures reads.0 reads.1))) fresh);
  challenges = unanswered c.args.mid c.in-Deliver.ticket c.in-Err.error c.challenge.new.out c.args.peer.now c.challenge.new.peer
      (λ worked h behind. subst (λ (k : ℕ). PeerStep h (served.Reply (values_of c.in-Deliver.ticket) (asks_own (values_of c.in-Deliver.ticket) true) c.args.mid
      (unobeyed_message (echo_of (upcoming (own_in c.args.peer.now.source)))) k) (served.NotReplied c.in-Err.error)
      (own_in c.args.peer.now.source) (own_in c.challenge.new.peer.source) c.challenge.new.peer.server) c.told-out (c.in-Err.ensures.answered worked h behind))
      (λ bad. let x = c.in-Err.ensures.failed bad in (x.0, x.1));
  remembers = c.in-Err.ensures.unchanged.1;
  behind = c.in-Err.ensures.unchanged.0;
  failures = failed_more c.in-Err.error _ _ (λ worked. c.in-Err.ensures.worked worked) (λ bad. (c.in-Err.ensures.failed bad).2);
  client = c.challenge.ensures.client;
  rises = c.challenge.ensures.rises;
}

pub returns-in_default : goal.returns-in_default
returns-in_default g c = record {
  passed = (refl, refl, refl, refl);
  recent = λ received ticket d. absurd (not_delivered c.args.decided.decision c.args.datagram.now received ticket c.in_default.not-Deliver d);
  stale = tt;
  within = tt;
  rises = omega arith;
  client = refl;
  wish = refl;
}
