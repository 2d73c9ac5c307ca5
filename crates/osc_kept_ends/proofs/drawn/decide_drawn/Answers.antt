use Rattle.std.proofs.Common.{None, refl, subst}
use Rattle.osc_life.specs.Deciding.{Decides}
use Rattle.osc_life.specs.declared.decision.Decision.{Decision}
use Rattle.osc_kept_ends.specs.Views.{own_at}
use Rattle.osc_kept_ends.proofs.Drawing.{last_drawn}
use Rattle.osc_kept_ends.proofs.ServerSteps.{challenge_decided, other_decided, took_sealed, took_unsealed}
use Rattle.osc_kept_ends.proofs.drawn.decide_drawn.Goals as goal

pub returns-in-Challenge-clause-answered : goal.returns-in-Challenge-clause-answered
returns-in-Challenge-clause-answered c = λ h old floor next limit k drawn last.
    let d = c.decide-decided.ensures.answered h k.agrees in
    let left = c.decide-decided.new.datagram in
    let sealed = challenge_decided left c.in-Challenge.echo c.in-Challenge.issued d.answer (subst (λ (x : Decision). Decides x left d.answer) c.in-Challenge.is d.decides) in
    record {
      answer = d.answer;
      decides = d.decides;
      step = took_sealed c.args.server.now c.decide-decided.new.self h c.args.now c.args.fresh.echo c.args.fresh.mid c.args.datagram.now d.answer _ old (own_at floor next limit c.args.in_hand.now) (own_at floor next limit None)
          sealed k d.row d.agrees drawn (λ n is. last_drawn c.args.in_hand.now next n last is) (λ n. refl);
    }

pub returns-clause-answered : goal.returns-clause-answered
returns-clause-answered c = λ h old floor next limit k drawn last.
    let d = c.decide-decided.ensures.answered h k.agrees in
    record {
      answer = d.answer;
      decides = d.decides;
      step = took_unsealed c.args.server.now c.decide-decided.new.self h c.args.now c.args.fresh.echo c.args.fresh.mid c.args.datagram.now d.answer _ old (own_at floor next limit c.args.in_hand.now)
          k d.row d.agrees (other_decided c.decide-decided.result.decision c.decide-decided.new.datagram d.answer c.in_default.not-Challenge d.decides) drawn;
    }
