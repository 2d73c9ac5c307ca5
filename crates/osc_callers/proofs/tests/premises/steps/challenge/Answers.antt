use Rattle.std.proofs.Common.{◌≡◌, subst, take}
use Rattle.std.proofs.lemmas.Bool.Decides.{Decides-eqb}
use Rattle.std.proofs.lemmas.Slice.Eq.{slice_eq-Decides}
use Rattle.osc_life.specs.Views.{Shows}
use Rattle.osc_callers.proofs.GoingThrough.{challenged}
use Rattle.osc_callers.proofs.tests.premises.steps.challenge.Goals as goal

pub returns-then-issued-eq0-clause-answered : goal.returns-then-issued-eq0-clause-answered
returns-then-issued-eq0-clause-answered c = λ h of number p agrees one seals.
    let took = c.take-outcome.ensures.answered h agrees in
    let same : c.in-Challenge.given ≡ c.args.echo = (slice_eq-Decides Decides-eqb _ _ _ c.eq.ensures).0 c.if-eq.true in
    let now : c.in-Challenge.issued ≡ 0 = c.if-issued-eq0.true in
    challenged c.sealed_opens.ensures h of number p c.args.datagram.now c.args.echo (take c.take-outcome.result.reply c.take-outcome.new.out) c.take-outcome.new.self took.answer
    c.in-Challenge.given c.in-Challenge.issued one seals same now (subst (λ o. Shows o took.answer) c.in-Challenge.is took.shows) took.row took.agrees
