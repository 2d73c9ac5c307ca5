use Rattle.std.proofs.Common.{◌≡◌, refl, subst}
use Rattle.osc_client.specs.ClientDeciding.{ClientTakes}
use Rattle.osc_client.specs.declared.client_outcome.ClientOutcome.{ClientOutcome}
use Rattle.osc_client.specs.declared.client_outcome.ClientOutcome.TheVariants as outcomes
use Rattle.osc_fresh.specs.Echoing.{heard_after}
use Rattle.osc_fresh.specs.Views.{heard_of}
use Rattle.osc_fresh.proofs.heard_echo.HeardEcho.follow.Goals as goal

pub returns-in-Some-clause-followed : goal.returns-in-Some-clause-followed
returns-in-Some-clause-followed g c =
    let told = c.in-Some.ensures in (
      outcomes.Deliver c.in-Deliver.opened c.in-Deliver.number,
      (refl, record { code = told.value.0; echo = told.value.1; yes = told.yes; no = told.no }),
      (
        subst (λ (o : ClientOutcome). heard_of c.hear-outcome.new.self ≡ heard_after o (heard_of c.args.self.now)) c.in-Deliver.is c.hear-outcome.ensures.remembered,
        λ k agrees. subst (λ (o : ClientOutcome). ClientTakes {N = g.row.N} k c.args.now c.args.datagram.now o c.hear-outcome.new.peer.client) c.in-Deliver.is (c.hear-outcome.ensures.answered k agrees),
      ),
    )
