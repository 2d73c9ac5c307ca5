use Rattle.std.proofs.Common.{refl}
use Rattle.osc_callers.proofs.GoingThrough.{goes_through}
use Rattle.osc_callers.proofs.tests.premises.go_through.Goals as goal

pub returns : goal.returns
returns c = λ is_some.
    goes_through c.premises_can_be_met.ensures.plain _ _ _ _ _ _ _ _ _ c.in_ok-client.ensures (c.in_ok-exchange.ensures refl)
    (c.in_ok-restart.ensures.server refl) (c.in_ok-restart.ensures.client refl) (c.go_on.ensures is_some)
