use Rattle.osc_protect.proofs.SealedOpenings.{sealed_law}
use Rattle.osc_protect.proofs.laws.sealed_opens.Goals as goal

pub returns : goal.returns
returns c = sealed_law c.one_request.ensures c.one_response.ensures c.one_notification.ensures
