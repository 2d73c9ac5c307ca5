use Rattle.osc_laws.proofs.Arriving.{arrives}
use Rattle.osc_laws.proofs.laws.what_is_sealed_arrives.Goals as goal

pub returns : goal.returns
returns c = arrives c.sealed_opens.ensures c.protections_show_heads.ensures.response c.protections_show_heads.ensures.notification
