use Rattle.osc_ccm.proofs.Protections.{length-ccm}
use Rattle.osc_ccm.proofs.laws.protection_length.Goals as goal

pub returns : goal.returns
returns c = length-ccm c.encrypted_length.ensures
