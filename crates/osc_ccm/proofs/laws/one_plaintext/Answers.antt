use Rattle.osc_ccm.proofs.Protections.{ccm-one}
use Rattle.osc_ccm.proofs.laws.one_plaintext.Goals as goal

pub returns : goal.returns
returns c = ccm-one c.encrypted_length.ensures
