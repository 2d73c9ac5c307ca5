use Rattle.osc_context.proofs.NonceTexts.{nonce_once}
use Rattle.osc_context.proofs.laws.one_nonce.Goals as goal

pub returns : goal.returns
returns c = nonce_once
