use Rattle.osc_aes.proofs.Entries.{mul-inverse}
use Rattle.osc_aes.proofs.laws.product_with_inverse.Goals as goal

pub returns : goal.returns
returns c = mul-inverse
