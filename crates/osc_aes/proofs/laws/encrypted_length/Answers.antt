use Rattle.osc_aes.proofs.Lengths.{length-aes128}
use Rattle.osc_aes.proofs.laws.encrypted_length.Goals as goal

pub returns : goal.returns
returns c = length-aes128
