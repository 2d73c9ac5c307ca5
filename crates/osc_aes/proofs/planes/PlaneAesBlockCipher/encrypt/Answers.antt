use Rattle.osc_aes.specs.Views.{key_of_planes}
use Rattle.osc_aes.proofs.planes.PlaneAesBlockCipher.encrypt.Goals as goal

pub returns : goal.returns
returns c = c.encrypt_both.ensures.first (key_of_planes c.args.self.now.keys) c.args.self.now.expanded
