use Rattle.osc_aes.specs.Views.{key_of_planes}
use Rattle.osc_aes.proofs.planes.PlaneAesBlockCipher.encrypt_two.Goals as goal

pub returns-clause-first : goal.returns-clause-first
returns-clause-first c = c.encrypt_both.ensures.first (key_of_planes c.args.self.now.keys) c.args.self.now.expanded

pub returns-clause-second : goal.returns-clause-second
returns-clause-second c = c.encrypt_both.ensures.second (key_of_planes c.args.self.now.keys) c.args.self.now.expanded
