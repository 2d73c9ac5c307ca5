use Rattle.std.proofs.Common.{arith}
use Rattle.osc_aes.specs.Aes128.{expanded_key}
use Rattle.osc_aes.proofs.TwoBlocks.{planes-encrypted}
use Rattle.osc_aes.proofs.planes.encrypt_both.Goals as goal

pub returns-clause-first : goal.returns-clause-first
returns-clause-first c = λ key held.
    planes-encrypted key c.args.first.now c.unpack.new.first c.pack.result c.cipher-planes.result 0 c.pack.ensures.first c.unpack.ensures.first
    (c.cipher-planes.ensures (expanded_key key) held 0 (omega arith))

pub returns-clause-second : goal.returns-clause-second
returns-clause-second c = λ key held.
    planes-encrypted key c.args.second.now c.unpack.new.second c.pack.result c.cipher-planes.result 1 c.pack.ensures.second c.unpack.ensures.second
    (c.cipher-planes.ensures (expanded_key key) held 1 (omega arith))
