use Rattle.std.proofs.Common.{length, ap, ◌∙◌, arith}
use Rattle.osc_aes.proofs.TwoBlocks.{key-known, own_keys}
use Rattle.osc_aes.proofs.planes.PlaneAes.new.Goals as goal

pub returns : goal.returns
returns c = key-known c.round_keys.result c.args.key.now (omega arith) c.round_keys.ensures

pub invariant_of-result : goal.invariant_of-result
invariant_of-result c =
    let same = key-known c.round_keys.result c.args.key.now (omega arith) c.round_keys.ensures in
    record { expanded = own_keys c.round_keys.result c.args.key.now (omega arith) c.round_keys.ensures; key_len = ap length same ∙ omega arith }
