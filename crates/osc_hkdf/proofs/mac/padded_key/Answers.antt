use Rattle.std.proofs.Common.{arith, bit_xor, get_or}
use Rattle.std.proofs.lemmas.List.FromFn.{fill_by_all}
use Rattle.osc_hkdf.proofs.mac.padded_key.Goals as goal

pub returns : goal.returns
returns c =
    fill_by_all (λ k. bit_xor (get_or c.args.short.now k 0) c.args.pad) c.loop-i.padded 64 0 (omega arith) (λ k lt. c.loop-i.invariant.1 k (omega arith))
