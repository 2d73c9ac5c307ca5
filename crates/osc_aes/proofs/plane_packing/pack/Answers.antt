use Rattle.std.proofs.Common.{◌∙◌, arith}
use Rattle.osc_aes.proofs.WordBytes.{by_turns, get_or-first, get_or-second, packed_block}
use Rattle.osc_aes.proofs.plane_packing.pack.Goals as goal

pub returns-clause-first : goal.returns-clause-first
returns-clause-first c =
    let a = c.read_u32_into.new.dst in
    let b = c.read_u32_into-2.new.dst in
    packed_block c.args.first.now (by_turns a b) c.transpose.result 0 (omega arith) (omega arith) c.fits-first
    (λ k lt. get_or-first a b k lt ∙ c.read_u32_into.ensures k (omega (arith, lt))) c.transpose.ensures

pub returns-clause-second : goal.returns-clause-second
returns-clause-second c =
    let a = c.read_u32_into.new.dst in
    let b = c.read_u32_into-2.new.dst in
    packed_block c.args.second.now (by_turns a b) c.transpose.result 1 (omega arith) (omega arith) c.fits-second
    (λ k lt. get_or-second a b k lt ∙ c.read_u32_into-2.ensures k (omega (arith, lt))) c.transpose.ensures
