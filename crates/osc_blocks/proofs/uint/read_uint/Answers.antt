use Rattle.std.proofs.Common.{arith, ◌∙◌, ap, ℕ, ◌*◌, ◌+◌}
use Rattle.osc_context.proofs.PartialIvs.{number_taken, bound_more}
use Rattle.osc_blocks.proofs.Uints.{power_small}
use Rattle.osc_blocks.proofs.uint.read_uint.Goals as goal

pub overflow_mul-number : goal.overflow_mul-number
overflow_mul-number c =
    let p = power_small c.loop-byte.byte-index (omega arith) in
    omega (arith, p, c.loop-byte.invariant.bound)

pub loop-byte-preserved : goal.loop-byte-preserved
loop-byte-preserved c = record {
  number = ap (λ (b : ℕ). c.loop-byte.number * 256 + b) c.from.ensures ∙ number_taken c.args.bytes.now c.loop-byte.number c.loop-byte.byte-index (omega arith) c.loop-byte.invariant.number;
  bound = bound_more c.loop-byte.number c.from.result c.loop-byte.byte-index c.loop-byte.invariant.bound (omega arith);
}

pub returns-clause-most : goal.returns-clause-most
returns-clause-most c =
    let p = power_small c.loop-byte.byte-index (omega arith) in
    omega (arith, p, c.loop-byte.invariant.bound)
