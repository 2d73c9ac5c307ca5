use Rattle.std.proofs.Common.{◌∙◌, [], ap, arith, get_or, length, rules}
use Rattle.osc_aes.specs.Aes128.{expanded_key}
use Rattle.osc_aes.specs.Lanes.{KeepKeys, KeepsKey}
use Rattle.osc_aes.proofs.NarrowKeys.{narrow_key, narrow_known, own_narrow, set_more}
use Rattle.osc_aes.proofs.narrow_planes.NarrowPlanes.new.Goals as goal

pub loop-round-preserved : goal.loop-round-preserved
loop-round-preserved c = (
  search rules,
  set_more (λ r k. KeepsKey r k (expanded_key c.args.key.now)) c.loop-round.round c.loop-round.keys c.narrowed.result (omega arith)
      (narrow_key c.loop-round.round c.narrowed.result (get_or c.round_keys-planes.result c.loop-round.round []) (expanded_key c.args.key.now) c.narrowed.ensures (c.round_keys-planes.ensures c.loop-round.round (omega arith)))
      c.loop-round.invariant.1,
)

pub invariant_of-result : goal.invariant_of-result
invariant_of-result c =
    let held : KeepKeys c.loop-round.keys (expanded_key c.args.key.now) = λ r lt. c.loop-round.invariant.1 r (omega (arith, lt)) in
    record {
      kept = own_narrow c.loop-round.keys c.args.key.now (omega arith) held;
      key_len = ap length (narrow_known c.loop-round.keys c.args.key.now (omega arith) held) ∙ omega arith;
    }

pub returns : goal.returns
returns c = narrow_known c.loop-round.keys c.args.key.now (omega arith) (λ r lt. c.loop-round.invariant.1 r (omega (arith, lt)))
