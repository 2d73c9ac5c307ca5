use Rattle.std.proofs.Common.{◌∙◌, [], ap, refl, arith, get_or, length, rules}
use Rattle.osc_aes.specs.Aes128.{expanded_key}
use Rattle.osc_aes.specs.Lanes.{AreKeysOf, IsKeyOf}
use Rattle.osc_aes.specs.Views.{key_of_narrow}
use Rattle.osc_aes.proofs.NarrowKeys.{set_more, wide_key}
use Rattle.osc_aes.proofs.TwoBlocks.{key-known, own_keys}
use Rattle.osc_aes.proofs.narrow_planes.NarrowPlanes.widened.Goals as goal

pub loop-round-init : goal.loop-round-init
loop-round-init c = (refl, λ r lt. absurd (omega (arith, lt)))

pub loop-round-preserved : goal.loop-round-preserved
loop-round-preserved c =
    let w = expanded_key (key_of_narrow c.args.self.now.keys) in (
      search rules,
      set_more (λ r k. IsKeyOf r k w) c.loop-round.round c.loop-round.keys c.widened.result (omega arith)
          (wide_key c.loop-round.round (get_or c.args.self.now.keys c.loop-round.round []) c.widened.result w c.widened.ensures (c.args.self.now.kept c.loop-round.round (omega arith)))
          c.loop-round.invariant.1,
    )

pub invariant_of-result : goal.invariant_of-result
invariant_of-result c =
    let key = key_of_narrow c.args.self.now.keys in
    let held : AreKeysOf c.loop-round.keys (expanded_key key) = λ r lt. c.loop-round.invariant.1 r (omega (arith, lt)) in
    record {
      expanded = own_keys c.loop-round.keys key c.args.self.now.key_len held;
      key_len = ap length (key-known c.loop-round.keys key c.args.self.now.key_len held) ∙ c.args.self.now.key_len;
    }

pub returns : goal.returns
returns c = key-known c.loop-round.keys (key_of_narrow c.args.self.now.keys) c.args.self.now.key_len (λ r lt. c.loop-round.invariant.1 r (omega (arith, lt)))
