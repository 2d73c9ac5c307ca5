use Rattle.std.proofs.Common.{◌≡◌, arith}
use Rattle.osc_aes.specs.Aes128.{after_rounds}
use Rattle.osc_aes.proofs.Rounds.{round_last, round_more}
use Rattle.osc_aes.proofs.plain.cipher.Goals as goal

pub loop-round-init : goal.loop-round-init
unfolding after_rounds
loop-round-init c = c.add_round_key-state.ensures

pub loop-round-preserved : goal.loop-round-preserved
loop-round-preserved c =
    round_more c.args.words.now c.args.block.now _ _ _ _ _ c.loop-round.round c.loop-round.invariant
    c.sub_bytes-substituted.ensures c.shift_rows-shifted.ensures c.mix_columns-mixed.ensures
    c.add_round_key-state-in-loop-round.ensures

pub returns : goal.returns
returns c =
    let done : c.loop-round.round ≡ 9 = omega arith in
    round_last c.args.words.now c.args.block.now _ _ _ _ (rw done at c.loop-round.invariant)
    c.sub_bytes-substituted-2.ensures c.shift_rows-shifted-2.ensures c.add_round_key.ensures
