use Rattle.std.proofs.Common.{◌≡◌, ℕ, ◌+◌, ◌*◌, ◌/◌, ◌%◌, arith, ap, get_or, bit_xor, rules}
use Rattle.std.proofs.lemmas.List.FromFn.{fill_by_all}
use Rattle.osc_aes.specs.Aes128.{add_round_key, state_of}
use Rattle.osc_aes.proofs.Fills.{fill_by_next}
use Rattle.osc_aes.proofs.plain.add_round_key.Goals as goal

pub loop-k-preserved : goal.loop-k-preserved
loop-k-preserved c =
    let k = c.loop-k.k in
    let place : k ≡ k % 4 + 4 * (k / 4) = omega arith in (
      search rules,
      fill_by_next (λ m. add_round_key c.args.words.now c.args.round (state_of c.args.block.now) (m % 4) (m / 4)) c.loop-k.out k _
          (ap (λ (j : ℕ). bit_xor (get_or c.args.block.now j 0) (get_or c.args.words.now (16 * c.args.round + j) 0)) place)
          (omega arith) c.loop-k.invariant.1,
    )

pub returns : goal.returns
returns c = fill_by_all (λ m. add_round_key c.args.words.now c.args.round (state_of c.args.block.now) (m % 4) (m / 4)) c.loop-k.out 16 0 (omega arith) (λ m lt. c.loop-k.invariant.1 m (omega arith))
