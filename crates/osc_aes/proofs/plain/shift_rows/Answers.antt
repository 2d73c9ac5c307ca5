use Rattle.std.proofs.Common.{◌≡◌, ◌+◌, ◌*◌, ◌/◌, ◌%◌, arith, refl, rules}
use Rattle.std.proofs.lemmas.List.FromFn.{fill_by_all}
use Rattle.osc_aes.specs.Aes128.{shift_rows, state_of}
use Rattle.osc_aes.proofs.Fills.{fill_by_next}
use Rattle.osc_aes.proofs.plain.shift_rows.Goals as goal

pub loop-k-preserved : goal.loop-k-preserved
loop-k-preserved c =
    let k = c.loop-k.k in
    let place : k ≡ k % 4 + 4 * (k / 4) = omega arith in (
      search rules,
      fill_by_next (λ m. shift_rows (state_of c.args.block.now) (m % 4) (m / 4)) c.loop-k.out k _
          (refl)
          (omega arith) c.loop-k.invariant.1,
    )

pub returns : goal.returns
returns c = fill_by_all (λ m. shift_rows (state_of c.args.block.now) (m % 4) (m / 4)) c.loop-k.out 16 0 (omega arith) (λ m lt. c.loop-k.invariant.1 m (omega arith))
