use Rattle.std.proofs.Common.{ℕ, List, ◌≡◌, arith, ap, below_more, ext_get_or, get_or}
use Rattle.std.proofs.lemmas.Bool.Decides.{nat_tests}
use Rattle.osc_context.proofs.Differences.{gathered_before, gathered_last, gathered_nothing}
use Rattle.osc_context.proofs.same_key.is_same_key.Goals as goal

pub loop-k-preserved : goal.loop-k-preserved
loop-k-preserved c =
    let d = c.loop-k.differences in
    let x = get_or c.args.key.now c.loop-k.k 0 in
    let y = get_or c.args.other.now c.loop-k.k 0 in
    record {
      equal = λ e. below_more _ _ (c.loop-k.invariant.equal (gathered_before d x y e)) (gathered_last d x y e);
      none = λ same. gathered_nothing d x y (c.loop-k.invariant.none (λ j lt. same j (omega arith))) (same c.loop-k.k (omega arith));
    }

pub returns : goal.returns
returns c = (
  λ hit.
      let none : c.loop-k.differences ≡ 0 = grind (arith, nat_tests) in
      ext_get_or 0 c.args.key.now c.args.other.now (omega arith) (λ j lt. c.loop-k.invariant.equal none j (omega arith)),
  λ e.
      let none : c.loop-k.differences ≡ 0 = c.loop-k.invariant.none (λ j lt. ap (λ (l : List ℕ). get_or l j 0) e) in
      grind (arith, nat_tests),
)
