use Rattle.std.proofs.Common.{◌≢◌, ℕ, ap, ◌∙◌, sym, arith, get_or, bit_xor, below_more, get_or-set_other, get_or-set_same, inl, inr, length}
use Rattle.std.proofs.lemmas.Bool.{cases_lt}
use Rattle.std.proofs.lemmas.List.{get_or_past}
use lib.Bits.{xor_zero_r}
use Rattle.osc_ccm.proofs.blocks.xor_front.Goals as goal

pub loop-k-preserved : goal.loop-k-preserved
loop-k-preserved c =
    let i = c.loop-k.k in (
      below_more _ _
          (λ k h. let ne : k ≢ i = omega arith in get_or-set_other c.loop-k.bytes i k _ 0 ne ∙ c.loop-k.invariant.0 k h)
          (get_or-set_same c.loop-k.bytes i _ 0 (omega arith) ∙ ap (λ (v : ℕ). bit_xor v (get_or c.args.more.now i 0)) (c.loop-k.invariant.1 i (omega arith))),
      λ k h. let ne : k ≢ i = omega arith in get_or-set_other c.loop-k.bytes i k _ 0 ne ∙ c.loop-k.invariant.1 k (omega arith),
    )

pub returns : goal.returns
returns c = λ k.
    elim (cases_lt k (length c.args.more.now)) [
      | inl low ↦ c.loop-k.invariant.0 k (omega arith)
      | inr high ↦
          c.loop-k.invariant.1 k (omega arith)
          ∙ sym (ap (bit_xor (get_or c.args.bytes.now k 0)) (get_or_past c.args.more.now k 0 high) ∙ xor_zero_r (get_or c.args.bytes.now k 0))
    ]
