use Rattle.std.proofs.Common.{◌≡◌, ◌<◌, ℕ, [], ◌∷◌, List, bit_xor, ap, ap₂, refl, ◌∙◌, arith}
use Rattle.osc_aes.specs.Field.{mul}
use Rattle.osc_aes.specs.Views.{lane}
use Rattle.osc_aes.specs.Lanes.{below}
use Rattle.osc_aes.proofs.LaneBytes.{lane-added, lane-mixed}
use Rattle.osc_aes.proofs.plane_steps.mix_columns.Goals as goal

pub returns : goal.returns
returns c = λ i lt.
    let j = c.args.turned in
    let next : List ℕ = (c.rows_below-r0.result.next ∷ c.rows_below-r1.result.next ∷ c.rows_below-r2.result.next ∷ c.rows_below-r3.result.next ∷ c.rows_below-r4.result.next ∷ c.rows_below-r5.result.next ∷ c.rows_below-r6.result.next ∷ c.rows_below-r7.result.next ∷ []) in
    let sum : List ℕ = (c.rows_below-r0.result.sum ∷ c.rows_below-r1.result.sum ∷ c.rows_below-r2.result.sum ∷ c.rows_below-r3.result.sum ∷ c.rows_below-r4.result.sum ∷ c.rows_below-r5.result.sum ∷ c.rows_below-r6.result.sum ∷ c.rows_below-r7.result.sum ∷ []) in
    let far : List ℕ = (c.rows_below-r0.result.far ∷ c.rows_below-r1.result.far ∷ c.rows_below-r2.result.far ∷ c.rows_below-r3.result.far ∷ c.rows_below-r4.result.far ∷ c.rows_below-r5.result.far ∷ c.rows_below-r6.result.far ∷ c.rows_below-r7.result.far ∷ []) in
    let next-lane : (i : ℕ) → i < 32 → lane next i ≡ lane c.args.planes (below j i) = λ i lt. rw (
      c.rows_below-r0.ensures.next i lt,
      c.rows_below-r1.ensures.next i lt,
      c.rows_below-r2.ensures.next i lt,
      c.rows_below-r3.ensures.next i lt,
      c.rows_below-r4.ensures.next i lt,
      c.rows_below-r5.ensures.next i lt,
      c.rows_below-r6.ensures.next i lt,
      c.rows_below-r7.ensures.next i lt,
    ) refl in
    let sum-lane : (i : ℕ) → lane sum i ≡ bit_xor (lane c.args.planes i) (lane next i) = λ i. rw (
      c.rows_below-r0.ensures.sum,
      c.rows_below-r1.ensures.sum,
      c.rows_below-r2.ensures.sum,
      c.rows_below-r3.ensures.sum,
      c.rows_below-r4.ensures.sum,
      c.rows_below-r5.ensures.sum,
      c.rows_below-r6.ensures.sum,
      c.rows_below-r7.ensures.sum,
    ) (lane-added c.args.planes next i) in
    let far-lane : lane far i ≡ lane sum (below j (below j i)) = rw (
      c.rows_below-r0.ensures.far i lt,
      c.rows_below-r1.ensures.far i lt,
      c.rows_below-r2.ensures.far i lt,
      c.rows_below-r3.ensures.far i lt,
      c.rows_below-r4.ensures.far i lt,
      c.rows_below-r5.ensures.far i lt,
      c.rows_below-r6.ensures.far i lt,
      c.rows_below-r7.ensures.far i lt,
    ) refl in
    let two : below j (below j i) < 32 = omega arith in
    c.add_planes-2.ensures i lt
    ∙ ap₂ bit_xor
    (c.add_planes.ensures i lt
    ∙ ap (λ x. bit_xor x (lane next i)) (c.double_planes.ensures i lt ∙ ap (mul 2) (sum-lane i))
    ∙ lane-mixed c.args.planes next i ∙ ap (λ x. bit_xor (mul 2 (lane c.args.planes i)) (mul 3 x)) (next-lane i lt))
    (far-lane ∙ sum-lane (below j (below j i)) ∙ ap (bit_xor (lane c.args.planes (below j (below j i)))) (next-lane (below j (below j i)) two))
