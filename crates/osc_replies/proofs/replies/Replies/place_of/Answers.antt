use Rattle.std.proofs.Common.{◌≡◌, ◌∙◌, ap, arith, inl, inr, rules, sym}
use Rattle.std.proofs.lemmas.Bool.{cases_eq}
use Rattle.osc_replies.specs.Memory.{Kept}
use Rattle.osc_replies.specs.Views.{kept_of}
use Rattle.osc_replies.proofs.Keeping.{found_at, one_read, read_at}
use Rattle.osc_replies.proofs.replies.Replies.place_of.Goals as goal

pub returns-then-number-clause-found : goal.returns-then-number-clause-found
returns-then-number-clause-found g c =
    let p = c.index-entries-place.result in
    (kept_of p, read_at c.args.self.now.entries.items c.as_slice-entries.result.now c.loop-place.place p c.as_slice-entries.ensures.value (search rules) c.index-entries-place.is, search rules)

pub loop-place-preserved : goal.loop-place-preserved
loop-place-preserved g c = λ i k less there is. elim (cases_eq i c.loop-place.place) [
  | inl same ↦
      let p = c.index-entries-place.result in
      let one = one_read c.args.self.now.entries.items c.as_slice-entries.result.now c.loop-place.place i p k same c.as_slice-entries.ensures.value (search rules) c.index-entries-place.is there in
      let number : p.number ≡ c.args.number = ap (λ (x : Kept). x.number) (sym one) ∙ is in
      search rules
  | inr other ↦ c.loop-place.invariant i k (omega (arith, other)) there is
]

pub returns-clause-none : goal.returns-clause-none
returns-clause-none g c = λ k among is.
    let (i, less, there) = found_at c.args.self.now.entries.items c.as_slice-entries.result.now k c.as_slice-entries.ensures.value among in
    c.loop-place.invariant i k (omega arith) there is
