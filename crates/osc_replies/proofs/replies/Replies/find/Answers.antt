use Rattle.std.proofs.Common.{arith, inl, inr, refl, rules, subst}
use Rattle.std.proofs.lemmas.Bool.{cases_eq}
use Rattle.osc_context.specs.Views.{number_of}
use Rattle.osc_replies.specs.Asked.{IsAnswered}
use Rattle.osc_replies.specs.Memory.{Kept}
use Rattle.osc_replies.specs.Views.{kept_of}
use Rattle.osc_replies.proofs.Keeping.{contains_read, found_at, one_read}
use Rattle.osc_replies.proofs.replies.Replies.find.Goals as goal

pub returns-then-is_answered-clause-found : goal.returns-then-is_answered-clause-found
returns-then-is_answered-clause-found g c =
    let p = c.index-entries-place.result in
    let among = contains_read c.args.self.now.entries.items c.as_slice-entries.result.now c.loop-place.place p c.as_slice-entries.ensures.value (search rules) c.index-entries-place.is in
    (kept_of p, among, c.if-is_answered.ensures.yes refl, c.reply.ensures)

pub loop-place-preserved : goal.loop-place-preserved
loop-place-preserved g c = λ i k less there is. elim (cases_eq i c.loop-place.place) [
  | inl same ↦
      let p = c.index-entries-place.result in
      let one = one_read c.args.self.now.entries.items c.as_slice-entries.result.now c.loop-place.place i p k same c.as_slice-entries.ensures.value (search rules) c.index-entries-place.is there in
      c.if-is_answered.ensures.no refl (subst (λ (x : Kept). IsAnswered x (number_of c.args.identity.number) c.args.identity.option.now c.args.identity.text.now) one is)
  | inr other ↦ c.loop-place.invariant i k (omega (arith, other)) there is
]

pub returns-clause-none : goal.returns-clause-none
returns-clause-none g c = λ k among is.
    let (i, less, there) = found_at c.args.self.now.entries.items c.as_slice-entries.result.now k c.as_slice-entries.ensures.value among in
    c.loop-place.invariant i k (omega arith) there is
