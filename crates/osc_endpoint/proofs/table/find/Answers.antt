use Rattle.std.proofs.Common.{◌≡◌, ◌∙◌, sym, ap, subst, refl, arith, length, Some, Option, inl, inr}
use Rattle.std.specs.Prelude.{slice_get}
use Rattle.std.proofs.lemmas.Bool.{cases_eq}
use Rattle.std.proofs.lemmas.Option.{slice_get_read, slice_get_within}
use Rattle.osc_protect.specs.Views.{shown}
use Rattle.osc_life.specs.declared.slot.Slot.{Slot}
use Rattle.osc_life.specs.Judging.{LooksUp}
use Rattle.osc_endpoint.proofs.table.find.Goals as goal

pub returns-then-is_for-clause-found : goal.returns-then-is_for-clause-found
returns-then-is_for-clause-found c =
    (c.index-slots-index.result, slice_get_read c.args.slots.now (length c.args.slots.now) c.loop-index.index c.index-slots-index.result refl (omega arith) c.index-slots-index.is, c.if-is_for.ensures.yes refl)

pub loop-index-preserved : goal.loop-index-preserved
loop-index-preserved c = λ i s less there looks. elim (cases_eq i c.loop-index.index) [
  | inl same ↦
      let read = slice_get_read c.args.slots.now (length c.args.slots.now) c.loop-index.index c.index-slots-index.result refl (omega arith) c.index-slots-index.is in
      let is : Some s ≡ Some c.index-slots-index.result = sym there ∙ ap (slice_get c.args.slots.now) same ∙ read in
      let one : s ≡ c.index-slots-index.result = cc in
      c.if-is_for.ensures.no refl (subst (λ (x : Option Slot). LooksUp x c.args.kid.now (shown c.args.kid_context)) one looks)
  | inr other ↦ c.loop-index.invariant i s (omega (arith, other)) there looks
]

pub returns-clause-none : goal.returns-clause-none
returns-clause-none c = λ i s there looks. c.loop-index.invariant i s (omega (arith, slice_get_within c.args.slots.now i s there)) there looks
