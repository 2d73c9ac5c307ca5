use Rattle.std.proofs.Common.{◌≡◌, ◌∙◌, sym, ap, subst, refl, arith, length, Some, Option, inl, inr}
use Rattle.std.specs.Prelude.{slice_get}
use Rattle.std.proofs.lemmas.Bool.{cases_eq}
use Rattle.std.proofs.lemmas.Option.{slice_get_read, slice_get_within}
use Rattle.osc_life.specs.Agrees.{HoldsLife}
use Rattle.osc_life.specs.declared.slot.Slot.{Slot}
use Rattle.osc_endpoint.proofs.Places.{life_at, slot_at}
use Rattle.osc_endpoint.proofs.table.has_sender_at.Goals as goal

pub returns-then-has_sender_in_place-clause-has : goal.returns-then-has_sender_in_place-clause-has
returns-then-has_sender_in_place-clause-has c = λ e lives agrees.
    let read = slice_get_read c.args.slots.now (length c.args.slots.now) c.loop-index.index c.index-slots-index.result refl (omega arith) c.index-slots-index.is in
    let (of, is, holds) = life_at c.args.slots.now lives c.loop-index.index c.index-slots-index.result agrees read in
    (c.loop-index.index, of, is, c.if-has_sender_in_place.ensures.yes refl of holds)

pub loop-index-preserved : goal.loop-index-preserved
loop-index-preserved c = λ i s of less there holds shares. elim (cases_eq i c.loop-index.index) [
  | inl same ↦
      let read = slice_get_read c.args.slots.now (length c.args.slots.now) c.loop-index.index c.index-slots-index.result refl (omega arith) c.index-slots-index.is in
      let is : Some s ≡ Some c.index-slots-index.result = sym there ∙ ap (slice_get c.args.slots.now) same ∙ read in
      let one : s ≡ c.index-slots-index.result = cc in
      c.if-has_sender_in_place.ensures.no refl of (subst (λ (x : Option Slot). HoldsLife x of) one holds) shares
  | inr other ↦ c.loop-index.invariant i s of (omega (arith, other)) there holds shares
]

pub returns-clause-has_not : goal.returns-clause-has_not
returns-clause-has_not c = λ e lives agrees i of is shares.
    let (s, there, holds) = slot_at c.args.slots.now lives i of agrees is in
    c.loop-index.invariant i s of (omega (arith, slice_get_within c.args.slots.now i s there)) there holds shares
