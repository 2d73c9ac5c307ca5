use Rattle.std.proofs.Common.{◌≡◌, ◌≢◌, ◌<◌, ◌∙◌, sym, ap, subst, refl, arith, length, rules, Some, inl, inr}
use Rattle.std.specs.Prelude.{map, slice_get}
use Rattle.std.specs.Option.{option_map}
use Rattle.std.proofs.lemmas.Bool.{cases_eq}
use Rattle.std.proofs.lemmas.List.{length-map}
use Rattle.std.proofs.lemmas.Option.{slice_get-get_or, slice_get-map, slice_get_read}
use Rattle.osc_client.specs.ClientHistory.{Asked}
use Rattle.osc_client.specs.Views.{asked_of}
use Rattle.osc_client.proofs.pending.find_request.Goals as goal

pub returns-then-eq-clause-found : goal.returns-then-eq-clause-found
returns-then-eq-clause-found c =
    let p = c.index-pending-place.result in
    let there = slice_get_read c.args.pending.now (length c.args.pending.now) c.loop-place.place p refl (omega arith) c.index-pending-place.is in
    let token : p.token.items ≡ c.args.token.now = search rules in
    (asked_of p, slice_get-map asked_of c.args.pending.now c.loop-place.place ∙ ap (option_map asked_of) there, token, refl, refl)

pub loop-place-preserved : goal.loop-place-preserved
loop-place-preserved c = λ i r less there is. elim (cases_eq i c.loop-place.place) [
  | inl same ↦
      let p = c.index-pending-place.result in
      let read = slice_get_read c.args.pending.now (length c.args.pending.now) c.loop-place.place p refl (omega arith) c.index-pending-place.is in
      let found : Some r ≡ Some (asked_of p) = sym there ∙ ap (slice_get (map asked_of c.args.pending.now)) same ∙ slice_get-map asked_of c.args.pending.now c.loop-place.place ∙ ap (option_map asked_of) read in
      let one : r ≡ asked_of p = cc in
      let other : p.token.items ≢ c.args.token.now = search rules in
      other (ap (λ (x : Asked). x.token) (sym one) ∙ is)
  | inr other ↦ c.loop-place.invariant i r (omega (arith, other)) there is
]

pub returns-clause-none : goal.returns-clause-none
returns-clause-none c = λ among.
    let (r, (k, less, at), token) = among in
    let xs = map asked_of c.args.pending.now in
    let there : slice_get xs k ≡ Some r = slice_get-get_or xs k r less ∙ ap Some at in
    let within : k < length c.args.pending.now = subst (λ n. k < n) (length-map c.args.pending.now asked_of) less in
    c.loop-place.invariant k r (omega (arith, within)) there token
