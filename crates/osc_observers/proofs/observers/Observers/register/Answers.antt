use Rattle.std.proofs.Common.{refl, subst, ℕ, List}
use Rattle.osc_observers.specs.Calls.{MayRegister}
use Rattle.osc_observers.specs.Views.{table_of}
use Rattle.osc_observers.proofs.Listed.{registers}
use Rattle.osc_observers.proofs.observers.Observers.register.Goals as goal

pub returns-clause-registered : goal.returns-clause-registered
returns-clause-registered g c =
    let P : List ℕ → Type 0 = λ from. MayRegister (table_of c.args.self.now) from c.as_slice-2.result.now c.in_ok-place.place in
    let Q : List ℕ → Type 0 = λ token. MayRegister (table_of c.args.self.now) c.args.from.items token c.in_ok-place.place in
    let found = (subst Q c.as_slice-2.ensures.value (subst P c.as_slice.ensures.value c.in_ok-place.ensures.found)).0 in
    (found.0, registers c.args.self.now.places.items c.deref_mut.result.now c.in_ok-place.place _ c.args.now c.args.from.items c.args.token.items _ found.0 c.deref_mut.ensures.value found.1 found.2 refl)
