use Rattle.std.proofs.Common.{◌%◌, ◌+◌, ap, refl, ℕ, List, Some, subst}
use Rattle.osc_message.specs.Calls.{MayBegin, first}
use Rattle.osc_message.specs.Sending.{Sending}
use Rattle.osc_message.specs.Views.{place_of, table_of}
use Rattle.osc_message.proofs.Walking.{puts, within_table}
use Rattle.osc_message.proofs.exchanges.Exchanges.begin.Goals as goal

pub bounds-deref_mut-place : goal.bounds-deref_mut-place
bounds-deref_mut-place g c = within_table place_of c.args.self.now.places.items c.deref_mut.result.now c.in_ok-place.place _ c.deref_mut.ensures.value c.in_ok-place.ensures.found.1

pub returns-clause-begun : goal.returns-clause-begun
returns-clause-begun g c =
    let P : List ℕ → Type 0 = λ to. MayBegin (table_of c.args.self.now) to c.in_ok-place.place in
    let found = subst P c.deref.ensures.0 c.in_ok-place.ensures.found in
    let it : ℕ → Sending = λ random. record (first c.args.message c.args.self.now.next_call c.args.now 0) { first_wait = 2000 + random % 1001 } in
    record {
      puts = puts place_of c.args.self.now.places.items c.deref_mut.result.now c.in_ok-place.place _ _ _ c.deref_mut.ensures.value found.1 (ap (λ (random : ℕ). Some (it random)) c.from.ensures);
      number = refl;
      next = refl;
      idle = found.0;
      first = refl;
      unsent = refl;
      unacked = refl;
    }
