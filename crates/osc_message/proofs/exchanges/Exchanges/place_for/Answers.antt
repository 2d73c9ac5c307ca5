use Rattle.std.proofs.Common.{sym, refl}
use Rattle.osc_message.specs.Views.{place_of, table_of}
use Rattle.osc_message.proofs.OnTheirWay.{idle_of, none_in, passes_of}
use Rattle.osc_message.proofs.Walking.{full_in, in_table}
use Rattle.osc_message.proofs.exchanges.Exchanges.place_for.Goals as goal

pub returns-then-not-is_idle-clause-refused : goal.returns-then-not-is_idle-clause-refused
returns-then-not-is_idle-clause-refused g c = λ idle.
    let to = c.args.to.now in
    c.is_idle.ensures.no c.if-not-is_idle.true
    (none_in to to c.as_slice.result.now c.args.self.now.places.items refl (sym c.as_slice.ensures.value) (passes_of (table_of c.args.self.now) to idle))

pub returns-in_default-clause-refused : goal.returns-in_default-clause-refused
returns-in_default-clause-refused g c =
    let xs = c.args.self.now.places.items in
    let to = c.args.to.now in (
      idle_of (table_of c.args.self.now) to (none_in to to xs c.as_slice.result.now refl c.as_slice.ensures.value (c.is_idle.ensures.yes c.if-not-is_idle.false)),
      full_in place_of xs c.as_slice-2.result.now c.as_slice-2.ensures.value c.in_default.ensures,
    )

pub returns-then-self-clause-refused : goal.returns-then-self-clause-refused
returns-then-self-clause-refused g c =
    let xs = c.args.self.now.places.items in
    let to = c.args.to.now in
    let there = in_table place_of xs c.as_slice-2.result.now c.in-Some.place _ c.as_slice-2.ensures.value c.in-Some.ensures in (
      idle_of (table_of c.args.self.now) to (none_in to to xs c.as_slice.result.now refl c.as_slice.ensures.value (c.is_idle.ensures.yes c.if-not-is_idle.false)),
      (λ full. full c.in-Some.place there),
      c.if-self.true,
    )

pub returns-clause-found : goal.returns-clause-found
returns-clause-found g c =
    let xs = c.args.self.now.places.items in
    let to = c.args.to.now in (
      idle_of (table_of c.args.self.now) to (none_in to to xs c.as_slice.result.now refl c.as_slice.ensures.value (c.is_idle.ensures.yes c.if-not-is_idle.false)),
      in_table place_of xs c.as_slice-2.result.now c.in-Some.place _ c.as_slice-2.ensures.value c.in-Some.ensures,
      c.if-self.false,
    )
