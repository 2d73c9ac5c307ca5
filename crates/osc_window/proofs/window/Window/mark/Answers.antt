use Rattle.std.proofs.Common.{arith}
use Rattle.osc_window.proofs.Agreements.{places_most, spends_agrees}
use Rattle.osc_window.proofs.Marks.{spends_first, spends_beyond, spends_inside, within_window}
use Rattle.osc_window.proofs.window.Window.mark.Goals as goal

pub returns-in_default-clause-spends : goal.returns-in_default-clause-spends
returns-in_default-clause-spends c = spends_first c.args.self.now c.args.number c.in_default.is

pub returns-in_default-clause-agrees : goal.returns-in_default-clause-agrees
returns-in_default-clause-agrees c = spends_agrees _ _ _ (returns-in_default-clause-spends c)

pub with_bit-self-requires : goal.with_bit-self-requires
with_bit-self-requires c =
    let within = within_window c.args.self.now c.in-Some.highest c.args.number c.in-Some.is (omega arith) c.requires in
    omega (arith, within, places_most c.args.self.now.size)

pub returns-then-from-to-clause-spends : goal.returns-then-from-to-clause-spends
returns-then-from-to-clause-spends c =
    spends_beyond c.args.self.now c.in-Some.highest c.args.number c.moved_up-self.result _ _ c.in-Some.is
    (omega arith) (omega arith) c.places.ensures.value c.moved_up-self.ensures

pub returns-then-from-to-clause-agrees : goal.returns-then-from-to-clause-agrees
returns-then-from-to-clause-agrees c = spends_agrees _ _ _ (returns-then-from-to-clause-spends c)

pub returns-else-from-to-clause-spends : goal.returns-else-from-to-clause-spends
returns-else-from-to-clause-spends c =
    spends_inside c.args.self.now c.in-Some.highest c.args.number c.with_bit-self.result _ c.in-Some.is
    (omega arith) c.requires (omega arith) c.with_bit-self.ensures

pub returns-else-from-to-clause-agrees : goal.returns-else-from-to-clause-agrees
returns-else-from-to-clause-agrees c = spends_agrees _ _ _ (returns-else-from-to-clause-spends c)
