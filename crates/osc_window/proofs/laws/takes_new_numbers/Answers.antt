use Rattle.osc_window.proofs.Agreements.{fresh_law, floor_law}
use Rattle.osc_window.proofs.laws.takes_new_numbers.Goals as goal

pub returns-clause-fresh : goal.returns-clause-fresh
returns-clause-fresh c = fresh_law

pub returns-clause-from_floor : goal.returns-clause-from_floor
returns-clause-from_floor c = floor_law
