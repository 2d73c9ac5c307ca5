use Rattle.osc_context.specs.Views.{number_of}
use Rattle.osc_window.proofs.Agreements.{above_agrees, floor_agrees}
use Rattle.osc_window.proofs.Marks.{from_full}
use Rattle.osc_window.proofs.window.Window.from_floor.Goals as goal

pub returns-clause-made : goal.returns-clause-made
returns-clause-made c = from_full c.args.floor c.args.size

pub returns-clause-agrees : goal.returns-clause-agrees
returns-clause-agrees c = floor_agrees _ (number_of c.args.floor) c.args.size (returns-clause-made c)

pub returns-clause-unspent : goal.returns-clause-unspent
returns-clause-unspent c = above_agrees _ (number_of c.args.floor) c.args.size (returns-clause-made c)
