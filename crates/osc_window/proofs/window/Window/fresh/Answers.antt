use Rattle.std.proofs.Common.{refl}
use Rattle.osc_window.specs.Views.{takes, size_of}
use Rattle.osc_window.proofs.Agreements.{fresh_agrees}
use Rattle.osc_window.proofs.window.Window.fresh.Goals as goal

pub returns-clause-made : goal.returns-clause-made
unfolding takes size_of
returns-clause-made c = record { size_is = refl; takes_all = λ n. refl }

pub returns-clause-agrees : goal.returns-clause-agrees
returns-clause-agrees c = fresh_agrees _ c.args.size (returns-clause-made c)
