use Rattle.std.proofs.Common.{◌<◌, ℕ, List, subst, sym, length}
use Rattle.osc_status.proofs.Names.{is_short}
use Rattle.osc_status.proofs.status.name_of.Goals as goal

pub returns-clause-most : goal.returns-clause-most
returns-clause-most c = subst (λ (name : List ℕ). length name < 24) (sym c.name_at.ensures) (is_short c.args.status)
