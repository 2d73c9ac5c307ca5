-- How the code is seen: the numbers of an end, with the floor of its keeper.
use Rattle.osc_context.specs.declared.keeper.Keeper as keeper
use Rattle.osc_kept_ends.specs.declared.source.Source.{Source}
use Rattle.osc_kept_ends.specs.Numbering.{Own}
use Rattle.osc_kept_ends.specs.Views.{own_of}

-- the numbers of an end (how the code is seen)
abbrev pub own_in : {K : Type 0} {g : keeper.Ghosts K} → Source K g → Own
own_in {g = g} s = own_of (g.floor s.keeper) s.numbers s.in_hand
