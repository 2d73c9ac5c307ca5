-- How the code is seen: the numbers of a peer, with the floor of its record.
use Rattle.std.specs.Prelude.{ℕ}
use Rattle.osc_context.specs.declared.record_keeper.RecordKeeper as keeper
use Rattle.osc_kept_ends.specs.declared.peer_source.PeerSource.{PeerSource}
use Rattle.osc_kept_ends.specs.Numbering.{Own}
use Rattle.osc_kept_ends.specs.Views.{own_of}

-- the numbers of a peer (how the code is seen)
abbrev pub own_in : {R : Type 0} {g : keeper.Ghosts R} → PeerSource R g → Own
own_in {g = g} s = own_of (g.sender_floor s.keeper) s.numbers s.in_hand

-- what a peer knows to be above all that it received; its record holds at most that (how the code is seen)
abbrev pub received_in : {R : Type 0} {g : keeper.Ghosts R} → PeerSource R g → ℕ
received_in s = s.received

-- how many received numbers more a peer keeps with each save (how the code is seen)
abbrev pub ahead_in : {R : Type 0} {g : keeper.Ghosts R} → PeerSource R g → ℕ
ahead_in s = s.ahead
