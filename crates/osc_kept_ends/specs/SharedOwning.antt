-- How the code is seen: a record of two keepers, and a source of numbers that no end has.
use Rattle.std.specs.Prelude.{ℕ, List, Option, Some, None}
use Rattle.osc_context.specs.declared.keeper.Keeper as keeper
use Rattle.osc_kept_ends.specs.declared.sender_source.SenderSource.{SenderSource}
use Rattle.osc_kept_ends.specs.declared.shared_record.SenderKeeper.{SenderKeeper}
use Rattle.osc_kept_ends.specs.declared.shared_record.SharedRecord.{SharedRecord}
use Rattle.osc_kept_ends.specs.Numbering.{Own}
use Rattle.osc_kept_ends.specs.Views.{own_of}

-- the keeper of the Sender Sequence Numbers, if it is there (how the code is seen)
abbrev pub keeper_in : {K : Type 0} {k : keeper.Ghosts K} → Option (SenderKeeper K k) → Option K
keeper_in (Some s) = Some s.keeper
keeper_in None = None

-- the same of a record (how the code is seen)
abbrev pub sender_in : {K Q : Type 0} {k : keeper.Ghosts K} {q : keeper.Ghosts Q} → SharedRecord K Q k q → Option K
sender_in r = keeper_in r.sender

-- a record's keeper of the received number (how the code is seen)
abbrev pub received_in : {K Q : Type 0} {k : keeper.Ghosts K} {q : keeper.Ghosts Q} → SharedRecord K Q k q → Q
received_in r = r.received.keeper

-- what the Sender Key of a record's context is told by (how the code is seen)
abbrev pub fingerprint_in : {K Q : Type 0} {k : keeper.Ghosts K} {q : keeper.Ghosts Q} → SharedRecord K Q k q → List ℕ
fingerprint_in r = r.fingerprint

-- the numbers of a source that no end has (how the code is seen)
abbrev pub own_from : {K : Type 0} {k : keeper.Ghosts K} → SenderSource K k → Own
own_from {k = k} s = own_of (k.floor s.keeper.keeper) s.numbers s.in_hand

-- what the Sender Key of a source is told by (how the code is seen)
abbrev pub fingerprint_from : {K : Type 0} {k : keeper.Ghosts K} → SenderSource K k → List ℕ
fingerprint_from s = s.fingerprint

-- the keeper of a source (how the code is seen)
abbrev pub keeper_from : {K : Type 0} {k : keeper.Ghosts K} → SenderSource K k → K
keeper_from s = s.keeper.keeper
