-- To be believed: which record of two places counts, and which place a save writes first (own rule). a is what NAME.a holds, b is what NAME.b
-- holds.
use Rattle.std.specs.Prelude.{◌≡◌, ◌≢◌, Bool, ◌&&◌, ◌==◌, nat_lt, if◌then◌else◌, Option, Some, None, Result, Ok, Err}
use Rattle.osc_context.specs.declared.record_keeper.KeptNumbers.{KeptNumbers}
use Rattle.osc_file.specs.declared.record.Owner.{Owner}
use Rattle.osc_file.specs.declared.record.Record.{Record}
use Rattle.osc_file.specs.declared.record_trouble.RecordTrouble.{RecordTrouble}
use Rattle.osc_file.specs.declared.record_trouble.RecordTrouble.TheVariants.{Damaged, Lost}
use Rattle.osc_file.specs.declared.places.Found.{Found}
use Rattle.osc_file.specs.declared.places.Found.TheVariants.{Nothing, Damage, Intact}
use Rattle.osc_file.specs.declared.places.Place.{Place}
use Rattle.osc_file.specs.declared.places.Place.TheVariants.{A, B}

-- two records have the same numbers (own rule)
abbrev pub has_same_numbers : KeptNumbers → KeptNumbers → Bool
has_same_numbers m n = (m.sender == n.sender) && (m.received == n.received)

-- the record of the greater generation; two of one generation count if they have the same numbers (own rule)
abbrev pub newer_of : Record → Record → Result Record RecordTrouble
newer_of a b =
    if nat_lt a.generation b.generation then Ok b else if nat_lt b.generation a.generation then Ok a else if has_same_numbers a.numbers b.numbers then Ok a else Err Damaged

-- the record that counts: the intact one, or the newer of two; a damaged or missing one never does, and none is made up (own rule)
abbrev pub newest_of : Found → Found → Result Record RecordTrouble
newest_of (Intact a) (Intact b) = newer_of a b
newest_of (Intact a) Nothing = Ok a
newest_of (Intact a) Damage = Ok a
newest_of Nothing (Intact b) = Ok b
newest_of Damage (Intact b) = Ok b
newest_of Nothing Nothing = Err Lost
newest_of Nothing Damage = Err Damaged
newest_of Damage Nothing = Err Damaged
newest_of Damage Damage = Err Damaged

-- the place that is written first: the one whose record isn't intact, or is older (own rule)
abbrev pub older_of : Found → Found → Place
older_of (Intact a) (Intact b) = if nat_lt b.generation a.generation then B else A
older_of (Intact a) Nothing = B
older_of (Intact a) Damage = B
older_of Nothing b = A
older_of Damage b = A

-- the place without an intact record, if the other has one (own rule)
abbrev pub damaged_of : Found → Found → Option Place
damaged_of (Intact a) (Intact b) = None
damaged_of (Intact a) Nothing = Some B
damaged_of (Intact a) Damage = Some B
damaged_of Nothing (Intact b) = Some A
damaged_of Damage (Intact b) = Some A
damaged_of Nothing Nothing = None
damaged_of Nothing Damage = None
damaged_of Damage Nothing = None
damaged_of Damage Damage = None

-- an intact record there is this owner's (own rule)
abbrev pub IsOwned : Owner → Found → Type 0
IsOwned owner (Intact r) = r.owner ≡ owner
IsOwned owner Nothing = Unit
IsOwned owner Damage = Unit

-- there is an intact record of another end (own rule)
abbrev pub IsOther : Owner → Found → Type 0
IsOther owner (Intact r) = r.owner.fingerprint ≢ owner.fingerprint
IsOther owner Nothing = ⊥
IsOther owner Damage = ⊥

-- there is an intact record of this end that was made elsewhere (own rule)
abbrev pub IsCopied : Owner → Found → Type 0
IsCopied owner (Intact r) = (r.owner.fingerprint ≡ owner.fingerprint) × (r.owner ≢ owner)
IsCopied owner Nothing = ⊥
IsCopied owner Damage = ⊥
