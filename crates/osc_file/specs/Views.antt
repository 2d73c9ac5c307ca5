-- How the code is seen: a keeper over a file, and keepers of a record.
use Rattle.std.specs.Prelude.{◌≡◌, ℕ, List, Option, Result, Ok, Err, IfSome, string_bytes}
use Rattle.osc_file.specs.declared.file_keeper.FileKeeper.{FileKeeper}
use Rattle.osc_file.specs.declared.file_trouble.FileTrouble.{FileTrouble}
use Rattle.osc_file.specs.declared.held.Held.{Held}
use Rattle.osc_file.specs.declared.telling_keeper.TellingKeeper.{TellingKeeper}
use Rattle.osc_file.specs.declared.telling_record.TellingRecord.{TellingRecord}
use Rattle.osc_file.specs.declared.held.Held.TheVariants.{Nothing, Number}
use Rattle.osc_file.specs.declared.places.Place.{Place}
use Rattle.osc_file.specs.declared.counted_record.CountedRecord.{CountedRecord}
use Rattle.osc_file.specs.declared.record_file.RecordFile.{RecordFile}
use Rattle.osc_file.specs.declared.record_trouble.RecordTrouble.{RecordTrouble}
use Rattle.osc_context.specs.declared.record_keeper.KeptNumbers.{KeptNumbers}

-- the keeper has this name, or memory for it was refused (how the code is seen)
abbrev pub IsNamed : {R F D A : Type 0} → List ℕ → FileKeeper R F D A → Type 0
IsNamed name k = IfSome k.name (λ kept. string_bytes kept ≡ name)

-- the number that a file holds: 0 if it is missing, or can't be told (how the code is seen)
abbrev pub held_number : Result Held FileTrouble → ℕ
held_number (Err t) = 0
held_number (Ok Nothing) = 0
held_number (Ok (Number n)) = n

-- why the last call that failed did so (how the code is seen)
abbrev pub trouble_of : {R F D A : Type 0} → FileKeeper R F D A → Option FileTrouble
trouble_of k = k.trouble

-- the words that begin the lines of a keeper that tells why it fails (how the code is seen)
abbrev pub words_of : {R F D A W : Type 0} → TellingKeeper R F D A W → List ℕ
words_of k = k.words.now

-- the numbers that a keeper of a record read when it was made, or saved last (how the code is seen)
abbrev pub kept_of : {R F D A : Type 0} → RecordFile R F D A → KeptNumbers
kept_of k = k.saved.numbers

-- the name of a keeper of a record (how the code is seen)
abbrev pub record_name_of : {R F D A : Type 0} → RecordFile R F D A → List ℕ
record_name_of k = string_bytes k.name

-- why the last call of a keeper of a record that failed did so (how the code is seen)
abbrev pub record_trouble_of : {R F D A : Type 0} → RecordFile R F D A → Option RecordTrouble
record_trouble_of k = k.trouble

-- the place that was damaged when a keeper of a record read or wrote both last (how the code is seen)
abbrev pub damaged_place_of : {R F D A : Type 0} → RecordFile R F D A → Option Place
damaged_place_of k = k.seen.damaged

-- the keeper of a record beside a counter (how the code is seen)
abbrev pub counted_file_of : {R C F D A : Type 0} → CountedRecord R C F D A → RecordFile R F D A
counted_file_of k = k.file

-- the counter beside a record (how the code is seen)
abbrev pub counter_of : {R C F D A : Type 0} → CountedRecord R C F D A → C
counter_of k = k.counter

-- the words that begin the lines of a keeper of a record that tells why it fails (how the code is seen)
abbrev pub record_words_of : {R F D A W : Type 0} → TellingRecord R F D A W → List ℕ
record_words_of k = k.words.now

-- the numbers below which a keeper of a record loads none: those that it read or saved, or 0 and 0 if it wasn't opened (how the code is seen)
abbrev pub told_numbers : {R F D A : Type 0} → Result (RecordFile R F D A) RecordTrouble → KeptNumbers
told_numbers (Ok k) = kept_of k
told_numbers (Err t) = record { sender = 0; received = 0 }

-- a record that was opened loads its numbers, and stays what it was; one that wasn't loads none (how the code is seen)
abbrev pub TellsLoaded : {R F D A : Type 0} → Result (RecordFile R F D A) RecordTrouble → ℕ → ℕ → Result (RecordFile R F D A) RecordTrouble → Type 0
TellsLoaded (Ok old) sender received (Ok new) = (sender ≡ old.saved.numbers.sender) × (received ≡ old.saved.numbers.received) × (new.saved ≡ old.saved)
TellsLoaded old sender received new = ⊥
