-- To be believed: how much of some lines a writer gained. old and new are the bytes that the writer holds before and after, if it tells
-- them; a line is a list of characters.
use Rattle.std.specs.Prelude.{ℕ, List, take, Option, Result, Ok, Err}
use Rattle.std.specs.List.{flat_map}
use Rattle.std.specs.Io.KnownBytes.{Appends}
use Rattle.osc_text.specs.declared.fault.Fault.{Fault}
use Rattle.osc_text.specs.declared.fault.Fault.TheVariants.{Usage, Words, Input, Line, Read, Memory, Write}

-- the text of some lines: one after the other (own rule)
abbrev pub text_of : List (List ℕ) → List ℕ
text_of lines = flat_map (λ line. line) lines

-- the writer gained whole lines, from the front of these (own rule)
abbrev pub AppendsFront : Option (List ℕ) → Option (List ℕ) → List (List ℕ) → Type 0
AppendsFront old new lines = (n : ℕ) × Appends old new (text_of (take n lines))

-- what a fault left: whole lines from the front if memory was refused; nothing is said about a failed write, and there is no other fault (own rule)
abbrev pub Stops : Option (List ℕ) → Option (List ℕ) → List (List ℕ) → Fault → Type 0
Stops old new lines Memory = AppendsFront old new lines
Stops old new lines (Write e) = Unit {0}
Stops old new lines (Usage text) = ⊥
Stops old new lines (Words e) = ⊥
Stops old new lines (Input word wrong) = ⊥
Stops old new lines (Line number) = ⊥
Stops old new lines (Read e) = ⊥

-- the writer gained all of these lines, or at a fault what the fault left (own rule)
abbrev pub Writes : {T : Type 0} → Option (List ℕ) → Option (List ℕ) → List (List ℕ) → Result T Fault → Type 0
Writes old new lines (Ok x) = Appends old new (text_of lines)
Writes old new lines (Err e) = Stops old new lines e
