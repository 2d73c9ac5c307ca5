-- For the proofs: what is promised of a run over an input that is read whole, or line by line.
use Rattle.std.specs.Prelude.{◌≡◌, ◌⊎◌, ◌+◌, ℕ, [], List, ◌∷◌, ◌++◌, Option, Some, None, Result, Ok, Err, IfOk, IfSome}
use Rattle.std.specs.Io.KnownBytes.{Appends}
use Rattle.osc_kept_ends.specs.declared.kept_error.KeptError.{KeptError}
use Rattle.osc_text.specs.Contexts.{Told}
use Rattle.osc_text.specs.Following.{Followed, FrontOf, StopsAt}
use Rattle.osc_text.specs.InputReading.{StopsReading, lines_of}
use Rattle.osc_text.specs.InputText.{InputText}
use Rattle.osc_text.specs.Inputs.{SpellEvents}
use Rattle.osc_text.specs.KeptText.{StartText}
use Rattle.osc_text.specs.Printing.{RunsInput}
use Rattle.osc_text.specs.Written.{AppendsFront, Writes, text_of}
use Rattle.osc_text.specs.declared.fault.Fault.{Fault}
use Rattle.osc_text.specs.declared.fault.Fault.TheVariants.{Line, Memory, Read, Write}

-- an input that is read whole, or line by line, where its bytes may be known (how the code is seen)
pub data Feed : Type 0 where
  read_whole : List ℕ → Feed
  read_by_line : Option (List ℕ) → Feed

-- what is promised by how the input is read (how the code is seen)
abbrev pub ByFeed : (Whole Lines : List ℕ → Type 0) → Type 0 → Feed → Type 0
ByFeed Whole Lines Unknown (read_whole bytes) = Whole bytes
ByFeed Whole Lines Unknown (read_by_line (Some bytes)) = Lines bytes
ByFeed Whole Lines Unknown (read_by_line None) = Unknown

-- the status is 0 or 2 (how the code is seen)
abbrev pub EndsWell : Result ℕ Fault → Type 0
EndsWell r = IfOk r (λ s. (s ≡ 0) ⊎ (s ≡ 2))

-- a fault of a read (how the code is seen)
abbrev pub IsReadFault : Fault → Type 0
IsReadFault Memory = Unit {0}
IsReadFault (Read e) = Unit {0}
IsReadFault fault = ⊥

-- the lines of an input begin with one of which this holds (how the code is seen)
pub record FirstLine (bytes behind : List ℕ) (Holds : List ℕ → Type 0) : Type 0 where
  pub line : List ℕ
  pub lines : lines_of bytes ≡ line ∷ lines_of behind
  pub holds : Holds line

-- the event of the next line of an input, and what is left of the input (how the code is seen)
abbrev pub NextEvent : {V : Type 0} → (List ℕ → V → Type 0) → (List ℕ → Type 0) → ℕ → Option (List ℕ) → Option (List ℕ) → Result (Option V) Fault → Type 0
NextEvent spells IsBad good before after (Ok (Some event)) =
    IfSome before (λ bytes. (rest : List ℕ) × (after ≡ Some rest) × FirstLine bytes rest (λ line. spells line event))
NextEvent spells IsBad good before after (Ok None) = IfSome before (λ bytes. bytes ≡ [])
NextEvent spells IsBad good before after (Err (Line n)) = (n ≡ good + 1) × IfSome before (λ bytes. (rest : List ℕ) × FirstLine bytes rest IsBad)
NextEvent spells IsBad good before after (Err fault) = IsReadFault fault

-- the lines of these events, one line for each, from one state to another (how the code is seen)
abbrev pub EventLinesTo : {S E : Type 0} → (S → E → List ℕ → S → Type 0) → S → List E → List (List ℕ) → S → Type 0
EventLinesTo step s [] [] t = t ≡ s
EventLinesTo step s [] (line ∷ lines) t = ⊥
EventLinesTo step s (event ∷ events) [] t = ⊥
EventLinesTo {S} step s (event ∷ events) (line ∷ lines) t = (mid : S) × step s event line mid × EventLinesTo step mid events lines t

-- a step of an end and its memory, as one state (how the code is seen)
abbrev pub Steps : {C M V : Type 0} → (C → M → V → List ℕ → C → M → Type 0) → C × M → V → List ℕ → C × M → Type 0
Steps does s event line t = does s.0 s.1 event line t.0 t.1

-- the events run from this end on, with a memory of nothing, and these are their lines (how the code is seen)
abbrev pub RanFrom : {C M V : Type 0} → (M → Type 0) → (C → M → V → List ℕ → C → M → Type 0) → C → List V → List (List ℕ) → Type 0
RanFrom {C} {M} IsNew does end events lines = (memory : M) × IsNew memory × (t : C × M) × EventLinesTo (Steps does) (end, memory) events lines t

-- after each history with which the end agrees, the event has this line, and the end agrees with a history afterwards (how the code is seen)
abbrev pub Follows : {C M V H S E : Type 0} → (C → H → Type 0) → (C → M → H → S) → (V → E) → (V → Type 0) → (S → E → List ℕ → S → Type 0) → C → M → V → List ℕ → C → M → Type 0
Follows {H = H} AgreesWith state seen IsRight step end memory event line next left =
    (h : H) → AgreesWith end h → IsRight event → (k : H) × step (state end memory h) (seen event) line (state next left k) × AgreesWith next k

-- there was no memory for the event, or it ran, and its line is written (how the code is seen)
pub data RunsEvent (Does : List ℕ → Type 0) (old new : Option (List ℕ)) (r : Result (Unit {0}) Fault) : Type 0 where
  no_memory : r ≡ Err Memory → new ≡ old → RunsEvent Does old new r
  ran : (line : List ℕ) → Does line → Writes old new (line ∷ []) r → RunsEvent Does old new r

-- the first lines of the input were read as these events (how the code is seen)
pub record ReadsFront {V : Type 0} (spells : List ℕ → V → Type 0) (input : List ℕ) (all : List V) : Type 0 where
  pub good : List (List ℕ)
  pub rest : List (List ℕ)
  pub parts : lines_of input ≡ good ++ rest
  pub read : SpellEvents spells good all

-- the lines of an input ran, one by one (how the code is seen)
abbrev pub RunsLines : {V : Type 0} → (List ℕ → V → Type 0) → (List ℕ → Type 0) → (List V → List (List ℕ) → Type 0) → Option (List ℕ) → Option (List ℕ) → Result ℕ Fault → List ℕ → Type 0
RunsLines {V} spells IsBad Ran old new (Ok s) input =
    (s ≡ 0) × (all : List V) × (lines : List (List ℕ)) × Ran all lines × SpellEvents spells (lines_of input) all × Appends old new (text_of lines)
RunsLines {V} spells IsBad Ran old new (Err (Line n)) input =
    (stops : StopsReading spells IsBad input n) × (lines : List (List ℕ)) × Ran stops.all lines × Appends old new (text_of lines)
RunsLines {V} spells IsBad Ran old new (Err (Read e)) input =
    (all : List V) × (lines : List (List ℕ)) × Ran all lines × ReadsFront spells input all × Appends old new (text_of lines)
RunsLines {V} spells IsBad Ran old new (Err Memory) input =
    (all : List V) × (lines : List (List ℕ)) × Ran all lines × ReadsFront spells input all × AppendsFront old new lines
RunsLines {V} spells IsBad Ran old new (Err (Write e)) input = Unit {0}
RunsLines {V} spells IsBad Ran old new (Err fault) input = ⊥

-- what is promised of a run over an input, by how it is read (how the code is seen)
abbrev pub RunsFeed : {X V : Type 0} → (X → Option (List ℕ)) → (List ℕ → V → Type 0) → (List ℕ → Type 0) → (AreLinesOf Ran : List V → List (List ℕ) → Type 0) → Feed → X → X → Result ℕ Fault → Type 0
RunsFeed contents spells IsBad AreLinesOf Ran feed before after r =
    ByFeed (λ input. RunsInput contents spells IsBad AreLinesOf input before after r) (RunsLines spells IsBad Ran (contents before) (contents after) r) (IfOk r (λ s. s ≡ 0)) feed

-- what a call wrote of an end that is followed, under a context (how the code is seen)
abbrev pub FollowedUnder : {X S E : Type 0} → (X → Option (List ℕ)) → Told → (S → Type 0) → (List ℕ → E → Type 0) → (S → E → List ℕ → S → Type 0) → List ℕ → X → X → Result ℕ Fault → Type 0
FollowedUnder {S = S} contents tells Begins spells step input =
    Followed contents tells (λ n lines. (s : S) × Begins s × StopsAt spells step s input n lines) (λ lines. (s : S) × Begins s × FrontOf spells step s input lines)

-- the same, of an end whose numbers are kept (how the code is seen)
abbrev pub FollowedAround : {K X S E : Type 0} → (KeptError → K → Type 0) → (S → Type 0) → (List ℕ → E → Type 0) → (S → E → List ℕ → S → Type 0) → (X → Option (List ℕ)) → List ℕ → X → X → Result ℕ Fault → Type 0
FollowedAround Refuses Begins spells step contents input = FollowedUnder contents (StartText Refuses Begins (λ s. InputText spells step s input)) Begins spells step input
