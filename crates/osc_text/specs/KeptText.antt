-- To be believed: what is printed for an end whose numbers are kept, whatever its lines ask for (own rule). What a keeper returns is its own matter, so
-- a line is told by the run's step that it stands for. old and new are the writer before and after, contents is what a writer tells about its bytes.
use Rattle.std.specs.Prelude.{◌≡◌, ◌≢◌, ◌⊎◌, ℕ, List, [], ◌∷◌, Option, Result, Ok, Err, take}
use Rattle.std.specs.Io.KnownBytes.{Appends}
use Rattle.osc_context.specs.declared.keeper.Keeper as keeper
use Rattle.osc_kept_ends.specs.Refusals.{RefusesAt}
use Rattle.osc_kept_ends.specs.Views.{kept_error_text}
use Rattle.osc_kept_ends.specs.declared.kept_error.KeptError.{KeptError}
use Rattle.osc_kept_ends.specs.declared.kept_error.KeptError.TheVariants.{LivesExhausted}
use Rattle.osc_text.specs.Contexts.{Told}
use Rattle.osc_text.specs.EntryLines.{entry_line}
use Rattle.osc_text.specs.InputText.{EventLines}
use Rattle.osc_text.specs.Inputs.{SpellsInput}
use Rattle.osc_text.specs.Lines.{refused_line}
use Rattle.osc_text.specs.Written.{AppendsFront, text_of}
use Rattle.osc_text.specs.declared.fault.Fault.{Fault}
use Rattle.osc_text.specs.declared.fault.Fault.TheVariants.{Line, Memory, Write}

-- the line for an event of the input: its event in the run has room, and the line is the line of the run's entry (own rule)
abbrev pub LineOf : {S V X E : Type 0} → (S → V → X → S → Type 0) → (V → E) → (V → Type 0) → (X → List ℕ) → S → E → List ℕ → S → Type 0
LineOf {V = V} {X = X} Step seen IsRight text s event line t =
    (v : V) × (x : X) × (seen v ≡ event) × IsRight v × Step s v x t × (line ≡ entry_line (text x))

-- why a server or a client doesn't start, and what keeper is left; k says what the keeper tells (RFC 8613, 7.2.1 and B.1.1)
abbrev pub NotStarted : {K : Type 0} (k : keeper.Ghosts K) → K → KeptError → K → Type 0
NotStarted k keeper e after = RefusesAt k.loads k.failures keeper e after × (e ≢ LivesExhausted)

-- what is printed under a context: the line of a refused start, by Refuses, or what is told of an end that started (RFC 8613, 7.2.1 and B.1)
pub data StartText {K S : Type 0} (Refuses : KeptError → K → Type 0) (Starts : S → Type 0) (told : S → Told) (lines : List (List ℕ)) (status : ℕ) : Type 0 where
  not_started : (e : KeptError) (after : K) → Refuses e after → lines ≡ refused_line (kept_error_text e) ∷ [] → status ≡ 2 → StartText Refuses Starts told lines status
  started : (s : S) → Starts s → told s lines status → StartText Refuses Starts told lines status

-- the lines of the first n events of the input (own rule)
abbrev pub FrontText : {S E : Type 0} → (List ℕ → E → Type 0) → (S → E → List ℕ → S → Type 0) → S → List ℕ → Told
FrontText {E = E} spells step s input lines status =
    (events : List E) × (n : ℕ) × SpellsInput spells input events × EventLines step s (take n events) lines × (status ≡ 0)

-- what a call wrote, by what it returns: all of the lines that are told; nothing if a line is bad; if memory was refused, nothing, or whole
-- lines from the front of some lines that begin the text (own rule)
abbrev pub WroteBy : {X : Type 0} → (X → Option (List ℕ)) → (tells begins : Told) → (ℕ → Type 0) → X → X → Result ℕ Fault → Type 0
WroteBy contents tells begins HasBad old new (Ok status) = (lines : List (List ℕ)) × tells lines status × Appends (contents old) (contents new) (text_of lines)
WroteBy contents tells begins HasBad old new (Err (Line n)) = HasBad n × (new ≡ old)
WroteBy contents tells begins HasBad old new (Err Memory) =
    (new ≡ old) ⊎ ((lines : List (List ℕ)) × (status : ℕ) × begins lines status × AppendsFront (contents old) (contents new) lines)
WroteBy contents tells begins HasBad old new (Err (Write e)) = Unit {0}
WroteBy contents tells begins HasBad old new (Err fault) = ⊥
