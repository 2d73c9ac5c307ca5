-- To be believed: what is printed for an input, whatever its lines ask for (own rule). spells says which line spells which event, step says
-- which line is printed for an event, by the states before and after it.
use Rattle.std.specs.Prelude.{◌≡◌, ℕ, List, [], ◌∷◌, Result, Ok, Err}
use Rattle.osc_context.specs.ContextRefusal.{RefusesParams}
use Rattle.osc_context.specs.declared.context_error.ContextError.{ContextError}
use Rattle.osc_context.specs.declared.parameters.Params.{Params}
use Rattle.osc_text.specs.Contexts.{Told}
use Rattle.osc_text.specs.Inputs.{IsFirstBadLine, SpellsInput}
use Rattle.osc_text.specs.declared.fault.Fault.{Fault}
use Rattle.osc_text.specs.declared.fault.Fault.TheVariants as faults

-- the lines of these events, one line for each, from this state on (own rule)
abbrev pub EventLines : {S E : Type 0} → (S → E → List ℕ → S → Type 0) → S → List E → List (List ℕ) → Type 0
EventLines step s [] [] = Unit {0}
EventLines step s [] (line ∷ lines) = ⊥
EventLines step s (event ∷ events) [] = ⊥
EventLines {S} step s (event ∷ events) (line ∷ lines) = (t : S) × step s event line t × EventLines step t events lines

-- one line for each event that the input spells, with status 0 (own rule)
abbrev pub InputText : {S E : Type 0} → (List ℕ → E → Type 0) → (S → E → List ℕ → S → Type 0) → S → List ℕ → Told
InputText {S} {E} spells step s input lines status = (events : List E) × SpellsInput spells input events × EventLines step s events lines × (status ≡ 0)

-- the context is derived, an end begins under it in some state, and the line with this number, counted from 1, is the first that spells no event (own rule)
pub record HasBadLineOf {S E : Type 0} (g : Params) (Begins : S → Type 0) (spells : List ℕ → E → Type 0) (input : List ℕ) (number : ℕ) : Type 0 where
  pub in_context : (e : ContextError) → ¬ RefusesParams g e
  pub state : S
  pub begins : Begins state
  pub first_bad : IsFirstBadLine spells input number

-- what is returned if a line is bad: its number, or a lack of memory (own rule)
abbrev pub RefusesLine : {T : Type 0} → ℕ → Result T Fault → Type 0
RefusesLine number (Ok x) = ⊥
RefusesLine number (Err (faults.Line n)) = n ≡ number
RefusesLine number (Err faults.Memory) = Unit {0}
RefusesLine number (Err fault) = ⊥
