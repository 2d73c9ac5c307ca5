-- For the proofs: what is promised of a call that prints. before and after are the writer, contents is what a writer tells about its bytes,
-- r is what the call returns.
use Rattle.std.specs.Prelude.{◌≡◌, ◌⊎◌, ℕ, List, [], ◌∷◌, Option, Result, Err, IfOk, length, take}
use Rattle.osc_context.specs.ContextRefusal.{IsFirstParamsRefusal, RefusesParams, context_error_text}
use Rattle.osc_context.specs.declared.context_error.ContextError.{ContextError}
use Rattle.osc_context.specs.declared.parameters.Params.{Params}
use Rattle.osc_text.specs.Contexts.{Told}
use Rattle.osc_text.specs.InputReading.{Misreads, lines_of}
use Rattle.osc_text.specs.InputText.{InputText, RefusesLine}
use Rattle.osc_text.specs.Inputs.{IsFirstBadLine, SpellEvents}
use Rattle.osc_text.specs.KeptText.{FrontText, WroteBy}
use Rattle.osc_text.specs.Lines.{refused_line}
use Rattle.osc_text.specs.Written.{Writes}
use Rattle.osc_text.specs.declared.fault.Fault.{Fault}
use Rattle.osc_text.specs.declared.fault.Fault.TheVariants.{Line}

-- the call prints what is told, or returns a bad line's number (how the code is seen)
pub record Prints {X : Type 0} (contents : X → Option (List ℕ)) (tells : Told) (HasBad : ℕ → Type 0) (before after : X) (r : Result ℕ Fault) : Type 0 where
  pub told : IfOk r (λ s. (lines : List (List ℕ)) × tells lines s)
  pub written : (lines : List (List ℕ)) (status : ℕ) → tells lines status → Writes (contents before) (contents after) lines r
  pub status : (lines : List (List ℕ)) (status : ℕ) → tells lines status → IfOk r (λ s. s ≡ status)
  pub two : IfOk r (λ s. (s ≡ 0) ⊎ (s ≡ 2))
  pub refused : (n : ℕ) → r ≡ Err (Line n) → HasBad n
  pub refuses : (n : ℕ) → HasBad n → RefusesLine n r
  pub quiet : (n : ℕ) → HasBad n → after ≡ before

-- what is promised of a call over any writer, by what the writer tells, the writer before and after, and what the call returns (how the code is seen)
abbrev pub Promised : Type 1
Promised = (X : Type 0) → (X → Option (List ℕ)) → X → X → Result ℕ Fault → Type 0

-- what a call wrote for an input, with what is told around the input's text (how the code is seen)
abbrev pub WroteAround : {S E : Type 0} → (List ℕ → E → Type 0) → (S → E → List ℕ → S → Type 0) → ((S → Told) → Told) → (ℕ → Type 0) → List ℕ → Promised
WroteAround spells step around HasBad input X contents = WroteBy contents (around (λ s. InputText spells step s input)) (around (λ s. FrontText spells step s input)) HasBad

-- an end begins in some state, and the line with this number is the first bad one (how the code is seen)
abbrev pub BeginsBadly : {S E : Type 0} → (S → Type 0) → (List ℕ → E → Type 0) → List ℕ → ℕ → Type 0
BeginsBadly {S} Begins spells input n = (s : S) × Begins s × IsFirstBadLine spells input n

-- the lines of the first n of these events are written, and at Ok that is all of them (how the code is seen)
pub record RunsEvents {V : Type 0} (AreLinesOf : List V → List (List ℕ) → Type 0) (all : List V) (old new : Option (List ℕ)) (r : Result ℕ Fault) : Type 0 where
  pub n : ℕ
  pub lines : List (List ℕ)
  pub served : AreLinesOf (take n all) lines
  pub written : Writes old new lines r
  pub whole : IfOk r (λ status. (status ≡ 0) × (n ≡ length all))

-- the input wasn't read and nothing is written, or its events ran (how the code is seen)
pub data RunsInput {X V : Type 0} (contents : X → Option (List ℕ)) (spells : List ℕ → V → Type 0) (IsBad : List ℕ → Type 0) (AreLinesOf : List V → List (List ℕ) → Type 0)
    (input : List ℕ) (before after : X) (r : Result ℕ Fault) : Type 0 where
  misread : (fault : Fault) → Misreads spells IsBad input fault → r ≡ Err fault → after ≡ before → RunsInput contents spells IsBad AreLinesOf input before after r
  ran : (all : List V) → SpellEvents spells (lines_of input) all → RunsEvents AreLinesOf all (contents before) (contents after) r → RunsInput contents spells IsBad AreLinesOf input before after r

-- the context is refused and the line of the refusal is written, or the context is derived and this holds under it (how the code is seen)
pub data RunsContext (g : Params) (old new : Option (List ℕ)) (r : Result ℕ Fault) (Under : Type 0) : Type 0 where
  refused : (e : ContextError) → IsFirstParamsRefusal g e → ((f : ContextError) → IsFirstParamsRefusal g f → f ≡ e) → Writes old new (refused_line (context_error_text e) ∷ []) r → IfOk r (λ s. s ≡ 2)
      → RunsContext g old new r Under
  derived : ((e : ContextError) → ¬ RefusesParams g e) → Under → RunsContext g old new r Under
