-- What came of an end whose numbers are kept is what is printed of it.
use Rattle.std.proofs.Common.{◌≡◌, ◌⊎◌, ℕ, inl, inr, List, [], ◌∷◌, All, map, Option, Result, Ok, Err, IfOk, refl, subst, arith}
use Rattle.std.proofs.lemmas.List.{take_all}
use Rattle.std.proofs.lemmas.List.Elements.{All-head, All-tail}
use Rattle.osc_context.specs.ContextRefusal.{context_error_text}
use Rattle.osc_context.specs.declared.parameters.Params.{Params}
use Rattle.osc_kept_ends.specs.Views.{kept_error_text}
use Rattle.osc_kept_ends.specs.declared.kept_error.KeptError.{KeptError}
use Rattle.osc_kept_runs.specs.KeptRuns.{RunOf}
use Rattle.osc_text.specs.Contexts.{InContext, Told}
use Rattle.osc_text.specs.Contexts.InContext.{in_context, no_context}
use Rattle.osc_text.specs.EntryLines.{entry_line}
use Rattle.osc_text.specs.InputReading.{Misreads, SpellsNone, SpellsSeen}
use Rattle.osc_text.specs.InputText.{EventLines, HasBadLineOf, InputText}
use Rattle.osc_text.specs.Inputs.{IsFirstBadLine, SpellsInput}
use Rattle.osc_text.specs.KeptText.{FrontText, LineOf, StartText, WroteBy}
use Rattle.osc_text.specs.KeptText.StartText.{not_started, started}
use Rattle.osc_text.specs.Lines.{refused_line}
use Rattle.osc_text.specs.Printing.{BeginsBadly, RunsContext, RunsEvents, RunsInput, WroteAround}
use Rattle.osc_text.specs.Printing.RunsContext.{derived, refused}
use Rattle.osc_text.specs.Printing.RunsInput.{misread, ran}
use Rattle.osc_text.specs.Written.{Writes}
use Rattle.osc_text.specs.declared.fault.Fault.{Fault}
use Rattle.osc_text.specs.declared.fault.Fault.TheVariants.{Line, Memory, Write}
use Rattle.osc_text.proofs.InputLines.{first_bad, input_spelled}
use Rattle.osc_text.proofs.InputTexts.{BadInContext, Refuses, runs_seen}

-- ---- runs

module _ {S V X E : Type 0} (Step : S → V → X → S → Type 0) (seen : V → E) (IsRight : V → Type 0) (text : X → List ℕ) where
  -- a run has the lines of its events
  pub run_is : (s t : S) (all : List V) (log : List X) → All IsRight all → RunOf Step s all log t → EventLines (LineOf Step seen IsRight text) s (map seen all) (map (λ x. entry_line (text x)) log)
  run_is s t [] [] is run = tt
  run_is s t [] (x ∷ log) is run = absurd run
  run_is s t (e ∷ all) [] is run = absurd run
  run_is s t (e ∷ all) (x ∷ log) is (mid, step, more) =
      (mid, (e, x, refl, All-head IsRight e all is, step, refl), run_is mid t all log (All-tail IsRight e all is) more)

-- ---- inputs

module _ {X S E : Type 0} (contents : X → Option (List ℕ)) (spells : List ℕ → E → Type 0) (step : S → E → List ℕ → S → Type 0) where
  -- events that ran are printed
  run_told : (s : S) (input : List ℕ) (all : List E) (before after : X) (r : Result ℕ Fault) → SpellsInput spells input all → RunsEvents (EventLines step s) all (contents before) (contents after) r
      → WroteBy contents (InputText spells step s input) (FrontText spells step s input) (IsFirstBadLine spells input) before after r
  run_told s input all before after (Ok k) spelled runs =
      (runs.lines, (all, spelled, subst (λ (es : List E). EventLines step s es runs.lines) (take_all runs.n all (let n = runs.whole.1 in omega (arith, n))) runs.served, runs.whole.0), runs.written)
  run_told s input all before after (Err Memory) spelled runs = inr (runs.lines, 0, (all, runs.n, spelled, runs.served, refl), runs.written)
  run_told s input all before after (Err (Write e)) spelled runs = tt
  run_told s input all before after (Err fault) spelled runs = absurd runs.written

  -- an input that isn't read prints nothing
  misread_told : {V : Type 0} (seen : V → E) (IsRight : V → Type 0) (s : S) (input : List ℕ) (before : X) (fault : Fault) → Misreads (SpellsSeen spells seen IsRight) (SpellsNone spells) input fault
      → WroteBy contents (InputText spells step s input) (FrontText spells step s input) (IsFirstBadLine spells input) before before (Err fault)
  misread_told seen IsRight s input before (Line k) m = (first_bad spells seen IsRight input k m, refl)
  misread_told seen IsRight s input before Memory m = inl refl
  misread_told seen IsRight s input before fault m = absurd m

  -- an input is printed
  pub input_told : {V : Type 0} (seen : V → E) (IsRight : V → Type 0) (AreLinesOf : List V → List (List ℕ) → Type 0) (s : S) (input : List ℕ) (before after : X) (r : Result ℕ Fault)
      → ((some : List V) (lines : List (List ℕ)) → AreLinesOf some lines → All IsRight some → EventLines step s (map seen some) lines)
      → RunsInput contents (SpellsSeen spells seen IsRight) (SpellsNone spells) AreLinesOf input before after r
      → WroteBy contents (InputText spells step s input) (FrontText spells step s input) (IsFirstBadLine spells input) before after r
  input_told seen IsRight AreLinesOf s input before after r told (misread fault m answer same) = rw (same, answer) (misread_told seen IsRight s input before fault m)
  input_told seen IsRight AreLinesOf s input before after r told (ran all spelled runs) =
      let good = input_spelled spells seen IsRight input all spelled in
      run_told s input (map seen all) before after r good.0 (runs_seen step seen IsRight AreLinesOf s all (contents before) (contents after) r told good.1 runs)

-- ---- what is told with more around it

-- the same, with more around it
told_as : {X : Type 0} (contents : X → Option (List ℕ)) (tells begins says fronts : Told) (HasBad HasWorse : ℕ → Type 0) (before after : X) (r : Result ℕ Fault) → ((lines : List (List ℕ)) (n : ℕ) → says lines n → tells lines n)
    → ((lines : List (List ℕ)) (n : ℕ) → fronts lines n → begins lines n) → ((n : ℕ) → HasWorse n → HasBad n) → WroteBy contents says fronts HasWorse before after r → WroteBy contents tells begins HasBad before after r
told_as contents tells begins says fronts HasBad HasWorse before after (Ok k) there front_there bad_there (lines, text, wrote) = (lines, there lines k text, wrote)
told_as contents tells begins says fronts HasBad HasWorse before after (Err (Line n)) there front_there bad_there (bad, same) = (bad_there n bad, same)
told_as contents tells begins says fronts HasBad HasWorse before after (Err Memory) there front_there bad_there (inl same) = inl same
told_as contents tells begins says fronts HasBad HasWorse before after (Err Memory) there front_there bad_there (inr (lines, n, text, wrote)) = inr (lines, n, front_there lines n text, wrote)
told_as contents tells begins says fronts HasBad HasWorse before after (Err (Write e)) there front_there bad_there w = tt
told_as contents tells begins says fronts HasBad HasWorse before after (Err fault) there front_there bad_there w = absurd w

module _ {X S E : Type 0} (contents : X → Option (List ℕ)) (spells : List ℕ → E → Type 0) (step : S → E → List ℕ → S → Type 0) (input : List ℕ) (before after : X) where
  -- what is told of the input, and of a front of it
  abbrev pub tells : S → Told
  tells s = InputText spells step s input

  abbrev pub begins : S → Told
  begins s = FrontText spells step s input

  -- an end that started prints what its input says
  pub start_told : (around : (S → Told) → Told) (HasBad : ℕ → Type 0) (r : Result ℕ Fault) (s : S) → ((told : S → Told) (lines : List (List ℕ)) (n : ℕ) → told s lines n → around told lines n) → ((n : ℕ) → IsFirstBadLine spells input n → HasBad n)
      → WroteBy contents (tells s) (begins s) (IsFirstBadLine spells input) before after r → WroteAround spells step around HasBad input X contents before after r
  start_told around HasBad r s there bad_there = told_as contents (around tells) (around begins) (tells s) (begins s) HasBad (IsFirstBadLine spells input) before after r (there tells) (there begins) bad_there

  -- a refusal is printed
  pub refusal_told : (around : (S → Told) → Told) (HasBad : ℕ → Type 0) (r : Result ℕ Fault) (line : List ℕ) → ((told : S → Told) (lines : List (List ℕ)) (n : ℕ) → Refuses line lines n → around told lines n)
      → Writes (contents before) (contents after) (line ∷ []) r → IfOk r (λ n. n ≡ 2) → WroteAround spells step around HasBad input X contents before after r
  refusal_told around HasBad (Ok k) line there w two = (line ∷ [], there tells (line ∷ []) k (refl, two), w)
  refusal_told around HasBad (Err Memory) line there w two = inr (line ∷ [], 2, there begins (line ∷ []) 2 (refl, refl), w)
  refusal_told around HasBad (Err (Write e)) line there w two = tt
  refusal_told around HasBad (Err fault) line there w two = absurd w

  -- a context is printed, or its refusal
  pub context_told : (g : Params) (around : (S → Told) → Told) (HasBad HasWorse : ℕ → Type 0) (r : Result ℕ Fault) → ((n : ℕ) → BadInContext g HasBad n → HasWorse n)
      → RunsContext g (contents before) (contents after) r (WroteAround spells step around HasBad input X contents before after r) → WroteAround spells step (λ told. InContext g (around told)) HasWorse input X contents before after r
  context_told g around HasBad HasWorse r there (derived none told) =
      told_as contents (InContext g (around tells)) (InContext g (around begins)) (around tells) (around begins) HasWorse HasBad before after r (λ lines n text. in_context none text) (λ lines n text. in_context none text) (λ n bad. there n (none, bad)) told
  context_told g around HasBad HasWorse r there (refused e first one w two) =
      refusal_told (λ told. InContext g (around told)) HasWorse r (refused_line (context_error_text e)) (λ told lines n text. no_context e first text.0 text.1) w two

-- ---- statuses

-- lines that are told come with status 0 or 2
abbrev pub ZeroOrTwo : Told → Type 0
ZeroOrTwo tells = (lines : List (List ℕ)) (n : ℕ) → tells lines n → (n ≡ 0) ⊎ (n ≡ 2)

pub status_told : {X : Type 0} (contents : X → Option (List ℕ)) (tells begins : Told) (HasBad : ℕ → Type 0) (before after : X) (r : Result ℕ Fault) → ZeroOrTwo tells
    → WroteBy contents tells begins HasBad before after r → IfOk r (λ n. (n ≡ 0) ⊎ (n ≡ 2))
status_told contents tells begins HasBad before after (Ok k) two (lines, text, wrote) = two lines k text
status_told contents tells begins HasBad before after (Err e) two w = tt

pub in_context_two : (g : Params) (tells : Told) → ZeroOrTwo tells → ZeroOrTwo (InContext g tells)
in_context_two g tells two lines n (no_context e first text is) = inr is
in_context_two g tells two lines n (in_context none text) = two lines n text

pub start_two : {K S E : Type 0} (Refuses : KeptError → K → Type 0) (Starts : S → Type 0) (spells : List ℕ → E → Type 0) (step : S → E → List ℕ → S → Type 0) (input : List ℕ) → ZeroOrTwo (StartText Refuses Starts (λ s. InputText spells step s input))
start_two Refuses Starts spells step input lines n (not_started e left refuses text is) = inr is
start_two Refuses Starts spells step input lines n (started s starts (events, spelled, event_lines, is)) = inl is

-- ---- an end that begins

module _ {K X S E : Type 0} (Refuses : KeptError → K → Type 0) (Starts : S → Type 0) (contents : X → Option (List ℕ)) (spells : List ℕ → E → Type 0) (step : S → E → List ℕ → S → Type 0) (input : List ℕ) (before after : X) (r : Result ℕ Fault) where
  -- what is told around the input's text, before and after a context is derived
  abbrev Under : Type 0
  Under = WroteAround spells step (StartText Refuses Starts) (BeginsBadly Starts spells input) input X contents before after r

  -- an end that started prints what its input says
  pub begun_told : (s : S) → Starts s → WroteBy contents (InputText spells step s input) (FrontText spells step s input) (IsFirstBadLine spells input) before after r → Under
  begun_told s starts = start_told contents spells step input before after (StartText Refuses Starts) (BeginsBadly Starts spells input) r s (λ told lines n text. started s starts text) (λ n bad. (s, starts, bad))

  -- a refused start is printed
  pub not_begun_told : (e : KeptError) (left : K) → Refuses e left → Writes (contents before) (contents after) (refused_line (kept_error_text e) ∷ []) r → IfOk r (λ n. n ≡ 2) → Under
  not_begun_told e left refuses = refusal_told contents spells step input before after (StartText Refuses Starts) (BeginsBadly Starts spells input) r (refused_line (kept_error_text e)) (λ told lines n text. not_started e left refuses text.0 text.1)

  -- a context is printed, or its refusal
  pub end_told : (g : Params) → RunsContext g (contents before) (contents after) r Under
      → WroteAround spells step (λ told. InContext g (StartText Refuses Starts told)) (HasBadLineOf g Starts spells input) input X contents before after r
  end_told g = context_told contents spells step input before after g (StartText Refuses Starts) (BeginsBadly Starts spells input) (HasBadLineOf g Starts spells input) r
      (λ n bad. record { in_context = bad.0; state = bad.1.0; begins = bad.1.1; first_bad = bad.1.2 })

  -- with status 0 or 2
  pub end_two : (g : Params) → RunsContext g (contents before) (contents after) r Under → IfOk r (λ n. (n ≡ 0) ⊎ (n ≡ 2))
  end_two g runs = status_told contents (InContext g (StartText Refuses Starts (λ s. InputText spells step s input))) (InContext g (StartText Refuses Starts (λ s. FrontText spells step s input))) (HasBadLineOf g Starts spells input) before after r
      (in_context_two g (StartText Refuses Starts (λ s. InputText spells step s input)) (start_two Refuses Starts spells step input)) (end_told g runs)
