-- What came of a server's start is what is printed of it.
use Rattle.std.proofs.Common.{◌≡◌, ◌⊎◌, inl, inr, ℕ, List, [], ◌∷◌, Option, Result, IfOk, ap, subst, ◌∙◌}
use Rattle.osc_context.specs.SecurityContext.{SecurityContext}
use Rattle.osc_window.specs.declared.window_size.WindowSize.{WindowSize}
use Rattle.osc_laws.specs.Laws.{OneServerAnswer}
use Rattle.osc_endpoint.specs.ServerAnswer.{ServerAnswer}
use Rattle.osc_life.specs.ServerHistory.{Add, Added, Begin, Entry, NotAdded, Then}
use Rattle.osc_life.specs.Text.{add_error_text}
use Rattle.osc_life.specs.declared.server_error.AddError.{AddError}
use Rattle.osc_life.specs.declared.start.Start.{Start}
use Rattle.osc_text.specs.InputText.{InputText}
use Rattle.osc_text.specs.Inputs.{IsFirstBadLine}
use Rattle.osc_text.specs.Lines.{refused_line}
use Rattle.osc_text.specs.Printing.{BeginsBadly, Prints}
use Rattle.osc_text.specs.ReplaceEvents.{SpellsServing}
use Rattle.osc_text.specs.Serving.{ServerLine, ServerText, ServingState, serving_from}
use Rattle.osc_text.specs.Serving.ServerText.{not_started as refused, served}
use Rattle.osc_text.specs.Written.{Writes}
use Rattle.osc_text.specs.declared.fault.Fault.{Fault}
use Rattle.osc_text.proofs.InputTexts.{Never, Refuses, prints_as, refusal_prints}

-- the context starts, and the line with this number is the first bad one
abbrev StartsBadly : SecurityContext → Start → WindowSize → List ℕ → ℕ → Type 0
StartsBadly s start size = BeginsBadly (λ i. ServerAnswer Begin (Add s start size 1) (Added i)) SpellsServing

-- the lines of a refused start
abbrev refusal_lines : Entry → List (List ℕ)
refusal_lines (NotAdded e) = refused_line (add_error_text e) ∷ []
refusal_lines entry = []

-- what is printed comes with status 0 or 2
pub server_two : (s : SecurityContext) (start : Start) (size : WindowSize) (bytes : List ℕ) (lines : List (List ℕ)) (n : ℕ) → ServerText s start size bytes lines n → (n ≡ 0) ⊎ (n ≡ 2)
server_two s start size bytes lines n (refused e answer text two) = inr two
server_two s start size bytes lines n (served i answer text) = inl text.3

module _ {X : Type 0} (law : OneServerAnswer) (contents : X → Option (List ℕ)) (s : SecurityContext) (start : Start) (size : WindowSize) (bytes : List ℕ) (before after : X) (r : Result ℕ Fault) where
  -- a server that started prints what its input says
  pub start_prints : (i : ℕ) → ServerAnswer Begin (Add s start size 1) (Added i)
      → Prints contents (InputText SpellsServing ServerLine (serving_from s start size i) bytes) (IsFirstBadLine SpellsServing bytes) before after r
      → Prints contents (ServerText s start size bytes) (StartsBadly s start size bytes) before after r
  start_prints i answer p = prints_as contents before after r _ (ServerText s start size bytes) _ (StartsBadly s start size bytes) p (λ lines n text. served i answer text) back (λ n bad. (i, answer, bad)) (λ n bad. bad.2)
    where
      begun : Entry → ServingState
      begun x = record { history = Then Begin (Add s start size 1) x; tickets = []; features = s.features; size = size }

      back : (lines : List (List ℕ)) (n : ℕ) → ServerText s start size bytes lines n → InputText SpellsServing ServerLine (serving_from s start size i) bytes lines n
      back lines n (refused e answer_too text two) = let same = law Begin (Add s start size 1) (Added i) (NotAdded e) tt answer answer_too in cc same
      back lines n (served j answer_too text) =
          let same = law Begin (Add s start size 1) (Added j) (Added i) tt answer_too answer in
          subst (λ (x : Entry). InputText SpellsServing ServerLine (begun x) bytes lines n) same text

  -- a refused start is printed
  pub no_start_prints : (e : AddError) → ServerAnswer Begin (Add s start size 1) (NotAdded e) → Writes (contents before) (contents after) (refused_line (add_error_text e) ∷ []) r → IfOk r (λ n. n ≡ 2)
      → Prints contents (ServerText s start size bytes) (StartsBadly s start size bytes) before after r
  no_start_prints e answer w two =
      prints_as contents before after r (Refuses (refused_line (add_error_text e))) (ServerText s start size bytes) Never (StartsBadly s start size bytes) (refusal_prints contents before after r (refused_line (add_error_text e)) w two)
      (λ lines n text. refused e answer text.0 text.1) back (λ n bad. absurd bad) never
    where
      back : (lines : List (List ℕ)) (n : ℕ) → ServerText s start size bytes lines n → Refuses (refused_line (add_error_text e)) lines n
      back lines n (refused f answer_too text status) =
          let same = law Begin (Add s start size 1) (NotAdded f) (NotAdded e) tt answer_too answer in
          (text ∙ ap refusal_lines same, status)
      back lines n (served j answer_too text) = let same = law Begin (Add s start size 1) (NotAdded e) (Added j) tt answer answer_too in cc same

      never : (n : ℕ) → StartsBadly s start size bytes n → ⊥
      never n bad = let same = law Begin (Add s start size 1) (NotAdded e) (Added bad.0) tt answer bad.1 in cc same
