-- A call under a context has one text.
use Rattle.std.proofs.Common.{◌≡◌, ℕ, List, [], ◌∷◌, sym, ap, ◌∙◌, ◌⊎◌, inl, inr, Option, Result, Ok, Err, IfOk, subst}
use Rattle.osc_context.specs.Laws.{OneParamsRefusal}
use Rattle.osc_context.specs.ContextRefusal.{context_error_text}
use Rattle.osc_context.specs.SecurityContext.{SecurityContext}
use Rattle.osc_context.specs.declared.context_error.ContextError.{ContextError}
use Rattle.osc_context.specs.declared.parameters.Params.{Params}
use Rattle.osc_text.specs.Contexts.{InContext, KeyText, Told}
use Rattle.osc_text.specs.Contexts.InContext.{in_context, no_context}
use Rattle.osc_text.specs.Lines.{refused_line}
use Rattle.osc_text.specs.Written.{Writes}
use Rattle.osc_text.specs.declared.fault.Fault.{Fault}

-- what is told has one text and one status
abbrev pub TellsOnce : Told → Type 0
TellsOnce told = (xs ys : List (List ℕ)) (a b : ℕ) → told xs a → told ys b → (xs ≡ ys) × (a ≡ b)

-- what is told has status 0 or 2
abbrev pub TellsStatus : Told → Type 0
TellsStatus told = (lines : List (List ℕ)) (n : ℕ) → told lines n → (n ≡ 0) ⊎ (n ≡ 2)

-- under a context too
pub one_in_context : OneParamsRefusal → (g : Params) (told : Told) → TellsOnce told → TellsOnce (InContext g told)
one_in_context law g told once xs ys a b (no_context e first text status) (no_context f first_too text_too status_too) =
    (text ∙ ap (λ (r : ContextError). refused_line (context_error_text r) ∷ []) (law g e f first first_too) ∙ sym text_too, status ∙ sym status_too)
one_in_context law g told once xs ys a b (no_context e first text status) (in_context none it) = absurd (none e first.holds)
one_in_context law g told once xs ys a b (in_context none it) (no_context e first text status) = absurd (none e first.holds)
one_in_context law g told once xs ys a b (in_context none it) (in_context none_too it_too) = once xs ys a b it it_too

-- and its status is 0 or 2
pub status_in_context : (g : Params) (told : Told) → TellsStatus told → TellsStatus (InContext g told)
status_in_context g told status lines n (no_context e first text two) = inr two
status_in_context g told status lines n (in_context none it) = status lines n it

-- an answer that is the status of a text is 0 or 2
pub zero_or_two : {F : Type 0} (told : Told) → TellsStatus told → (lines : List (List ℕ)) (n : ℕ) (r : Result ℕ F) → told lines n → IfOk r (λ k. k ≡ n) → IfOk r (λ k. (k ≡ 0) ⊎ (k ≡ 2))
zero_or_two told status lines n (Ok k) text same = subst (λ (j : ℕ). (j ≡ 0) ⊎ (j ≡ 2)) (sym same) (status lines n text)
zero_or_two told status lines n (Err e) text same = tt

-- the keys of a context have one text, with status 0
pub one_key_text : (s : SecurityContext) → TellsOnce (KeyText s)
one_key_text s xs ys a b it it_too = (it.0 ∙ sym it_too.0, it.1 ∙ sym it_too.1)

pub key_status : (s : SecurityContext) → TellsStatus (KeyText s)
key_status s lines n it = inl it.1

-- what was written for one text is what is written for every text that is told
pub written_once : (told : Told) → TellsOnce told → (old new : Option (List ℕ)) (r : Result ℕ Fault) (xs : List (List ℕ)) (a : ℕ) → told xs a → Writes old new xs r → IfOk r (λ s. s ≡ a)
    → (ys : List (List ℕ)) (b : ℕ) → told ys b → Writes old new ys r × IfOk r (λ s. s ≡ b)
written_once told once old new r xs a it w is ys b it_too =
    let same = once xs ys a b it it_too in
    (subst (λ (t : List (List ℕ)). Writes old new t r) same.0 w, subst (λ (n : ℕ). IfOk r (λ s. s ≡ n)) same.1 is)

-- the same of a text under a context, with its status
pub context_once : OneParamsRefusal → (g : Params) (told : Told) → TellsOnce told → TellsStatus told → (old new : Option (List ℕ)) (r : Result ℕ Fault) (xs : List (List ℕ)) (a : ℕ) → InContext g told xs a → Writes old new xs r → IfOk r (λ s. s ≡ a)
    → ((ys : List (List ℕ)) (b : ℕ) → InContext g told ys b → Writes old new ys r × IfOk r (λ s. s ≡ b)) × IfOk r (λ k. (k ≡ 0) ⊎ (k ≡ 2))
context_once law g told once status old new r xs a it w is =
    (written_once (InContext g told) (one_in_context law g told once) old new r xs a it w is, zero_or_two (InContext g told) (status_in_context g told status) xs a r it is)
