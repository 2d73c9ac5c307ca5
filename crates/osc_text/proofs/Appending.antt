-- One write after another.
use Rattle.std.proofs.Common.{◌≡◌, ℕ, suc, ◌+◌, ◌≤◌, List, [], ◌∷◌, ◌++◌, length, take, Option, Result, Ok, Err, refl, sym, ap, subst, ◌∙◌, append_assoc, arith, inl, inr}
use Rattle.std.specs.Io.KnownBytes.{Appends}
use Rattle.std.proofs.KnownBytes.{Appends-nil, Appends-trans}
use Rattle.std.proofs.lemmas.List.{append-nil, take-append-le, take_all}
use Rattle.std.proofs.lemmas.Bool.{cases_lt}
use Rattle.osc_text.specs.declared.fault.Fault.{Fault}
use Rattle.osc_text.specs.declared.fault.Fault.TheVariants.{Usage, Words, Input, Line, Read, Memory, Write}
use Rattle.osc_text.specs.Written.{text_of, Stops, Writes}

-- of the whole lines all but the rest are written
pub record SoFar (old now : Option (List ℕ)) (whole rest : List (List ℕ)) : Type 0 where
  pub done : List (List ℕ)
  pub written : Appends old now (text_of done)
  pub parts : whole ≡ done ++ rest

-- the text of two lists of lines, one after the other
pub text_of-append : (xs ys : List (List ℕ)) → text_of (xs ++ ys) ≡ text_of xs ++ text_of ys
text_of-append [] ys = refl
text_of-append (x ∷ xs) ys = ap (λ (t : List ℕ). x ++ t) (text_of-append xs ys) ∙ sym (append_assoc x (text_of xs) (text_of ys))

-- before the first line
pub so_far_none : (old : Option (List ℕ)) (whole : List (List ℕ)) → SoFar old old whole whole
so_far_none old whole = record { done = []; written = Appends-nil old; parts = refl }

-- some lines more are written
pub so_far_more : (old now new : Option (List ℕ)) (whole more rest : List (List ℕ)) → SoFar old now whole (more ++ rest) → Appends now new (text_of more) → SoFar old new whole rest
so_far_more old now new whole more rest s w = record {
  done = s.done ++ more;
  written = subst (Appends old new) (sym (text_of-append s.done more)) (Appends-trans old now new (text_of s.done) (text_of more) s.written w);
  parts = s.parts ∙ sym (append_assoc s.done more rest);
}

-- the first list, and as many of the second
take-append-add : (xs ys : List (List ℕ)) (n : ℕ) → take (length xs + n) (xs ++ ys) ≡ xs ++ take n ys
take-append-add [] ys n = ap (λ (k : ℕ). take k ys) (omega arith)
take-append-add (x ∷ xs) ys n = let e : suc (length xs) + n ≡ suc (length xs + n) = omega arith in ap (λ (k : ℕ). take k (x ∷ (xs ++ ys))) e ∙ ap (λ (t : List (List ℕ)). x ∷ t) (take-append-add xs ys n)

-- taking n or fewer
within_more : (n : ℕ) (xs : List (List ℕ)) → (m : ℕ) × (m ≤ length xs) × (take m xs ≡ take n xs)
within_more n xs = elim (cases_lt n (length xs)) [
  | inl lt ↦ (n, omega arith, refl)
  | inr ge ↦ (length xs, omega arith, take_all (length xs) xs (omega arith) ∙ sym (take_all n xs (omega arith)))
]

-- a step that failed
pub so_far_error : (old now new : Option (List ℕ)) (whole more rest : List (List ℕ)) (e : Fault) → SoFar old now whole (more ++ rest) → Stops now new more e → Stops old new whole e
so_far_error old now new whole more rest (Write e) s w = tt
so_far_error old now new whole more rest (Usage text) s w = w
so_far_error old now new whole more rest (Words e) s w = w
so_far_error old now new whole more rest (Input word wrong) s w = w
so_far_error old now new whole more rest (Line number) s w = w
so_far_error old now new whole more rest (Read e) s w = w
so_far_error old now new whole more rest Memory s w =
    let within = within_more (w.0) more in
    let cut : take (length s.done + within.0) whole ≡ s.done ++ take (w.0) more = ap (take (length s.done + within.0)) s.parts ∙ take-append-add s.done (more ++ rest) within.0 ∙ ap (λ (t : List (List ℕ)). s.done ++ t) (take-append-le within.0 more rest within.1 ∙ within.2) in
    let text : text_of (take (length s.done + within.0) whole) ≡ text_of s.done ++ text_of (take (w.0) more) = ap text_of cut ∙ text_of-append s.done (take (w.0) more) in
    (length s.done + within.0, subst (Appends old new) (sym text) (Appends-trans old now new (text_of s.done) (text_of (take (w.0) more)) s.written w.1))

-- no line is left
pub so_far_done : (old now : Option (List ℕ)) (whole : List (List ℕ)) → SoFar old now whole [] → Appends old now (text_of whole)
so_far_done old now whole s = subst (λ (t : List (List ℕ)). Appends old now (text_of t)) (sym (s.parts ∙ append-nil s.done)) s.written

-- the last step writes the rest, or fails
pub so_far_writes : (old now new : Option (List ℕ)) (whole rest : List (List ℕ)) (r : Result (Unit {0}) Fault) → SoFar old now whole rest → Writes now new rest r → Writes old new whole r
so_far_writes old now new whole rest (Ok x) s w = let t = so_far_more old now new whole rest [] (subst (SoFar old now whole) (sym (append-nil rest)) s) w in so_far_done old new whole t
so_far_writes old now new whole rest (Err e) s w = so_far_error old now new whole rest [] e (subst (SoFar old now whole) (sym (append-nil rest)) s) w
