-- What came of an input is what is printed of it.
use Rattle.std.proofs.Common.{◌≡◌, ℕ, zero, suc, inl, inr, List, [], ◌∷◌, ◌++◌, All, length, map, take, drop, Option, Result, Ok, Err, IfOk, refl, sym, ap, ap₂, subst, ◌∙◌, arith, take-append-drop}
use Rattle.std.specs.Io.KnownBytes.{Appends}
use Rattle.std.proofs.KnownBytes.{Appends-nil}
use Rattle.std.proofs.lemmas.List.{length-map, take-map, take_all}
use Rattle.std.proofs.lemmas.List.Elements.{All-take}
use Rattle.osc_context.specs.ContextRefusal.{RefusesParams, context_error_text}
use Rattle.osc_context.specs.declared.context_error.ContextError.{ContextError}
use Rattle.osc_context.specs.declared.parameters.Params.{Params}
use Rattle.osc_text.specs.Contexts.{InContext, Told}
use Rattle.osc_text.specs.Contexts.InContext.{in_context, no_context}
use Rattle.osc_text.specs.InputReading.{Misreads, SpellsNone, SpellsSeen}
use Rattle.osc_text.specs.InputText.{EventLines, InputText}
use Rattle.osc_text.specs.Inputs.{IsFirstBadLine, SpellsInput}
use Rattle.osc_text.specs.Lines.{refused_line}
use Rattle.osc_text.specs.Printing.{Prints, RunsContext, RunsEvents, RunsInput}
use Rattle.osc_text.specs.Printing.RunsContext.{derived, refused}
use Rattle.osc_text.specs.Printing.RunsInput.{misread, ran}
use Rattle.osc_text.specs.Written.{Stops, Writes, text_of}
use Rattle.osc_text.specs.declared.fault.Fault.{Fault}
use Rattle.osc_text.specs.declared.fault.Fault.TheVariants.{Line, Memory}
use Rattle.osc_text.proofs.Appending.{so_far_error, so_far_none, SoFar}
use Rattle.osc_text.proofs.InputLines.{OneSpelling, bad_spells_none, first_bad, input_spelled, one_bad_line, one_input}

-- ---- lines

-- after a state that can be, an event has one line and leaves one state, which can be too
abbrev pub OneLine : {S E : Type 0} → (S → E → List ℕ → S → Type 0) → (S → Type 0) → Type 0
OneLine {S} {E} step CanBe = (s t u : S) (e : E) (m n : List ℕ) → CanBe s → step s e m t → step s e n u → (m ≡ n) × (t ≡ u) × CanBe t

module _ {S E : Type 0} (step : S → E → List ℕ → S → Type 0) where
  -- each event has a line
  pub as_many_lines : (s : S) (all : List E) (xs : List (List ℕ)) → EventLines step s all xs → length xs ≡ length all
  as_many_lines s [] [] x = refl
  as_many_lines s (e ∷ all) (a ∷ xs) (t, line, more) = ap suc (as_many_lines t all xs more)
  as_many_lines s all xs x = absurd x

  -- the lines of the first events are the first of all lines
  pub front_lines : (CanBe : S → Type 0) → OneLine step CanBe → (s : S) (all : List E) (n : ℕ) (xs ys : List (List ℕ)) → CanBe s
      → EventLines step s (take n all) xs → EventLines step s all ys → xs ≡ take (length xs) ys
  front_lines CanBe one s all n [] ys is x y = refl
  front_lines CanBe one s [] zero (a ∷ xs) ys is x y = absurd x
  front_lines CanBe one s [] (suc n) (a ∷ xs) ys is x y = absurd x
  front_lines CanBe one s (e ∷ all) zero (a ∷ xs) ys is x y = absurd x
  front_lines CanBe one s (e ∷ all) (suc n) (a ∷ xs) [] is x y = absurd y
  front_lines CanBe one s (e ∷ all) (suc n) (a ∷ xs) (b ∷ ys) is (t, line, more) (u, line_too, more_too) =
      let same = one s t u e a b is line line_too in
      let there = subst (λ (v : S). EventLines step v all ys) (sym same.1) more_too in
      ap₂ (λ (z : List ℕ) (zs : List (List ℕ)). z ∷ zs) same.0 (front_lines CanBe one t all n xs ys same.2 more there)

  -- the lines of all events are one list
  pub one_lines : (CanBe : S → Type 0) → OneLine step CanBe → (s : S) (all : List E) (n : ℕ) (xs ys : List (List ℕ)) → CanBe s → n ≡ length all
      → EventLines step s (take n all) xs → EventLines step s all ys → xs ≡ ys
  one_lines CanBe one s all n xs ys is whole a b =
      let every : take n all ≡ all = take_all n all (omega (arith, whole)) in
      let there = subst (λ (es : List E). EventLines step s es xs) every a in
      let counts : length ys ≡ length xs = as_many_lines s all ys b ∙ sym (as_many_lines s all xs there) in
      front_lines CanBe one s all n xs ys is a b ∙ take_all (length xs) ys (omega (arith, counts))

-- lines of a front are lines of all
stops_front : (old new : Option (List ℕ)) (xs ys : List (List ℕ)) (e : Fault) → xs ≡ take (length xs) ys → Stops old new xs e → Stops old new ys e
stops_front old new xs ys e front s =
    let parts : ys ≡ xs ++ drop (length xs) ys = sym (take-append-drop (length xs) ys) ∙ ap (λ (zs : List (List ℕ)). zs ++ drop (length xs) ys) (sym front) in
    so_far_error old old new ys xs (drop (length xs) ys) e (subst (SoFar old old ys) parts (so_far_none old ys)) s

-- all lines are whole lines from the front
pub whole_front : (old new : Option (List ℕ)) (lines : List (List ℕ)) → Appends old new (text_of lines) → Stops old new lines Memory
whole_front old new lines w = (length lines, subst (λ (ls : List (List ℕ)). Appends old new (text_of ls)) (sym (take_all (length lines) lines (omega arith))) w)

-- ---- inputs

-- the events of the code that ran are those of the lines
pub runs_seen : {V S E : Type 0} (step : S → E → List ℕ → S → Type 0) (seen : V → E) (IsRight : V → Type 0) (AreLinesOf : List V → List (List ℕ) → Type 0) (s : S) (all : List V) (old new : Option (List ℕ)) (r : Result ℕ Fault)
    → ((some : List V) (lines : List (List ℕ)) → AreLinesOf some lines → All IsRight some → EventLines step s (map seen some) lines)
    → All IsRight all → RunsEvents AreLinesOf all old new r → RunsEvents (EventLines step s) (map seen all) old new r
runs_seen {E = E} step seen IsRight AreLinesOf s all old new r told is runs = record {
  n = runs.n;
  lines = runs.lines;
  served = subst (λ (es : List E). EventLines step s es runs.lines) (sym (take-map seen runs.n all)) (told (take runs.n all) runs.lines runs.served (All-take IsRight runs.n all is));
  written = runs.written;
  whole = subst (λ (n : ℕ). IfOk r (λ k. (k ≡ 0) × (runs.n ≡ n))) (sym (length-map all seen)) runs.whole;
}

module _ {X S E : Type 0} (contents : X → Option (List ℕ)) (spells : List ℕ → E → Type 0) (step : S → E → List ℕ → S → Type 0) where
  -- events that ran are printed
  run_prints : OneSpelling spells → (CanBe : S → Type 0) → OneLine step CanBe → (s : S) (input : List ℕ) (all : List E) (before after : X) (r : Result ℕ Fault) → CanBe s
      → SpellsInput spells input all → RunsEvents (EventLines step s) all (contents before) (contents after) r → Prints contents (InputText spells step s input) (IsFirstBadLine spells input) before after r
  run_prints once CanBe one s input all before after (Ok k) is spelled runs = record {
    told = (runs.lines, (all, spelled, subst (λ (es : List E). EventLines step s es runs.lines) (take_all runs.n all (let n = runs.whole.1 in omega (arith, n))) runs.served, runs.whole.0));
    written = λ lines status text.
        let there = subst (λ (es : List E). EventLines step s es lines) (one_input spells once input text.0 all text.1 spelled) text.2 in
        subst (λ (ls : List (List ℕ)). Appends (contents before) (contents after) (text_of ls)) (one_lines step CanBe one s all runs.n runs.lines lines is runs.whole.1 runs.served there) runs.written;
    status = λ lines status text. runs.whole.0 ∙ sym text.3;
    two = inl runs.whole.0;
    refused = λ n h. cc h;
    refuses = λ n bad. absurd (bad_spells_none spells input n all bad spelled);
    quiet = λ n bad. absurd (bad_spells_none spells input n all bad spelled);
  }
  run_prints once CanBe one s input all before after (Err e) is spelled runs = record {
    told = tt;
    written = λ lines status text.
        let there = subst (λ (es : List E). EventLines step s es lines) (one_input spells once input text.0 all text.1 spelled) text.2 in
        stops_front (contents before) (contents after) runs.lines lines e (front_lines step CanBe one s all runs.n runs.lines lines is runs.served there) runs.written;
    status = λ lines status text. tt;
    two = tt;
    refused = λ n h. let same : e ≡ Line n = cc h in absurd (subst (λ (f : Fault). Stops (contents before) (contents after) runs.lines f) same runs.written);
    refuses = λ n bad. absurd (bad_spells_none spells input n all bad spelled);
    quiet = λ n bad. absurd (bad_spells_none spells input n all bad spelled);
  }

  -- an input that isn't read prints nothing
  misread_prints : {V : Type 0} (seen : V → E) (IsRight : V → Type 0) (s : S) (input : List ℕ) (before : X) (fault : Fault) → Misreads (SpellsSeen spells seen IsRight) (SpellsNone spells) input fault
      → Prints contents (InputText spells step s input) (IsFirstBadLine spells input) before before (Err fault)
  misread_prints seen IsRight s input before (Line k) m =
      let bad = first_bad spells seen IsRight input k m in
      record {
        told = tt;
        written = λ lines status text. absurd (bad_spells_none spells input k text.0 bad text.1);
        status = λ lines status text. tt;
        two = tt;
        refused = λ n h. let same : k ≡ n = cc h in subst (IsFirstBadLine spells input) same bad;
        refuses = λ n worse. one_bad_line spells input k n bad worse;
        quiet = λ n worse. refl;
      }
  misread_prints seen IsRight s input before Memory m = record {
    told = tt;
    written = λ lines status text. (0, Appends-nil (contents before));
    status = λ lines status text. tt;
    two = tt;
    refused = λ n h. cc h;
    refuses = λ n worse. tt;
    quiet = λ n worse. refl;
  }
  misread_prints seen IsRight s input before fault m = absurd m

  -- an input is printed
  pub input_prints : {V : Type 0} (seen : V → E) (IsRight : V → Type 0) (AreLinesOf : List V → List (List ℕ) → Type 0) → OneSpelling spells → (CanBe : S → Type 0) → OneLine step CanBe → (s : S) (input : List ℕ) (before after : X) (r : Result ℕ Fault) → CanBe s
      → ((some : List V) (lines : List (List ℕ)) → AreLinesOf some lines → All IsRight some → EventLines step s (map seen some) lines)
      → RunsInput contents (SpellsSeen spells seen IsRight) (SpellsNone spells) AreLinesOf input before after r → Prints contents (InputText spells step s input) (IsFirstBadLine spells input) before after r
  input_prints seen IsRight AreLinesOf once CanBe one s input before after r is told (misread fault m answer same) = rw (answer, same) (misread_prints seen IsRight s input before fault m)
  input_prints seen IsRight AreLinesOf once CanBe one s input before after r is told (ran all spelled runs) =
      let good = input_spelled spells seen IsRight input all spelled in
      run_prints once CanBe one s input (map seen all) before after r is good.0 (runs_seen step seen IsRight AreLinesOf s all (contents before) (contents after) r told good.1 runs)

-- ---- what is told with more or less around it

module _ {X : Type 0} (contents : X → Option (List ℕ)) (before after : X) (r : Result ℕ Fault) where
  -- the same, otherwise said
  pub prints_as : (tells says : Told) (HasBad HasWorse : ℕ → Type 0) → Prints contents tells HasBad before after r
      → ((lines : List (List ℕ)) (n : ℕ) → tells lines n → says lines n) → ((lines : List (List ℕ)) (n : ℕ) → says lines n → tells lines n)
      → ((n : ℕ) → HasBad n → HasWorse n) → ((n : ℕ) → HasWorse n → HasBad n) → Prints contents says HasWorse before after r
  prints_as tells says HasBad HasWorse p there back there_too back_too = record {
    told = told_as r p.told;
    written = λ lines n text. p.written lines n (back lines n text);
    status = λ lines n text. p.status lines n (back lines n text);
    two = p.two;
    refused = λ n h. there_too n (p.refused n h);
    refuses = λ n bad. p.refuses n (back_too n bad);
    quiet = λ n bad. p.quiet n (back_too n bad);
  }
    where
      told_as : (q : Result ℕ Fault) → IfOk q (λ s. (lines : List (List ℕ)) × tells lines s) → IfOk q (λ s. (lines : List (List ℕ)) × says lines s)
      told_as (Ok k) t = (t.0, there t.0 k t.1)
      told_as (Err e) t = tt

-- the one line of a refusal, with status 2
abbrev pub Refuses : List ℕ → Told
Refuses line lines status = (lines ≡ line ∷ []) × (status ≡ 2)

abbrev pub Never : ℕ → Type 0
Never n = ⊥

-- a refusal is printed
pub refusal_prints : {X : Type 0} (contents : X → Option (List ℕ)) (before after : X) (r : Result ℕ Fault) (line : List ℕ) → Writes (contents before) (contents after) (line ∷ []) r → IfOk r (λ n. n ≡ 2)
    → Prints contents (Refuses line) Never before after r
refusal_prints contents before after (Ok k) line w two = record {
  told = (line ∷ [], (refl, two));
  written = λ lines n text. subst (λ (ls : List (List ℕ)). Appends (contents before) (contents after) (text_of ls)) (sym text.0) w;
  status = λ lines n text. two ∙ sym text.1;
  two = inr two;
  refused = λ n h. cc h;
  refuses = λ n bad. absurd bad;
  quiet = λ n bad. absurd bad;
}
refusal_prints contents before after (Err e) line w two = record {
  told = tt;
  written = λ lines n text. subst (λ (ls : List (List ℕ)). Stops (contents before) (contents after) ls e) (sym text.0) w;
  status = λ lines n text. tt;
  two = tt;
  refused = λ n h. let same : e ≡ Line n = cc h in absurd (subst (λ (f : Fault). Stops (contents before) (contents after) (line ∷ []) f) same w);
  refuses = λ n bad. absurd bad;
  quiet = λ n bad. absurd bad;
}

-- ---- contexts

-- the context is there, and a line is bad
abbrev pub BadInContext : Params → (ℕ → Type 0) → ℕ → Type 0
BadInContext g HasBad n = ((e : ContextError) → ¬ RefusesParams g e) × HasBad n

module _ {X : Type 0} (contents : X → Option (List ℕ)) (g : Params) (tells : Told) (HasBad HasWorse : ℕ → Type 0) (before after : X) (r : Result ℕ Fault) where
  -- a context is printed, or its refusal
  pub context_prints : ((n : ℕ) → BadInContext g HasBad n → HasWorse n) → ((n : ℕ) → HasWorse n → BadInContext g HasBad n)
      → RunsContext g (contents before) (contents after) r (Prints contents tells HasBad before after r) → Prints contents (InContext g tells) HasWorse before after r
  context_prints there back (derived none p) = prints_as contents before after r tells (InContext g tells) HasBad HasWorse p (λ lines n text. in_context none text) inside (λ n bad. there n (none, bad)) (λ n bad. (back n bad).1)
    where
      inside : (lines : List (List ℕ)) (n : ℕ) → InContext g tells lines n → tells lines n
      inside lines n (no_context e first text status) = absurd (none e first.holds)
      inside lines n (in_context none_too text) = text
  context_prints there back (refused e first one w two) =
      prints_as contents before after r (Refuses (refused_line (context_error_text e))) (InContext g tells) Never HasWorse (refusal_prints contents before after r (refused_line (context_error_text e)) w two)
      (λ lines n text. no_context e first text.0 text.1) outside (λ n bad. absurd bad) (λ n bad. absurd ((back n bad).0 e first.holds))
    where
      outside : (lines : List (List ℕ)) (n : ℕ) → InContext g tells lines n → Refuses (refused_line (context_error_text e)) lines n
      outside lines n (no_context f first_too text status) = (text ∙ ap (λ (x : ContextError). refused_line (context_error_text x) ∷ []) (one f first_too), status)
      outside lines n (in_context none text) = absurd (none e first.holds)
