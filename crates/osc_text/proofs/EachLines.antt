-- The events of a list run one by one.
use Rattle.std.proofs.Common.{◌≡◌, ℕ, ◌+◌, ◌<◌, ◌≤◌, List, [], ◌∷◌, ◌++◌, All, arith, drop, get_or, length, map, set, take, Option, Result, Ok, Err, refl, sym, ap, subst, ◌∙◌, append_assoc}
use Rattle.std.specs.Io.KnownBytes.{Appends}
use Rattle.std.proofs.KnownBytes.{Appends-nil, Appends-trans}
use Rattle.std.proofs.lemmas.List.{append-nil, drop-set-lt, drop_all, drop_more, map-append, take_at}
use Rattle.std.proofs.lemmas.List.Elements.{All-head, All-tail, All-take}
use Rattle.osc_text.specs.Feeding.{EventLinesTo, RunsEvent}
use Rattle.osc_text.specs.Feeding.RunsEvent.{no_memory, ran}
use Rattle.osc_text.specs.InputText.{EventLines}
use Rattle.osc_text.specs.Printing.{RunsEvents}
use Rattle.osc_text.specs.Written.{Stops, text_of}
use Rattle.osc_text.specs.declared.fault.Fault.{Fault}
use Rattle.osc_text.specs.declared.fault.Fault.TheVariants.{Memory}
use Rattle.osc_text.proofs.Appending.{so_far_error, text_of-append}
use Rattle.osc_text.proofs.FollowedLines.{lines_to_more}
use Rattle.osc_text.proofs.InputTexts.{whole_front}

-- lines up to some state are lines
lines_told : {E S : Type 0} (step : S → E → List ℕ → S → Type 0) (s t : S) (all : List E) (lines : List (List ℕ)) → EventLinesTo step s all lines t → EventLines step s all lines
lines_told step s t [] [] to = tt
lines_told step s t (e ∷ all) (line ∷ lines) (mid, first, to) = (mid, first, lines_told step mid t all lines to)
lines_told step s t all lines to = absurd to

-- what an event did, otherwise said
pub runs_as : (A B : List ℕ → Type 0) (old new : Option (List ℕ)) (r : Result (Unit {0}) Fault) → ((line : List ℕ) → A line → B line) → RunsEvent A old new r → RunsEvent B old new r
runs_as A B old new r there (no_memory is same) = no_memory is same
runs_as A B old new r there (ran line does w) = ran line (there line does) w

module _ {V E S H : Type 0} (seen : V → E) (IsRight : V → Type 0) (step : S → E → List ℕ → S → Type 0) where
  -- these lines are those of some events, from a state after each history with which an end agrees
  abbrev pub AreTold : (H → Type 0) → (H → S) → List V → List (List ℕ) → Type 0
  AreTold AgreesWith state some lines = (h : H) → AgreesWith h → All IsRight some → EventLines step (state h) (map seen some) lines

  -- the same, up to the states after them
  abbrev pub AreToldTo : (H → Type 0) → (H → S) → List V → List (List ℕ) → (H → Type 0) → (H → S) → Type 0
  AreToldTo AgreesWith state some lines AgreesNow now = (h : H) → AgreesWith h → All IsRight some → (k : H) × EventLinesTo step (state h) (map seen some) lines (now k) × AgreesNow k

  -- so many events ran, which are the first of all, and their lines are written
  pub record EachSoFar (AgreesWith : H → Type 0) (state : H → S) (AgreesNow : H → Type 0) (now : H → S) (whole rest : List V) (old new : Option (List ℕ)) : Type 0 where
    pub done : List V
    pub lines : List (List ℕ)
    pub told : AreToldTo AgreesWith state done lines AgreesNow now
    pub written : Appends old new (text_of lines)
    pub parts : whole ≡ done ++ rest

  -- none yet
  pub none_each : (AgreesWith : H → Type 0) (state now : H → S) (whole : List V) (old : Option (List ℕ)) → ((h : H) → now h ≡ state h) → EachSoFar AgreesWith state AgreesWith now whole whole old old
  none_each AgreesWith state now whole old same = record { done = []; lines = []; told = λ h agrees is. (h, same h, agrees); written = Appends-nil old; parts = refl }

  -- the lines of the first events are those of a front
  served_so : (AgreesWith AgreesNow : H → Type 0) (state now : H → S) (whole done rest : List V) (lines : List (List ℕ)) → AreToldTo AgreesWith state done lines AgreesNow now → whole ≡ done ++ rest
      → AreTold AgreesWith state (take (length done) whole) lines
  served_so AgreesWith AgreesNow state now whole done rest lines told parts h agrees is =
      let front = ap (take (length done)) parts ∙ take_at done rest (length done) refl in
      let (k, to, agrees_now) = told h agrees (subst (All IsRight) front is) in
      subst (λ (es : List V). EventLines step (state h) (map seen es) lines) (sym front) (lines_told step (state h) (now k) (map seen done) lines to)

  -- all events ran
  pub all_each : (AgreesWith AgreesNow : H → Type 0) (state now : H → S) (whole rest : List V) (old new : Option (List ℕ)) → EachSoFar AgreesWith state AgreesNow now whole rest old new → rest ≡ []
      → RunsEvents (AreTold AgreesWith state) whole old new (Ok 0)
  all_each AgreesWith AgreesNow state now whole rest old new so none = record {
    n = length so.done;
    lines = so.lines;
    served = served_so AgreesWith AgreesNow state now whole so.done rest so.lines so.told so.parts;
    written = so.written;
    whole = (refl, sym (ap (λ (xs : List V). length xs) (so.parts ∙ ap (λ (xs : List V). so.done ++ xs) none ∙ append-nil so.done)));
  }

  -- what an event does, from the states now on
  abbrev pub Does : (H → Type 0) → (H → S) → V → (H → Type 0) → (H → S) → List ℕ → Type 0
  Does AgreesNow now event AgreesNext next line = (h : H) → AgreesNow h → IsRight event → (k : H) × step (now h) (seen event) line (next k) × AgreesNext k

  module _ (AgreesWith AgreesNow AgreesNext : H → Type 0) (state now next : H → S) (whole rest : List V) (event : V) (old mid new : Option (List ℕ)) where
    -- the lines with one more
    more_told : (done : List V) (lines : List (List ℕ)) (line : List ℕ) → AreToldTo AgreesWith state done lines AgreesNow now → Does AgreesNow now event AgreesNext next line
        → AreToldTo AgreesWith state (done ++ event ∷ []) (lines ++ line ∷ []) AgreesNext next
    more_told done lines line told does h agrees is =
        let (k, to, agrees_now) = told h agrees (subst (All IsRight) (take_at done (event ∷ []) (length done) refl) (All-take IsRight (length done) (done ++ event ∷ []) is)) in
        let (l, goes, agrees_next) = does k agrees_now (right_last done is) in
        (l, subst (λ (es : List E). EventLinesTo step (state h) es (lines ++ line ∷ []) (next l)) (sym (map-append seen done (event ∷ []))) (lines_to_more step (state h) (now k) (next l) (map seen done) lines (seen event) line to goes), agrees_next)
      where
        right_last : (xs : List V) → All IsRight (xs ++ event ∷ []) → IsRight event
        right_last [] is = All-head IsRight event [] is
        right_last (x ∷ xs) is = right_last xs (All-tail IsRight x (xs ++ event ∷ []) is)

    parts_more : (done : List V) → whole ≡ done ++ event ∷ rest → whole ≡ (done ++ event ∷ []) ++ rest
    parts_more done parts = parts ∙ sym (append_assoc done (event ∷ []) rest)

    -- one event more
    pub one_each : EachSoFar AgreesWith state AgreesNow now whole (event ∷ rest) old mid → RunsEvent (Does AgreesNow now event AgreesNext next) mid new (Ok tt)
        → EachSoFar AgreesWith state AgreesNext next whole rest old new
    one_each so (no_memory is same) = let bad : Ok tt ≡ Err Memory = is in cc bad
    one_each so (ran line does w) = record {
      done = so.done ++ event ∷ [];
      lines = so.lines ++ line ∷ [];
      told = more_told so.done so.lines line so.told does;
      written = subst (Appends old new) (sym (text_of-append so.lines (line ∷ []))) (Appends-trans old mid new (text_of so.lines) (text_of (line ∷ [])) so.written w);
      parts = parts_more so.done so.parts;
    }

    -- an event isn't run, or its line isn't written
    pub not_each : (f : Fault) → EachSoFar AgreesWith state AgreesNow now whole (event ∷ rest) old mid → RunsEvent (Does AgreesNow now event AgreesNext next) mid new (Err f)
        → RunsEvents (AreTold AgreesWith state) whole old new (Err f)
    not_each f so (no_memory is same) =
        let out : f ≡ Memory = cc is in
        subst (λ (x : Fault). RunsEvents (AreTold AgreesWith state) whole old new (Err x)) (sym out) (record {
          n = length so.done;
          lines = so.lines;
          served = served_so AgreesWith AgreesNow state now whole so.done (event ∷ rest) so.lines so.told so.parts;
          written = subst (λ (x : Option (List ℕ)). Stops old x so.lines Memory) (sym same) (whole_front old mid so.lines so.written);
          whole = tt;
        })
    not_each f so (ran line does w) = record {
      n = length (so.done ++ event ∷ []);
      lines = so.lines ++ line ∷ [];
      served = served_so AgreesWith AgreesNext state next whole (so.done ++ event ∷ []) rest (so.lines ++ line ∷ []) (more_told so.done so.lines line so.told does) (parts_more so.done so.parts);
      written = so_far_error old mid new (so.lines ++ line ∷ []) (line ∷ []) [] f (record { done = so.lines; written = so.written; parts = refl }) w;
      whole = tt;
    }

  -- ---- over a list that is written

  module _ (AgreesWith AgreesNow : H → Type 0) (state now : H → S) (whole events : List V) (old mid : Option (List ℕ)) (i : ℕ) (so : EachSoFar AgreesWith state AgreesNow now whole (drop i events) old mid) where
    module _ (AgreesNext : H → Type 0) (next : H → S) (d left : V) (new : Option (List ℕ)) (inside : i < length events) where
      at_event : EachSoFar AgreesWith state AgreesNow now whole (get_or events i d ∷ drop (i + 1) events) old mid
      at_event = subst (λ (rest : List V). EachSoFar AgreesWith state AgreesNow now whole rest old mid) (drop_more events i d inside) so

      pub each_preserved : RunsEvent (Does AgreesNow now (get_or events i d) AgreesNext next) mid new (Ok tt) → EachSoFar AgreesWith state AgreesNext next whole (drop (i + 1) (set events i left)) old new
      each_preserved runs =
          let below : i < i + 1 = omega arith in
          let there = one_each AgreesWith AgreesNow AgreesNext state now next whole (drop (i + 1) events) (get_or events i d) old mid new at_event runs in
          subst (λ (rest : List V). EachSoFar AgreesWith state AgreesNext next whole rest old new) (sym (drop-set-lt (i + 1) events i left below)) there

      pub each_failed : (f : Fault) → RunsEvent (Does AgreesNow now (get_or events i d) AgreesNext next) mid new (Err f) → RunsEvents (AreTold AgreesWith state) whole old new (Err f)
      each_failed f runs = not_each AgreesWith AgreesNow AgreesNext state now next whole (drop (i + 1) events) (get_or events i d) old mid new f at_event runs

    pub each_over : length events ≤ i → RunsEvents (AreTold AgreesWith state) whole old mid (Ok 0)
    each_over over = all_each AgreesWith AgreesNow state now whole (drop i events) old mid so (drop_all i events over)
