-- The lines of an input run one by one.
use Rattle.std.proofs.Common.{◌≡◌, ◌≢◌, ℕ, ◌+◌, ◌==◌, List, [], ◌∷◌, ◌++◌, Bool, cond, length, Option, Some, None, IfSome, Result, Ok, Err, IfOk, refl, sym, ap, subst, ◌∙◌, true, false, length-append}
use Rattle.std.specs.Io.BufRead.{drop_through, take_through}
use Rattle.std.specs.Io.KnownBytes.{Appends}
use Rattle.std.proofs.BufReadLemmas.{take_through-nil}
use Rattle.std.proofs.KnownBytes.{Appends-nil, Appends-trans}
use Rattle.std.proofs.lemmas.Bool.{cond-false, cond-true}
use Rattle.osc_text.specs.Feeding.{EventLinesTo, FirstLine, IsReadFault, NextEvent, RanFrom, ReadsFront, RunsEvent, RunsFeed, RunsLines, Steps}
use Rattle.osc_text.specs.Feeding.RunsEvent.{no_memory, ran}
use Rattle.osc_text.specs.Feeding.Feed.{read_by_line as by_lines}
use Rattle.osc_text.specs.InputReading.{lines_of, longer_line}
use Rattle.osc_text.specs.Written.{AppendsFront, Stops, text_of}
use Rattle.osc_text.specs.declared.fault.Fault.{Fault}
use Rattle.osc_text.specs.declared.fault.Fault.TheVariants.{Line, Memory, Read, Write}
use Rattle.osc_text.proofs.Appending.{so_far_error, text_of-append}
use Rattle.osc_text.proofs.InputLines.{ReadSoFar, all_read, first_same, none_more, read_more}
use Rattle.osc_text.proofs.InputTexts.{whole_front}

-- ---- one line

-- what a read takes is one line, with which the input begins
abbrev IsOneLine : List ℕ → List ℕ → List ℕ → Type 0
IsOneLine bytes taken left = (line : List ℕ) × (lines_of taken ≡ line ∷ []) × (lines_of bytes ≡ line ∷ lines_of left)

last_byte : (b : ℕ) (t : Bool) → (b == 10) ≡ t → IsOneLine (b ∷ []) (cond t (b ∷ []) (b ∷ [])) (cond t [] [])
unfolding lines_of
last_byte b true is = let one = cond-true (b == 10) ([] ∷ []) (longer_line b []) is in ([], one, one)
last_byte b false is = let one = cond-false (b == 10) ([] ∷ []) (longer_line b []) is in (b ∷ [], one, one)

one_byte : (b : ℕ) (xs taken left : List ℕ) → IsOneLine xs taken left → (t : Bool) → (b == 10) ≡ t → IsOneLine (b ∷ xs) (cond t (b ∷ []) (b ∷ taken)) (cond t xs left)
unfolding lines_of
one_byte b xs taken left more true is = ([], cond-true (b == 10) ([] ∷ []) (longer_line b []) is, cond-true (b == 10) ([] ∷ lines_of xs) (longer_line b (lines_of xs)) is)
one_byte b xs taken left (line, one, all) false is = (
  b ∷ line,
  cond-false (b == 10) ([] ∷ lines_of taken) (longer_line b (lines_of taken)) is ∙ ap (longer_line b) one,
  cond-false (b == 10) ([] ∷ lines_of xs) (longer_line b (lines_of xs)) is ∙ ap (longer_line b) all,
)

through_line : (b : ℕ) (xs : List ℕ) → IsOneLine (b ∷ xs) (take_through 10 (b ∷ xs)) (drop_through 10 (b ∷ xs))
through_line b [] = last_byte b (b == 10) refl
through_line b (c ∷ ys) = one_byte b (c ∷ ys) (take_through 10 (c ∷ ys)) (drop_through 10 (c ∷ ys)) (through_line c ys) (b == 10) refl

-- the line of what was read is the first of the input
next_line : (bytes read line behind : List ℕ) → read ≡ take_through 10 bytes → read ≢ [] → lines_of read ≡ line ∷ lines_of behind → lines_of bytes ≡ line ∷ lines_of (drop_through 10 bytes)
next_line [] read line behind is some first = absurd (some is)
next_line (b ∷ xs) read line behind is some first =
    let (l, one, all) = through_line b xs in
    let same : l ≡ line = first_same (sym one ∙ sym (ap lines_of is) ∙ first) in
    subst (λ (z : List ℕ). lines_of (b ∷ xs) ≡ z ∷ lines_of (drop_through 10 (b ∷ xs))) same all

-- what a read of a line did, if the input is known
abbrev pub TookLine : List ℕ → Option (List ℕ) → Option (List ℕ) → Type 0
TookLine read before after = IfSome before (λ bytes. (read ≡ take_through 10 bytes) × (after ≡ Some (drop_through 10 bytes)))

module _ {V : Type 0} (spells : List ℕ → V → Type 0) (IsBad : List ℕ → Type 0) (good : ℕ) (before after : Option (List ℕ)) (read : List ℕ) where
  -- the line spells an event
  pub event_next : (line behind : List ℕ) (event : V) → TookLine read before after → read ≢ [] → lines_of read ≡ line ∷ lines_of behind → spells line event → NextEvent spells IsBad good before after (Ok (Some event))
  event_next line behind event took some first is = known before took
    where
      known : (b : Option (List ℕ)) → TookLine read b after → NextEvent spells IsBad good b after (Ok (Some event))
      known None t = tt
      known (Some bytes) t = (drop_through 10 bytes, t.1, record { line = line; lines = next_line bytes read line behind t.0 some first; holds = is })

  -- the line spells none
  pub bad_next : (line behind : List ℕ) (n : ℕ) → TookLine read before after → read ≢ [] → lines_of read ≡ line ∷ lines_of behind → IsBad line → n ≡ good + 1 → NextEvent spells IsBad good before after (Err (Line n))
  bad_next line behind n took some first is counted = (counted, known before took)
    where
      known : (b : Option (List ℕ)) → TookLine read b after → IfSome b (λ bytes. (rest : List ℕ) × FirstLine bytes rest IsBad)
      known None t = tt
      known (Some bytes) t = (drop_through 10 bytes, record { line = line; lines = next_line bytes read line behind t.0 some first; holds = is })

  -- there is no line
  pub none_next : TookLine read before after → length read ≡ 0 → NextEvent spells IsBad good before after (Ok None)
  none_next took none = known before took
    where
      known : (b : Option (List ℕ)) → TookLine read b after → IfSome b (λ bytes. bytes ≡ [])
      known None t = tt
      known (Some bytes) t = take_through-nil 10 bytes (ap (λ (xs : List ℕ). length xs) (sym t.0) ∙ none)

  -- the read failed
  pub fault_next : (f : Fault) → IsReadFault f → NextEvent spells IsBad good before after (Err f)
  fault_next Memory h = tt
  fault_next (Read e) h = tt
  fault_next f h = absurd h

-- ---- the lines so far

-- one event more
pub lines_to_more : {S E : Type 0} (step : S → E → List ℕ → S → Type 0) (s t u : S) (all : List E) (xs : List (List ℕ)) (e : E) (x : List ℕ) → EventLinesTo step s all xs t → step t e x u
    → EventLinesTo step s (all ++ e ∷ []) (xs ++ x ∷ []) u
lines_to_more step s t u [] [] e x to more = (u, subst (λ z. step z e x u) to more, refl)
lines_to_more step s t u (d ∷ all) (y ∷ xs) e x (mid, first, to) more = (mid, first, lines_to_more step mid t u all xs e x to more)
lines_to_more step s t u all xs e x to more = absurd to

-- of an input that may be known these events are read
abbrev pub ReadOf : {V : Type 0} → (List ℕ → V → Type 0) → Option (List ℕ) → Option (List ℕ) → List V → Type 0
ReadOf spells first known all = IfSome first (λ bytes. (rest : List ℕ) × (known ≡ Some rest) × ReadSoFar spells bytes rest all)

-- so many lines ran, and their lines are written; first and known is what is known of the input before and now
pub record RanSoFar {C M V : Type 0} (IsNew : M → Type 0) (does : C → M → V → List ℕ → C → M → Type 0) (spells : List ℕ → V → Type 0) (end now_end : C) (memory : M) (first known : Option (List ℕ)) (old now : Option (List ℕ)) (k : ℕ) : Type 0 where
  pub begun : M
  pub is_new : IsNew begun
  pub all : List V
  pub lines : List (List ℕ)
  pub ran : EventLinesTo (Steps does) (end, begun) all lines (now_end, memory)
  pub written : Appends old now (text_of lines)
  pub counted : length all ≡ k
  pub read : ReadOf spells first known all

module _ {C M V : Type 0} (IsNew : M → Type 0) (does : C → M → V → List ℕ → C → M → Type 0) (spells : List ℕ → V → Type 0) (IsBad : List ℕ → Type 0) (end : C) (first old : Option (List ℕ)) where
  -- nothing is read yet
  pub none_ran : (memory : M) → IsNew memory → RanSoFar IsNew does spells end end memory first first old old 0
  none_ran memory new = record {
    begun = memory;
    is_new = new;
    all = [];
    lines = [];
    ran = refl;
    written = Appends-nil old;
    counted = refl;
    read = unread first;
  }
    where
      unread : (b : Option (List ℕ)) → ReadOf spells b b []
      unread None = tt
      unread (Some bytes) = (bytes, refl, record { done = []; lines = refl; read = tt })

  -- an event more is read
  read_next : (known after : Option (List ℕ)) (k : ℕ) (all : List V) (event : V) → ReadOf spells first known all → NextEvent spells IsBad k known after (Ok (Some event)) → ReadOf spells first after (all ++ event ∷ [])
  read_next known after k all event so next = known_first first so
    where
      known_first : (b : Option (List ℕ)) → ReadOf spells b known all → ReadOf spells b after (all ++ event ∷ [])
      known_first None r = tt
      known_first (Some bytes) (rest, is, r) =
          let (left, are, f) = subst (λ (x : Option (List ℕ)). NextEvent spells IsBad k x after (Ok (Some event))) is next in
          (left, are, read_more spells bytes f.line rest left all (all ++ event ∷ []) event r f.lines f.holds refl)

  -- an event more ran, and its line is written
  pub one_ran : (c d : C) (m n : M) (known after now new : Option (List ℕ)) (k : ℕ) (event : V) (line : List ℕ) → RanSoFar IsNew does spells end c m first known old now k
      → NextEvent spells IsBad k known after (Ok (Some event)) → does c m event line d n → Appends now new (text_of (line ∷ [])) → RanSoFar IsNew does spells end d n first after old new (k + 1)
  one_ran c d m n known after now new k event line so next step w = record {
    begun = so.begun;
    is_new = so.is_new;
    all = so.all ++ event ∷ [];
    lines = so.lines ++ line ∷ [];
    ran = lines_to_more (Steps does) (end, so.begun) (c, m) (d, n) so.all so.lines event line so.ran step;
    written = subst (Appends old new) (sym (text_of-append so.lines (line ∷ []))) (Appends-trans old now new (text_of so.lines) (text_of (line ∷ [])) so.written w);
    counted = length-append so.all (event ∷ []) ∙ ap (λ (i : ℕ). i + 1) so.counted;
    read = read_next known after k so.all event so.read next;
  }

-- ---- where the lines end

module _ {C M V X : Type 0} (IsNew : M → Type 0) (does : C → M → V → List ℕ → C → M → Type 0) (spells : List ℕ → V → Type 0) (IsBad : List ℕ → Type 0) (AreLinesOf : List V → List (List ℕ) → Type 0) (contents : X → Option (List ℕ))
    (end now_end : C) (memory : M) (first known : Option (List ℕ)) (before after : X) (k : ℕ) (so : RanSoFar IsNew does spells end now_end memory first known (contents before) (contents after) k) where
  -- what ran so far
  ran_so : RanFrom IsNew does end so.all so.lines
  ran_so = (so.begun, so.is_new, (now_end, memory), so.ran)

  -- what is promised of a known input is promised
  by_known : (later : X) (r : Result ℕ Fault) → IfOk r (λ s. s ≡ 0)
      → ((bytes rest : List ℕ) → known ≡ Some rest → ReadSoFar spells bytes rest so.all → RunsLines spells IsBad (RanFrom IsNew does end) (contents before) (contents later) r bytes)
      → RunsFeed contents spells IsBad AreLinesOf (RanFrom IsNew does end) (by_lines first) before later r
  by_known later r zero runs = at_first first so.read
    where
      at_first : (b : Option (List ℕ)) → ReadOf spells b known so.all → RunsFeed contents spells IsBad AreLinesOf (RanFrom IsNew does end) (by_lines b) before later r
      at_first None q = zero
      at_first (Some bytes) (rest, is, read) = runs bytes rest is read

  -- the lines are over
  pub over : (left : Option (List ℕ)) → NextEvent spells IsBad k known left (Ok None) → RunsFeed contents spells IsBad AreLinesOf (RanFrom IsNew does end) (by_lines first) before after (Ok 0)
  over left next = by_known after (Ok 0) refl (λ bytes rest is read.
      let none : rest ≡ [] = subst (λ (x : Option (List ℕ)). NextEvent spells IsBad k x left (Ok None)) is next in
      (refl, so.all, so.lines, ran_so, all_read spells bytes rest so.all read (ap (λ (xs : List ℕ). length xs) none), so.written))

  -- the front of the input that was read
  front_of : (bytes rest : List ℕ) → ReadSoFar spells bytes rest so.all → ReadsFront spells bytes so.all
  front_of bytes rest read = record { good = read.done; rest = lines_of rest; parts = read.lines; read = read.read }

  -- no memory is left
  pub no_memory_left : (later : X) → contents later ≡ contents after → RunsFeed contents spells IsBad AreLinesOf (RanFrom IsNew does end) (by_lines first) before later (Err Memory)
  no_memory_left later same = by_known later (Err Memory) tt (λ bytes rest is read.
      (so.all, so.lines, ran_so, front_of bytes rest read, subst (λ (x : Option (List ℕ)). AppendsFront (contents before) x so.lines) (sym same) (whole_front (contents before) (contents after) so.lines so.written)))

  -- there is no next event, for a bad line or a failed read
  pub no_next : (left : Option (List ℕ)) (f : Fault) → NextEvent spells IsBad k known left (Err f) → RunsFeed contents spells IsBad AreLinesOf (RanFrom IsNew does end) (by_lines first) before after (Err f)
  unfolding none_more
  no_next left (Line n) next = by_known after (Err (Line n)) tt (λ bytes rest is read.
      let there = subst (λ (x : Option (List ℕ)). NextEvent spells IsBad k x left (Err (Line n))) is next in
      let (behind, line) = there.1 in
      let counted : n ≡ length so.all + 1 = next.0 ∙ ap (λ (i : ℕ). i + 1) (sym so.counted) in
      (none_more spells IsBad bytes line.line rest behind so.all n read line.lines line.holds counted, so.lines, ran_so, so.written))
  no_next left Memory next = no_memory_left after refl
  no_next left (Read e) next = by_known after (Err (Read e)) tt (λ bytes rest is read. (so.all, so.lines, ran_so, front_of bytes rest read, so.written))
  no_next left f next = absurd next

  -- the line of an event that ran isn't written
  line_left : (later : X) (left : Option (List ℕ)) (d : C) (n : M) (event : V) (line : List ℕ) (f : Fault) → NextEvent spells IsBad k known left (Ok (Some event)) → does now_end memory event line d n
      → Stops (contents after) (contents later) (line ∷ []) f → RunsFeed contents spells IsBad AreLinesOf (RanFrom IsNew does end) (by_lines first) before later (Err f)
  line_left later left d n event line Memory next step w = by_known later (Err Memory) tt (λ bytes rest is read.
      let (behind, are, f) = subst (λ (x : Option (List ℕ)). NextEvent spells IsBad k x left (Ok (Some event))) is next in
      let more = read_more spells bytes f.line rest behind so.all (so.all ++ event ∷ []) event read f.lines f.holds refl in
      let to = lines_to_more (Steps does) (end, so.begun) (now_end, memory) (d, n) so.all so.lines event line so.ran step in (
        so.all ++ event ∷ [],
        so.lines ++ line ∷ [],
        (so.begun, so.is_new, (d, n), to),
        record { good = more.done; rest = lines_of behind; parts = more.lines; read = more.read },
        so_far_error (contents before) (contents after) (contents later) (so.lines ++ line ∷ []) (line ∷ []) [] Memory (record { done = so.lines; written = so.written; parts = refl }) w,
      ))
  line_left later left d n event line (Write e) next step w = by_known later (Err (Write e)) tt (λ bytes rest is read. tt)
  line_left later left d n event line f next step w = absurd w

  -- an event isn't run, or its line isn't written
  pub not_followed : (later : X) (left : Option (List ℕ)) (d : C) (n : M) (event : V) (f : Fault) → NextEvent spells IsBad k known left (Ok (Some event))
      → RunsEvent (λ line. does now_end memory event line d n) (contents after) (contents later) (Err f) → RunsFeed contents spells IsBad AreLinesOf (RanFrom IsNew does end) (by_lines first) before later (Err f)
  not_followed later left d n event f next (no_memory is same) =
      let out : f ≡ Memory = cc is in
      subst (λ (x : Fault). RunsFeed contents spells IsBad AreLinesOf (RanFrom IsNew does end) (by_lines first) before later (Err x)) (sym out) (no_memory_left later same)
  not_followed later left d n event f next (ran line step w) = line_left later left d n event line f next step w

  -- an event ran, and its line is written
  pub followed : (later : X) (left : Option (List ℕ)) (d : C) (n : M) (event : V) → NextEvent spells IsBad k known left (Ok (Some event))
      → RunsEvent (λ line. does now_end memory event line d n) (contents after) (contents later) (Ok tt) → RanSoFar IsNew does spells end d n first left (contents before) (contents later) (k + 1)
  followed later left d n event next (no_memory is same) = let bad : Ok tt ≡ Err Memory = is in cc bad
  followed later left d n event next (ran line step w) = one_ran IsNew does spells IsBad end first (contents before) now_end d memory n known left (contents after) (contents later) k event line so next step w
