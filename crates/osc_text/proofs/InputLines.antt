-- An input is read line by line.
use Rattle.std.proofs.Common.{◌≡◌, ◌≢◌, ℕ, suc, ◌+◌, ◌<◌, List, [], ◌∷◌, ◌++◌, All, map, length, Some, None, refl, sym, ap, subst, ◌∙◌, arith, inl, inr, append_assoc, drop, ◌==◌, ap₂, length-append, append-nil}
use Rattle.std.proofs.lemmas.Bool.{cases_Bool, cond-true, cond-false, eqb-false, eqb-true, ne_eqb}
use Rattle.std.proofs.lemmas.List.Elements.{All-cons, All-head, All-nil, All-tail}
use Rattle.osc_text.specs.InputReading.{SpellsNone, SpellsSeen, StopsReading, lines_of, longer_line, split_once}
use Rattle.osc_text.specs.Inputs.{AreLines, IsFirstBadLine, SpellEvents, SpellsInput}
use Rattle.osc_text.proofs.InputWords.{IsNot, split_nowhere, split_parts}

-- ---- lines

-- a line and a newline in front
pub line_first : (line rest : List ℕ) → All (IsNot 10) line → lines_of (line ++ 10 ∷ rest) ≡ line ∷ lines_of rest
unfolding lines_of
line_first [] rest none = refl
line_first (b ∷ line) rest none =
    cond-false _ _ _ (ne_eqb b 10 (All-head (IsNot 10) b line none)) ∙ ap (longer_line b) (line_first line rest (All-tail (IsNot 10) b line none))

-- one line that the input ends
pub line_last : (b : ℕ) (line : List ℕ) → All (IsNot 10) (b ∷ line) → lines_of (b ∷ line) ≡ (b ∷ line) ∷ []
unfolding lines_of
line_last b [] none = cond-false _ _ _ (ne_eqb b 10 (All-head (IsNot 10) b [] none))
line_last b (c ∷ line) none =
    cond-false _ _ _ (ne_eqb b 10 (All-head (IsNot 10) b (c ∷ line) none)) ∙ ap (longer_line b) (line_last c line (All-tail (IsNot 10) b (c ∷ line) none))

-- the line that was split off, and what is behind it
pub line_behind : (input line rest : List ℕ) → Some (line, rest) ≡ split_once 10 input → (lines_of input ≡ line ∷ lines_of rest) × (length rest < length input)
line_behind input line rest h =
    let p = split_parts 10 input (line, rest) (sym h) in
    let len : length (line ++ 10 ∷ rest) ≡ length line + suc (length rest) = length-append line (10 ∷ rest) in
    let whole : length input ≡ length (line ++ 10 ∷ rest) = ap (λ (xs : List ℕ). length xs) p.0 in
    (ap lines_of p.0 ∙ line_first line rest p.1, omega (arith, len, whole))

-- an input of one line
pub only_line : (input : List ℕ) → input ≢ [] → None ≡ split_once 10 input → lines_of input ≡ input ∷ lines_of []
unfolding lines_of
only_line [] some h = absurd (some refl)
only_line (b ∷ input) some h = line_last b input (split_nowhere 10 (b ∷ input) (sym h))

-- ---- so far

-- one line more
pub spelled_more : {E : Type 0} (spells : List ℕ → E → Type 0) (lines : List (List ℕ)) (all : List E) (line : List ℕ) (e : E) → SpellEvents spells lines all → spells line e
    → SpellEvents spells (lines ++ line ∷ []) (all ++ e ∷ [])
spelled_more spells [] [] line e s h = (h, tt)
spelled_more spells (first ∷ lines) (x ∷ all) line e s h = (s.0, spelled_more spells lines all line e s.1 h)
spelled_more spells lines all line e s h = absurd s

-- as many lines as events
pub as_many : {E : Type 0} (spells : List ℕ → E → Type 0) (lines : List (List ℕ)) (all : List E) → SpellEvents spells lines all → length lines ≡ length all
as_many spells [] [] s = refl
as_many spells (line ∷ lines) (e ∷ all) s = ap suc (as_many spells lines all s.1)
as_many spells lines all s = absurd s

-- the lines that are read spell these events; rest is left
pub record ReadSoFar {V : Type 0} (spells : List ℕ → V → Type 0) (input rest : List ℕ) (all : List V) : Type 0 where
  pub done : List (List ℕ)
  pub lines : lines_of input ≡ done ++ lines_of rest
  pub read : SpellEvents spells done all

-- one line more
pub read_more : {V : Type 0} (spells : List ℕ → V → Type 0) (input line rest behind : List ℕ) (all after : List V) (e : V) → ReadSoFar spells input rest all
    → lines_of rest ≡ line ∷ lines_of behind → spells line e → after ≡ all ++ e ∷ [] → ReadSoFar spells input behind after
read_more spells input line rest behind all after e s first is are = rw are (record {
  done = s.done ++ line ∷ [];
  lines = s.lines ∙ ap (λ (ls : List (List ℕ)). s.done ++ ls) first ∙ sym (append_assoc s.done (line ∷ []) (lines_of behind));
  read = spelled_more spells s.done all line e s.read is;
})

-- no line is left
pub all_read : {V : Type 0} (spells : List ℕ → V → Type 0) (input rest : List ℕ) (all : List V) → ReadSoFar spells input rest all → length rest ≡ 0 → SpellEvents spells (lines_of input) all
unfolding lines_of
all_read {V} spells input [] all s none = subst (λ (ls : List (List ℕ)). SpellEvents spells ls all) (sym (s.lines ∙ append-nil s.done)) s.read
all_read spells input (b ∷ rest) all s none = absurd (omega (arith, none))

-- a bad line
unfoldable pub none_more : {V : Type 0} (spells : List ℕ → V → Type 0) (IsBad : List ℕ → Type 0) (input line rest behind : List ℕ) (all : List V) (n : ℕ) → ReadSoFar spells input rest all
    → lines_of rest ≡ line ∷ lines_of behind → IsBad line → n ≡ length all + 1 → StopsReading spells IsBad input n
none_more spells IsBad input line rest behind all n s first is counted = record {
  good = s.done;
  all = all;
  bad = line;
  rest = lines_of behind;
  lines = s.lines ∙ ap (λ (ls : List (List ℕ)). s.done ++ ls) first;
  read = s.read;
  is_bad = is;
  counted = counted ∙ ap (λ (k : ℕ). k + 1) (sym (as_many spells s.done all s.read));
}

-- ---- the lines of an input

-- equal lists have equal heads and tails
pub first_same : {A : Type 0} {x y : A} {xs ys : List A} → x ∷ xs ≡ y ∷ ys → x ≡ y
first_same {x = x} h = ap (λ zs. head_or zs x) h
  where
    head_or : {A : Type 0} → List A → A → A
    head_or [] d = d
    head_or (z ∷ zs) d = z

rest_same : {A : Type 0} {x y : A} {xs ys : List A} → x ∷ xs ≡ y ∷ ys → xs ≡ ys
rest_same h = ap (λ zs. drop 1 zs) h

-- a line that isn't empty, by itself
alone : (line : List ℕ) → All (IsNot 10) line → line ≢ [] → lines_of line ≡ line ∷ []
alone [] none some = absurd (some refl)
alone (b ∷ line) none some = line_last b line none

longer_lines : (b : ℕ) (input : List ℕ) (lines : List (List ℕ)) → b ≢ 10 → AreLines lines input → AreLines (longer_line b lines) (b ∷ input)
longer_lines b input [] other are = (All-cons (IsNot 10) b [] other (All-nil (IsNot 10)), inl (refl, (λ h. cc h), ap (λ (r : List ℕ). b ∷ r) are))
longer_lines b input (line ∷ lines) other are = (
  All-cons (IsNot 10) b line other are.0,
  elim are.1 [
    | inl last ↦ inl (last.0, (λ h. cc h), ap (λ (r : List ℕ). b ∷ r) last.2)
    | inr more ↦ inr (more.0, ap (λ (r : List ℕ). b ∷ r) more.1, more.2)
  ],
)

pub lines_are : (input : List ℕ) → AreLines (lines_of input) input
unfolding lines_of
lines_are [] = refl
lines_are (b ∷ input) = elim (cases_Bool (b == 10)) [
  | inl is ↦ rw (cond-true _ ([] ∷ lines_of input) (longer_line b (lines_of input)) is) (All-nil (IsNot 10), inr (input, ap (λ (c : ℕ). c ∷ input) (eqb-true b 10 is), lines_are input))
  | inr other ↦ rw (cond-false _ ([] ∷ lines_of input) (longer_line b (lines_of input)) other) (longer_lines b input (lines_of input) (eqb-false b 10 other) (lines_are input))
]

pub are_lines : (lines : List (List ℕ)) (input : List ℕ) → AreLines lines input → lines_of input ≡ lines
unfolding lines_of
are_lines [] input are = ap lines_of are
are_lines (line ∷ lines) input are = elim are.1 [
  | inl last ↦ ap lines_of last.2 ∙ alone line are.0 last.1 ∙ ap (λ (ls : List (List ℕ)). line ∷ ls) (sym last.0)
  | inr more ↦ ap lines_of more.1 ∙ line_first line more.0 are.0 ∙ ap (λ (ls : List (List ℕ)). line ∷ ls) (are_lines lines more.0 more.2)
]

-- ---- the events of the lines

-- what the code reads of each line is spelled there, and right
pub seen_spelled : {E V : Type 0} (spells : List ℕ → E → Type 0) (seen : V → E) (IsRight : V → Type 0) (lines : List (List ℕ)) (all : List V)
    → SpellEvents (SpellsSeen spells seen IsRight) lines all → SpellEvents spells lines (map seen all) × All IsRight all
seen_spelled spells seen IsRight [] [] s = (tt, All-nil IsRight)
seen_spelled spells seen IsRight (line ∷ lines) (e ∷ all) s =
    let more = seen_spelled spells seen IsRight lines all s.1 in
    ((s.0.0, more.0), All-cons IsRight e all s.0.1 more.1)
seen_spelled spells seen IsRight lines all s = absurd s

-- what was read whole is spelled
pub input_spelled : {E V : Type 0} (spells : List ℕ → E → Type 0) (seen : V → E) (IsRight : V → Type 0) (input : List ℕ) (all : List V)
    → SpellEvents (SpellsSeen spells seen IsRight) (lines_of input) all → SpellsInput spells input (map seen all) × All IsRight all
input_spelled spells seen IsRight input all s =
    let both = seen_spelled spells seen IsRight (lines_of input) all s in
    ((lines_of input, lines_are input, both.0), both.1)

-- the first bad line stops the reading
unfoldable pub first_bad : {E V : Type 0} (spells : List ℕ → E → Type 0) (seen : V → E) (IsRight : V → Type 0) (input : List ℕ) (n : ℕ)
    → StopsReading (SpellsSeen spells seen IsRight) (SpellsNone spells) input n → IsFirstBadLine spells input n
first_bad spells seen IsRight input n s = record {
  good = s.good;
  events = map seen s.all;
  bad = s.bad;
  rest = s.rest;
  lines = subst (λ (ls : List (List ℕ)). AreLines ls input) s.lines (lines_are input);
  spelled = (seen_spelled spells seen IsRight s.good s.all s.read).0;
  spells_none = s.is_bad;
  counted = s.counted;
}

-- each line spells one event at most
abbrev pub OneSpelling : {E : Type 0} → (List ℕ → E → Type 0) → Type 0
OneSpelling {E} spells = (line : List ℕ) (x y : E) → spells line x → spells line y → x ≡ y

same_events : {E : Type 0} (spells : List ℕ → E → Type 0) → OneSpelling spells → (lines : List (List ℕ)) (xs ys : List E) → SpellEvents spells lines xs → SpellEvents spells lines ys → xs ≡ ys
same_events spells one [] [] [] s t = refl
same_events {E} spells one (line ∷ lines) (x ∷ xs) (y ∷ ys) s t = ap₂ (λ (z : E) (zs : List E). z ∷ zs) (one line x y s.0 t.0) (same_events spells one lines xs ys s.1 t.1)
same_events spells one [] (x ∷ xs) ys s t = absurd s
same_events spells one [] [] (y ∷ ys) s t = absurd t
same_events spells one (line ∷ lines) [] ys s t = absurd s
same_events spells one (line ∷ lines) (x ∷ xs) [] s t = absurd t

-- an input spells one list of events at most
pub one_input : {E : Type 0} (spells : List ℕ → E → Type 0) → OneSpelling spells → (input : List ℕ) (xs ys : List E) → SpellsInput spells input xs → SpellsInput spells input ys → xs ≡ ys
one_input spells one input xs ys (lines, are, s) (others, are_too, s_too) =
    let same : others ≡ lines = sym (are_lines others input are_too) ∙ are_lines lines input are in
    same_events spells one lines xs ys s (subst (λ (ls : List (List ℕ)). SpellEvents spells ls ys) same s_too)

-- ---- a bad line

no_bad_line : {E : Type 0} (spells : List ℕ → E → Type 0) (good rest : List (List ℕ)) (bad : List ℕ) (all : List E) → SpellEvents spells (good ++ bad ∷ rest) all → SpellsNone spells bad → ⊥
no_bad_line spells [] rest bad [] s none = s
no_bad_line spells [] rest bad (e ∷ all) s none = none e s.0
no_bad_line spells (line ∷ good) rest bad [] s none = s
no_bad_line spells (line ∷ good) rest bad (e ∷ all) s none = no_bad_line spells good rest bad all s.1 none

-- an input with a bad line spells no events
pub bad_spells_none : {E : Type 0} (spells : List ℕ → E → Type 0) (input : List ℕ) (n : ℕ) (all : List E) → IsFirstBadLine spells input n → SpellsInput spells input all → ⊥
bad_spells_none spells input n all b (lines, are, s) =
    let same : lines ≡ b.good ++ b.bad ∷ b.rest = sym (are_lines lines input are) ∙ are_lines (b.good ++ b.bad ∷ b.rest) input b.lines in
    no_bad_line spells b.good b.rest b.bad all (subst (λ (ls : List (List ℕ)). SpellEvents spells ls all) same s) b.spells_none

first_counts : {E : Type 0} (spells : List ℕ → E → Type 0) (good others rest more : List (List ℕ)) (bad worse : List ℕ) (xs ys : List E) → SpellEvents spells good xs → SpellEvents spells others ys
    → SpellsNone spells bad → SpellsNone spells worse → good ++ bad ∷ rest ≡ others ++ worse ∷ more → length good ≡ length others
first_counts spells [] [] rest more bad worse xs ys s t none none_too h = refl
first_counts spells [] (other ∷ others) rest more bad worse xs (y ∷ ys) s t none none_too h = absurd (none y (subst (λ (l : List ℕ). spells l y) (sym (first_same h)) t.0))
first_counts spells (line ∷ good) [] rest more bad worse (x ∷ xs) ys s t none none_too h = absurd (none_too x (subst (λ (l : List ℕ). spells l x) (first_same h) s.0))
first_counts spells (line ∷ good) (other ∷ others) rest more bad worse (x ∷ xs) (y ∷ ys) s t none none_too h = ap suc (first_counts spells good others rest more bad worse xs ys s.1 t.1 none none_too (rest_same h))
first_counts spells [] (other ∷ others) rest more bad worse xs [] s t none none_too h = absurd t
first_counts spells (line ∷ good) [] rest more bad worse [] ys s t none none_too h = absurd s
first_counts spells (line ∷ good) (other ∷ others) rest more bad worse [] ys s t none none_too h = absurd s
first_counts spells (line ∷ good) (other ∷ others) rest more bad worse (x ∷ xs) [] s t none none_too h = absurd t

-- and it has one number
pub one_bad_line : {E : Type 0} (spells : List ℕ → E → Type 0) (input : List ℕ) (n m : ℕ) → IsFirstBadLine spells input n → IsFirstBadLine spells input m → n ≡ m
one_bad_line spells input n m a b =
    let same : a.good ++ a.bad ∷ a.rest ≡ b.good ++ b.bad ∷ b.rest = sym (are_lines (a.good ++ a.bad ∷ a.rest) input a.lines) ∙ are_lines (b.good ++ b.bad ∷ b.rest) input b.lines in
    a.counted ∙ ap (λ (k : ℕ). k + 1) (first_counts spells a.good b.good a.rest b.rest a.bad b.bad a.events b.events a.spelled b.spelled a.spells_none b.spells_none same) ∙ sym b.counted
