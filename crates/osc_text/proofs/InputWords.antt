-- The words of an input are read as they are spelled.
use Rattle.std.proofs.Common.{◌≡◌, ◌≢◌, ℕ, ◌+◌, ◌<◌, ◌≤◌, ◌==◌, ◌&&◌, Bool, true, false, List, [], ◌∷◌, ◌++◌, All, length, take, drop, get_or, Option, Some, None, Result, Ok, Err, refl, sym, ap, subst, ◌∙◌, arith, take-append-drop}
use Rattle.std.specs.Prelude.{nat_lt, if◌then◌else◌, MatchResult, unwrap_or}
use Rattle.std.specs.Option.{SomeIff}
use Rattle.std.specs.Str.{IsUtf8, all_ascii_digits}
use Rattle.std.proofs.lemmas.Bool.{and_parts, cond-true, cond-false, eq-eqb, eqb-false, eqb-true, ltb-true, ne_eqb}
use Rattle.std.proofs.lemmas.Str.{IsUtf8-from_ascii}
use Rattle.std.proofs.lemmas.Str.Ascii.{IsAscii-from_all}
use Rattle.std.specs.Char.{is_ascii_digit}
use Rattle.std.proofs.lemmas.Bool.Decides.{nat_tests}
use Rattle.std.proofs.lemmas.List.{drop_more, get_or-take, length-take-le}
use Rattle.std.proofs.lemmas.List.Elements.{All-cons, All-from_get_or, All-head, All-nil, All-tail}
use Rattle.hex.specs.Hex.{decode_sized}
use Rattle.hex.specs.declared.error.FromHexError.{FromHexError}
use Rattle.osc_text.specs.InputReading.{fixed_read, hex_decoded, longer_front, number_read, split_once}
use Rattle.osc_text.specs.Numbers.{IsDigitWord, number_said}

-- ---- marks

-- the byte is no mark
abbrev pub IsNot : ℕ → ℕ → Type 0
IsNot mark b = b ≢ mark

pub split_at : (s : ℕ) (xs ys : List ℕ) → All (IsNot s) xs → split_once s (xs ++ s ∷ ys) ≡ Some (xs, ys)
unfolding split_once
split_at s [] ys none = cond-true _ _ _ (eq-eqb s s refl)
split_at s (x ∷ xs) ys none =
    cond-false _ _ _ (ne_eqb x s (All-head (IsNot s) x xs none)) ∙ ap (longer_front x) (split_at s xs ys (All-tail (IsNot s) x xs none))

pub split_none : (s : ℕ) (xs : List ℕ) → All (IsNot s) xs → split_once s xs ≡ None
unfolding split_once
split_none s [] none = refl
split_none s (x ∷ xs) none =
    cond-false _ _ _ (ne_eqb x s (All-head (IsNot s) x xs none)) ∙ ap (longer_front x) (split_none s xs (All-tail (IsNot s) x xs none))

-- a list is its front, the byte at i and the rest
split_around : (xs : List ℕ) (i s : ℕ) → i < length xs → get_or xs i 0 ≡ s → xs ≡ take i xs ++ s ∷ drop (i + 1) xs
split_around xs i s inside here = sym (take-append-drop i xs) ∙ ap (λ l. take i xs ++ l) (drop_more xs i 0 inside ∙ ap (λ b. b ∷ drop (i + 1) xs) here)

take_all_pass : (P : ℕ → Type 0) (xs : List ℕ) (i : ℕ) → i ≤ length xs → ((k : ℕ) → k < i → P (get_or xs k 0)) → All P (take i xs)
take_all_pass P xs i within reads =
    All-from_get_or P (take i xs) 0 (λ k inside. let below : k < i = omega (arith, length-take-le i xs within) in subst P (sym (get_or-take i xs k 0 below)) (reads k below))

pub split_at_first : (s : ℕ) (xs : List ℕ) (i : ℕ) → i < length xs → get_or xs i 0 ≡ s → ((k : ℕ) → k < i → get_or xs k 0 ≢ s) → split_once s xs ≡ Some (take i xs, drop (i + 1) xs)
split_at_first s xs i inside here before =
    ap (split_once s) (split_around xs i s inside here) ∙ split_at s _ _ (take_all_pass (IsNot s) xs i (omega arith) before)

-- what was split off has no mark, and stands before one
split_step : (s x : ℕ) (xs : List ℕ) (p : List ℕ × List ℕ) (t : Bool) (o : Option (List ℕ × List ℕ)) → (x == s) ≡ t
    → ((q : List ℕ × List ℕ) → o ≡ Some q → (xs ≡ q.0 ++ s ∷ q.1) × All (IsNot s) q.0)
    → (if t then Some ([], xs) else longer_front x o) ≡ Some p → (x ∷ xs ≡ p.0 ++ s ∷ p.1) × All (IsNot s) p.0
split_step s x xs p true o e more h =
    let same : ([], xs) ≡ p = ap (λ (r : Option (List ℕ × List ℕ)). unwrap_or r ([], [])) h in
    subst (λ (q : List ℕ × List ℕ). (x ∷ xs ≡ q.0 ++ s ∷ q.1) × All (IsNot s) q.0) same (ap (λ (y : ℕ). y ∷ xs) (eqb-true x s e), All-nil (IsNot s))
split_step s x xs p false None e more h = cc h
split_step s x xs p false (Some q) e more h =
    let same : (x ∷ q.0, q.1) ≡ p = ap (λ (r : Option (List ℕ × List ℕ)). unwrap_or r ([], [])) h in
    let m = more q refl in
    subst (λ (q : List ℕ × List ℕ). (x ∷ xs ≡ q.0 ++ s ∷ q.1) × All (IsNot s) q.0) same (ap (λ (ys : List ℕ). x ∷ ys) m.0, All-cons (IsNot s) x q.0 (eqb-false x s e) m.1)

pub split_parts : (s : ℕ) (xs : List ℕ) (p : List ℕ × List ℕ) → split_once s xs ≡ Some p → (xs ≡ p.0 ++ s ∷ p.1) × All (IsNot s) p.0
unfolding split_once
split_parts s [] p h = cc h
split_parts s (x ∷ xs) p h = split_step s x xs p (x == s) (split_once s xs) refl (split_parts s xs) h

-- where nothing is split off there is no mark
nowhere_step : (s x : ℕ) (xs : List ℕ) (t : Bool) (o : Option (List ℕ × List ℕ)) → (x == s) ≡ t → (o ≡ None → All (IsNot s) xs)
    → (if t then Some ([], xs) else longer_front x o) ≡ None → All (IsNot s) (x ∷ xs)
nowhere_step s x xs true o e more h = cc h
nowhere_step s x xs false None e more h = All-cons (IsNot s) x xs (eqb-false x s e) (more refl)
nowhere_step s x xs false (Some q) e more h = cc h

pub split_nowhere : (s : ℕ) (xs : List ℕ) → split_once s xs ≡ None → All (IsNot s) xs
unfolding split_once
split_nowhere s [] h = All-nil (IsNot s)
split_nowhere s (x ∷ xs) h = nowhere_step s x xs (x == s) (split_once s xs) refl (split_nowhere s xs) h

-- ---- numbers

-- what three tests choose, where one of them fails
none_chosen : (a b c : Bool) (n : ℕ) → (a ≡ true → b ≡ true → c ≡ true → ⊥) → None ≡ (if a && (b && c) then Some n else None)
none_chosen true true true n h = absurd (h refl refl refl)
none_chosen true true false n h = refl
none_chosen true false c n h = refl
none_chosen false b c n h = refl

pub number_is : (bound : ℕ) (w : List ℕ) (o : Option ℕ) → SomeIff o (IsDigitWord w × (number_said w < bound)) (number_said w) → o ≡ number_read bound w
unfolding number_read
number_is bound w (Some n) h = let is = h.1 in let some = h.0.0.0 in let digits = h.0.0.1 in let lt = h.0.1 in grind (arith, nat_tests, is, some, digits, lt)
number_is bound w None h = none_chosen (nat_lt 0 (length w)) (all_ascii_digits w) (nat_lt (number_said w) bound) (number_said w) (λ a b c. h ((ltb-true 0 (length w) a, b), ltb-true (number_said w) bound c))

-- a character below the last of ASCII
abbrev below_128 : ℕ → Type 0
below_128 c = c < 128

-- digits are characters of ASCII
all_below_128 : (w : List ℕ) → all_ascii_digits w ≡ true → All below_128 w
all_below_128 [] h = All-nil below_128
all_below_128 (c ∷ w) h =
    let both = and_parts (is_ascii_digit c) (all_ascii_digits w) h in
    let digit = both.0 in
    All-cons below_128 c w (grind (arith, nat_tests, digit)) (all_below_128 w both.1)

-- a word that is no text has no digits alone
pub no_number : (bound : ℕ) (w : List ℕ) → (IsUtf8 w → ⊥) → None ≡ number_read bound w
unfolding number_read
no_number bound w h = none_chosen (nat_lt 0 (length w)) (all_ascii_digits w) (nat_lt (number_said w) bound) (number_said w) (λ a b c. h (IsUtf8-from_ascii w (IsAscii-from_all w (all_below_128 w b))))

-- ---- hex

-- what decoding answered in place
pub fixed_is : (n : ℕ) (w bytes : List ℕ) (r : Result (Unit {0}) FromHexError) → r ≡ Ok tt
    → MatchResult (decode_sized w n) (λ xs. (r ≡ Ok tt) × (bytes ≡ xs)) (λ e. r ≡ Err e) → Some bytes ≡ fixed_read n w
unfolding fixed_read
fixed_is n w bytes r ok h = made bytes r (decode_sized w n) ok h
  where
    made : (bytes : List ℕ) (r : Result (Unit {0}) FromHexError) (d : Result (List ℕ) FromHexError) → r ≡ Ok tt → MatchResult d (λ xs. (r ≡ Ok tt) × (bytes ≡ xs)) (λ e. r ≡ Err e) → Some bytes ≡ hex_decoded d
    made bytes r (Ok xs) ok h = ap Some h.1
    made bytes r (Err e) ok h = let bad : Ok tt ≡ Err e = sym ok ∙ h in cc bad

pub not_fixed : (n : ℕ) (w bytes : List ℕ) (r : Result (Unit {0}) FromHexError) (e : FromHexError) → r ≡ Err e
    → MatchResult (decode_sized w n) (λ xs. (r ≡ Ok tt) × (bytes ≡ xs)) (λ e. r ≡ Err e) → None ≡ fixed_read n w
unfolding fixed_read
not_fixed n w bytes r e is h = refused bytes r (decode_sized w n) e is h
  where
    refused : (bytes : List ℕ) (r : Result (Unit {0}) FromHexError) (d : Result (List ℕ) FromHexError) (e : FromHexError) → r ≡ Err e → MatchResult d (λ xs. (r ≡ Ok tt) × (bytes ≡ xs)) (λ e. r ≡ Err e) → None ≡ hex_decoded d
    refused bytes r (Ok xs) e is h = let bad : Err e ≡ Ok tt = sym is ∙ h.0 in cc bad
    refused bytes r (Err f) e is h = refl
