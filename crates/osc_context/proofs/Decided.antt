-- All bytes are a value or have a first refusal.
use Rattle.std.proofs.Common.{◌≡◌, ◌≢◌, ℕ, zero, suc, ◌+◌, ◌*◌, ◌/◌, ◌%◌, ◌<◌, ◌≤◌, ◌^◌, List, [], ◌∷◌, ◌++◌, length, take, drop, get_or, refl, sym, ap, ◌∙◌, arith, Option, Some, None, IfSome, subst, inl, inr, ◌⊎◌}
use Rattle.std.proofs.lemmas.Bool.{cases_lt}
use Rattle.std.proofs.lemmas.List.{take-append-drop, length-drop, length-take-le}
use Rattle.std.specs.List.{All}
use Rattle.osc_context.specs.PartialIv.{spelled_number}
use Rattle.osc_context.specs.declared.option_error.OptionError.{OptionError}
use Rattle.osc_context.specs.declared.option_error.OptionError.TheVariants.{TooLong, Reserved, PivLength, ZeroFlag, Cut, LeadingZero, Trailing}
use Rattle.osc_context.specs.OscoreValue.{OscoreParts, piv_bytes, kid_context_bytes, kid_bytes, flag_if_some, IsOscoreValue}
use Rattle.osc_context.specs.OptionRefusal.{front_len, RefusesValue, value_rank, IsFirstValueRefusal}
use Rattle.osc_context.proofs.PartialIvs.{Small, all_small, iv_again, no_zero}
use Rattle.osc_context.proofs.ValueParts.{closed, no_value}
use Rattle.osc_context.proofs.FrontLens.{front_of, second_of, long_front}
use Rattle.osc_context.proofs.CutValues.{IsCutUp, value_cut}
use Rattle.osc_context.proofs.FirstRefusals.{of_rank, rank-of_rank, same_rank}
use Rattle.osc_context.proofs.Choices.{zero_or}

-- ---- each refusal holds or does not

-- one number is below another, or not
lt_or : (m n : ℕ) → (m < n) ⊎ ¬ (m < n)
lt_or m n = elim (cases_lt m n) [
  | inl lt ↦ inl lt
  | inr le ↦ inr (λ lt. omega arith)
]

-- two facts that are each decided hold together, or not
both : (A B : Type 0) → A ⊎ ¬ A → B ⊎ ¬ B → (A × B) ⊎ ¬ (A × B)
both A B (inl a) (inl b) = inl (a, b)
both A B (inl a) (inr n) = inr (λ h. n h.1)
both A B (inr n) d = inr (λ h. n h.0)

-- three facts that are each decided hold together, or not
three : (A B C : Type 0) → A ⊎ ¬ A → B ⊎ ¬ B → C ⊎ ¬ C → (A × B × C) ⊎ ¬ (A × B × C)
three A B C (inl a) (inl b) (inl c) = inl (a, b, c)
three A B C (inl a) (inl b) (inr n) = inr (λ h. n h.2)
three A B C (inl a) (inr n) d = inr (λ h. n h.1)
three A B C (inr n) d e = inr (λ h. n h.0)

-- a number is not 0, or it is
turned : (x : ℕ) → (x ≢ 0) ⊎ ¬ (x ≢ 0)
turned zero = inr (λ n. n refl)
turned (suc x) = inl (λ e. absurd (omega arith))

-- each refusal holds of the bytes, or does not
decided : (bytes : List ℕ) (e : OptionError) → RefusesValue bytes e ⊎ ¬ RefusesValue bytes e
decided bytes TooLong = lt_or 255 (length bytes)
decided bytes Reserved = turned (get_or bytes 0 0 / 32)
decided bytes PivLength = lt_or 5 (get_or bytes 0 0 % 8)
decided bytes ZeroFlag = both _ _ (lt_or 0 (length bytes)) (zero_or (get_or bytes 0 0))
decided bytes Cut = both _ _ (lt_or 0 (length bytes)) (lt_or (length bytes) (front_len bytes))
decided bytes LeadingZero = both _ _ (lt_or 1 (get_or bytes 0 0 % 8)) (zero_or (get_or bytes 1 0))
decided bytes Trailing = three _ _ _ (zero_or (get_or bytes 0 0 / 8 % 2)) (lt_or 0 (length bytes)) (lt_or (front_len bytes) (length bytes))

-- ---- a first one, or none

-- from a rank on, a refusal that holds first, or none at all
first_from : (bytes : List ℕ) (n k : ℕ) → n + k ≡ 7 → ((f : OptionError) → value_rank f < k → ¬ RefusesValue bytes f)
    → ((e : OptionError) × IsFirstValueRefusal bytes e) ⊎ ((f : OptionError) → value_rank f < 7 → ¬ RefusesValue bytes f)
first_from bytes zero k all none = inr (λ f lt. none f (omega arith))
first_from bytes (suc n) k all none =
    let same : value_rank (of_rank k) ≡ k = rank-of_rank k (omega arith) in
    elim (decided bytes (of_rank k)) [
      | inl holds ↦ inl (of_rank k, record { holds = holds; first = λ f lt. none f (omega arith) })
      | inr not ↦ first_from bytes n (suc k) (omega arith) (λ f lt. elim (cases_lt (value_rank f) k) [
        | inl below ↦ none f below
        | inr at ↦ λ x. not (subst (λ (e : OptionError). RefusesValue bytes e) (same_rank f (of_rank k) (omega arith)) x)
      ])
    ]

-- there are seven ranks
rank_below : (e : OptionError) → value_rank e < 7
rank_below TooLong = omega arith
rank_below Reserved = omega arith
rank_below PivLength = omega arith
rank_below ZeroFlag = omega arith
rank_below Cut = omega arith
rank_below LeadingZero = omega arith
rank_below Trailing = omega arith

-- ---- bytes that nothing refuses are a value

-- the number of a Partial IV, where there is one
record PivFound (piv : List ℕ) : Type 0 where
  piv_part : Option ℕ
  spelled : piv_bytes piv_part ≡ piv
  number : IfSome piv_part (λ n. n < 2 ^ 40)

-- up to five bytes spell a number below 2 ^ 40
number_small : (bytes : List ℕ) → Small bytes → length bytes ≤ 5 → spelled_number bytes < 2 ^ 40
unfolding Small
number_small [] s le = omega arith
number_small (e ∷ []) s le = let h = s.0 in omega arith
number_small (d ∷ e ∷ []) s le = let h = s.0 in let i = s.1.0 in omega arith
number_small (c ∷ d ∷ e ∷ []) s le = let h = s.0 in let i = s.1.0 in let j = s.1.1.0 in omega arith
number_small (b ∷ c ∷ d ∷ e ∷ []) s le = let h = s.0 in let i = s.1.0 in let j = s.1.1.0 in let k = s.1.1.1.0 in omega arith
number_small (a ∷ b ∷ c ∷ d ∷ e ∷ []) s le = let h = s.0 in let i = s.1.0 in let j = s.1.1.0 in let k = s.1.1.1.0 in let l = s.1.1.1.1.0 in omega arith
number_small (a ∷ b ∷ c ∷ d ∷ e ∷ f ∷ more) s le = absurd (omega arith)

-- up to five bytes with no leading zero are a Partial IV, or none
piv_found : (piv : List ℕ) → Small piv → length piv ≤ 5 → (1 < length piv → get_or piv 0 0 ≢ 0) → PivFound piv
piv_found [] s le front = record { piv_part = None; spelled = refl; number = tt }
piv_found (x ∷ xs) s le front = record {
  piv_part = Some (spelled_number (x ∷ xs));
  spelled = iv_again (x ∷ xs) s (omega arith) le (no_zero (x ∷ xs) front);
  number = number_small (x ∷ xs) s le;
}

-- a kid context and what follows it
record ContextFound (f : ℕ) (after : List ℕ) : Type 0 where
  context : Option (List ℕ)
  tail : List ℕ
  spelled : after ≡ kid_context_bytes context ++ tail
  flag : flag_if_some 16 context ≡ 16 * (f / 16 % 2)

-- a kid context stands behind its length
context_cut : (f : ℕ) (after : List ℕ) → f / 16 % 2 ≡ 1 → 1 + get_or after 0 0 ≤ length after → ContextFound f after
context_cut f [] one le = absurd (omega arith)
context_cut f (s ∷ more) one le =
    let len : length (take s more) ≡ s = length-take-le s more (omega arith) in
    record {
      context = Some (take s more);
      tail = drop s more;
      spelled = ap (λ (k : ℕ). k ∷ more) (sym len) ∙ ap (λ (l : List ℕ). length (take s more) ∷ l) (sym (take-append-drop s more));
      flag = omega arith;
    }

-- a kid context, where its flag is set
context_found : (f : ℕ) (after : List ℕ) → (f / 16 % 2 ≡ 1 → 1 + get_or after 0 0 ≤ length after) → ContextFound f after
context_found f after long = elim (zero_or (f / 16 % 2)) [
  | inl none ↦ record { context = None; tail = after; spelled = refl; flag = omega arith }
  | inr some ↦ let one : f / 16 % 2 ≡ 1 = omega arith in context_cut f after one (long one)
]

-- the kid, where its flag is set
record KidFound (f : ℕ) (tail : List ℕ) : Type 0 where
  kid_part : Option (List ℕ)
  spelled : kid_bytes kid_part ≡ tail
  flag : flag_if_some 8 kid_part ≡ 8 * (f / 8 % 2)

-- a list of no elements
none_left : (l : List ℕ) → length l ≤ 0 → [] ≡ l
none_left [] le = refl
none_left (x ∷ l) le = absurd (omega arith)

-- the kid, where its flag is set, and nothing else
kid_found : (f : ℕ) (tail : List ℕ) → (f / 8 % 2 ≡ 0 → length tail ≤ 0) → KidFound f tail
kid_found f tail left = elim (zero_or (f / 8 % 2)) [
  | inl none ↦ record { kid_part = None; spelled = none_left tail (left none); flag = omega arith }
  | inr some ↦ record { kid_part = Some tail; spelled = refl; flag = omega arith }
]

-- the front of bytes has bytes alone
small_take : (n : ℕ) (xs : List ℕ) → Small xs → Small (take n xs)
unfolding Small
small_take zero xs s = tt
small_take (suc n) [] s = tt
small_take (suc n) (x ∷ xs) s = (s.0, small_take n xs s.1)

-- bytes that nothing refuses are a value
accepted : (f : ℕ) (rest : List ℕ) → Small (f ∷ rest) → ((e : OptionError) → ¬ RefusesValue (f ∷ rest) e) → (p : OscoreParts) × IsOscoreValue p (f ∷ rest)
unfolding Small
accepted f rest small none =
    let fits : length (f ∷ rest) ≤ 255 = at_most (length (f ∷ rest)) 255 (none TooLong) in
    let plain : f / 32 ≡ 0 = is_zero (f / 32) (none Reserved) in
    let few : f % 8 ≤ 5 = at_most (f % 8) 5 (none PivLength) in
    let written : f ≢ 0 = λ z. none ZeroFlag (omega arith, z) in
    let cut : front_len (f ∷ rest) ≤ length (f ∷ rest) = at_most (front_len (f ∷ rest)) (length (f ∷ rest)) (λ lt. none Cut (omega arith, lt)) in
    let room : f % 8 ≤ length rest = omega arith in
    let len : length (take (f % 8) rest) ≡ f % 8 = length-take-le (f % 8) rest room in
    let whole : rest ≡ take (f % 8) rest ++ drop (f % 8) rest = sym (take-append-drop (f % 8) rest) in
    let first : 1 < length (take (f % 8) rest) → get_or (take (f % 8) rest) 0 0 ≢ 0 = λ long z. none LeadingZero (omega (arith, len), second_of (f ∷ rest) (take (f % 8) rest) (drop (f % 8) rest) (omega arith) whole (omega arith) ∙ z) in
    let piv = piv_found (take (f % 8) rest) (small_take (f % 8) rest small.1) (omega (arith, len)) first in
    let context = context_found f (drop (f % 8) rest) (λ one. omega (arith, long_front f rest (take (f % 8) rest) (drop (f % 8) rest) whole len one, length-drop (f % 8) rest)) in
    let all : rest ≡ take (f % 8) rest ++ (kid_context_bytes context.context ++ context.tail) = whole ∙ ap (λ (l : List ℕ). take (f % 8) rest ++ l) context.spelled in
    let front = front_of (f ∷ rest) (take (f % 8) rest) context.context context.tail (omega arith) all len context.flag in
    let ended : f / 8 % 2 ≡ 0 → length context.tail ≤ 0 = λ off. let le : length (f ∷ rest) ≤ front_len (f ∷ rest) = at_most (length (f ∷ rest)) (front_len (f ∷ rest)) (λ lt. none Trailing (off, omega arith, lt)) in omega (arith, front.0, front.1) in
    let kid = kid_found f context.tail ended in
    let p : OscoreParts = record { piv = piv.piv_part; kid_context = context.context; kid = kid.kid_part } in
    let cut : IsCutUp context.context (f ∷ rest) (take (f % 8) rest) context.tail = record {
      some = omega arith;
      fits = fits;
      written = written;
      plain = plain;
      few = few;
      whole = all;
      len = len;
      no_leading_zero = first;
      present = context.flag;
    } in
    (p, closed p (f ∷ rest) (value_cut p (f ∷ rest) (take (f % 8) rest) context.tail cut piv.number piv.spelled kid.spelled kid.flag))
  where
    at_most : (m n : ℕ) → ¬ (n < m) → m ≤ n
    at_most m n not = elim (cases_lt n m) [
      | inl lt ↦ absurd (not lt)
      | inr le ↦ le
    ]

    is_zero : (x : ℕ) → ¬ (x ≢ 0) → x ≡ 0
    is_zero zero not = refl
    is_zero (suc x) not = absurd (not (λ e. absurd (omega arith)))

-- all bytes are a value or have a first refusal
pub value_or_refusal : (bytes : List ℕ) → All (λ b. b < 256) bytes → ((p : OscoreParts) × IsOscoreValue p bytes) ⊎ ((e : OptionError) × IsFirstValueRefusal bytes e)
value_or_refusal [] small = inl (record { piv = None; kid_context = None; kid = None }, no_value [] (omega arith))
value_or_refusal (f ∷ rest) small = elim (first_from (f ∷ rest) 7 0 (omega arith) (λ e lt. absurd (omega arith))) [
  | inl refused ↦ inr refused
  | inr none ↦ inl (accepted f rest (all_small (f ∷ rest) small) (λ e. none e (rank_below e)))
]
