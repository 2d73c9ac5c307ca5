-- How many bytes stand in front of the kid.
use Rattle.std.proofs.Common.{◌≡◌, ◌≢◌, ℕ, zero, suc, ◌+◌, ◌*◌, ◌/◌, ◌%◌, ◌<◌, List, [], ◌∷◌, ◌++◌, length, drop, get_or, refl, sym, ap, ◌∙◌, arith, length-append, Option, Some, None, eqb, true, false, cond}
use Rattle.std.proofs.lemmas.Bool.Decides.{nat_tests}
use Rattle.std.proofs.lemmas.List.{get_or_append_left}
use Rattle.osc_context.specs.OscoreValue.{piv_bytes, kid_context_bytes, flag_if_some}
use Rattle.osc_context.specs.OptionRefusal.{front_len}
use Rattle.osc_context.proofs.PartialIvs.{iv_front}

-- the length of a kid context is the one that its flag and length byte say
context_len : (c : Option (List ℕ)) (k : List ℕ) (f : ℕ) → flag_if_some 16 c ≡ 16 * (f / 16 % 2)
    → length (kid_context_bytes c) ≡ cond (eqb (f / 16 % 2) 1) (1 + get_or (kid_context_bytes c ++ k) 0 0) 0
context_len None k f e = let z : eqb (f / 16 % 2) 1 ≡ false = grind (arith, nat_tests) in rw z refl
context_len (Some c) k f e = let z : eqb (f / 16 % 2) 1 ≡ true = grind (arith, nat_tests) in rw z (omega arith)

-- the first element behind a list
get_past : (xs ys : List ℕ) → get_or (xs ++ ys) (length xs) 0 ≡ get_or ys 0 0
get_past [] ys = refl
get_past (x ∷ xs) ys = get_past xs ys

-- the bytes in front of the kid, counted by the flag byte
pub front_is : (f : ℕ) (piv : List ℕ) (c : Option (List ℕ)) (k : List ℕ) → length piv ≡ f % 8 → flag_if_some 16 c ≡ 16 * (f / 16 % 2)
    → front_len (f ∷ (piv ++ (kid_context_bytes c ++ k))) ≡ 1 + length piv + length (kid_context_bytes c)
front_is f piv c k lp fc =
    let at : get_or (f ∷ (piv ++ (kid_context_bytes c ++ k))) (1 + f % 8) 0 ≡ get_or (kid_context_bytes c ++ k) 0 0 = ap (λ (n : ℕ). get_or (f ∷ (piv ++ (kid_context_bytes c ++ k))) (1 + n) 0) (sym lp) ∙ get_step f (piv ++ (kid_context_bytes c ++ k)) (length piv) ∙ get_past piv (kid_context_bytes c ++ k) in
    rw (at, ← lp, ← context_len c k f fc) refl
  where
    get_step : (x : ℕ) (l : List ℕ) (n : ℕ) → get_or (x ∷ l) (1 + n) 0 ≡ get_or l n 0
    get_step x l n = let e : 1 + n ≡ suc n = omega arith in ap (λ (k : ℕ). get_or (x ∷ l) k 0) e

-- a Partial IV has no leading zero
pub piv_front : (o : Option ℕ) → 1 < length (piv_bytes o) → get_or (piv_bytes o) 0 0 ≢ 0
piv_front None h = absurd (omega arith)
piv_front (Some n) h = iv_front n h

-- the bytes of a Partial IV have no leading zero
pub front_spelled : (o : Option ℕ) (piv : List ℕ) → piv_bytes o ≡ piv → 1 < length piv → get_or piv 0 0 ≢ 0
front_spelled o piv e long none = piv_front o (omega (arith, ap length e)) (ap (λ (l : List ℕ). get_or l 0 0) e ∙ none)

-- the bytes in front of the kid, and behind it, counted by their parts
pub front_of : (bytes piv : List ℕ) (c : Option (List ℕ)) (k : List ℕ) → 0 < length bytes → drop 1 bytes ≡ piv ++ (kid_context_bytes c ++ k) → length piv ≡ get_or bytes 0 0 % 8
    → flag_if_some 16 c ≡ 16 * (get_or bytes 0 0 / 16 % 2) → (front_len bytes ≡ 1 + length piv + length (kid_context_bytes c)) × (length bytes ≡ 1 + length piv + length (kid_context_bytes c) + length k)
front_of [] piv c k some whole lp fc = absurd (omega arith)
front_of (f ∷ rest) piv c k some whole lp fc =
    let e : f ∷ rest ≡ f ∷ (piv ++ (kid_context_bytes c ++ k)) = ap (λ (l : List ℕ). f ∷ l) whole in
    (ap front_len e ∙ front_is f piv c k lp fc, ap length e ∙ omega (arith, length-append piv (kid_context_bytes c ++ k), length-append (kid_context_bytes c) k))

-- the second byte is the first of the Partial IV
pub second_of : (bytes piv more : List ℕ) → 0 < length bytes → drop 1 bytes ≡ piv ++ more → 0 < length piv → get_or bytes 1 0 ≡ get_or piv 0 0
second_of [] piv more some whole l = absurd (omega arith)
second_of (f ∷ rest) piv more some whole l = ap (λ (x : List ℕ). get_or x 0 0) whole ∙ get_or_append_left piv more 0 0 l

-- the first element behind a list of a known length
get_behind : (x : ℕ) (a b : List ℕ) (n : ℕ) → length a ≡ n → get_or (x ∷ (a ++ b)) (1 + n) 0 ≡ get_or b 0 0
get_behind x [] b n e = ap (λ (k : ℕ). get_or (x ∷ b) (1 + k) 0) (sym e)
get_behind x (y ∷ a) b zero e = absurd (omega arith)
get_behind x (y ∷ a) b (suc n) e =
    let step : 1 + suc n ≡ suc (1 + n) = omega arith in
    ap (λ (k : ℕ). get_or (x ∷ y ∷ (a ++ b)) k 0) step ∙ get_behind y a b n (omega arith)

-- how many bytes stand in front of the kid, where there is a kid context
pub long_front : (f : ℕ) (rest a b : List ℕ) → rest ≡ a ++ b → length a ≡ f % 8 → f / 16 % 2 ≡ 1 → front_len (f ∷ rest) ≡ 1 + f % 8 + (1 + get_or b 0 0)
long_front f rest a b whole len one =
    let yes : eqb (f / 16 % 2) 1 ≡ true = grind (arith, nat_tests) in
    let at : get_or (f ∷ rest) (1 + f % 8) 0 ≡ get_or b 0 0 = ap (λ (l : List ℕ). get_or (f ∷ l) (1 + f % 8) 0) whole ∙ get_behind f a b (f % 8) len in
    rw (yes, at) refl

-- bytes that end before a kid context does
pub cut_short : (f : ℕ) (rest a b : List ℕ) → rest ≡ a ++ b → length a ≡ f % 8 → (f / 16 % 2 ≡ 1) × (length b < 1 + get_or b 0 0) → 1 + length rest < front_len (f ∷ rest)
cut_short f rest a b whole len cut =
    let front = long_front f rest a b whole len cut.0 in
    let short = cut.1 in
    omega (arith, front, ap length whole, length-append a b)
