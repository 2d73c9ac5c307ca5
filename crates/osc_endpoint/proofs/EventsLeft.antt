-- What is left of a list of events, for runs of both ends. front is the first of what is left, xs are all.
use Rattle.std.proofs.Common.{◌≡◌, ◌∙◌, ◌+◌, ◌<◌, ap, ℕ, List, sym, arith, [], ◌∷◌, ◌++◌, length, take, drop, get_or}
use Rattle.std.proofs.lemmas.Grind.{common_steps}
use Rattle.std.proofs.lemmas.List.{take_more, drop-drop}

first_is : {A : Type 0} (xs front : List A) (n : ℕ) (x : A) → front ≡ take 1 (drop n xs) → n < length xs → x ≡ get_or front 0 x → x ≡ get_or xs n x
first_is xs front n x e h is = grind (arith, common_steps)

-- with the first of what is left there is one more of all
pub one_more : {A : Type 0} (xs left front : List A) (n k : ℕ) (x : A) → left ≡ drop n xs → front ≡ take 1 left → n < length xs → x ≡ get_or front 0 x → k ≡ n + 1
    → take n xs ++ x ∷ [] ≡ take k xs
one_more xs left front n k x is front_is within first k_is =
    ap (λ z. take n xs ++ z ∷ []) (first_is xs front n x (front_is ∙ ap (take 1) is) within first) ∙ sym (take_more xs n x within) ∙ ap (λ m. take m xs) (sym k_is)

-- what is left behind it
pub after_is : {A : Type 0} (xs left back : List A) (n k : ℕ) → left ≡ drop n xs → back ≡ drop 1 left → k ≡ n + 1 → back ≡ drop k xs
after_is xs left back n k e f h = f ∙ ap (drop 1) e ∙ drop-drop 1 n xs ∙ ap (λ m. drop m xs) (sym h)
