-- Text written at a place, over as many bytes.
use Rattle.std.proofs.Common.{◌≡◌, ℕ, ◌+◌, ◌-◌, ◌≤◌, List, ◌++◌, length, take, drop, refl, sym, ap, ◌∙◌, append_assoc, arith, length-take, length-drop}
use Rattle.std.proofs.lemmas.List.{length-append, take_at, drop_at, drop-drop}
use Rattle.osc_coap.specs.OptionText.{placed}

-- how long the front before a place is with a text behind it
front_long : (place : ℕ) (text old : List ℕ) → place ≤ length old → length (take place old ++ text) ≡ place + length text
front_long place text old within = omega (arith, length-append (take place old) text, length-take place old)

-- the front as far as the text's end
pub front_placed : (place n : ℕ) (text old : List ℕ) → n ≡ place + length text → place ≤ length old → take n (placed place text old) ≡ take place old ++ text
front_placed place n text old n-is within =
    ap (take n) (sym (append_assoc (take place old) text (drop (place + length text) old))) ∙ take_at (take place old ++ text) _ n (front_long place text old within ∙ sym n-is)

-- the bytes behind the text stay
pub behind_placed : (place n : ℕ) (text old : List ℕ) → n ≡ place + length text → place ≤ length old → drop n (placed place text old) ≡ drop n old
behind_placed place n text old n-is within =
    ap (drop n) (sym (append_assoc (take place old) text (drop (place + length text) old))) ∙ drop_at (take place old ++ text) _ n (front_long place text old within ∙ sym n-is) ∙ ap (λ (k : ℕ). drop k old) (sym n-is)

-- so do those behind a place further on
pub far_placed : (place n : ℕ) (text old : List ℕ) → place + length text ≤ n → place ≤ length old → drop n (placed place text old) ≡ drop n old
far_placed place n text old far within =
    let m : ℕ = n - (place + length text) in
    let n-is : n ≡ (place + length text) + m = omega arith in
    let near = behind_placed place (place + length text) text old refl within in
    ap (λ (k : ℕ). drop k (placed place text old)) n-is ∙ sym (drop-drop m (place + length text) (placed place text old)) ∙ ap (drop m) near ∙ drop-drop m (place + length text) old ∙ ap (λ (k : ℕ). drop k old) (sym n-is)

-- the length stays
pub length-placed : (place : ℕ) (text old : List ℕ) → place + length text ≤ length old → length (placed place text old) ≡ length old
length-placed place text old within =
    omega (arith, length-append (take place old) (text ++ drop (place + length text) old), length-append text (drop (place + length text) old), length-take place old, length-drop (place + length text) old)

-- two texts, one behind the other
pub placed_twice : (place next : ℕ) (a b old middle new : List ℕ) → next ≡ place + length a → next + length b ≤ length old → middle ≡ placed place a old → new ≡ placed next b middle → new ≡ placed place (a ++ b) old
placed_twice place next a b old middle new next-is room first second =
    let front : take next middle ≡ take place old ++ a = ap (take next) first ∙ front_placed place next a old next-is (omega arith) in
    let behind : drop (next + length b) middle ≡ drop (next + length b) old = ap (drop (next + length b)) first ∙ far_placed place (next + length b) a old (omega arith) (omega arith) in
    let end : next + length b ≡ place + length (a ++ b) = omega (arith, length-append a b) in
    second
    ∙ ap (λ (z : List ℕ). z ++ (b ++ drop (next + length b) middle)) front
    ∙ ap (λ (z : List ℕ). (take place old ++ a) ++ (b ++ z)) (behind ∙ ap (λ (k : ℕ). drop k old) end)
    ∙ append_assoc (take place old) a (b ++ drop (place + length (a ++ b)) old)
    ∙ ap (λ (z : List ℕ). take place old ++ z) (sym (append_assoc a b (drop (place + length (a ++ b)) old)))
