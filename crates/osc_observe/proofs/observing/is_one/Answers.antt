use Rattle.std.proofs.Common.{◌≡◌, ◌∙◌, ◌&&◌, sym, ap, refl, ℕ, Bool, true, false, List, [], ◌∷◌, ◌++◌}
use Rattle.std.specs.Prelude.{◌==◌}
use Rattle.osc_observe.specs.Observing.{is_one as one, is_zero as zero}
use Rattle.osc_observe.proofs.observing.is_one.Goals as goal

and_again : (a b c : Bool) → (a && (b && c)) ≡ ((a && b) && c)
and_again true b c = refl
and_again false b c = refl

-- the last byte is 1, and those before it are 0
one_last : (leading : List ℕ) (last : ℕ) → one (leading ++ last ∷ []) ≡ (zero leading && (last == 1))
one_last [] last = refl
one_last (x ∷ []) last = and_again (x == 0) true (last == 1)
one_last (x ∷ y ∷ xs) last = ap (λ b. (x == 0) && b) (one_last (y ∷ xs) last) ∙ and_again (x == 0) (zero (y ∷ xs)) (last == 1)

pub returns-then-is_zero : goal.returns-then-is_zero
returns-then-is_zero c =
    let parts : c.args.value.now ≡ c.in-Some.leading.now ++ c.in-Some.last.now ∷ [] = c.in-Some.ensures.cases.0 in
    ap (λ b. b && (c.in-Some.last.now == 1)) c.if-is_zero.ensures ∙ sym (ap one parts ∙ one_last c.in-Some.leading.now c.in-Some.last.now)

pub returns-else-is_zero : goal.returns-else-is_zero
returns-else-is_zero c =
    let parts : c.args.value.now ≡ c.in-Some.leading.now ++ c.in-Some.last.now ∷ [] = c.in-Some.ensures.cases.0 in
    c.if-is_zero.false ∙ ap (λ b. b && (c.in-Some.last.now == 1)) c.if-is_zero.ensures ∙ sym (ap one parts ∙ one_last c.in-Some.leading.now c.in-Some.last.now)
