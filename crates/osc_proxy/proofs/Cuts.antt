-- Bytes that are cut at a delimiter.
use Rattle.std.proofs.Common.{◌≡◌, ℕ, ◌==◌, false, List, [], ◌∷◌, ◌++◌, Option, Some, inl, inr, refl, sym, ap, ◌∙◌, arith, append_assoc}
use Rattle.std.proofs.lemmas.Bool.Decides.{nat_tests}
use Rattle.std.specs.Prelude.{option_copied}
use Rattle.std.specs.Borrow.{Bor}
use Rattle.osc_proxy.specs.Uri.{before, behind, extended, parts_between}
use Rattle.osc_proxy.specs.UriViews.{parts_in}
use Rattle.osc_proxy.proofs.Sequences.{chosen}

-- a byte that isn't the delimiter
other : (x d : ℕ) → (x ≡ d → ⊥) → (x == d) ≡ false
other x d h = grind (arith, nat_tests, h)

-- what was gone over grows by a byte that isn't the delimiter
pub cut_on : (d : ℕ) (bytes rest : List ℕ) (x : ℕ) (tail : List ℕ) → rest ≡ x ∷ tail → (x ≡ d → ⊥)
    → ((done : List ℕ) × (bytes ≡ done ++ rest) × (before d bytes ≡ done ++ before d rest))
    → (done : List ℕ) × (bytes ≡ done ++ tail) × (before d bytes ≡ done ++ before d tail)
cut_on d bytes rest x tail e isnt so_far =
    let one : before d (x ∷ tail) ≡ x ∷ before d tail = rw (other x d isnt) refl in (
      so_far.0 ++ x ∷ [],
      so_far.1 ∙ ap (λ (r : List ℕ). so_far.0 ++ r) e ∙ sym (append_assoc so_far.0 (x ∷ []) tail),
      so_far.2 ∙ ap (λ (r : List ℕ). so_far.0 ++ before d r) e ∙ ap (λ (r : List ℕ). so_far.0 ++ r) one ∙ sym (append_assoc so_far.0 (x ∷ []) (before d tail)),
    )

-- and what is behind the delimiter is so still
pub behind_on : (d : ℕ) (bytes rest : List ℕ) (x : ℕ) (tail : List ℕ) → rest ≡ x ∷ tail → (x ≡ d → ⊥) → behind d bytes ≡ behind d rest → behind d bytes ≡ behind d tail
behind_on d bytes rest x tail e isnt same =
    let one : behind d (x ∷ tail) ≡ behind d tail = rw (other x d isnt) refl in
    same ∙ ap (behind d) e ∙ one

-- the first part, and those behind it
parts_apart : (d : ℕ) (bytes : List ℕ) → parts_between d bytes ≡ before d bytes ∷ parts_in d (behind d bytes)
parts_apart d [] = refl
parts_apart d (x ∷ xs) = elim (chosen (x == d)) [
  | inl is ↦ rw is refl
  | inr isnt ↦ rw isnt (ap (extended x) (parts_apart d xs))
]

-- one part is given, and the others are left
pub next_part : (d : ℕ) (old : Option (Bor (List ℕ))) (rest : Bor (List ℕ)) (part : List ℕ) (new : Option (Bor (List ℕ))) → old ≡ Some rest → part ≡ before d rest.now → option_copied new ≡ behind d rest.now
    → parts_in d (option_copied old) ≡ part ∷ parts_in d (option_copied new)
next_part d old rest part new was front left =
    ap (λ (o : Option (Bor (List ℕ))). parts_in d (option_copied o)) was
    ∙ parts_apart d rest.now
    ∙ ap (λ (bytes : List ℕ). bytes ∷ parts_in d (behind d rest.now)) (sym front)
    ∙ ap (λ (o : Option (List ℕ)). part ∷ parts_in d o) (sym left)
