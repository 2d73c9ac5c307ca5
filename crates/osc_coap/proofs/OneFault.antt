-- Bytes have one first fault.
use Rattle.std.proofs.Common.{◌≡◌, ℕ, ◌+◌, ◌⊎◌, List, length, true, false, cond, ltb, eqb, eq-eqb, Option, Some, None, refl, sym, ap, ◌∙◌, arith, inl, inr}
use Rattle.std.proofs.lemmas.Bool.{le-ltb, lt-ltb, ne_eqb}
use Rattle.osc_coap.specs.declared.format_error.Fault.{Fault}
use Rattle.osc_coap.specs.declared.format_error.Fault.TheVariants.{DatagramTooLong, Short, Version, TokenLength, EmptyWithRest, TokenCut, Nibble15, OptionCut, NumberTooLarge, EmptyPayload}
use Rattle.osc_coap.specs.Fault.{HasFaultFrom, HasToken, HasFault, code_of, token_length_of, version_of}
use Rattle.osc_coap.proofs.OneReading.{item_one}

-- the fault of a head, where it has one
head_fault : List ℕ → Option (Fault × ℕ)
head_fault bytes =
    cond (ltb 65535 (length bytes)) (Some (DatagramTooLong, 65535))
    (cond (ltb (length bytes) 4) (Some (Short, 0))
    (cond (eqb (version_of bytes) 1)
    (cond (ltb 8 (token_length_of bytes)) (Some (TokenLength, 0))
    (cond (eqb (code_of bytes) 0)
    (cond (eqb (token_length_of bytes) 0) (cond (ltb 4 (length bytes)) (Some (EmptyWithRest, 4)) None) (Some (EmptyWithRest, 0)))
    (cond (ltb (length bytes) (4 + token_length_of bytes)) (Some (TokenCut, 4)) None)))
    (Some (Version, 0))))

-- a fault is the first one, of the head, or an item's behind a fine head
abbrev pub Divides : Option (Fault × ℕ) → ℕ → List ℕ → Fault → ℕ → Type 0
Divides first start bytes f place = (first ≡ Some (f, place)) ⊎ ((first ≡ None) × HasFaultFrom start bytes f place)

-- so there is one fault alone
pub divided_one : (first : Option (Fault × ℕ)) (start : ℕ) (bytes : List ℕ) (f g : Fault) (place other : ℕ) → Divides first start bytes f place → Divides first start bytes g other → (f ≡ g) × (place ≡ other)
divided_one first start bytes f g place other h k =
    elim h [
      | inl x ↦ elim k [
        | inl y ↦ let e : (f, place) ≡ (g, other) = cc in (ap (λ (z : Fault × ℕ). z.0) e, ap (λ (z : Fault × ℕ). z.1) e)
        | inr y ↦ let y0 = y.0 in absurd cc
      ]
      | inr x ↦ elim k [
        | inl y ↦ let x0 = x.0 in absurd cc
        | inr y ↦ let one = item_one _ f g x.1.0 y.1.0 x.1.2 y.1.2 in (one.0, x.1.1 ∙ ap (λ (n : ℕ). start + n) one.1 ∙ sym y.1.1)
      ]
    ]

-- an item's fault comes behind a head that has none
fine_item : (bytes : List ℕ) (f : Fault) (place : ℕ) → HasToken bytes → HasFaultFrom (4 + token_length_of bytes) bytes f place → Divides (head_fault bytes) (4 + token_length_of bytes) bytes f place
unfolding head_fault
fine_item bytes f place h i =
    let t0 : ltb 65535 (length bytes) ≡ false = le-ltb _ _ h.head.fits in
    let t1 : ltb (length bytes) 4 ≡ false = le-ltb _ _ h.head.whole in
    let t2 : eqb (version_of bytes) 1 ≡ true = eq-eqb _ _ h.head.version in
    let t3 : ltb 8 (token_length_of bytes) ≡ false = le-ltb _ _ h.head.token_length in
    let t4 : eqb (code_of bytes) 0 ≡ false = ne_eqb _ _ h.code in
    let t5 : ltb (length bytes) (4 + token_length_of bytes) ≡ false = le-ltb _ _ h.token in
    inr (rw (t0, t1, t2, t3, t4, t5) refl, i)

-- each fault of a datagram is the head's first one, or an item's
divides : (bytes : List ℕ) (f : Fault) (place : ℕ) → HasFault bytes f place → Divides (head_fault bytes) (4 + token_length_of bytes) bytes f place
unfolding head_fault
divides bytes DatagramTooLong place h =
    let t0 : ltb 65535 (length bytes) ≡ true = lt-ltb _ _ h.0 in
    inl (rw (t0, h.1) refl)
divides bytes Short place h =
    let t0 : ltb 65535 (length bytes) ≡ false = let lt = h.0 in le-ltb _ _ (omega arith) in
    let t1 : ltb (length bytes) 4 ≡ true = lt-ltb _ _ h.0 in
    inl (rw (t0, t1, h.1) refl)
divides bytes Version place h =
    let t0 : ltb 65535 (length bytes) ≡ false = le-ltb _ _ h.1 in
    let t1 : ltb (length bytes) 4 ≡ false = le-ltb _ _ h.0 in
    let t2 : eqb (version_of bytes) 1 ≡ false = ne_eqb _ _ h.2 in
    inl (rw (t0, t1, t2, h.3) refl)
divides bytes TokenLength place h =
    let t0 : ltb 65535 (length bytes) ≡ false = le-ltb _ _ h.1 in
    let t1 : ltb (length bytes) 4 ≡ false = le-ltb _ _ h.0 in
    let t2 : eqb (version_of bytes) 1 ≡ true = eq-eqb _ _ h.2 in
    let t3 : ltb 8 (token_length_of bytes) ≡ true = lt-ltb _ _ h.3 in
    inl (rw (t0, t1, t2, t3, h.4) refl)
divides bytes EmptyWithRest place h =
    let t0 : ltb 65535 (length bytes) ≡ false = le-ltb _ _ h.0.fits in
    let t1 : ltb (length bytes) 4 ≡ false = le-ltb _ _ h.0.whole in
    let t2 : eqb (version_of bytes) 1 ≡ true = eq-eqb _ _ h.0.version in
    let t3 : ltb 8 (token_length_of bytes) ≡ false = le-ltb _ _ h.0.token_length in
    let t4 : eqb (code_of bytes) 0 ≡ true = eq-eqb _ _ h.1 in
    elim h.2 [
      | inl x ↦ let t5 : eqb (token_length_of bytes) 0 ≡ false = ne_eqb _ _ x.0 in inl (rw (t0, t1, t2, t3, t4, t5, x.1) refl)
      | inr x ↦ let t5 : eqb (token_length_of bytes) 0 ≡ true = eq-eqb _ _ x.0 in let t6 : ltb 4 (length bytes) ≡ true = lt-ltb _ _ x.1 in inl (rw (t0, t1, t2, t3, t4, t5, t6, x.2) refl)
    ]
divides bytes TokenCut place h =
    let t0 : ltb 65535 (length bytes) ≡ false = le-ltb _ _ h.0.fits in
    let t1 : ltb (length bytes) 4 ≡ false = le-ltb _ _ h.0.whole in
    let t2 : eqb (version_of bytes) 1 ≡ true = eq-eqb _ _ h.0.version in
    let t3 : ltb 8 (token_length_of bytes) ≡ false = le-ltb _ _ h.0.token_length in
    let t4 : eqb (code_of bytes) 0 ≡ false = ne_eqb _ _ h.1 in
    let t5 : ltb (length bytes) (4 + token_length_of bytes) ≡ true = lt-ltb _ _ h.2 in
    inl (rw (t0, t1, t2, t3, t4, t5, h.3) refl)
divides bytes Nibble15 place h = fine_item bytes Nibble15 place h.0 h.1
divides bytes OptionCut place h = fine_item bytes OptionCut place h.0 h.1
divides bytes NumberTooLarge place h = fine_item bytes NumberTooLarge place h.0 h.1
divides bytes EmptyPayload place h = fine_item bytes EmptyPayload place h.0 h.1

-- a datagram's fault is one, at one place
pub faults_one : (bytes : List ℕ) (f g : Fault) (place other : ℕ) → HasFault bytes f place → HasFault bytes g other → (f ≡ g) × (place ≡ other)
faults_one bytes f g place other h k = divided_one (head_fault bytes) (4 + token_length_of bytes) bytes f g place other (divides bytes f place h) (divides bytes g other k)
