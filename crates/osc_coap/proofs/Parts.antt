-- One option: what is read is spelled so, and what is spelled so is read.
use Rattle.std.proofs.Common.{◌≡◌, ◌≢◌, ℕ, ◌+◌, ◌-◌, ◌*◌, ◌/◌, ◌%◌, ◌<◌, ◌≤◌, Bool, true, false, cond, ltb, eqb, List, [], ◌∷◌, ◌++◌, length, take, drop, Option, Some, None, Ok, Err, refl, sym, ap, subst, ◌∙◌, append_assoc, arith, inl, inr, eq-eqb, ◌⊎◌, ◌||◌}
use Rattle.std.proofs.lemmas.Bool.{ltb-false, le-ltb, ltb-true, lt-ltb, eqb-true}
use Rattle.std.proofs.lemmas.Bool.Decides.{nat_tests}
use Rattle.std.proofs.lemmas.List.{take_at, drop_at, take-append-drop, length-append, length-take}
use Rattle.osc_coap.specs.declared.format_error.Fault.{Fault}
use Rattle.osc_coap.specs.declared.format_error.Fault.TheVariants.{DatagramTooLong, Short, Version, TokenLength, EmptyWithRest, TokenCut, Nibble15, OptionCut, NumberTooLarge, EmptyPayload}
use Rattle.osc_coap.specs.Reading.{◌>>=◌, one_byte, two_bytes, number_at, Pieced, pieces_at, Taken, numbered, option_at}
use Rattle.osc_coap.specs.OptionSpelling.{Entry, Stands}
use Rattle.osc_coap.proofs.Pieces.{HasPieces, Begins, nibble_small, option_pieces, pieces_option}
use Rattle.osc_coap.specs.Fault.{IsFaulty}

-- a step that found something
pub bind_some : {A B : Type 0} (o : Option A) (f : A → Option B) (y : B) → (o >>= f) ≡ Some y → (x : A) × (o ≡ Some x) × (f x ≡ Some y)
bind_some (Some x) f y e = (x, refl, e)
bind_some None f y e = absurd cc

-- a choice, by which way its test went
pub chosen : {A : Type 0} (b : Bool) (x y z : A) → cond b x y ≡ z → ((b ≡ true) × (x ≡ z)) ⊎ ((b ≡ false) × (y ≡ z))
chosen true x y z e = inl (refl, e)
chosen false x y z e = inr (refl, e)

-- ---- a nibble's number

-- what is read behind nibble 13 stands there
one_sound : (nibble : ℕ) (bytes : List ℕ) (x : ℕ × List ℕ) → nibble ≡ 13 → one_byte bytes ≡ Some x → (text : List ℕ) × Stands nibble text x.0 × (bytes ≡ text ++ x.1)
one_sound nibble [] x n e = absurd cc
one_sound nibble (b ∷ bytes) x n e =
    let p : (b + 13, bytes) ≡ x = cc in
    (b ∷ [], (n, ap (λ (y : ℕ × List ℕ). y.0) (sym p)), ap (λ (y : ℕ × List ℕ). b ∷ y.1) p)

-- what is read behind nibble 14 stands there
two_sound : (nibble : ℕ) (bytes : List ℕ) (x : ℕ × List ℕ) → nibble ≡ 14 → two_bytes bytes ≡ Some x → (text : List ℕ) × Stands nibble text x.0 × (bytes ≡ text ++ x.1)
two_sound nibble [] x n e = absurd cc
two_sound nibble (b ∷ []) x n e = absurd cc
two_sound nibble (b ∷ c ∷ bytes) x n e =
    let p : (256 * b + c + 269, bytes) ≡ x = cc in
    (b ∷ c ∷ [], (n, ap (λ (y : ℕ × List ℕ). y.0) (sym p)), ap (λ (y : ℕ × List ℕ). b ∷ c ∷ y.1) p)

-- a number that is read stands there
pub number_sound : (nibble : ℕ) (bytes : List ℕ) (x : ℕ × List ℕ) → number_at nibble bytes ≡ Some x → (text : List ℕ) × Stands nibble text x.0 × (bytes ≡ text ++ x.1)
unfolding number_at
number_sound nibble bytes x e =
    elim (chosen (ltb nibble 13) (Some (nibble, bytes)) _ (Some x) e) [
      | inl h ↦ let p : (nibble, bytes) ≡ x = cc in
          let lt : nibble < 13 = ltb-true _ _ h.0 in
          ([], (lt, ap (λ (y : ℕ × List ℕ). y.0) (sym p)), ap (λ (y : ℕ × List ℕ). y.1) p)
      | inr h ↦ elim (chosen (eqb nibble 13) (one_byte bytes) _ (Some x) h.1) [
        | inl g ↦ one_sound nibble bytes x (eqb-true _ _ g.0) g.1
        | inr g ↦ elim (chosen (eqb nibble 14) (two_bytes bytes) None (Some x) g.1) [
          | inl k ↦ two_sound nibble bytes x (eqb-true _ _ k.0) k.1
          | inr k ↦ absurd cc
        ]
      ]
    ]

-- a number that stands there is read
pub number_again : (nibble : ℕ) (text : List ℕ) (n : ℕ) (rest : List ℕ) → Stands nibble text n → number_at nibble (text ++ rest) ≡ Some (n, rest)
unfolding number_at
number_again nibble [] n rest h =
    let t : ltb nibble 13 ≡ true = lt-ltb _ _ h.0 in rw (t, h.1) refl
number_again nibble (x ∷ []) n rest h = rw (h.0, h.1) refl
number_again nibble (x ∷ y ∷ []) n rest h = rw (h.0, h.1) refl
number_again nibble (x ∷ y ∷ z ∷ more) n rest h = absurd h

-- ---- the bytes after an option byte

-- pieces that are read stand there
pub pieces_sound : (dn ln : ℕ) (bytes : List ℕ) (c : Pieced) → pieces_at dn ln bytes ≡ Some c → HasPieces dn ln c.delta c.value c.rest bytes
unfolding pieces_at
pieces_sound dn ln bytes c e =
    let a = bind_some (number_at dn bytes) (λ delta. number_at ln delta.1 >>= λ len. cond (ltb (length len.1) len.0) None (Some (record { delta = delta.0; value = take len.0 len.1; rest = drop len.0 len.1 }))) c e in
    let b = bind_some (number_at ln a.0.1) (λ len. cond (ltb (length len.1) len.0) None (Some (record { delta = a.0.0; value = take len.0 len.1; rest = drop len.0 len.1 }))) c a.2 in
    let s = number_sound dn bytes a.0 a.1 in
    let t = number_sound ln a.0.1 b.0 b.1 in
    let made : Pieced = record { delta = a.0.0; value = take b.0.0 b.0.1; rest = drop b.0.0 b.0.1 } in
    elim (chosen (ltb (length b.0.1) b.0.0) None (Some made) (Some c) b.2) [
      | inl h ↦ absurd cc
      | inr h ↦
          let long : b.0.0 ≤ length b.0.1 = ltb-false _ _ h.0 in
          let p : made ≡ c = cc in
          let len : b.0.0 ≡ length (take b.0.0 b.0.1) = omega (arith, length-take b.0.0 b.0.1) in
          let whole : bytes ≡ s.0 ++ (t.0 ++ (take b.0.0 b.0.1 ++ drop b.0.0 b.0.1)) = s.2 ∙ ap (λ (y : List ℕ). s.0 ++ y) (t.2 ∙ ap (λ (y : List ℕ). t.0 ++ y) (sym (take-append-drop b.0.0 b.0.1))) in
          subst (λ (y : Pieced). HasPieces dn ln y.delta y.value y.rest bytes) p (record { delta_bytes = s.0; length_bytes = t.0; delta_is = s.1; length_is = subst (λ (k : ℕ). Stands ln t.0 k) len t.1; whole = whole })
    ]

-- pieces that stand there are read
pub pieces_again : (dn ln delta : ℕ) (value tail bytes : List ℕ) → HasPieces dn ln delta value tail bytes → pieces_at dn ln bytes ≡ Some (record { delta = delta; value = value; rest = tail })
unfolding pieces_at
pieces_again dn ln delta value tail bytes h =
    let first = number_again dn h.delta_bytes delta (h.length_bytes ++ (value ++ tail)) h.delta_is in
    let second = number_again ln h.length_bytes (length value) (value ++ tail) h.length_is in
    let long : ltb (length (value ++ tail)) (length value) ≡ false = le-ltb _ _ (omega (arith, length-append value tail)) in
    ap (pieces_at dn ln) h.whole ∙ rw (first, second, long, take_at value tail (length value) refl, drop_at value tail (length value) refl) refl

-- ---- an option

-- neither test passed
or_false : (a b : Bool) → (a || b) ≡ false → (a ≡ false) × (b ≡ false)
or_false true b e = absurd cc
or_false false b e = (refl, e)

-- one of the tests passed
or_true : (a b : Bool) → (a || b) ≡ true → (a ≡ true) ⊎ (b ≡ true)
or_true true b e = inl refl
or_true false b e = inr e

-- numbers that differ fail the test for equality
not_eqb : (a b : ℕ) → a ≢ b → eqb a b ≡ false
not_eqb a b n = grind (arith, nat_tests)

-- numbers that fail it differ
eqb_false : (a b : ℕ) → eqb a b ≡ false → a ≢ b
eqb_false a b e = grind (arith, nat_tests)

-- an option that is numbered has pieces, and a number up to 65,535
pub numbered_sound : (d : ℕ) (o : Option Pieced) (t : Taken) → numbered d o ≡ Ok t → (c : Pieced) × (o ≡ Some c) × (t ≡ record { number = d + c.delta; value = c.value; rest = c.rest }) × (d + c.delta ≤ 65535)
unfolding numbered
numbered_sound d None t e = absurd cc
numbered_sound d (Some c) t e =
    elim (chosen (ltb 65535 (d + c.delta)) (Err NumberTooLarge) (Ok (record { number = d + c.delta; value = c.value; rest = c.rest })) (Ok t) e) [
      | inl h ↦ absurd cc
      | inr h ↦ let le : d + c.delta ≤ 65535 = ltb-false _ _ h.0 in (c, refl, cc, le)
    ]

-- an option that is read stands there
pub option_sound : (d : ℕ) (bytes : List ℕ) (t : Taken) → option_at d bytes ≡ Ok t → Begins d (t.number, t.value) t.rest bytes
unfolding option_at
option_sound d [] t e = absurd cc
option_sound d (b ∷ bytes) t e =
    elim (chosen (eqb (b / 16) 15 || eqb (b % 16) 15) (Err Nibble15) (numbered d (pieces_at (b / 16) (b % 16) bytes)) (Ok t) e) [
      | inl h ↦ absurd cc
      | inr h ↦
          let n = numbered_sound d _ t h.1 in
          let cut = pieces_sound (b / 16) (b % 16) bytes n.0 n.1 in
          let delta : n.0.delta ≡ d + n.0.delta - d = omega arith in
          subst (λ (y : Taken). Begins d (y.number, y.value) y.rest (b ∷ bytes)) (sym n.2) (omega arith, n.3, subst (λ (k : ℕ). HasPieces (b / 16) (b % 16) k n.0.value n.0.rest bytes) delta cut)
    ]

-- an option byte has no nibble 15
pub not_fifteen : (b delta : ℕ) (value tail bytes : List ℕ) → HasPieces (b / 16) (b % 16) delta value tail bytes → (eqb (b / 16) 15 || eqb (b % 16) 15) ≡ false
not_fifteen b delta value tail bytes h =
    let p = nibble_small _ _ _ h.delta_is in
    let q = nibble_small _ _ _ h.length_is in
    let e : eqb (b / 16) 15 ≡ false = not_eqb _ _ (omega arith) in
    let f : eqb (b % 16) 15 ≡ false = not_eqb _ _ (omega arith) in
    rw (e, f) refl

-- an option that stands there is read
pub option_again : (d : ℕ) (entry : Entry) (tail bytes : List ℕ) → Begins d entry tail bytes → option_at d bytes ≡ Ok (record { number = entry.0; value = entry.1; rest = tail })
unfolding option_at numbered
option_again d entry tail [] h = absurd h
option_again d entry tail (b ∷ bytes) h =
    let fine = not_fifteen b _ _ _ _ h.2 in
    let cut = pieces_again _ _ _ _ _ _ h.2 in
    let number : d + (entry.0 - d) ≡ entry.0 = let le = h.0 in omega arith in
    let small : ltb 65535 entry.0 ≡ false = le-ltb _ _ h.1 in
    rw (fine, cut, number, small) refl

-- ---- a faulty item

-- why pieces give no option
numbered_fails : (d : ℕ) (o : Option Pieced) (f : Fault) → numbered d o ≡ Err f → ((o ≡ None) × (f ≡ OptionCut)) ⊎ ((c : Pieced) × (o ≡ Some c) × (65535 < d + c.delta) × (f ≡ NumberTooLarge))
unfolding numbered
numbered_fails d None f e = inl (refl, cc)
numbered_fails d (Some c) f e =
    elim (chosen (ltb 65535 (d + c.delta)) (Err NumberTooLarge) (Ok (record { number = d + c.delta; value = c.value; rest = c.rest })) (Err f) e) [
      | inl h ↦ inr (c, refl, ltb-true _ _ h.0, cc)
      | inr h ↦ absurd cc
    ]

-- a fault that is read is one of the item there
pub fault_sound : (d b : ℕ) (bytes : List ℕ) (f : Fault) → b ≢ 255 → option_at d (b ∷ bytes) ≡ Err f → IsFaulty d f (b ∷ bytes)
unfolding option_at
fault_sound d b bytes f marker e =
    elim (chosen (eqb (b / 16) 15 || eqb (b % 16) 15) (Err Nibble15) (numbered d (pieces_at (b / 16) (b % 16) bytes)) (Err f) e) [
      | inl h ↦
          let is : Nibble15 ≡ f = cc in
          let which : (b / 16 ≡ 15) ⊎ (b % 16 ≡ 15) = elim (or_true _ _ h.0) [ inl g ↦ inl (eqb-true _ _ g) | inr g ↦ inr (eqb-true _ _ g) ] in
          subst (λ (y : Fault). IsFaulty d y (b ∷ bytes)) is (marker, which)
      | inr h ↦
          let both = or_false _ _ h.0 in
          elim (numbered_fails d _ f h.1) [
            | inl g ↦ subst (λ (y : Fault). IsFaulty d y (b ∷ bytes)) (sym g.1) (eqb_false _ _ both.0, eqb_false _ _ both.1, λ delta value tail cut. let found = pieces_again _ _ delta value tail bytes (option_pieces delta value tail b bytes cut) in let none = g.0 in cc)
            | inr g ↦ subst (λ (y : Fault). IsFaulty d y (b ∷ bytes)) (sym g.3) (g.0.delta, g.0.value, g.0.rest, pieces_option g.0.delta g.0.value g.0.rest b bytes (pieces_sound _ _ bytes g.0 g.1), g.2)
          ]
    ]

-- the second test passed
or_with_true : (a : Bool) → (a || true) ≡ true
or_with_true true = refl
or_with_true false = refl

-- nothing is found where nothing can be
none_from : {A : Type 0} (o : Option A) → ((x : A) → o ≡ Some x → ⊥) → o ≡ None
none_from None h = refl
none_from (Some x) h = absurd (h x refl)

-- a fault of the item there is read
pub fault_again : (d b : ℕ) (bytes : List ℕ) (f : Fault) → b ≢ 255 → IsFaulty d f (b ∷ bytes) → option_at d (b ∷ bytes) ≡ Err f
unfolding option_at numbered
fault_again d b bytes Nibble15 marker h =
    let test : (eqb (b / 16) 15 || eqb (b % 16) 15) ≡ true = elim h.1 [ inl g ↦ rw (eq-eqb _ _ g) refl | inr g ↦ rw (eq-eqb _ _ g) (or_with_true (eqb (b / 16) 15)) ] in
    rw test refl
fault_again d b bytes OptionCut marker h =
    let e : eqb (b / 16) 15 ≡ false = not_eqb _ _ h.0 in
    let f : eqb (b % 16) 15 ≡ false = not_eqb _ _ h.1 in
    let none : pieces_at (b / 16) (b % 16) bytes ≡ None = none_from _ (λ c g. h.2 c.delta c.value c.rest (pieces_option c.delta c.value c.rest b bytes (pieces_sound _ _ bytes c g))) in
    rw (e, f, none) refl
fault_again d b bytes NumberTooLarge marker h =
    let pieces = option_pieces h.0 h.1 h.2 b bytes h.3 in
    let fine = not_fifteen b _ _ _ _ pieces in
    let cut = pieces_again _ _ _ _ _ _ pieces in
    let large : ltb 65535 (d + h.0) ≡ true = lt-ltb _ _ h.4 in
    rw (fine, cut, large) refl
fault_again d b bytes EmptyPayload marker h = absurd (marker h.0)
fault_again d b bytes DatagramTooLong marker h = absurd h
fault_again d b bytes Short marker h = absurd h
fault_again d b bytes Version marker h = absurd h
fault_again d b bytes TokenLength marker h = absurd h
fault_again d b bytes EmptyWithRest marker h = absurd h
fault_again d b bytes TokenCut marker h = absurd h

-- ---- the tail of an option

-- an option with more bytes behind its tail
pub begins_longer : (d : ℕ) (entry : Entry) (tail more text : List ℕ) → Begins d entry tail text → Begins d entry (tail ++ more) (text ++ more)
begins_longer d entry tail more [] h = absurd h
begins_longer d entry tail more (b ∷ text) h = (
  h.0,
  h.1,
  record {
    delta_bytes = h.2.delta_bytes;
    length_bytes = h.2.length_bytes;
    delta_is = h.2.delta_is;
    length_is = h.2.length_is;
    whole = ap (λ (y : List ℕ). y ++ more) h.2.whole ∙ simp append_assoc;
  },
)

-- an option with fewer bytes behind it
pub begins_shorter : (d : ℕ) (entry : Entry) (tail more bytes : List ℕ) → Begins d entry (tail ++ more) bytes → (text : List ℕ) × Begins d entry tail text × (bytes ≡ text ++ more)
begins_shorter d entry tail more [] h = absurd h
begins_shorter d entry tail more (b ∷ bytes) h =
    let c = h.2 in (
      b ∷ (c.delta_bytes ++ (c.length_bytes ++ (entry.1 ++ tail))),
      (h.0, h.1, record { delta_bytes = c.delta_bytes; length_bytes = c.length_bytes; delta_is = c.delta_is; length_is = c.length_is; whole = refl }),
      ap (λ (y : List ℕ). b ∷ y) (c.whole ∙ simp append_assoc),
    )

-- an option takes a byte at least
pub begins_length : (d : ℕ) (entry : Entry) (tail bytes : List ℕ) → Begins d entry tail bytes → length tail < length bytes
begins_length d entry tail [] h = absurd h
begins_length d entry tail (b ∷ bytes) h =
    let c = h.2 in
    omega (arith, ap length c.whole, length-append c.delta_bytes (c.length_bytes ++ (entry.1 ++ tail)), length-append c.length_bytes (entry.1 ++ tail), length-append entry.1 tail)

-- the option byte is no marker
pub begins_unmarked : (d : ℕ) (entry : Entry) (tail : List ℕ) (b : ℕ) (bytes : List ℕ) → Begins d entry tail (b ∷ bytes) → b ≢ 255
begins_unmarked d entry tail b bytes h e =
    let p = nibble_small _ _ _ h.2.delta_is in
    omega arith
