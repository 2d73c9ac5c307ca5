-- The options with which a message can't be sealed.
use Rattle.std.proofs.Common.{◌≡◌, ℕ, ◌≤◌, ◌==◌, ◌/◌, ◌&&◌, ◌||◌, Bool, not, true, false, List, [], ◌∷◌, Option, Some, None, Result, Ok, Err, IsOk, IfErr, IsErrOf, refl, sym, ap, subst, ◌∙◌, arith, inl, inr}
use Rattle.std.specs.Option.{unwrap_or}
use Rattle.std.proofs.lemmas.Bool.{eqb-true}
use Rattle.osc_coap.specs.OptionSpelling.{Entry, Ascends}
use Rattle.osc_coap.specs.Datagram.{Parts}
use Rattle.osc_coap.specs.OptionNumbers.{oscore}
use Rattle.osc_coap.specs.Search.{has_number}
use Rattle.osc_protect.specs.Found.{first_number}
use Rattle.osc_context.specs.Features.{unobserved}
use Rattle.osc_context.specs.declared.features.Features.{Features}
use Rattle.osc_protect.specs.OptionSets.{is_block, is_observe, is_proxy, is_unsupported}
use Rattle.osc_protect.specs.SealRefusals.{IsLowestUnsupported, RefusesPlain, CanBeSealed}
use Rattle.osc_protect.specs.Usage.{sealing_features}
use Rattle.osc_protect.specs.declared.usage.Usage.{Usage}
use Rattle.osc_protect.specs.declared.usage.Usage.TheVariants.{Request, Response}
use Rattle.osc_protect.proofs.Splits.{both_false, chosen, neither, one_of}
use Rattle.osc_protect.specs.declared.protect_error.ProtectError.{ProtectError}
use Rattle.osc_protect.specs.declared.protect_error.ProtectError.TheVariants.{NotThatKind, Unsupported, TooLong, NoRoom}

same_some : (n m : ℕ) → Some n ≡ Some m → n ≡ m
same_some n m h = ap (λ (o : Option ℕ). unwrap_or o 0) h

-- where no option has such a number, none is found
pub none_first : (p : ℕ → Bool) (entries : List Entry) → first_number p entries ≡ None → has_number p entries ≡ false
none_first p [] h = refl
none_first p (entry ∷ entries) h = elim (chosen (p entry.0)) [
  | inl is ↦ absurd (let bad : Some entry.0 ≡ None = sym (rw is refl) ∙ h in cc)
  | inr isnt ↦ rw isnt (none_first p entries (sym (rw isnt refl) ∙ h))
]

-- what is found has such a number, and is there
pub found_first : (p : ℕ → Bool) (entries : List Entry) (n : ℕ) → first_number p entries ≡ Some n → (p n ≡ true) × (has_number (λ k. k == n) entries ≡ true)
found_first p [] n h = absurd (cc)
found_first p (entry ∷ entries) n h = elim (chosen (p entry.0)) [
  | inl is ↦
      let e : entry.0 ≡ n = same_some entry.0 n (sym (rw is refl) ∙ h) in
      (subst (λ (k : ℕ). p k ≡ true) e is, grind (arith))
  | inr isnt ↦
      let rest = found_first p entries n (sym (rw isnt refl) ∙ h) in
      (rest.0, grind (arith))
]

-- no option that ascends from d has a number below it
least : (d m : ℕ) (entries : List Entry) → Ascends d entries → has_number (λ k. k == m) entries ≡ true → d ≤ m
least d m [] up h = absurd (cc)
least d m (entry ∷ entries) up h = elim (one_of (entry.0 == m) (has_number (λ k. k == m) entries) h) [
  | inl e ↦ let same = eqb-true _ _ e in let le = up.0 in omega (arith, same, le)
  | inr more ↦ let rest = least entry.0 m entries up.2 more in let le = up.0 in omega (arith, rest, le)
]

-- the first that is found is the lowest
pub lowest_first : (p : ℕ → Bool) (d : ℕ) (entries : List Entry) (n : ℕ) → Ascends d entries → first_number p entries ≡ Some n
    → (m : ℕ) → p m ≡ true → has_number (λ k. k == m) entries ≡ true → n ≤ m
lowest_first p d [] n up h m pm hm = absurd (cc)
lowest_first p d (entry ∷ entries) n up h m pm hm = elim (chosen (p entry.0)) [
  | inl is ↦
      let e : entry.0 ≡ n = same_some entry.0 n (sym (rw is refl) ∙ h) in
      elim (one_of (entry.0 == m) (has_number (λ k. k == m) entries) hm) [
        | inl same ↦ let s = eqb-true _ _ same in omega (arith, s, e)
        | inr more ↦ let le = least entry.0 m entries up.2 more in omega (arith, le, e)
      ]
  | inr isnt ↦ elim (one_of (entry.0 == m) (has_number (λ k. k == m) entries) hm) [
    | inl same ↦
        let s = eqb-true _ _ same in
        let bad : false ≡ true = sym isnt ∙ ap p s ∙ pm in
        absurd (cc)
    | inr more ↦ lowest_first p entry.0 entries n up.2 (sym (rw isnt refl) ∙ h) m pm more
  ]
]

-- so it is the lowest that can't be sealed
pub lowest_unsupported : (x : Features) (entries : List Entry) (n : ℕ) → Ascends 0 entries → first_number (is_unsupported x) entries ≡ Some n → IsLowestUnsupported x entries n
lowest_unsupported x entries n up h = record {
  unsupported = (found_first (is_unsupported x) entries n h).0;
  among = (found_first (is_unsupported x) entries n h).1;
  lowest = lowest_first (is_unsupported x) 0 entries n up h;
}

-- a number that is there, and is such a one, shows that one is there
has_one : (p : ℕ → Bool) (n : ℕ) (entries : List Entry) → p n ≡ true → has_number (λ k. k == n) entries ≡ true → has_number p entries ≡ true
has_one p n [] pn h = absurd (cc)
has_one p n (entry ∷ entries) pn h = elim (one_of (entry.0 == n) (has_number (λ k. k == n) entries) h) [
  | inl e ↦ let is : p entry.0 ≡ true = ap p (eqb-true _ _ e) ∙ pn in rw is refl
  | inr more ↦ let rest = has_one p n entries pn more in elim (chosen (p entry.0)) [
    | inl is ↦ rw is refl
    | inr isnt ↦ rw isnt rest
  ]
]

-- ---- what is sealed with fewer features can be sealed with more

less : (a o b d e : Bool) → ((((true && o) || b) || d) || e) ≡ false → ((((a && o) || b) || d) || e) ≡ false
less true o b d e h = h
less false true b d e h = absurd (cc)
less false false b d e h = h

less_unsupported : (x : Features) (entries : List Entry) → has_number (is_unsupported (unobserved x)) entries ≡ false → has_number (is_unsupported x) entries ≡ false
less_unsupported x [] h = refl
less_unsupported x (entry ∷ entries) h =
    let both = neither (is_unsupported (unobserved x) entry.0) (has_number (is_unsupported (unobserved x)) entries) h in
    both_false (is_unsupported x entry.0) _ (less (not x.observe) (is_observe entry.0) (not x.blocks && is_block entry.0) (is_proxy entry.0) (entry.0 == oscore) both.0) (less_unsupported x entries both.1)

pub sealing_supported : (u : Usage) (x : Features) (code : ℕ) (entries : List Entry) → has_number (is_unsupported (sealing_features u x code)) entries ≡ false
    → has_number (is_unsupported x) entries ≡ false
sealing_supported Request x code entries h = h
sealing_supported Response x code entries h = elim (chosen (code / 32 == 2)) [
  | inl is ↦
      let e : sealing_features Response x code ≡ x = rw is refl in
      subst (λ (y : Features). has_number (is_unsupported y) entries ≡ false) e h
  | inr isnt ↦
      let e : sealing_features Response x code ≡ unobserved x = rw isnt refl in
      less_unsupported x entries (subst (λ (y : Features). has_number (is_unsupported y) entries ≡ false) e h)
]

-- ---- refusals

module _ (u : Usage) (x : Features) where
  -- what can be sealed is not refused
  pub never_refused : (p : Parts) (e : ProtectError) → CanBeSealed u x p → RefusesPlain u x p e → ⊥
  never_refused p NotThatKind can r = let bad : true ≡ false = sym can.0 ∙ r in cc
  never_refused p (Unsupported n) can r = let bad : false ≡ true = sym can.1 ∙ has_one (is_unsupported x) n p.options r.1.unsupported r.1.among in cc
  never_refused p TooLong can r = r
  never_refused p NoRoom can r = r

  -- there is one refusal
  pub one_refusal : (p : Parts) (e f : ProtectError) → RefusesPlain u x p e → RefusesPlain u x p f → e ≡ f
  one_refusal p NotThatKind NotThatKind h k = refl
  one_refusal p NotThatKind (Unsupported m) h k = absurd (let bad : true ≡ false = sym k.0 ∙ h in cc)
  one_refusal p NotThatKind TooLong h k = absurd k
  one_refusal p NotThatKind NoRoom h k = absurd k
  one_refusal p (Unsupported n) NotThatKind h k = absurd (let bad : true ≡ false = sym h.0 ∙ k in cc)
  one_refusal p (Unsupported n) (Unsupported m) h k =
      let a = h.1.lowest m k.1.unsupported k.1.among in
      let b = k.1.lowest n h.1.unsupported h.1.among in
      ap Unsupported (omega (arith, a, b))
  one_refusal p (Unsupported n) TooLong h k = absurd k
  one_refusal p (Unsupported n) NoRoom h k = absurd k
  one_refusal p TooLong f h k = absurd h
  one_refusal p NoRoom f h k = absurd h

  -- what can be sealed passes
  pub accepts_all : {T : Type 0} (p : Parts) (r : Result T ProtectError) → IfErr r (λ e. RefusesPlain u x p e) → CanBeSealed u x p → IsOk r
  accepts_all p (Ok _) refused can = refl
  accepts_all p (Err e) refused can = absurd (never_refused p e can refused)

  -- what is refused is answered so
  pub refuses_all : {T : Type 0} (p : Parts) (r : Result T ProtectError) → (IsOk r → CanBeSealed u x p) → IfErr r (λ e. RefusesPlain u x p e)
      → (e : ProtectError) → RefusesPlain u x p e → IsErrOf r e
  refuses_all p (Ok _) accepted refused e h = absurd (never_refused p e (accepted refl) h)
  refuses_all p (Err f) accepted refused e h = ap Err (one_refusal p f e refused h)
