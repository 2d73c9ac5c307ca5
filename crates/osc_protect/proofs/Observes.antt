-- Which Observe option of a message counts: the one that is interpreted, which is the first, if its value is valid. entries are the options of
-- a plain message, tail is what stands behind them outside.
use Rattle.std.proofs.Common.{◌≡◌, ℕ, ◌==◌, Bool, true, false, List, [], ◌∷◌, ◌++◌, length, refl, sym, ap, subst, ◌∙◌, inl, inr, Option, Some, None, if◌then◌else◌, is_some, ◌&&◌, not}
use Rattle.std.proofs.lemmas.Bool.{eqb-true}
use Rattle.std.specs.Option.{unwrap_or}
use Rattle.osc_coap.specs.Interpreted.{interpreted, is_valid_length}
use Rattle.osc_coap.specs.OptionNumbers.{observe}
use Rattle.osc_coap.specs.OptionSpelling.{Entry}
use Rattle.osc_coap.specs.Search.{has_number, values_at}
use Rattle.osc_context.specs.declared.features.Features.{Features}
use Rattle.osc_protect.specs.OptionSets.{is_behind, is_in_front, is_unsupported}
use Rattle.osc_protect.specs.Protection.{emptied}
use Rattle.osc_protect.specs.Sealed.{front_options, options_behind, options_outside}
use Rattle.osc_protect.specs.Split.{has_observe}
use Rattle.osc_protect.proofs.Sides.{unsought_outside}
use Rattle.osc_protect.proofs.Splits.{chosen, neither, supported}

-- Observe doesn't stand outside whatever it says
inner_number : (n : ℕ) → (n == observe) ≡ true → is_in_front n ≡ false
inner_number n is = subst (λ (k : ℕ). is_in_front k ≡ false) (sym (eqb-true n observe is)) refl

outer_number : (n : ℕ) → is_in_front n ≡ true → (n == observe) ≡ false
outer_number n outer = elim (chosen (n == observe)) [
  | inl is ↦ absurd (let bad : true ≡ false = sym outer ∙ inner_number n is in cc)
  | inr isnt ↦ isnt
]

-- ---- what is interpreted

same_value : (a b : List ℕ) → Some a ≡ Some b → a ≡ b
same_value a b h = ap (λ (o : Option (List ℕ)). unwrap_or o []) h

module _ (entry : Entry) (entries : List Entry) where
  here : (entry.0 == observe) ≡ true → is_valid_length observe (length entry.1) ≡ true → interpreted observe (entry ∷ entries) ≡ Some entry.1
  here is valid = rw (is, valid) refl

  too_long : (entry.0 == observe) ≡ true → is_valid_length observe (length entry.1) ≡ false → interpreted observe (entry ∷ entries) ≡ None
  too_long is invalid = rw (is, invalid) refl

  behind : (entry.0 == observe) ≡ false → interpreted observe (entry ∷ entries) ≡ interpreted observe entries
  behind isnt = rw isnt refl

  -- ---- what stands outside, and what is emptied

  outside_here : (entry.0 == observe) ≡ true → is_valid_length observe (length entry.1) ≡ true → options_outside true (entry ∷ entries) ≡ entry ∷ options_outside false entries
  outside_here is valid = rw (is, valid) refl

  outside_too_long : (entry.0 == observe) ≡ true → is_valid_length observe (length entry.1) ≡ false → options_outside true (entry ∷ entries) ≡ front_options (entry ∷ entries)
  outside_too_long is invalid = long ∙ ap (λ (es : List Entry). if is_in_front entry.0 then entry ∷ es else es) (unsought_outside entries)
    where
      long : options_outside true (entry ∷ entries) ≡ (if is_in_front entry.0 then entry ∷ options_outside false entries else options_outside false entries)
      long = rw (is, invalid) refl

  outside_other : (entry.0 == observe) ≡ false
      → options_outside true (entry ∷ entries) ≡ (if is_in_front entry.0 then entry ∷ options_outside true entries else options_outside true entries)
  outside_other isnt = rw isnt refl

  emptied_here : (entry.0 == observe) ≡ true → is_valid_length observe (length entry.1) ≡ true → emptied true (entry ∷ entries) ≡ (entry.0, []) ∷ emptied false entries
  emptied_here is valid = rw (is, valid) refl

  emptied_too_long : (entry.0 == observe) ≡ true → is_valid_length observe (length entry.1) ≡ false → emptied true (entry ∷ entries) ≡ entry ∷ emptied false entries
  emptied_too_long is invalid = rw (is, invalid) refl

  emptied_other : (entry.0 == observe) ≡ false → emptied true (entry ∷ entries) ≡ entry ∷ emptied true entries
  emptied_other isnt = rw isnt refl

-- no further one counts
none_further : (entries tail : List Entry) → values_at observe tail ≡ [] → values_at observe (options_outside false entries ++ tail) ≡ []
none_further [] tail none = none
none_further (entry ∷ entries) tail none = elim (chosen (is_in_front entry.0)) [
  | inl is ↦ let other = outer_number entry.0 is in rw (is, other) (none_further entries tail none)
  | inr isnt ↦ rw isnt (none_further entries tail none)
]

-- nor does one behind the OSCORE option
high : (n : ℕ) → (n == observe) ≡ true → is_behind n ≡ false
high n is = subst (λ (k : ℕ). is_behind k ≡ false) (sym (eqb-true n observe is)) refl

pub none_behind : (entries : List Entry) → values_at observe (options_behind entries) ≡ []
none_behind [] = refl
none_behind (entry ∷ entries) = elim (chosen (is_behind entry.0)) [
  | inl is ↦ elim (chosen (entry.0 == observe)) [
    | inl seen ↦ absurd (let bad : true ≡ false = sym is ∙ high entry.0 seen in cc)
    | inr other ↦ rw (is, other) (none_behind entries)
  ]
  | inr isnt ↦ rw isnt (none_behind entries)
]

all_kept : (entries : List Entry) → emptied false entries ≡ entries
all_kept [] = refl
all_kept (entry ∷ entries) = ap (λ (es : List Entry). entry ∷ es) (all_kept entries)

-- the one that is interpreted stands outside, and no other
pub outside_observe : (entries tail : List Entry) (value : List ℕ) → values_at observe tail ≡ [] → interpreted observe entries ≡ Some value
    → values_at observe (options_outside true entries ++ tail) ≡ value ∷ []
outside_observe [] tail value none h = absurd (cc)
outside_observe (entry ∷ entries) tail value none h = elim (chosen (entry.0 == observe)) [
  | inl is ↦ elim (chosen (is_valid_length observe (length entry.1))) [
    | inl valid ↦
        let same = same_value entry.1 value (sym (here entry entries is valid) ∙ h) in
        ap (λ (es : List Entry). values_at observe (es ++ tail)) (outside_here entry entries is valid)
        ∙ rw is (ap (λ (vs : List (List ℕ)). entry.1 ∷ vs) (none_further entries tail none) ∙ ap (λ (v : List ℕ). v ∷ []) same)
    | inr invalid ↦ absurd (let bad : None ≡ Some value = sym (too_long entry entries is invalid) ∙ h in cc)
  ]
  | inr isnt ↦
      let rest = outside_observe entries tail value none (sym (behind entry entries isnt) ∙ h) in
      ap (λ (es : List Entry). values_at observe (es ++ tail)) (outside_other entry entries isnt) ∙ (elim (chosen (is_in_front entry.0)) [
        | inl outer ↦ rw (outer, isnt) rest
        | inr inner ↦ rw inner rest
      ])
]

-- where none is, those of class U alone stand outside
none_outside : (entries : List Entry) → interpreted observe entries ≡ None → options_outside true entries ≡ front_options entries
none_outside [] h = refl
none_outside (entry ∷ entries) h = elim (chosen (entry.0 == observe)) [
  | inl is ↦ elim (chosen (is_valid_length observe (length entry.1))) [
    | inl valid ↦ absurd (let bad : Some entry.1 ≡ None = sym (here entry entries is valid) ∙ h in cc)
    | inr invalid ↦ outside_too_long entry entries is invalid
  ]
  | inr isnt ↦ outside_other entry entries isnt
      ∙ ap (λ (es : List Entry). if is_in_front entry.0 then entry ∷ es else es) (none_outside entries (sym (behind entry entries isnt) ∙ h))
]

pub unknown_outside : (sought : Bool) (entries : List Entry) → interpreted observe entries ≡ None → options_outside sought entries ≡ front_options entries
unknown_outside true entries h = none_outside entries h
unknown_outside false entries h = unsought_outside entries

-- and all are kept inside
pub unknown_kept : (entries : List Entry) → interpreted observe entries ≡ None → emptied true entries ≡ entries
unknown_kept [] h = refl
unknown_kept (entry ∷ entries) h = elim (chosen (entry.0 == observe)) [
  | inl is ↦ elim (chosen (is_valid_length observe (length entry.1))) [
    | inl valid ↦ absurd (let bad : Some entry.1 ≡ None = sym (here entry entries is valid) ∙ h in cc)
    | inr invalid ↦ emptied_too_long entry entries is invalid ∙ ap (λ (es : List Entry). entry ∷ es) (all_kept entries)
  ]
  | inr isnt ↦ emptied_other entry entries isnt ∙ ap (λ (es : List Entry). entry ∷ es) (unknown_kept entries (sym (behind entry entries isnt) ∙ h))
]

-- the one that is interpreted is so with an empty value too
pub emptied_observe : (entries : List Entry) (value : List ℕ) → interpreted observe entries ≡ Some value → interpreted observe (emptied true entries) ≡ Some []
emptied_observe [] value h = absurd (cc)
emptied_observe (entry ∷ entries) value h = elim (chosen (entry.0 == observe)) [
  | inl is ↦ elim (chosen (is_valid_length observe (length entry.1))) [
    | inl valid ↦ ap (interpreted observe) (emptied_here entry entries is valid) ∙ here (entry.0, []) (emptied false entries) is refl
    | inr invalid ↦ absurd (let bad : None ≡ Some value = sym (too_long entry entries is invalid) ∙ h in cc)
  ]
  | inr isnt ↦ ap (interpreted observe) (emptied_other entry entries isnt) ∙ behind entry (emptied true entries) isnt
      ∙ emptied_observe entries value (sym (behind entry entries isnt) ∙ h)
]

-- ---- that one counts is that one is interpreted, where one is sought

none_sought : (entries : List Entry) → has_observe false entries ≡ false
none_sought [] = refl
none_sought (entry ∷ entries) = none_sought entries

sought_read : (entries : List Entry) → has_observe true entries ≡ is_some (interpreted observe entries)
sought_read [] = refl
sought_read (entry ∷ entries) = elim (chosen (entry.0 == observe)) [
  | inl is ↦ elim (chosen (is_valid_length observe (length entry.1))) [
    | inl valid ↦ found is valid ∙ sym (ap is_some (here entry entries is valid))
    | inr invalid ↦ rw (is, invalid) (none_sought entries) ∙ sym (ap is_some (too_long entry entries is invalid))
  ]
  | inr isnt ↦ rw isnt (sought_read entries) ∙ sym (ap is_some (behind entry entries isnt))
]
  where
    found : (entry.0 == observe) ≡ true → is_valid_length observe (length entry.1) ≡ true → has_observe true (entry ∷ entries) ≡ true
    found is valid = rw (is, valid) refl

pub observes_read : (sought : Bool) (entries : List Entry) → has_observe sought entries ≡ sought && is_some (interpreted observe entries)
observes_read true entries = sought_read entries
observes_read false entries = none_sought entries

-- where Observe is left out, a message that can be sealed has none
none_left_out : (x : Features) (entries : List Entry) → x.observe ≡ false → has_number (is_unsupported x) entries ≡ false → is_some (interpreted observe entries) ≡ false
none_left_out x [] off h = refl
none_left_out x (entry ∷ entries) off h =
    let both = neither (is_unsupported x entry.0) (has_number (is_unsupported x) entries) h in
    let left = neither _ _ (supported x entry.0 both.0).0 in
    let first : (not x.observe && (entry.0 == observe)) ≡ false = left.0 in
    let isnt : (entry.0 == observe) ≡ false = subst (λ (b : Bool). (not b && (entry.0 == observe)) ≡ false) off first in
    ap is_some (behind entry entries isnt) ∙ none_left_out x entries off both.1

-- in a message that can be sealed Observe counts where it is interpreted
pub observes_sealed : (x : Features) (entries : List Entry) → has_number (is_unsupported x) entries ≡ false → has_observe x.observe entries ≡ is_some (interpreted observe entries)
observes_sealed x entries h = observes_read x.observe entries ∙ elim (chosen x.observe) [
  | inl on ↦ rw on refl
  | inr off ↦ rw off (sym (none_left_out x entries off h))
]
