-- Options of a plain message inside its protection: the values of an option that goes inside are the same there, and what may have no Observe
-- is no notification. x is what counts of a context's features, entries are options in order.
use Rattle.std.proofs.Common.{◌≡◌, ℕ, ◌∙◌, sym, ap, refl, arith, Bool, true, false, List, [], ◌∷◌, ◌⊎◌, inl, inr, ◌==◌, ◌||◌, ◌&&◌, ◌/◌, Option, Some, None}
use Rattle.std.specs.Prelude.{if◌then◌else◌, is_some, length}
use Rattle.std.specs.Option.{option_and_then}
use Rattle.std.proofs.Math.Bool.{and-false}
use Rattle.std.proofs.lemmas.Bool.{eqb-true}
use Rattle.osc_coap.specs.Class.{class, inner_options, is_inner}
use Rattle.osc_coap.specs.Datagram.{Parts}
use Rattle.osc_coap.specs.Inner.{InnerParts}
use Rattle.osc_coap.specs.Interpreted.{interpreted, is_valid_length}
use Rattle.osc_coap.specs.OptionNumbers.{observe}
use Rattle.osc_coap.specs.OptionSpelling.{Entry}
use Rattle.osc_coap.specs.Search.{first_of, has_number, values_at}
use Rattle.osc_context.specs.declared.features.Features.{Features}
use Rattle.osc_context.specs.Features.{unobserved}
use Rattle.osc_context.specs.SecurityContext.{SecurityContext}
use Rattle.osc_protect.specs.OptionSets.{is_barred, is_unsupported}
use Rattle.osc_protect.specs.Protection.{ProtectsNotification, ProtectsResponse}
use Rattle.osc_protect.specs.Sealed.{inside}
use Rattle.osc_observe.specs.Observing.{is_notification, is_observable, registers, says_register}

one_of : (b : Bool) → (b ≡ true) ⊎ (b ≡ false)
one_of true = inl refl
one_of false = inr refl

-- the values of such an option
pub values_inside : (n : ℕ) → is_inner (class n) ≡ true → (entries : List Entry) → values_at n (inner_options entries) ≡ values_at n entries
values_inside n goes [] = refl
values_inside n goes (entry ∷ entries) =
    let rest = values_inside n goes entries in
    elim (one_of (entry.0 == n)) [
      | inl is ↦
          let inner : is_inner (class entry.0) ≡ true = ap (λ k. is_inner (class k)) (eqb-true _ _ is) ∙ goes in
          rw (inner, is) (ap (λ vs. entry.1 ∷ vs) rest)
      | inr isnt ↦ elim (one_of (is_inner (class entry.0))) [
        | inl inner ↦ rw (inner, isnt) rest
        | inr outer ↦ rw (outer, isnt) rest
      ]
    ]

-- what is interpreted of Observe, by the values of all Observe options
abbrev pub valid_in : List (List ℕ) → Option (List ℕ)
valid_in vs = option_and_then (λ (v : List ℕ). if is_valid_length observe (length v) then Some v else None) (first_of vs)

-- a request registers inside what it registers as a plain message
pub registers_inside : (x : Features) (p : Parts) → registers x (inside p).code (inside p).options ≡ registers x p.code p.options
registers_inside x p = ap (λ vs. registers_by x p.code vs) (values_inside observe refl p.options)
  where
    registers_by : Features → ℕ → List (List ℕ) → Bool
    registers_by x code vs = x.observe && (is_observable code && says_register (valid_in vs))

pub neither : (a b : Bool) → (a || b) ≡ false → (a ≡ false) × (b ≡ false)
neither true b e = absurd (let f : true ≡ false = e in cc)
neither false b e = (refl, e)

observe_unsupported : (x : Features) (n : ℕ) → x.observe ≡ false → (n == observe) ≡ true → is_unsupported x n ≡ true
observe_unsupported x n off is =
    ap (is_unsupported x) (eqb-true n observe is) ∙ ap (λ b. is_unsupported (record { observe = b; blocks = x.blocks }) observe) off

-- what may have no Observe has none
no_value : (x : Features) (entries : List Entry) → x.observe ≡ false → has_number (is_unsupported x) entries ≡ false → interpreted observe entries ≡ None
no_value x [] off none = refl
no_value x (entry ∷ entries) off none =
    let (first, rest) = neither (is_unsupported x entry.0) (has_number (is_unsupported x) entries) none in
    elim (one_of (entry.0 == observe)) [
      | inl is ↦ absurd (let f : true ≡ false = sym (observe_unsupported x entry.0 off is) ∙ first in cc)
      | inr isnt ↦ rw (isnt) (no_value x entries off rest)
    ]

-- and is no notification
pub unnotified : (x : Features) (p : Parts) → x.observe ≡ false → has_number (is_unsupported x) p.options ≡ false → is_notification p.code (inside p).options ≡ false
unnotified x p off none =
    let value : interpreted observe (inside p).options ≡ None = ap valid_in (values_inside observe refl p.options) ∙ no_value x p.options off none in
    ap (λ o. (p.code / 32 == 2) && is_some o) value ∙ and-false (p.code / 32 == 2)

-- ---- what protects a message as a response protects it as a notification

barred_less : (observes blocks : Bool) (n : ℕ) → is_barred (record { observe = false; blocks = blocks }) n ≡ false → is_barred (record { observe = observes; blocks = blocks }) n ≡ false
barred_less false blocks n h = h
barred_less true blocks n h = grind (arith)

allowed_too : (x : Features) (entries : List Entry) → has_number (is_barred (unobserved x)) entries ≡ false → has_number (is_barred x) entries ≡ false
allowed_too x [] h = refl
allowed_too x (entry ∷ entries) h =
    let (first, rest) = neither (is_barred (unobserved x) entry.0) (has_number (is_barred (unobserved x)) entries) h in
    rw (barred_less x.observe x.blocks entry.0 first) (allowed_too x entries rest)

pub as_notification : (s : SecurityContext) (n : ℕ) (own : Option ℕ) (m : InnerParts) (d : List ℕ) → ProtectsResponse s n own m d → ProtectsNotification s n own m d
as_notification s n own m d p = record {
  outer = p.outer;
  datagram = p.datagram;
  used = p.used;
  value = p.value;
  single = p.single;
  reads = p.reads;
  direct = p.direct;
  code = p.code;
  allowed = allowed_too s.features m.options p.allowed;
  plaintext = p.plaintext;
  spells = p.spells;
  sealed = p.sealed;
}
