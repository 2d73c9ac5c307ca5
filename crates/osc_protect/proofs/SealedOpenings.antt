-- What is sealed is a protection.
use Rattle.std.proofs.Common.{◌≡◌, ℕ, Bool, true, false, List, [], ◌∷◌, ◌++◌, refl, sym, ap, subst, ◌==◌, ◌∙◌, inl, inr}
use Rattle.std.proofs.lemmas.Bool.{eqb-true}
use Rattle.osc_coap.specs.Class.{class, is_inner, is_outer, inner_options}
use Rattle.osc_coap.specs.OptionSpelling.{Entry}
use Rattle.osc_coap.specs.declared.class.Class.{Class}
use Rattle.osc_coap.specs.declared.class.Class.TheVariants as classes
use Rattle.osc_coap.specs.declared.message.Kind.{Kind}
use Rattle.osc_coap.specs.declared.message.Kind.TheVariants.{Con, Non, Ack, Rst}
use Rattle.osc_coap.specs.Datagram.{Parts}
use Rattle.osc_coap.specs.Search.{values_at, has_number}
use Rattle.osc_coap.specs.OptionNumbers.{oscore}
use Rattle.osc_context.specs.declared.features.Features.{Features}
use Rattle.osc_protect.specs.OptionSets.{is_behind, is_proxy, is_barred, is_left_out, is_outside, is_unsupported, sought_behind}
use Rattle.osc_protect.specs.Usage.{is_code_of, is_used, outer_code_of}
use Rattle.osc_protect.specs.Protection.{Protection, Protects, notifications, requests, responses}
use Rattle.osc_protect.specs.Sealed.{inside, options_behind, options_outside, outside, IsSealed}
use Rattle.osc_protect.specs.Laws.{OneMessage, OneNotification, OneRequest, OneResponse, ProtectsAlone, SealedOpens}
use Rattle.osc_protect.specs.declared.usage.Usage.{Usage}
use Rattle.osc_protect.specs.declared.usage.Usage.TheVariants.{Request, Response}
use Rattle.osc_protect.proofs.Protections.{KeepsNumbers, of_outer_code, requests_keep, responses_keep}
use Rattle.osc_protect.proofs.Splits.{both_false, chosen, neither, supported}
use Rattle.osc_protect.proofs.Supported.{sealing_supported}

-- an option that stands inside doesn't stand outside
not_outer : (k : Class) → is_inner k ≡ true → is_outer k ≡ false
not_outer classes.U h = absurd (cc)
not_outer classes.E h = refl
not_outer classes.Both h = refl

-- an option inside that can be sealed may stand there
may_stand : (x : Features) (n : ℕ) → is_inner (class n) ≡ true → is_unsupported x n ≡ false → is_barred x n ≡ false
may_stand x n i h = both_false (is_left_out x n) _ (supported x n h).0 (not_outer (class n) i)

-- none stands behind the OSCORE option
high : (n : ℕ) → (n == oscore) ≡ true → is_behind n ≡ false
high n is = subst (λ (k : ℕ). is_behind k ≡ false) (sym (eqb-true n oscore is)) refl

behind_values : (entries : List Entry) → values_at oscore (options_behind entries) ≡ []
behind_values [] = refl
behind_values (entry ∷ entries) = elim (chosen (is_behind entry.0)) [
  | inl is ↦ elim (chosen (entry.0 == oscore)) [
    | inl seen ↦ absurd (let bad : true ≡ false = sym is ∙ high entry.0 seen in cc)
    | inr other ↦ rw (is, other) (behind_values entries)
  ]
  | inr isnt ↦ rw isnt (behind_values entries)
]

behind_direct : (x : Features) (entries : List Entry) → has_number (is_unsupported x) entries ≡ false → has_number is_proxy (options_behind entries) ≡ false
behind_direct x [] h = refl
behind_direct x (entry ∷ entries) h =
    let both = neither (is_unsupported x entry.0) (has_number (is_unsupported x) entries) h in
    let none = (supported x entry.0 both.0).1 in
    let rest = behind_direct x entries both.1 in
    elim (chosen (is_behind entry.0)) [
      | inl is ↦ rw is (both_false (is_proxy entry.0) _ none rest)
      | inr isnt ↦ rw isnt rest
    ]

-- outside stands one OSCORE option
outer_values : (x : Features) (sought : Bool) (entries behind : List Entry) (value : List ℕ) → has_number (is_unsupported x) entries ≡ false → values_at oscore behind ≡ []
    → values_at oscore (options_outside sought entries ++ (oscore, value) ∷ behind) ≡ value ∷ []
outer_values x sought [] behind value h none = ap (λ (vs : List (List ℕ)). value ∷ vs) none
outer_values x sought (entry ∷ entries) behind value h none =
    let both = neither (is_unsupported x entry.0) (has_number (is_unsupported x) entries) h in
    let other = (supported x entry.0 both.0).2 in
    let rest = outer_values x (sought_behind sought entry) entries behind value both.1 none in
    elim (chosen (is_outside sought entry)) [
      | inl is ↦ rw (is, other) rest
      | inr isnt ↦ rw isnt rest
    ]

-- and none for proxies
outer_direct : (x : Features) (sought : Bool) (entries behind : List Entry) (value : List ℕ) → has_number (is_unsupported x) entries ≡ false → has_number is_proxy behind ≡ false
    → has_number is_proxy (options_outside sought entries ++ (oscore, value) ∷ behind) ≡ false
outer_direct x sought [] behind value h none = none
outer_direct x sought (entry ∷ entries) behind value h none =
    let both = neither (is_unsupported x entry.0) (has_number (is_unsupported x) entries) h in
    let first = (supported x entry.0 both.0).1 in
    let rest = outer_direct x (sought_behind sought entry) entries behind value both.1 none in
    elim (chosen (is_outside sought entry)) [
      | inl is ↦ rw is (both_false (is_proxy entry.0) _ first rest)
      | inr isnt ↦ rw isnt rest
    ]

-- inside stand allowed options alone
inner_allowed : (x : Features) (entries : List Entry) → has_number (is_unsupported x) entries ≡ false → has_number (is_barred x) (inner_options entries) ≡ false
inner_allowed x [] h = refl
inner_allowed x (entry ∷ entries) h =
    let both = neither (is_unsupported x entry.0) (has_number (is_unsupported x) entries) h in
    let rest = inner_allowed x entries both.1 in
    elim (chosen (is_inner (class entry.0))) [
      | inl is ↦ rw is (both_false (is_barred x entry.0) _ (may_stand x entry.0 is both.0) rest)
      | inr isnt ↦ rw isnt rest
    ]

-- a message of a usage has a code of it, and stays one of it under the code outside
used_outside : (u : Usage) (x : Features) (entries : List Entry) (k : Kind) (code : ℕ) → is_used u k code ≡ true → (is_used u k (outer_code_of u x entries) ≡ true) × (is_code_of u code ≡ true)
used_outside Request x entries Con code h = (of_outer_code (λ c. is_used Request Con c ≡ true) Request x entries refl refl, h)
used_outside Request x entries Non code h = (of_outer_code (λ c. is_used Request Non c ≡ true) Request x entries refl refl, h)
used_outside Request x entries Ack code h = absurd (cc)
used_outside Request x entries Rst code h = absurd (cc)
used_outside Response x entries Con code h = (of_outer_code (λ c. is_used Response Con c ≡ true) Response x entries refl refl, h)
used_outside Response x entries Non code h = (of_outer_code (λ c. is_used Response Non c ≡ true) Response x entries refl refl, h)
used_outside Response x entries Ack code h = (of_outer_code (λ c. is_used Response Ack c ≡ true) Response x entries refl refl, h)
used_outside Response x entries Rst code h = absurd (cc)

module _ {I : Type 0} (f : Protection I) (keeps : KeepsNumbers f) (i : I) (p : Parts) (d : List ℕ) (x : IsSealed f i p d) where
  -- what is sealed is a protection of what the plain message says inside
  pub seals_protect : Protects f i (inside (f.says p)) d
  seals_protect =
      let of_usage = used_outside f.usage f.features p.options p.kind p.code x.used in
      let supported = sealing_supported f.usage f.features p.code p.options x.supported in
      record {
        outer = outside f.features p (outer_code_of f.usage f.features p.options) x.value (f.cipher i (x.holds.0));
        datagram = x.holds.2;
        used = of_usage.0;
        value = x.value;
        single = outer_values f.features f.features.observe p.options (options_behind p.options) x.value supported (behind_values p.options);
        reads = x.reads;
        direct = outer_direct f.features f.features.observe p.options (options_behind p.options) x.value supported (behind_direct f.features p.options supported);
        code = ap (is_code_of f.usage) (keeps.code p) ∙ of_usage.1;
        allowed = inner_allowed f.features (f.says p).options (keeps.numbers (is_unsupported f.features) p ∙ supported);
        plaintext = x.holds.0;
        spells = x.holds.1;
        sealed = refl;
      }

  -- with what was sealed outside
  pub sealed_outside : seals_protect.outer ≡ outside f.features p (outer_code_of f.usage f.features p.options) x.value (f.cipher i (x.holds.0))
  unfolding seals_protect
  sealed_outside = refl

  -- and of no other message
  pub sealed_alone : OneMessage f → ProtectsAlone f i (inside (f.says p)) d
  sealed_alone law = record {
    opens = seals_protect;
    nothing_else = λ k l y. (law.number d k i l (inside (f.says p)) y seals_protect, law.message d k i l (inside (f.says p)) y seals_protect);
  }

pub sealed_law : OneRequest → OneResponse → OneNotification → SealedOpens
sealed_law request response notification = record {
  request = λ s n p d x. sealed_alone (requests s) (requests_keep s) n p d x (request s);
  response = λ s n own p d x. sealed_alone (responses s n) (responses_keep s false n) own p d x (response s n);
  notification = λ s n own p d x. sealed_alone (notifications s n) (responses_keep s true n) own p d x (notification s n);
}
