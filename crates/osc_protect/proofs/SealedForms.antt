-- A plain message has one sealed form.
use Rattle.std.proofs.Common.{◌≡◌, ℕ, ◌+◌, List, [], ◌∷◌, length, refl, subst, arith}
use Rattle.osc_coap.specs.Datagram.{Parts, IsDatagram}
use Rattle.osc_coap.specs.Laws.{PartsHaveOneDatagram, PartsHaveOneInner, DatagramHasItsLength, InnerHasItsLength}
use Rattle.osc_coap.specs.OptionSpelling.{marked}
use Rattle.osc_context.specs.Laws.{OneSpelling}
use Rattle.osc_protect.specs.Laws.{OneForm}
use Rattle.osc_protect.specs.Protection.{Protection}
use Rattle.osc_protect.specs.Sealed.{IsSealed, inside, outside, sealed_length}
use Rattle.osc_protect.specs.Usage.{outer_code_of}
use Rattle.osc_protect.proofs.Protections.{IsSound}
use Rattle.osc_protect.proofs.Sealings.{made_never, one_seal_refusal}

-- the marker and a payload that isn't empty
marked_length : (xs : List ℕ) (n : ℕ) → length xs ≡ n + 8 → length (marked xs) ≡ n + 9
marked_length [] n h = absurd (omega (arith, h))
marked_length (x ∷ xs) n h = omega (arith, h)

module _ {I : Type 0} (f : Protection I) (sound : IsSound f) where
  -- what is sealed has the length of its parts
  form_length : DatagramHasItsLength → InnerHasItsLength → (i : I) (p : Parts) (d : List ℕ) (x : IsSealed f i p d) → length d ≡ sealed_length f.features f.says p x.value
  form_length law inner i p d x =
      let m = x.holds.0 in
      let whole = law (outside f.features p (outer_code_of f.usage f.features p.options) x.value (f.cipher i m)) d x.holds.2 in
      let plain = inner (inside (f.says p)) m x.holds.1 in
      let mark = marked_length (f.cipher i m) (length m) (sound.long i m) in
      omega (arith, whole, plain, mark)

  -- the form is one
  one_form : OneSpelling → PartsHaveOneInner → PartsHaveOneDatagram → (i : I) (p : Parts) (d e : List ℕ) → IsSealed f i p d → IsSealed f i p e → d ≡ e
  one_form spelling inner datagram i p d e x y =
      let value = spelling (f.parts i) x.value y.value x.reads y.reads in
      let plain = inner (inside (f.says p)) (x.holds.0) (y.holds.0) x.holds.1 y.holds.1 in
      let parts : outside f.features p (outer_code_of f.usage f.features p.options) x.value (f.cipher i (x.holds.0)) ≡ outside f.features p (outer_code_of f.usage f.features p.options) y.value (f.cipher i (y.holds.0)) = rw (value, plain) refl in
      datagram _ d e (subst (λ (q : Parts). IsDatagram q d) parts x.holds.2) y.holds.2

  pub form_law : OneSpelling → PartsHaveOneInner → PartsHaveOneDatagram → DatagramHasItsLength → InnerHasItsLength → OneForm f
  form_law spelling inner datagram by_parts inner_by_parts = record {
    bytes = one_form spelling inner datagram;
    never_both = λ i p room d e x fits refuses.
        let len = form_length by_parts inner_by_parts i p d x in
        made_never f i p spelling room (length d) e ((x.used, x.supported), x.value, x.reads, len, x.holds.2.fits, fits) refuses;
    refusal = λ i p room e g h k. one_seal_refusal f i p spelling room e g h k;
  }
