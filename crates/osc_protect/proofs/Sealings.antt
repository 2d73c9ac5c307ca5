-- Sealing is exact in both directions.
use Rattle.std.proofs.Common.{◌≡◌, ℕ, ◌≤◌, List, length, take, drop, Result, Ok, Err, IsOk, IfOk, IfErr, IsErrOf, OnErr, refl, ap, subst, arith}
use Rattle.osc_coap.specs.Datagram.{Parts, IsDatagram}
use Rattle.osc_context.specs.Laws.{OneSpelling}
use Rattle.osc_context.specs.OscoreValue.{IsOscoreValue}
use Rattle.osc_protect.specs.Protection.{Protection}
use Rattle.osc_protect.specs.Sealed.{HoldsSealed, IsSealed, features_for, outside, sealed_length}
use Rattle.osc_protect.specs.SealRefusals.{CanBeSealed, FitsToSeal, RefusesSize, RefusesPlain, RefusesToSeal}
use Rattle.osc_protect.specs.Sealing.{Seals}
use Rattle.osc_protect.specs.Halves.{Makes}
use Rattle.osc_protect.specs.Usage.{outer_code_of}
use Rattle.osc_protect.specs.declared.protect_error.ProtectError.{ProtectError}
use Rattle.osc_protect.specs.declared.protect_error.ProtectError.TheVariants.{NotThatKind, Unsupported, TooLong, NoRoom}
use Rattle.osc_protect.proofs.Supported.{never_refused, one_refusal}

module _ {I : Type 0} (f : Protection I) (i : I) (p : Parts) where
  -- the length by another value is the same
  same_length : OneSpelling → (a b : List ℕ) → IsOscoreValue (f.parts i) a → IsOscoreValue (f.parts i) b → sealed_length f.features f.says p a ≡ sealed_length f.features f.says p b
  same_length one a b ha hb = ap (sealed_length f.features f.says p) (one (f.parts i) a b ha hb)

  -- what is made was not refused
  pub made_never : OneSpelling → (room len : ℕ) (e : ProtectError) → Makes f i p room len → RefusesToSeal f i p room e → ⊥
  made_never one room len NotThatKind made r = never_refused f.usage (features_for f p) p NotThatKind made.0 r
  made_never one room len (Unsupported k) made r = never_refused f.usage (features_for f p) p (Unsupported k) made.0 r
  made_never one room len TooLong made r =
      let same = same_length one (made.1) (r.1.0) made.2 r.1.1 in
      let is = made.3 in let short = made.4 in let long = r.1.2 in omega (arith, same, is, short, long)
  made_never one room len NoRoom made r =
      let same = same_length one (made.1) (r.1.0) made.2 r.1.1 in
      let is = made.3 in let fits = made.5 in let long = r.1.2.1 in omega (arith, same, is, fits, long)

  -- what fits was not refused
  fits_never : (room : ℕ) (e : ProtectError) → FitsToSeal f i p room → RefusesToSeal f i p room e → ⊥
  fits_never room NotThatKind fits r = never_refused f.usage (features_for f p) p NotThatKind fits.0 r
  fits_never room (Unsupported k) fits r = never_refused f.usage (features_for f p) p (Unsupported k) fits.0 r
  fits_never room TooLong fits r = let short = (fits.1 (r.1.0) r.1.1).0 in let long = r.1.2 in omega (arith, short, long)
  fits_never room NoRoom fits r = let short = (fits.1 (r.1.0) r.1.1).1 in let long = r.1.2.1 in omega (arith, short, long)

  -- there is one refusal
  pub one_seal_refusal : OneSpelling → (room : ℕ) (e g : ProtectError) → RefusesToSeal f i p room e → RefusesToSeal f i p room g → e ≡ g
  one_seal_refusal one room NotThatKind NotThatKind h k = refl
  one_seal_refusal one room NotThatKind (Unsupported m) h k = one_refusal f.usage (features_for f p) p NotThatKind (Unsupported m) h k
  one_seal_refusal one room NotThatKind TooLong h k = absurd (never_refused f.usage (features_for f p) p NotThatKind k.0 h)
  one_seal_refusal one room NotThatKind NoRoom h k = absurd (never_refused f.usage (features_for f p) p NotThatKind k.0 h)
  one_seal_refusal one room (Unsupported m) NotThatKind h k = one_refusal f.usage (features_for f p) p (Unsupported m) NotThatKind h k
  one_seal_refusal one room (Unsupported m) (Unsupported l) h k = one_refusal f.usage (features_for f p) p (Unsupported m) (Unsupported l) h k
  one_seal_refusal one room (Unsupported m) TooLong h k = absurd (never_refused f.usage (features_for f p) p (Unsupported m) k.0 h)
  one_seal_refusal one room (Unsupported m) NoRoom h k = absurd (never_refused f.usage (features_for f p) p (Unsupported m) k.0 h)
  one_seal_refusal one room TooLong NotThatKind h k = absurd (never_refused f.usage (features_for f p) p NotThatKind h.0 k)
  one_seal_refusal one room TooLong (Unsupported m) h k = absurd (never_refused f.usage (features_for f p) p (Unsupported m) h.0 k)
  one_seal_refusal one room TooLong TooLong h k = refl
  one_seal_refusal one room TooLong NoRoom h k =
      let same = same_length one (h.1.0) (k.1.0) h.1.1 k.1.1 in
      let long = h.1.2 in let short = k.1.2.0 in absurd (omega (arith, same, long, short))
  one_seal_refusal one room NoRoom NotThatKind h k = absurd (never_refused f.usage (features_for f p) p NotThatKind h.0 k)
  one_seal_refusal one room NoRoom (Unsupported m) h k = absurd (never_refused f.usage (features_for f p) p (Unsupported m) h.0 k)
  one_seal_refusal one room NoRoom TooLong h k =
      let same = same_length one (h.1.0) (k.1.0) h.1.1 k.1.1 in
      let short = h.1.2.0 in let long = k.1.2 in absurd (omega (arith, same, long, short))
  one_seal_refusal one room NoRoom NoRoom h k = refl

  -- what fits is sealed
  fits_all : (room : ℕ) (r : Result ℕ ProtectError) → IfErr r (λ e. RefusesToSeal f i p room e) → FitsToSeal f i p room → IsOk r
  fits_all room (Ok x) refused fits = refl
  fits_all room (Err e) refused fits = absurd (fits_never room e fits refused)

  -- what is refused is answered so
  refuses_all : OneSpelling → (room : ℕ) (r : Result ℕ ProtectError) → IfOk r (λ len. Makes f i p room len)
      → IfErr r (λ e. RefusesToSeal f i p room e) → (e : ProtectError) → RefusesToSeal f i p room e → IsErrOf r e
  refuses_all one room (Ok len) made refused e h = absurd (made_never one room len e made h)
  refuses_all one room (Err g) made refused e h = ap Err (one_seal_refusal one room g e refused h)

  -- what a call answers and leaves, from what each of its ways out says
  pub seals_all : OneSpelling → (old new : List ℕ) (r : Result ℕ ProtectError) → IfOk r (λ n. IsSealed f i p (take n new)) → IfOk r (λ len. Makes f i p (length old) len)
      → IfOk r (λ n. n ≤ length new) → IfOk r (λ n. drop n new ≡ drop n old) → IfErr r (λ e. RefusesToSeal f i p (length old) e) → OnErr r (new ≡ old) → Seals f i p old new r
  seals_all one old new r sealed made within behind refused unchanged = record {
    sealed = sealed;
    within = within;
    behind = behind;
    accepts = fits_all (length old) r refused;
    refused = refused;
    refuses = refuses_all one (length old) r made refused;
    unchanged = unchanged;
  }

  -- a refusal of kind, code or options is one to seal
  pub plain_refuses : (room : ℕ) (e : ProtectError) → RefusesPlain f.usage (features_for f p) p e → RefusesToSeal f i p room e
  plain_refuses room NotThatKind h = h
  plain_refuses room (Unsupported k) h = h
  plain_refuses room TooLong h = absurd h
  plain_refuses room NoRoom h = absurd h

  -- one of the length too
  length_refuses : (room : ℕ) (value : List ℕ) (e : ProtectError) → CanBeSealed f.usage (features_for f p) p → IsOscoreValue (f.parts i) value → RefusesSize (sealed_length f.features f.says p value) room e → RefusesToSeal f i p room e
  length_refuses room value NotThatKind can reads h = absurd h
  length_refuses room value (Unsupported k) can reads h = absurd h
  length_refuses room value TooLong can reads h = (can, (value, reads, h))
  length_refuses room value NoRoom can reads h = (can, (value, reads, h))

  -- what holds of a message that can be sealed, once its length is judged
  pub all_sealed : (value out : List ℕ) (cipher : List ℕ → List ℕ) (r : Result ℕ ProtectError) → CanBeSealed f.usage (features_for f p) p → IsOscoreValue (f.parts i) value → ((m : List ℕ) → cipher m ≡ f.cipher i m)
      → IfOk r (λ n. HoldsSealed f.features f.says p (outer_code_of f.usage f.features p.options) value cipher (take n out)) → IfOk r (λ n. IsSealed f i p (take n out))
  all_sealed value out cipher (Err e) can reads same holds = tt
  all_sealed value out cipher (Ok n) can reads same holds = record {
    used = can.0;
    supported = can.1;
    value = value;
    reads = reads;
    holds = (holds.0, holds.1, subst (λ (z : List ℕ). IsDatagram (outside f.features p (outer_code_of f.usage f.features p.options) value z) (take n out)) (same (holds.0)) holds.2);
  }

  pub all_made : (value : List ℕ) (room : ℕ) (r : Result ℕ ProtectError) → CanBeSealed f.usage (features_for f p) p → IsOscoreValue (f.parts i) value
      → IfOk r (λ n. n ≡ sealed_length f.features f.says p value) → IfOk r (λ n. n ≤ 65535) → IfOk r (λ n. n ≤ room) → IfOk r (λ n. Makes f i p room n)
  all_made value room (Err e) can reads len fits in_room = tt
  all_made value room (Ok n) can reads len fits in_room = (can, value, reads, len, fits, in_room)

  pub all_refused : (value : List ℕ) (room : ℕ) (r : Result ℕ ProtectError) → CanBeSealed f.usage (features_for f p) p → IsOscoreValue (f.parts i) value
      → IfErr r (λ e. RefusesSize (sealed_length f.features f.says p value) room e) → IfErr r (λ e. RefusesToSeal f i p room e)
  all_refused value room (Ok n) can reads refused = tt
  all_refused value room (Err e) can reads refused = length_refuses room value e can reads refused
