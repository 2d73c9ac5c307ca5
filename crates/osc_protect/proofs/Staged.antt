-- The stages of opening together: what is read after decrypting is what the datagram protects.
use Rattle.std.proofs.Common.{◌≡◌, ◌≢◌, ℕ, Bool, List, true, false, ◌++◌, length, take, drop, refl, sym, ap, subst, ◌∙◌, option_map, Option, Result, Ok, Err, IfOk, IfErr, IsErr, IsOk, IsOkAnd, IsErrOf, OnErr}
use Rattle.std.proofs.lemmas.List.{take_at}
use Rattle.osc_coap.specs.Datagram.{Parts, IsDatagram}
use Rattle.osc_coap.specs.Inner.{InnerParts, IsInner}
use Rattle.osc_coap.specs.Laws.{DatagramIsOneMessage}
use Rattle.osc_context.specs.OscoreValue.{OscoreParts, IsOscoreValue}
use Rattle.osc_context.specs.Views.{number_of}
use Rattle.osc_context.specs.declared.partial_iv.Piv.{Piv}
use Rattle.osc_context.specs.SecurityContext.{SecurityContext}
use Rattle.osc_protect.specs.Protection.{Protection, Protects, responses_to}
use Rattle.osc_protect.specs.Refusals.{IsBadInner, RefusesPlaintext, RefusesToOpen}
use Rattle.osc_protect.specs.Views.{message_of, opened_number}
use Rattle.osc_protect.specs.Opening.{ShowsOuter, Opens, OpensExactly}
use Rattle.osc_protect.specs.StageViews.{UnprotectsExactly}
use Rattle.osc_coap.specs.Search.{has_number}
use Rattle.osc_protect.specs.OptionSets.{is_barred}
use Rattle.osc_protect.specs.Usage.{is_code_of}
use Rattle.osc_protect.specs.Stages.{Decrypts, HasPlaintext}
use Rattle.osc_protect.specs.Halves.{ReadsInner, RefusesInner}
use Rattle.osc_protect.specs.Laws.{OneMessage, OneNotification, OneResponse}
use Rattle.osc_protect.specs.declared.opened.Opened.{Opened}
use Rattle.osc_protect.specs.declared.stage_error.BadInner.{BadInner}
use Rattle.osc_protect.specs.declared.unprotect_error.UnprotectError.{UnprotectError}
use Rattle.osc_protect.specs.declared.unprotect_error.UnprotectError.TheVariants.{Inner, WrongContext}
use Rattle.osc_protect.specs.declared.usage.Usage.TheVariants.{Request, Response}

-- a datagram protects one response, whether its request registers or not
pub one_to : OneResponse → OneNotification → (s : SecurityContext) (r : Bool) (n : ℕ) → OneMessage (responses_to s r n)
one_to response notification s true n = notification s n
one_to response notification s false n = response s n

-- ---- what is read is what the datagram protected, for either outcome of reading

module _ {I : Type 0} (one : DatagramIsOneMessage) (f : Protection I) (old new : List ℕ) (i : I) (len : ℕ) (it : Decrypts f old i len new) where
  after : Parts
  after = record it.outer { payload = it.plaintext ++ drop (length it.plaintext) it.outer.payload }

  -- the payload's front is the plaintext
  front : (q : Parts) → IsDatagram q new → take len q.payload ≡ it.plaintext
  unfolding after
  front q h =
      ap (λ (p : Parts). take len p.payload) (one q after new h it.left)
      ∙ take_at it.plaintext (drop (length it.plaintext) it.outer.payload) len (sym it.long)

  same_outer : (q : Parts) (o : Opened) → IsDatagram q new → ShowsOuter q o → ShowsOuter it.outer o
  unfolding after
  same_outer q o h k =
      let j : ShowsOuter after o = subst (λ (p : Parts). ShowsOuter p o) (one q after new h it.left) k in
      record { kind = j.kind; message_id = j.message_id; token = j.token; uri_host = j.uri_host; uri_port = j.uri_port }

  -- what was read of the plaintext is what the old datagram protected
  protects_inner : (q : Parts) (m : InnerParts) → IsDatagram q new → IsInner m (take len q.payload) → is_code_of f.usage m.code ≡ true → has_number (is_barred f.features) m.options ≡ false → Protects f i m old
  protects_inner q m h spells code allowed = record {
    outer = it.outer;
    datagram = it.datagram;
    used = it.shows.used;
    value = it.shows.value;
    single = it.shows.single;
    reads = subst (λ (v : OscoreParts). IsOscoreValue v it.shows.value) it.names it.shows.reads;
    direct = it.shows.direct;
    code = code;
    allowed = allowed;
    plaintext = it.plaintext;
    spells = subst (λ (b : List ℕ). IsInner m b) (front q h) spells;
    sealed = sym it.shows.payload ∙ it.seals;
  }

  -- so is a plaintext whose own payload has a known length
  pub holds_protected : (k n : ℕ) → k ≡ len → (h : HasPlaintext f.usage f.features new k n) → Protects f i h.inner old
  holds_protected k n e h = protects_inner h.outer h.inner h.datagram (subst (λ (j : ℕ). IsInner h.inner (take j h.outer.payload)) e h.spells) h.code h.allowed

  pub reads_open : (number : Option Piv) → option_map number_of number ≡ (f.parts i).piv → (o : Opened) → ReadsInner f.usage f.features new number len o → Opens f old o
  reads_open number is o r = record {
    number = i;
    number_is = ap (option_map number_of) r.piv ∙ is;
    protects = protects_inner r.outer (message_of o) r.datagram r.spells r.code r.allowed;
    outer = it.outer;
    datagram = it.datagram;
    shows = same_outer r.outer o r.datagram r.shows;
  }

  pub refuses_open : RefusesInner f.usage f.features new len → RefusesPlaintext f old
  refuses_open h =
      let bad : IsBadInner f.usage f.features it.plaintext = subst (IsBadInner f.usage f.features) (front (h.0) h.1) h.2 in
      (it.head, (it.outer, it.datagram, it.shows), i, it.names, it.plaintext, it.seals, bad)

-- a request is no response
pub no_response : Request ≡ Response → ⊥
no_response e = cc

-- a fact of each outcome, made of another
pub when_ok : {X E : Type 0} {P Q : X → Type 0} (r : Result X E) → ((x : X) → P x → Q x) → IfOk r P → IfOk r Q
when_ok (Ok x) f h = f x h
when_ok (Err e) f h = h

-- ---- both directions

module _ {I : Type 0} (f : Protection I) (laws : OneMessage f) (d : List ℕ) where
  only_ok : (i : I) (m : InnerParts) (o : Opened) → Opens f d o → Protects f i m d → (opened_number o ≡ (f.parts i).piv) × (message_of o ≡ m)
  only_ok i m o x y = (x.number_is ∙ ap (λ (j : I). (f.parts j).piv) (laws.number d x.number i (message_of o) m x.protects y), laws.message d x.number i (message_of o) m x.protects y)

  only_all : (r : Result Opened UnprotectError) → IfOk r (λ o. Opens f d o) → IfErr r (λ e. RefusesToOpen f d e)
      → (i : I) (m : InnerParts) → Protects f i m d → IsOkAnd r (λ o. (opened_number o ≡ (f.parts i).piv) × (message_of o ≡ m))
  only_all (Ok o) h k i m y = only_ok i m o h y
  only_all (Err e) h k i m y = laws.never_both d i m e y k

  accepts_all : {X : Type 0} (r : Result X UnprotectError) → IfErr r (λ e. RefusesToOpen f d e) → (i : I) (m : InnerParts) → Protects f i m d → IsOk r
  accepts_all (Ok x) k i m y = refl
  accepts_all (Err e) k i m y = absurd (laws.never_both d i m e y k)

  refuses_all : {X : Type 0} (r : Result X UnprotectError) → IfOk r (λ x. (i : I) × (m : InnerParts) × Protects f i m d) → IfErr r (λ e. RefusesToOpen f d e)
      → (e : UnprotectError) → RefusesToOpen f d e → IsErrOf r e
  refuses_all (Ok x) h k e y = absurd (laws.never_both d h.0 h.1 e h.2 y)
  refuses_all (Err g) h k e y = ap Err (laws.refusal d g e k y)

  pub opens_exactly : (r : Result Opened UnprotectError) → IfOk r (λ o. Opens f d o) → IfErr r (λ e. RefusesToOpen f d e)
      → (f.usage ≡ Response → IfErr r (λ e. e ≢ WrongContext)) → OpensExactly f d r
  opens_exactly r opened refused no_context = record {
    opened = opened;
    accepts = only_all r opened refused;
    refused = refused;
    refuses = refuses_all r (when_ok r (λ o h. (h.number, message_of o, h.protects)) opened) refused;
    no_wrong_context = no_context;
  }

  -- the same of what borrows nothing
  pub unprotects_exactly : {X : Type 0} (Lends : List ℕ → X → List ℕ → Type 0) (Leaves : List ℕ → UnprotectError → List ℕ → Type 0) (new : List ℕ) (r : Result X UnprotectError)
      → IfOk r (λ x. Lends d x new) → IfOk r (λ x. (i : I) × (m : InnerParts) × Protects f i m d) → IfErr r (λ e. RefusesToOpen f d e)
      → (f.usage ≡ Response → IfErr r (λ e. e ≢ WrongContext)) → IfErr r (λ e. Leaves d e new) → UnprotectsExactly f Lends Leaves d new r
  unprotects_exactly Lends Leaves new r lends accepted refused no_context left = record {
    lends = lends;
    accepts = accepts_all r refused;
    refused = refused;
    refuses = refuses_all r accepted refused;
    no_wrong_context = no_context;
    left = left;
  }

  -- the same of reading alone
  pub only_read : (r : Result Opened BadInner) → IfOk r (λ o. Opens f d o) → OnErr r (RefusesPlaintext f d)
      → (i : I) (m : InnerParts) → Protects f i m d → IsOkAnd r (λ o. (opened_number o ≡ (f.parts i).piv) × (message_of o ≡ m))
  only_read (Ok o) h k i m y = only_ok i m o h y
  only_read (Err e) h k i m y = laws.never_both d i m Inner y k

  pub exactly_read : (r : Result Opened BadInner) → IfOk r (λ o. Opens f d o) → OnErr r (RefusesPlaintext f d) → RefusesPlaintext f d → IsErr r
  exactly_read (Ok o) h k y = absurd (laws.never_both d h.number (message_of o) Inner h.protects y)
  exactly_read (Err e) h k y = refl
