-- Each refusal to split a Proxy-Uri excludes the others.
use Rattle.std.proofs.Common.{◌≡◌, ℕ, ◌⊎◌, List, inl, inr, refl, sym, ap, subst, ◌∙◌, Result, Ok, Err, IfOk, IsOk}
use Rattle.osc_coap.specs.Datagram.{Parts, IsDatagram}
use Rattle.osc_coap.specs.Fault.{HasFault}
use Rattle.osc_coap.specs.Laws.{DatagramIsOneMessage, DatagramHasOneFault, DatagramHasNoFault}
use Rattle.osc_coap.specs.declared.format_error.FormatError.{FormatError}
use Rattle.osc_proxy.specs.SplitRefusals.{FitsToSplit, RefusesToSplit, fitting_at, request_uri, splitting, steps}
use Rattle.osc_proxy.specs.Uri.{UriParts}
use Rattle.osc_proxy.specs.declared.split_error.SplitError.{SplitError}
use Rattle.osc_proxy.specs.declared.split_error.SplitError.TheVariants.{Format, NotRequest, NotOneProxyUri, Mixed, Uri, PartTooLong, TooLong, NoRoom}
use Rattle.osc_proxy.proofs.Askings.{same_error}

-- equal refusals
same_refusal : (e f : SplitError) → ◌≡◌ {A = Result UriParts SplitError} (Err e) (Err f) → e ≡ f
same_refusal e f h = cc

module _ (one : DatagramIsOneMessage) (one_fault : DatagramHasOneFault) (never_both : DatagramHasNoFault) (bytes : List ℕ) (room : ℕ) where
  -- what the bytes say, and why it isn't split
  abbrev Judged : SplitError → Type 0
  Judged e = (p : Parts) × IsDatagram p bytes × (splitting p room ≡ Err e)

  -- what is said and refused has one refusal
  judged_one : (e f : SplitError) → Judged e → Judged f → e ≡ f
  judged_one e f h k =
      let same : splitting (h.0) room ≡ Err f = subst (λ (p : Parts). splitting p room ≡ Err f) (one (k.0) (h.0) bytes k.1 h.1) k.2 in
      same_refusal e f (sym h.2 ∙ same)

  -- a refusal is of a fault, or of what the bytes say
  refused_as : (e : SplitError) → RefusesToSplit bytes room e → ((f : FormatError) × (e ≡ Format f) × HasFault bytes f.fault f.place) ⊎ Judged e
  refused_as (Format f) h = inl (f, refl, h)
  refused_as NotRequest h = inr h
  refused_as NotOneProxyUri h = inr h
  refused_as Mixed h = inr h
  refused_as (Uri e) h = inr h
  refused_as PartTooLong h = inr h
  refused_as TooLong h = inr h
  refused_as NoRoom h = inr h

  -- the bytes have one refusal
  pub splits_one : (e f : SplitError) → RefusesToSplit bytes room e → RefusesToSplit bytes room f → e ≡ f
  splits_one e f h k = elim (refused_as e h) [
    | inl a ↦ elim (refused_as f k) [
      | inl b ↦
          let both = one_fault bytes a.0.fault b.0.fault a.0.place b.0.place a.2 b.2 in
          a.1 ∙ ap Format (same_error a.0.fault b.0.fault a.0.place b.0.place both.0 both.1) ∙ sym b.1
      | inr b ↦ absurd (never_both (b.0) bytes a.0.fault a.0.place b.1 a.2)
    ]
    | inr a ↦ elim (refused_as f k) [
      | inl b ↦ absurd (never_both (a.0) bytes b.0.fault b.0.place a.1 b.2)
      | inr b ↦ judged_one e f a b
    ]
  ]

  -- what is split isn't refused
  pub split_never : (p : Parts) (u : UriParts) → FitsToSplit bytes room p u → (e : SplitError) → RefusesToSplit bytes room e → ⊥
  split_never p u fits e h = elim (refused_as e h) [
    | inl a ↦ never_both p bytes a.0.fault a.0.place fits.message a.2
    | inr a ↦
        let same : splitting p room ≡ Err e = subst (λ (q : Parts). splitting q room ≡ Err e) (one (a.0) p bytes a.1 fits.message) a.2 in
        let both : ◌≡◌ {A = Result UriParts SplitError} (Ok u) (Err e) = sym fits.splits ∙ same in
        cc
  ]

-- what holds where a call is done
pub where_done : {T E : Type 0} (P : T → Type 0) (r : Result T E) → IfOk r P → IsOk r → (x : T) × P x
where_done P (Ok x) h ok = (x, h)
where_done P (Err e) h ok = absurd (cc)

-- a request is split by its URI, if that fits
pub split_by : (p : Parts) (u : UriParts) (room : ℕ) → request_uri p ≡ Ok u → fitting_at p room u ≡ Ok u → splitting p room ≡ Ok u
split_by p u room h k = ap (λ (r : Result UriParts SplitError). steps r (fitting_at p room)) h ∙ k
