-- How a request with Proxy-Scheme is counted and written, part by part, and that each refusal excludes the others.
use Rattle.std.proofs.Common.{◌≡◌, ◌≢◌, ℕ, ◌+◌, ◌≤◌, ◌⊎◌, inl, inr, Bool, true, false, List, [], ◌∷◌, ◌++◌, min, refl, sym, ap, subst, ◌∙◌, arith, append_assoc, Result, Ok, Err, IsOk, IfErr, IsErrOf}
use Rattle.osc_coap.specs.Datagram.{Parts, IsDatagram, datagram_length}
use Rattle.osc_coap.specs.Fault.{HasFault}
use Rattle.osc_coap.specs.Laws.{DatagramIsOneMessage, DatagramHasOneFault, DatagramHasNoFault}
use Rattle.osc_coap.specs.OptionNumbers.{proxy_scheme}
use Rattle.osc_coap.specs.OptionSpelling.{Entry, Ascends, spelling_length}
use Rattle.osc_coap.specs.Writing.{Draft, Datagram, TakesOption, TakesPayload, bare, length_of, with_option, with_options, with_payload}
use Rattle.osc_coap.specs.declared.format_error.Fault.{Fault}
use Rattle.osc_coap.specs.declared.format_error.FormatError.{FormatError}
use Rattle.osc_proxy.specs.Asking.{asked, inserted}
use Rattle.osc_proxy.specs.AskRefusals.{CanAsk, FitsToAsk, RefusesParts, RefusesToAsk}
use Rattle.osc_proxy.specs.Between.{TakesAll}
use Rattle.osc_proxy.specs.Splitting.{between}
use Rattle.osc_proxy.specs.declared.ask_error.AskProxyError.{AskProxyError}
use Rattle.osc_proxy.specs.declared.ask_error.AskProxyError.TheVariants.{Format, NotRequest, Asked, SchemeLength, TooLong, NoRoom}
use Rattle.osc_proxy.proofs.Insertion.{inserted_apart, inserted_ascends}
use Rattle.osc_proxy.proofs.Sequences.{takes_first, takes_more}

-- what is Ok is no error
pub not_err : {T E : Type 0} (r : Result T E) (e : E) → r ≡ Err e → IsOk r → ⊥
not_err {T} {E} r e is ok = let bad : IsOk {T = T} (Err e) = subst (λ (x : Result T E). IsOk x) is ok in cc

-- what is Ok for no bytes and for some is Ok
pub taken_either : {T E : Type 0} (bytes : List ℕ) (r : Result T E) → (bytes ≡ [] → IsOk r) → (bytes ≢ [] → IsOk r) → IsOk r
taken_either [] r empty some = empty refl
taken_either (x ∷ bytes) r empty some = some (λ e. cc)

module _ (p : Parts) (scheme : List ℕ) where
  -- the options of the request, in the three parts in which they are written
  abbrev pub parts_in_order : List Entry → List Entry → List Entry
  parts_in_order os qs = between 0 39 os ++ (39, scheme) ∷ between 40 65535 qs

  -- together they are its options
  pub in_order : (os qs : List Entry) → os ≡ p.options → qs ≡ p.options → Ascends 0 p.options → parts_in_order os qs ≡ inserted (proxy_scheme, scheme) p.options
  in_order os qs eo eq up =
      ap (λ (es : List Entry). parts_in_order es qs) eo ∙ ap (parts_in_order p.options) eq ∙ sym (inserted_apart 0 (39, scheme) p.options up)

  -- the draft before the options
  abbrev pub before_options : Draft
  before_options = Datagram (bare p.kind p.code p.message_id p.token)

  -- they are taken where there is room
  pub asked_takes : (os qs : List Entry) (room : ℕ) → os ≡ p.options → qs ≡ p.options → Ascends 0 p.options → p.code ≢ 0 → datagram_length (asked scheme p) ≤ room → datagram_length (asked scheme p) ≤ 65535
      → TakesAll room before_options (parts_in_order os qs)
  asked_takes os qs room eo eq up some in_room in_all =
      subst (TakesAll room before_options) (sym (in_order os qs eo eq up)) (record {
        filled = some;
        unfinished = refl;
        ascends = inserted_ascends 0 (39, scheme) p.options (omega arith) (omega arith) up;
        has_room = (omega (arith, in_room), omega (arith, in_all));
      })

  -- what is written before the payload
  abbrev pub with_parts : List Entry → List Entry → Draft
  with_parts os qs = with_options (with_option (with_options before_options (between 0 39 os)) 39 scheme) (between 40 65535 qs)

  -- Proxy-Scheme is taken behind the options up to its number
  pub scheme_takes : (os : List Entry) (room : ℕ) → TakesAll room before_options (parts_in_order os p.options) → TakesOption room (with_options before_options (between 0 39 os)) 39 scheme
  scheme_takes os room t = takes_first room _ 39 scheme _ (takes_more room before_options (between 0 39 os) ((39, scheme) ∷ between 40 65535 p.options) t)

  -- the others are taken behind it
  pub behind_takes : (os qs : List Entry) (room : ℕ) → TakesAll room before_options (parts_in_order os qs) → TakesAll room (with_option (with_options before_options (between 0 39 os)) 39 scheme) (between 40 65535 qs)
  behind_takes os qs room t = takes_more room _ ((39, scheme) ∷ []) (between 40 65535 qs) (takes_more room before_options (between 0 39 os) ((39, scheme) ∷ between 40 65535 qs) t)

  -- all of it is the request
  pub whole : (os qs : List Entry) (pay : List ℕ) → os ≡ p.options → qs ≡ p.options → pay ≡ p.payload → Ascends 0 p.options → with_payload (with_parts os qs) pay ≡ Datagram (asked scheme p)
  whole os qs pay eo eq ep up =
      let order = append_assoc (between 0 39 os) ((39, scheme) ∷ []) (between 40 65535 qs) ∙ in_order os qs eo eq up in
      ap (λ (es : List Entry). Datagram (record p { options = es; payload = pay })) order
      ∙ ap (λ (bytes : List ℕ). Datagram (record (asked scheme p) { payload = bytes })) ep

  -- the payload is taken
  pub payload_takes : (os qs : List Entry) (pay : List ℕ) (room : ℕ) → os ≡ p.options → qs ≡ p.options → pay ≡ p.payload → Ascends 0 p.options → p.code ≢ 0 → datagram_length (asked scheme p) ≤ room → datagram_length (asked scheme p) ≤ 65535
      → TakesPayload room (with_parts os qs) pay
  payload_takes os qs pay room eo eq ep up some in_room in_all =
      let same = ap length_of (whole os qs pay eo eq ep up) in
      (some, refl, (omega (arith, same, in_room), omega (arith, same, in_all)))

  -- how long the options are, counted part by part
  pub counted : (os qs : List Entry) (n0 l0 n1 l1 n2 l2 n3 l3 : ℕ) → os ≡ p.options → qs ≡ p.options → Ascends 0 p.options → n0 ≡ 0 → l0 ≡ 0
      → min (l1 + spelling_length n1 ((39, scheme) ∷ between 40 65535 qs)) 65536 ≡ min (l0 + spelling_length n0 (between 0 39 os ++ (39, scheme) ∷ between 40 65535 qs)) 65536
      → min (l2 + spelling_length n2 (between 40 65535 qs ++ [])) 65536 ≡ min (l1 + spelling_length n1 ((39, scheme) ∷ (between 40 65535 qs ++ []))) 65536
      → min (l3 + spelling_length n3 []) 65536 ≡ min (l2 + spelling_length n2 (between 40 65535 qs ++ [])) 65536
      → min l3 65536 ≡ min (spelling_length 0 (inserted (proxy_scheme, scheme) p.options)) 65536
  counted os qs n0 l0 n1 l1 n2 l2 n3 l3 eo eq up en el h1 h2 h3 =
      let none = nothing_behind (between 40 65535 qs) in
      let second = ap (λ (es : List Entry). min (l1 + spelling_length n1 ((39, scheme) ∷ es)) 65536) none in
      let start = ap (λ (n : ℕ). min (l0 + spelling_length n (parts_in_order os qs)) 65536) en ∙ ap (λ (n : ℕ). min (n + spelling_length 0 (parts_in_order os qs)) 65536) el in
      let order = ap (λ (es : List Entry). min (0 + spelling_length 0 es) 65536) (in_order os qs eo eq up) in
      plain l3 ∙ h3 ∙ h2 ∙ second ∙ h1 ∙ start ∙ order ∙ from_nothing _
    where
      nothing_behind : (es : List Entry) → es ++ [] ≡ es
      nothing_behind [] = refl
      nothing_behind (e ∷ es) = ap (λ (xs : List Entry). e ∷ xs) (nothing_behind es)

      plain : (n : ℕ) → min n 65536 ≡ min (n + 0) 65536
      plain n = omega arith

      from_nothing : (n : ℕ) → min (0 + n) 65536 ≡ min n 65536
      from_nothing n = omega arith

-- the length of the request, from that of its options
pub sum : (token options len result front mark : ℕ) → min len 65536 ≡ min options 65536 → front ≡ 4 + token → result ≡ front + len + mark → min result 65536 ≡ min (4 + token + options + mark) 65536
sum token options len result front mark h f r = omega (arith, h, f, r)

-- ---- refusals

-- yes and no
never : (b : Bool) → b ≡ true → b ≡ false → ⊥
never true h k = cc
never false h k = cc

-- a request has one refusal
parts_one : (p : Parts) (scheme : List ℕ) (room : ℕ) (e f : AskProxyError) → RefusesParts p scheme room e → RefusesParts p scheme room f → e ≡ f
parts_one p s r (Format x) f h k = absurd h
parts_one p s r NotRequest (Format x) h k = absurd k
parts_one p s r NotRequest NotRequest h k = refl
parts_one p s r NotRequest Asked h k = absurd (never _ k.0 h)
parts_one p s r NotRequest SchemeLength h k = absurd (never _ k.0 h)
parts_one p s r NotRequest TooLong h k = absurd (never _ k.0.request h)
parts_one p s r NotRequest NoRoom h k = absurd (never _ k.0.request h)
parts_one p s r Asked (Format x) h k = absurd k
parts_one p s r Asked NotRequest h k = absurd (never _ h.0 k)
parts_one p s r Asked Asked h k = refl
parts_one p s r Asked SchemeLength h k = absurd (never _ h.1 k.1)
parts_one p s r Asked TooLong h k = absurd (never _ h.1 k.0.unasked)
parts_one p s r Asked NoRoom h k = absurd (never _ h.1 k.0.unasked)
parts_one p s r SchemeLength (Format x) h k = absurd k
parts_one p s r SchemeLength NotRequest h k = absurd (never _ h.0 k)
parts_one p s r SchemeLength Asked h k = absurd (never _ k.1 h.1)
parts_one p s r SchemeLength SchemeLength h k = refl
parts_one p s r SchemeLength TooLong h k = absurd (h.2 k.0.scheme_length)
parts_one p s r SchemeLength NoRoom h k = absurd (h.2 k.0.scheme_length)
parts_one p s r TooLong (Format x) h k = absurd k
parts_one p s r TooLong NotRequest h k = absurd (never _ h.0.request k)
parts_one p s r TooLong Asked h k = absurd (never _ k.1 h.0.unasked)
parts_one p s r TooLong SchemeLength h k = absurd (k.2 h.0.scheme_length)
parts_one p s r TooLong TooLong h k = refl
parts_one p s r TooLong NoRoom h k = let a = h.1 in let b = k.1 in absurd (omega (arith, a, b))
parts_one p s r NoRoom (Format x) h k = absurd k
parts_one p s r NoRoom NotRequest h k = absurd (never _ h.0.request k)
parts_one p s r NoRoom Asked h k = absurd (never _ k.1 h.0.unasked)
parts_one p s r NoRoom SchemeLength h k = absurd (k.2 h.0.scheme_length)
parts_one p s r NoRoom TooLong h k = let a = h.1 in let b = k.1 in absurd (omega (arith, a, b))
parts_one p s r NoRoom NoRoom h k = refl

-- a request that can ask is refused for room alone
fits_no_parts : (p : Parts) (scheme : List ℕ) (room : ℕ) (e : AskProxyError) → CanAsk p scheme → datagram_length (asked scheme p) ≤ 65535 → datagram_length (asked scheme p) ≤ room → RefusesParts p scheme room e → ⊥
fits_no_parts p s r (Format x) can fits enough k = k
fits_no_parts p s r NotRequest can fits enough k = never _ can.request k
fits_no_parts p s r Asked can fits enough k = never _ k.1 can.unasked
fits_no_parts p s r SchemeLength can fits enough k = k.2 can.scheme_length
fits_no_parts p s r TooLong can fits enough k = let a = k.1 in omega (arith, a, fits)
fits_no_parts p s r NoRoom can fits enough k = let a = k.2 in omega (arith, a, enough)

-- equal faults at equal places
pub same_error : (f g : Fault) (i j : ℕ) → f ≡ g → i ≡ j → ◌≡◌ {A = FormatError} (record { fault = f; place = i }) (record { fault = g; place = j })
same_error f g i j h k = ap (λ (x : Fault). record { fault = x; place = i }) h ∙ ap (λ (n : ℕ). record { fault = g; place = n }) k

module _ (one : DatagramIsOneMessage) (one_fault : DatagramHasOneFault) (never_both : DatagramHasNoFault) (bytes scheme : List ℕ) (room : ℕ) where
  -- what the bytes say, and why it can't ask
  abbrev Judged : AskProxyError → Type 0
  Judged e = (p : Parts) × IsDatagram p bytes × RefusesParts p scheme room e

  -- what is said and refused has one refusal
  judged_one : (e f : AskProxyError) → Judged e → Judged f → e ≡ f
  judged_one e f h k = parts_one (h.0) scheme room e f h.2 (subst (λ (p : Parts). RefusesParts p scheme room f) (one (k.0) (h.0) bytes k.1 h.1) k.2)

  -- a refusal is of a fault, or of what the bytes say
  refused_as : (e : AskProxyError) → RefusesToAsk bytes scheme room e → ((f : FormatError) × (e ≡ Format f) × HasFault bytes f.fault f.place) ⊎ Judged e
  refused_as (Format f) h = inl (f, refl, h)
  refused_as NotRequest h = inr h
  refused_as Asked h = inr h
  refused_as SchemeLength h = inr h
  refused_as TooLong h = inr h
  refused_as NoRoom h = inr h

  -- the bytes have one refusal
  pub refuses_one : (e f : AskProxyError) → RefusesToAsk bytes scheme room e → RefusesToAsk bytes scheme room f → e ≡ f
  refuses_one e f h k = elim (refused_as e h) [
    | inl a ↦ elim (refused_as f k) [
      | inl b ↦
          let both = one_fault bytes a.0.fault b.0.fault a.0.place b.0.place a.2 b.2 in
          a.1 ∙ ap Format (same_error a.0.fault b.0.fault a.0.place b.0.place both.0 both.1) ∙ sym b.1
      | inr b ↦ absurd (never_both (b.0) bytes a.0.fault a.0.place b.1 a.2)
    ]
    | inr a ↦ elim (refused_as f k) [
      | inl b ↦ absurd (never_both (a.0) bytes b.0.fault b.0.place a.1 b.2)
      | inr b ↦ judged_one e f a b
    ]
  ]

  -- what can ask isn't refused
  pub fits_never : FitsToAsk bytes scheme room → (e : AskProxyError) → RefusesToAsk bytes scheme room e → ⊥
  fits_never fits e h = elim (refused_as e h) [
    | inl a ↦ never_both fits.parts bytes a.0.fault a.0.place fits.message a.2
    | inr a ↦ fits_no_parts fits.parts scheme room e fits.can fits.fits fits.has_room (subst (λ (p : Parts). RefusesParts p scheme room e) (one (a.0) fits.parts bytes a.1 fits.message) a.2)
  ]

-- what is refused for no reason is done
pub done : {T E : Type 0} (P : E → Type 0) (r : Result T E) → IfErr r P → ((e : E) → P e → ⊥) → IsOk r
done P (Ok x) h none = refl
done P (Err e) h none = absurd (none e h)

-- what isn't done is refused for the one reason that there is
pub refused_for : {T E : Type 0} (P : E → Type 0) (r : Result T E) (e : E) → IfErr r P → (IsOk r → ⊥) → ((f : E) → P f → f ≡ e) → IsErrOf r e
refused_for P (Ok x) e h undone one = absurd (undone refl)
refused_for P (Err f) e h undone one = ap Err (one f h)
