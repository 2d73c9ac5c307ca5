-- Each datagram has one answer.
use Rattle.std.proofs.Common.{◌≡◌, ℕ, ◌+◌, ◌⊎◌, inl, inr, List, [], ◌∷◌, length, refl, sym, ap, subst, ◌∙◌, arith, true, false}
use Rattle.osc_coap.specs.declared.message.Kind.{Kind}
use Rattle.osc_coap.specs.declared.format_error.Fault.{Fault}
use Rattle.osc_coap.specs.declared.format_error.FormatError.{FormatError}
use Rattle.osc_coap.specs.Datagram.{Parts, IsDatagram}
use Rattle.osc_coap.specs.Inner.{InnerParts, IsInner}
use Rattle.osc_context.specs.OscoreValue.{OscoreParts, IsOscoreValue}
use Rattle.osc_coap.specs.Search.{has_number}
use Rattle.osc_protect.specs.OptionSets.{is_barred}
use Rattle.osc_protect.specs.Usage.{is_code_of, is_complete}
use Rattle.osc_protect.specs.Head.{Head, ShowsHead, HasHead, HasNoHead, ShowsNoHead, IsUndecodable}
use Rattle.osc_protect.specs.Text.{lifted, raised}
use Rattle.osc_protect.specs.Protection.{Protection, Protects}
use Rattle.osc_protect.specs.Refusals.{Names, IsBadInner, RefusesToOpen}
use Rattle.osc_protect.specs.Laws.{OneHead, OneMessage}
use Rattle.osc_protect.specs.Layers.{LayerLaws}
use Rattle.osc_protect.specs.declared.usage.Usage.{Usage}
use Rattle.osc_protect.specs.declared.head_error.NoHead.{NoHead}
use Rattle.osc_protect.specs.declared.head_error.NoHead.TheVariants as none
use Rattle.osc_protect.specs.declared.head_error.HeadError.{HeadError}
use Rattle.osc_protect.specs.declared.head_error.HeadError.TheVariants as heads
use Rattle.osc_protect.specs.declared.unprotect_error.UnprotectError.{UnprotectError}
use Rattle.osc_protect.specs.declared.unprotect_error.UnprotectError.TheVariants.{Format, NotThatKind, NoOscore, Undecodable, WrongContext, Tag, Inner}
use Rattle.osc_protect.proofs.Protections.{IsSound}

same_head : (a b : Kind) (i j : ℕ) (t u : List ℕ) (v w : OscoreParts) (x y : List ℕ) → a ≡ b → i ≡ j → t ≡ u → v ≡ w → x ≡ y
    → ◌≡◌ {A = Head} (record { kind = a; message_id = i; token = t; parts = v; payload = x }) (record { kind = b; message_id = j; token = u; parts = w; payload = y })
same_head a b i j t u v w x y e0 e1 e2 e3 e4 = rw (e0, e1, e2, e3, e4) refl

single : (x y : List ℕ) (vs : List (List ℕ)) → vs ≡ x ∷ [] → vs ≡ y ∷ [] → x ≡ y
single x y vs h k = cc

same_error : (f g : Fault) (i j : ℕ) → f ≡ g → i ≡ j → ◌≡◌ {A = FormatError} (record { fault = f; place = i }) (record { fault = g; place = j })
same_error f g i j e k = rw (e, k) refl

module _ (laws : LayerLaws) (u : Usage) where
  shows_at : (d : List ℕ) (h : Head) (q : Parts) → HasHead u d h → IsDatagram q d → ShowsHead u q h
  shows_at d h q x k = subst (λ (p : Parts). ShowsHead u p h) (laws.one x.0 q d x.1 k) x.2

  -- ---- heads

  shown_one : (p : Parts) (h k : Head) → ShowsHead u p h → ShowsHead u p k → h ≡ k
  shown_one p h k a b =
      let value : a.value ≡ b.value = single a.value b.value _ a.single b.single in
      let read : IsOscoreValue h.parts b.value = subst (λ (v : List ℕ). IsOscoreValue h.parts v) value a.reads in
      same_head h.kind k.kind h.message_id k.message_id h.token k.token h.parts k.parts h.payload k.payload
      (a.kind ∙ sym b.kind) (a.message_id ∙ sym b.message_id) (a.token ∙ sym b.token) (laws.one_value _ _ b.value read b.reads) (a.payload ∙ sym b.payload)

  pub heads_one : (d : List ℕ) (h k : Head) → HasHead u d h → HasHead u d k → h ≡ k
  heads_one d h k x y = shown_one y.0 h k (shows_at d h y.0 x y.1) y.2

  undecodable_never : (p : Parts) (h : Head) → ShowsHead u p h → IsUndecodable u p → ⊥
  undecodable_never p h k bad =
      elim bad [
        | inl long ↦ omega (arith, long, ap length k.single)
        | inr rest ↦ elim rest [
          | inl x ↦ x.2 h.parts (subst (λ (v : List ℕ). IsOscoreValue h.parts v) (single k.value x.0 _ k.single x.1) k.reads)
          | inr rest ↦ elim rest [
            | inl x ↦
                let read : IsOscoreValue h.parts x.0 = subst (λ (v : List ℕ). IsOscoreValue h.parts v) (single k.value x.0 _ k.single x.1) k.reads in
                let e : x.2 ≡ h.parts = laws.one_value x.2 _ x.0 x.3 read in
                wrong_never x.2 h.parts e x.4 k.complete
            | inr rest ↦ elim rest [
              | inl empty ↦ k.filled empty
              | inr proxy ↦ let direct = k.direct in cc
            ]
          ]
        ]
      ]
    where
      wrong_never : (v w : OscoreParts) → v ≡ w → is_complete u v ≡ false → is_complete u w ≡ true → ⊥
      wrong_never v w e wrong right = let bad : false ≡ true = sym wrong ∙ ap (is_complete u) e ∙ right in cc

  message_never : (p : Parts) (h : Head) (e : NoHead) → ShowsHead u p h → ShowsNoHead u p e → ⊥
  message_never p h none.NotThatKind k r = let used = k.used in cc
  message_never p h none.NoOscore k r = let some = k.single in let nothing = r.1 in cc
  message_never p h none.Undecodable k r = undecodable_never p h k r.2

  head_never : (d : List ℕ) (h : Head) (e : HeadError) → HasHead u d h → HasNoHead u d e → ⊥
  head_never d h (heads.Format e) x r = laws.never_both x.0 d e.fault e.place x.1 r
  head_never d h heads.NotThatKind x r = message_never r.0 h none.NotThatKind (shows_at d h r.0 x r.1) r.2
  head_never d h heads.NoOscore x r = message_never r.0 h none.NoOscore (shows_at d h r.0 x r.1) r.2
  head_never d h heads.Undecodable x r = message_never r.0 h none.Undecodable (shows_at d h r.0 x r.1) r.2

  message_one : (p : Parts) (e f : NoHead) → ShowsNoHead u p e → ShowsNoHead u p f → e ≡ f
  message_one p none.NotThatKind none.NotThatKind r q = refl
  message_one p none.NotThatKind none.NoOscore r q = let a = q.0 in cc
  message_one p none.NotThatKind none.Undecodable r q = let a = q.0 in cc
  message_one p none.NoOscore none.NotThatKind r q = let a = r.0 in cc
  message_one p none.NoOscore none.NoOscore r q = refl
  message_one p none.NoOscore none.Undecodable r q = absurd (q.1 r.1)
  message_one p none.Undecodable none.NotThatKind r q = let a = r.0 in cc
  message_one p none.Undecodable none.NoOscore r q = absurd (r.1 q.1)
  message_one p none.Undecodable none.Undecodable r q = refl

  at_one : (d : List ℕ) (p q : Parts) (e f : NoHead) → IsDatagram p d → IsDatagram q d → ShowsNoHead u p e → ShowsNoHead u q f → raised e ≡ raised f
  at_one d p q e f h k r t = ap raised (message_one q e f (subst (λ (z : Parts). ShowsNoHead u z e) (laws.one p q d h k) r) t)

  refusal_one : (d : List ℕ) (e f : HeadError) → HasNoHead u d e → HasNoHead u d f → e ≡ f
  refusal_one d (heads.Format e) (heads.Format f) r q = let b = laws.one_fault d e.fault f.fault e.place f.place r q in ap heads.Format (same_error e.fault f.fault e.place f.place b.0 b.1)
  refusal_one d (heads.Format e) heads.NotThatKind r q = absurd (laws.never_both q.0 d e.fault e.place q.1 r)
  refusal_one d (heads.Format e) heads.NoOscore r q = absurd (laws.never_both q.0 d e.fault e.place q.1 r)
  refusal_one d (heads.Format e) heads.Undecodable r q = absurd (laws.never_both q.0 d e.fault e.place q.1 r)
  refusal_one d heads.NotThatKind (heads.Format f) r q = absurd (laws.never_both r.0 d f.fault f.place r.1 q)
  refusal_one d heads.NoOscore (heads.Format f) r q = absurd (laws.never_both r.0 d f.fault f.place r.1 q)
  refusal_one d heads.Undecodable (heads.Format f) r q = absurd (laws.never_both r.0 d f.fault f.place r.1 q)
  refusal_one d heads.NotThatKind heads.NotThatKind r q = refl
  refusal_one d heads.NotThatKind heads.NoOscore r q = at_one d r.0 q.0 none.NotThatKind none.NoOscore r.1 q.1 r.2 q.2
  refusal_one d heads.NotThatKind heads.Undecodable r q = at_one d r.0 q.0 none.NotThatKind none.Undecodable r.1 q.1 r.2 q.2
  refusal_one d heads.NoOscore heads.NotThatKind r q = at_one d r.0 q.0 none.NoOscore none.NotThatKind r.1 q.1 r.2 q.2
  refusal_one d heads.NoOscore heads.NoOscore r q = refl
  refusal_one d heads.NoOscore heads.Undecodable r q = at_one d r.0 q.0 none.NoOscore none.Undecodable r.1 q.1 r.2 q.2
  refusal_one d heads.Undecodable heads.NotThatKind r q = at_one d r.0 q.0 none.Undecodable none.NotThatKind r.1 q.1 r.2 q.2
  refusal_one d heads.Undecodable heads.NoOscore r q = at_one d r.0 q.0 none.Undecodable none.NoOscore r.1 q.1 r.2 q.2
  refusal_one d heads.Undecodable heads.Undecodable r q = refl

  pub heads_law : OneHead u
  heads_law = record {
    shown = shown_one;
    never_shown = message_never;
    none = message_one;
    head = heads_one;
    never_both = head_never;
    refusal = refusal_one;
    in_range = λ d h x. laws.value_number h.parts x.2.value x.2.reads;
  }

module _ {I : Type 0} (laws : LayerLaws) (f : Protection I) (sound : IsSound f) where
  -- a refusal of a head, or one that comes after it
  abbrev After : Head → UnprotectError → Type 0
  After h e =
      ((e ≡ WrongContext) × ((i : I) → Names f h i → ⊥))
      ⊎ ((e ≡ Tag) × (i : I) × Names f h i × ((m : List ℕ) → h.payload ≡ f.cipher i m → ⊥))
      ⊎ ((e ≡ Inner) × (i : I) × Names f h i × (m : List ℕ) × (h.payload ≡ f.cipher i m) × IsBadInner f.usage f.features m)

  abbrev Parted : List ℕ → UnprotectError → Type 0
  Parted d e = ((g : HeadError) × HasNoHead f.usage d g × (e ≡ lifted g)) ⊎ ((h : Head) × HasHead f.usage d h × After h e)

  parted : (d : List ℕ) (e : UnprotectError) → RefusesToOpen f d e → Parted d e
  parted d (Format e) r = inl (heads.Format e, r, refl)
  parted d NotThatKind r = inl (heads.NotThatKind, r, refl)
  parted d NoOscore r = inl (heads.NoOscore, r, refl)
  parted d Undecodable r = inl (heads.Undecodable, r, refl)
  parted d WrongContext r = inr (r.0, r.1, inl (refl, r.2))
  parted d Tag r = inr (r.0, r.1, inr (inl (refl, r.2, r.3, r.4)))
  parted d Inner r = inr (r.0, r.1, inr (inr (refl, r.2, r.3, r.4, r.5, r.6)))

  same_number : (h : Head) (i j : I) → Names f h i → Names f h j → i ≡ j
  same_number h i j a b = sound.one_number i j (sym a ∙ b)

  after_one : (h : Head) (e g : UnprotectError) → After h e → After h g → e ≡ g
  after_one h e g (inl x) (inl y) = x.0 ∙ sym y.0
  after_one h e g (inl x) (inr (inl y)) = absurd (x.1 (y.1) y.2)
  after_one h e g (inl x) (inr (inr y)) = absurd (x.1 (y.1) y.2)
  after_one h e g (inr (inl x)) (inl y) = absurd (y.1 (x.1) x.2)
  after_one h e g (inr (inl x)) (inr (inl y)) = x.0 ∙ sym y.0
  after_one h e g (inr (inl x)) (inr (inr y)) = absurd (x.3 (y.3) (y.4 ∙ ap (λ (i : I). f.cipher i (y.3)) (same_number h (y.1) (x.1) y.2 x.2)))
  after_one h e g (inr (inr x)) (inl y) = absurd (y.1 (x.1) x.2)
  after_one h e g (inr (inr x)) (inr (inl y)) = absurd (y.3 (x.3) (x.4 ∙ ap (λ (i : I). f.cipher i (x.3)) (same_number h (x.1) (y.1) x.2 y.2)))
  after_one h e g (inr (inr x)) (inr (inr y)) = x.0 ∙ sym y.0

  parted_one : (d : List ℕ) (e g : UnprotectError) → Parted d e → Parted d g → e ≡ g
  parted_one d e g (inl x) (inl y) = x.2 ∙ ap lifted ((heads_law laws f.usage).refusal d x.0 y.0 x.1 y.1) ∙ sym y.2
  parted_one d e g (inl x) (inr y) = absurd ((heads_law laws f.usage).never_both d y.0 x.0 y.1 x.1)
  parted_one d e g (inr x) (inl y) = absurd ((heads_law laws f.usage).never_both d x.0 y.0 x.1 y.1)
  parted_one d e g (inr x) (inr y) = after_one y.0 e g (subst (λ (h : Head). After h e) (heads_one laws f.usage d x.0 y.0 x.1 y.1) x.2) y.2

  -- the head of a protection
  abbrev pub head_of_protection : (i : I) (m : InnerParts) (d : List ℕ) → Protects f i m d → Head
  head_of_protection i m d x = record { kind = x.outer.kind; message_id = x.outer.message_id; token = x.outer.token; parts = f.parts i; payload = x.outer.payload }

  pub protection_head : (i : I) (m : InnerParts) (d : List ℕ) (x : Protects f i m d) → HasHead f.usage d (head_of_protection i m d x)
  protection_head i m d x =
      let long = sound.long i x.plaintext in
      let full : length x.outer.payload ≡ length x.plaintext + 8 = ap length x.sealed ∙ long in (
        x.outer,
        x.datagram,
        record {
          kind = refl;
          message_id = refl;
          token = refl;
          payload = refl;
          used = x.used;
          value = x.value;
          single = x.single;
          reads = x.reads;
          complete = sound.complete i;
          direct = x.direct;
          filled = λ e. omega (arith, full, ap length e);
        },
      )

  bad_never : (m : InnerParts) (bytes : List ℕ) → IsInner m bytes → is_code_of f.usage m.code ≡ true → has_number (is_barred f.features) m.options ≡ false → IsBadInner f.usage f.features bytes → ⊥
  bad_never m bytes h code allowed (inl x) = laws.inner_never_both m bytes x.0 x.1 h x.2
  bad_never m bytes h code allowed (inr x) =
      let e : x.0 ≡ m = laws.inner_one x.0 m bytes x.1 h in
      let codes : is_code_of f.usage x.0.code ≡ is_code_of f.usage m.code = ap (λ (z : InnerParts). is_code_of f.usage z.code) e in
      let barred : has_number (is_barred f.features) x.0.options ≡ has_number (is_barred f.features) m.options = ap (λ (z : InnerParts). has_number (is_barred f.features) z.options) e in
      elim x.2 [
        | inl wrong ↦ cc
        | inr wrong ↦ cc
      ]

  after_never : (i : I) (m : InnerParts) (d : List ℕ) (e : UnprotectError) (x : Protects f i m d) → After (head_of_protection i m d x) e → ⊥
  after_never i m d e x (inl y) = y.1 i refl
  after_never i m d e x (inr (inl y)) = y.3 x.plaintext (x.sealed ∙ ap (λ (j : I). f.cipher j x.plaintext) (sound.one_number i (y.1) y.2))
  after_never i m d e x (inr (inr y)) =
      let again : f.cipher i (y.3) ≡ f.cipher i x.plaintext = ap (λ (j : I). f.cipher j (y.3)) (sound.one_number i (y.1) y.2) ∙ sym y.4 ∙ x.sealed in
      let same : y.3 ≡ x.plaintext = sound.one_plaintext i (y.3) x.plaintext again in
      bad_never m x.plaintext x.spells x.code x.allowed (subst (IsBadInner f.usage f.features) same y.5)

  parted_never : (d : List ℕ) (i : I) (m : InnerParts) (e : UnprotectError) → Protects f i m d → Parted d e → ⊥
  parted_never d i m e x (inl y) = (heads_law laws f.usage).never_both d (head_of_protection i m d x) y.0 (protection_head i m d x) y.1
  parted_never d i m e x (inr y) = after_never i m d e x (subst (λ (h : Head). After h e) (heads_one laws f.usage d y.0 (head_of_protection i m d x) y.1 (protection_head i m d x)) y.2)

  numbers_one : (d : List ℕ) (i j : I) (m l : InnerParts) → Protects f i m d → Protects f j l d → i ≡ j
  numbers_one d i j m l x y = sound.one_number i j (ap (λ (h : Head). h.parts) (heads_one laws f.usage d (head_of_protection i m d x) (head_of_protection j l d y) (protection_head i m d x) (protection_head j l d y)))

  messages_one : (d : List ℕ) (i j : I) (m l : InnerParts) → Protects f i m d → Protects f j l d → m ≡ l
  messages_one d i j m l x y =
      let payloads : x.outer.payload ≡ y.outer.payload = ap (λ (p : Parts). p.payload) (laws.one x.outer y.outer d x.datagram y.datagram) in
      let again : f.cipher i x.plaintext ≡ f.cipher i y.plaintext =
      sym x.sealed ∙ payloads ∙ y.sealed ∙ ap (λ (z : I). f.cipher z y.plaintext) (sym (numbers_one d i j m l x y)) in
      let same : x.plaintext ≡ y.plaintext = sound.one_plaintext i x.plaintext y.plaintext again in
      laws.inner_one m l y.plaintext (subst (λ (z : List ℕ). IsInner m z) same x.spells) y.spells

  pub messages_law : OneMessage f
  messages_law = record {
    number = numbers_one;
    message = messages_one;
    never_both = λ d i m e x r. parted_never d i m e x (parted d e r);
    refusal = λ d e g r q. parted_one d e g (parted d e r) (parted d g q);
  }
