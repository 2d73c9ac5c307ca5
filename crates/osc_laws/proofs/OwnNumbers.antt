-- The Sender Sequence Numbers of each life: those of its texts rise from its first one, and count up where none was passed over. a is what a history shows, b what it shows one answer later, k a life,
-- i the index of a context, c the count of its lives before one, ts texts, newest first.
use Rattle.std.proofs.Common.{◌≡◌, ℕ, ◌+◌, ◌<◌, ◌≤◌, ◌∙◌, sym, ap, subst, refl, arith, Bool, true, false, cond, Option, Some, None, List, [], ◌∷◌, length, option_map, is_some, ◌==◌, ◌&&◌, ◌⊎◌, inl, inr}
use Rattle.std.proofs.lemmas.Bool.{and_from, and_left, and_right, cases_eq, eq-eqb, ne_eqb}
use Rattle.std.proofs.lemmas.Option.{none-some, same_Some}
use Rattle.std.specs.List.{AllByRecursion}
use Rattle.osc_laws.specs.AnswerLaws.{SealedHeads}
use Rattle.osc_laws.specs.Laws.{AllAnswers, CountsUp, HasOwnNumber, OwnNumbersOnce, Rises, Text, own_texts}
use Rattle.osc_endpoint.specs.ServerAnswer.{IsContext}
use Rattle.osc_life.specs.ServerHistory.{History, Begin, Then}
use Rattle.osc_laws.proofs.LifeCounts.{Kept, kept, used_one, Image, image, Changes, IsSame, IsAddition, IsRestart, IsSkip, SealsNumbered, SealsPlain, Steps, Stays, Adds, Restarts, Skips, Numbers, Replies, skipped, steps}

-- ---- lists

pub all_weaker : {A : Type 0} (P Q : A → Type 0) → ((x : A) → P x → Q x) → (xs : List A) → AllByRecursion P xs → AllByRecursion Q xs
all_weaker P Q f [] h = tt
all_weaker P Q f (x ∷ xs) h = (f x h.0, all_weaker P Q f xs h.1)

-- the text is of this life of the context at i, and has a Partial IV of its own
abbrev pub is_own : ℕ → ℕ → Text → Bool
is_own i c t = (t.context == i) && ((t.life == c) && is_some t.own)

pub passed_over : (i c : ℕ) (t : Text) (ts : List Text) → is_own i c t ≡ false → own_texts i c (t ∷ ts) ≡ own_texts i c ts
passed_over i c t ts e = ap (λ (b : Bool). cond b (t ∷ own_texts i c ts) (own_texts i c ts)) e

pub taken_up : (i c : ℕ) (t : Text) (ts : List Text) → is_own i c t ≡ true → own_texts i c (t ∷ ts) ≡ t ∷ own_texts i c ts
taken_up i c t ts e = ap (λ (b : Bool). cond b (t ∷ own_texts i c ts) (own_texts i c ts)) e

other_context : (i c : ℕ) (t : Text) (ts : List Text) → (t.context ≡ i → ⊥) → own_texts i c (t ∷ ts) ≡ own_texts i c ts
other_context i c t ts other = passed_over i c t ts (and_left (t.context == i) ((t.life == c) && is_some t.own) (ne_eqb t.context i other))

other_life : (i c : ℕ) (t : Text) (ts : List Text) → (t.life ≡ c → ⊥) → own_texts i c (t ∷ ts) ≡ own_texts i c ts
other_life i c t ts other = passed_over i c t ts (and_right (t.context == i) ((t.life == c) && is_some t.own) (and_left (t.life == c) (is_some t.own) (ne_eqb t.life c other)))

no_number : (i c : ℕ) (t : Text) (ts : List Text) → is_some t.own ≡ false → own_texts i c (t ∷ ts) ≡ own_texts i c ts
no_number i c t ts none = passed_over i c t ts (and_right (t.context == i) ((t.life == c) && is_some t.own) (and_right (t.life == c) (is_some t.own) none))

one_more : (i c : ℕ) (t : Text) (ts : List Text) → t.context ≡ i → t.life ≡ c → is_some t.own ≡ true → own_texts i c (t ∷ ts) ≡ t ∷ own_texts i c ts
one_more i c t ts context life own =
    taken_up i c t ts (and_from (t.context == i) ((t.life == c) && is_some t.own) (eq-eqb t.context i context) (and_from (t.life == c) (is_some t.own) (eq-eqb t.life c life) own))

-- ---- what holds of each history

-- the text is of a life of its context, the present one, whose keys it has, or an earlier
pub record IsOfLife (lives : ℕ → Option Kept) (t : Text) : Type 0 where
  pub present : Kept
  pub is : lives t.context ≡ Some present
  pub within : t.life ≤ present.count
  pub keys : t.life ≡ present.count → t.keys ≡ present.context

-- the texts have Sender Sequence Numbers of the life that rise, and where none was passed over all that it used
abbrev pub IsNumbered : Kept → List Text → Type 0
IsNumbered k ts = Rises k.first (k.first + k.used) ts × (k.passed ≡ 0 → CountsUp k.first ts × (length ts ≡ k.used))

-- so they do below a greater limit
rises_below : (first limit more : ℕ) (ts : List Text) → limit ≤ more → Rises first limit ts → Rises first more ts
rises_below first limit more [] less rises = tt
rises_below first limit more (t ∷ ts) less (n, has, least, below, earlier) = (n, has, least, omega (arith, below, less), earlier)

pub record IsCounted (a : Image) : Type 0 where
  pub beyond : (i : ℕ) → a.added ≤ i → a.lives i ≡ None
  pub contexts : (i : ℕ) (k : Kept) → a.lives i ≡ Some k → IsContext k.context
  pub told : AllByRecursion (IsOfLife a.lives) a.texts
  pub numbered : (i : ℕ) (k : Kept) → a.lives i ≡ Some k → IsNumbered k (own_texts i k.count a.texts)

-- a life that is to come has no texts
none_yet : (lives : ℕ → Option Kept) (i c : ℕ) (ts : List Text) → AllByRecursion (IsOfLife lives) ts → ((k : Kept) → lives i ≡ Some k → k.count < c) → own_texts i c ts ≡ []
none_yet lives i c [] all later = refl
none_yet lives i c (t ∷ ts) (of, all) later = elim (cases_eq t.context i) [
  | inl same ↦
      let below : of.present.count < c = later of.present (ap lives (sym same) ∙ of.is) in
      let within = of.within in
      other_life i c t ts (λ e. omega arith) ∙ none_yet lives i c ts all later
  | inr other ↦ other_context i c t ts other ∙ none_yet lives i c ts all later
]

-- ---- the life of one context changes

module _ (a b : Image) (i : ℕ) (k : Kept) (changes : Changes a b i k) where
  place : (j : ℕ) → ((j ≡ i) × (b.lives j ≡ Some k)) ⊎ ((j ≡ i → ⊥) × (b.lives j ≡ a.lives j))
  place j = elim (cases_eq j i) [
    | inl same ↦ inl (same, changes j ∙ ap (λ (x : Bool). cond x (Some k) (a.lives j)) (eq-eqb j i same))
    | inr other ↦ inr (other, changes j ∙ ap (λ (x : Bool). cond x (Some k) (a.lives j)) (ne_eqb j i other))
  ]

  here : b.lives i ≡ Some k
  here = changes i ∙ ap (λ (x : Bool). cond x (Some k) (a.lives i)) (eq-eqb i i refl)

  kept_beyond : IsCounted a → a.added ≤ b.added → (b.added ≤ i → ⊥) → (j : ℕ) → b.added ≤ j → b.lives j ≡ None
  kept_beyond c more within j past = elim (place j) [
    | inl p ↦ let same : j ≡ i = p.0 in absurd (within (omega arith))
    | inr p ↦ p.1 ∙ c.beyond j (omega arith)
  ]

  kept_contexts : IsCounted a → IsContext k.context → (j : ℕ) (l : Kept) → b.lives j ≡ Some l → IsContext l.context
  kept_contexts c context j l is = elim (place j) [
    | inl p ↦ subst (λ (x : Kept). IsContext x.context) (same_Some k l (sym p.1 ∙ is)) context
    | inr p ↦ c.contexts j l (sym p.1 ∙ is)
  ]

  kept_text : ((l : Kept) → a.lives i ≡ Some l → (l.count ≤ k.count) × (l.count ≡ k.count → l.context ≡ k.context)) → (t : Text) → IsOfLife a.lives t → IsOfLife b.lives t
  kept_text grows t of = elim (place t.context) [
    | inl p ↦
        let g = grows of.present (ap a.lives (sym p.0) ∙ of.is) in
        let before = of.within in
        let after = g.0 in
        record { present = k; is = p.1; within = omega arith; keys = λ e. let last : of.present.count ≡ k.count = omega (arith, before, after, e) in of.keys (e ∙ sym last) ∙ g.1 last }
    | inr p ↦ record { present = of.present; is = p.1 ∙ of.is; within = of.within; keys = of.keys }
  ]

-- a life that begins, of a context that is added or was there
begun : (a b : Image) (i : ℕ) (k : Kept) → Changes a b i k → IsCounted a → a.added ≤ b.added → (b.added ≤ i → ⊥) → IsContext k.context → k.used ≡ 0 → k.passed ≡ 0
    → ((l : Kept) → a.lives i ≡ Some l → l.count < k.count) → b.texts ≡ a.texts → IsCounted b
begun a b i k changes c more within context unused unpassed follows same = record {
  beyond = kept_beyond a b i k changes c more within;
  contexts = kept_contexts a b i k changes c context;
  told =
      subst (AllByRecursion (IsOfLife b.lives)) (sym same)
      (all_weaker (IsOfLife a.lives) (IsOfLife b.lives) (kept_text a b i k changes (λ l is. let less = follows l is in (omega (arith, less), λ e. absurd (omega (arith, less, e))))) a.texts c.told);
  numbered = λ j l is. elim (place a b i k changes j) [
    | inl p ↦
        let none : own_texts i k.count b.texts ≡ [] = ap (own_texts i k.count) same ∙ none_yet a.lives i k.count a.texts c.told follows in
        let first : IsNumbered k (own_texts i k.count b.texts) = subst (IsNumbered k) (sym none) (tt, λ e. (tt, sym unused)) in
        subst (λ (x : Kept). IsNumbered x (own_texts j x.count b.texts)) (same_Some k l (sym p.1 ∙ is))
        (subst (λ (x : ℕ). IsNumbered k (own_texts x k.count b.texts)) (sym p.0) first)
    | inr p ↦ subst (λ (ts : List Text). IsNumbered l (own_texts j l.count ts)) (sym same) (c.numbered j l (sym p.1 ∙ is))
  ];
}

-- ---- each step

stays : (a b : Image) → IsCounted a → IsSame a b → IsCounted b
stays a b c s = record {
  beyond = λ i past. let same = s.added in s.lives i ∙ c.beyond i (omega arith);
  contexts = λ i k is. c.contexts i k (sym (s.lives i) ∙ is);
  told =
      subst (AllByRecursion (IsOfLife b.lives)) (sym s.texts)
      (all_weaker (IsOfLife a.lives) (IsOfLife b.lives) (λ t of. record { present = of.present; is = s.lives t.context ∙ of.is; within = of.within; keys = of.keys }) a.texts c.told);
  numbered = λ i k is. subst (λ (ts : List Text). IsNumbered k (own_texts i k.count ts)) (sym s.texts) (c.numbered i k (sym (s.lives i) ∙ is));
}

adds : (a b : Image) → IsCounted a → IsAddition a b → IsCounted b
adds a b c s =
    let more = s.added in
    begun a b a.added s.first s.changes c (omega arith) (λ past. omega arith) s.context s.used s.passed
    (λ l is. absurd (none-some l (sym (c.beyond a.added (omega arith)) ∙ is))) s.texts

restarts : (a b : Image) → IsCounted a → IsRestart a b → IsCounted b
restarts a b c s =
    let same = s.added in
    begun a b s.index s.begins s.changes c (omega arith) (λ past. none-some s.old (sym (c.beyond s.index (omega arith)) ∙ s.was)) (s.context (c.contexts s.index s.old s.was)) s.used s.passed
    (λ l is. let e : s.old.count ≡ l.count = ap (λ (x : Kept). x.count) (same_Some s.old l (sym s.was ∙ is)) in let count = s.count in omega (arith, e, count)) s.texts

numbers : (a b : Image) → IsCounted a → SealsNumbered a b → IsCounted b
numbers a b c s =
    let same = s.added in
    let k : Kept = used_one s.old in
    let grows : (l : Kept) → a.lives s.index ≡ Some l → (l.count ≤ k.count) × (l.count ≡ k.count → l.context ≡ k.context) =
    λ l is. let e : s.old ≡ l = same_Some s.old l (sym s.was ∙ is) in (subst (λ (x : Kept). x.count ≤ s.old.count) e (omega arith), λ _. sym (ap (λ (x : Kept). x.context) e)) in
    let before = c.numbered s.index s.old s.was in
    record {
      beyond = kept_beyond a b s.index k s.changes c (omega arith) (λ past. none-some s.old (sym (c.beyond s.index (omega arith)) ∙ s.was));
      contexts = kept_contexts a b s.index k s.changes c (c.contexts s.index s.old s.was);
      told =
          subst (AllByRecursion (IsOfLife b.lives)) (sym s.texts) (
            record { present = k; is = ap b.lives s.of.context ∙ here a b s.index k s.changes; within = let e = s.of.life in omega arith; keys = λ _. s.of.keys },
            all_weaker (IsOfLife a.lives) (IsOfLife b.lives) (kept_text a b s.index k s.changes grows) a.texts c.told,
          );
      numbered = λ j l is. elim (place a b s.index k s.changes j) [
        | inl p ↦
            let more : own_texts s.index k.count b.texts ≡ s.text ∷ own_texts s.index k.count a.texts =
            ap (own_texts s.index k.count) s.texts ∙ one_more s.index k.count s.text a.texts s.of.context s.of.life (ap is_some s.own.own) in
            let now : IsNumbered k (s.text ∷ own_texts s.index k.count a.texts) = (
              (s.old.first + s.old.used, s.own, omega arith, omega arith, before.0),
              λ over.
                  let counts = before.1 over in
                  ((subst (λ (n : ℕ). HasOwnNumber s.text (s.old.first + n)) (sym counts.1) s.own, counts.0), let e = counts.1 in omega (arith, e)),
            ) in
            subst (λ (x : Kept). IsNumbered x (own_texts j x.count b.texts)) (same_Some k l (sym p.1 ∙ is))
            (subst (λ (x : ℕ). IsNumbered k (own_texts x k.count b.texts)) (sym p.0) (subst (IsNumbered k) (sym more) now))
        | inr p ↦
            let over : own_texts j l.count b.texts ≡ own_texts j l.count a.texts =
            ap (own_texts j l.count) s.texts ∙ other_context j l.count s.text a.texts (λ e. p.0 (sym e ∙ s.of.context)) in
            subst (IsNumbered l) (sym over) (c.numbered j l (sym p.1 ∙ is))
      ];
    }

skips : (a b : Image) → IsCounted a → IsSkip a b → IsCounted b
skips a b c s =
    let same = s.added in
    let k : Kept = skipped s.over s.old in
    let grows : (l : Kept) → a.lives s.index ≡ Some l → (l.count ≤ k.count) × (l.count ≡ k.count → l.context ≡ k.context) =
    λ l is. let e : s.old ≡ l = same_Some s.old l (sym s.was ∙ is) in (subst (λ (x : Kept). x.count ≤ s.old.count) e (omega arith), λ _. sym (ap (λ (x : Kept). x.context) e)) in
    let before = c.numbered s.index s.old s.was in
    record {
      beyond = kept_beyond a b s.index k s.changes c (omega arith) (λ past. none-some s.old (sym (c.beyond s.index (omega arith)) ∙ s.was));
      contexts = kept_contexts a b s.index k s.changes c (c.contexts s.index s.old s.was);
      told = subst (AllByRecursion (IsOfLife b.lives)) (sym s.texts) (all_weaker (IsOfLife a.lives) (IsOfLife b.lives) (kept_text a b s.index k s.changes grows) a.texts c.told);
      numbered = λ j l is. elim (place a b s.index k s.changes j) [
        | inl p ↦
            let now : IsNumbered k (own_texts s.index k.count a.texts) = (
              rises_below s.old.first (s.old.first + s.old.used) (s.old.first + (s.old.used + s.over)) _ (omega arith) before.0,
              λ none. let counts = before.1 (omega (arith, none)) in (counts.0, let e = counts.1 in omega (arith, e, none)),
            ) in
            subst (λ (x : Kept). IsNumbered x (own_texts j x.count b.texts)) (same_Some k l (sym p.1 ∙ is))
            (subst (λ (x : ℕ). IsNumbered k (own_texts x k.count b.texts)) (sym p.0) (subst (λ (ts : List Text). IsNumbered k (own_texts s.index k.count ts)) (sym s.texts) now))
        | inr p ↦ subst (λ (ts : List Text). IsNumbered l (own_texts j l.count ts)) (sym s.texts) (c.numbered j l (sym p.1 ∙ is))
      ];
    }

replies : (a b : Image) → IsCounted a → SealsPlain a b → IsCounted b
replies a b c s = record {
  beyond = λ i past. let same = s.added in s.lives i ∙ c.beyond i (omega arith);
  contexts = λ i k is. c.contexts i k (sym (s.lives i) ∙ is);
  told =
      subst (AllByRecursion (IsOfLife b.lives)) (sym s.texts) (
        record { present = s.old; is = s.lives s.text.context ∙ ap a.lives s.of.context ∙ s.was; within = let e = s.of.life in omega arith; keys = λ _. s.of.keys },
        all_weaker (IsOfLife a.lives) (IsOfLife b.lives) (λ t of. record { present = of.present; is = s.lives t.context ∙ of.is; within = of.within; keys = of.keys }) a.texts c.told,
      );
  numbered = λ i k is.
      subst (IsNumbered k) (sym (ap (own_texts i k.count) s.texts ∙ no_number i k.count s.text a.texts (ap is_some s.own))) (c.numbered i k (sym (s.lives i) ∙ is));
}

counted_on : (a b : Image) → IsCounted a → Steps a b → IsCounted b
counted_on a b c (Stays s) = stays a b c s
counted_on a b c (Adds s) = adds a b c s
counted_on a b c (Restarts s) = restarts a b c s
counted_on a b c (Skips s) = skips a b c s
counted_on a b c (Numbers s) = numbers a b c s
counted_on a b c (Replies s) = replies a b c s

pub counted : SealedHeads → (h : History) → AllAnswers h → IsCounted (image h)
counted shows Begin a = record { beyond = λ i past. refl; contexts = λ i k is. absurd (none-some k is); told = tt; numbered = λ i k is. absurd (none-some k is) }
counted shows (Then h event entry) a = counted_on (image h) (image (Then h event entry)) (counted shows h a.0) (steps shows h event entry a.1)

-- the Sender Sequence Numbers of a life rise, and are consecutive where none was passed over
pub own_numbers : SealedHeads → OwnNumbersOnce
own_numbers shows h i of a is =
    let numbered = (counted shows h a).numbered i (kept of) (ap (option_map kept) is) in
    record { rise = numbered.0; count_up = λ none. (numbered.1 none).0 }
