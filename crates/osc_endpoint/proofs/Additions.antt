-- A context that is added, and one that takes the place of another.
use Rattle.std.proofs.Common.{◌≡◌, ℕ, zero, suc, ◌+◌, ◌<◌, ◌≤◌, ◌∙◌, sym, ap, subst, refl, arith, Bool, true, false, Option, Some, None, List, [], ◌∷◌, ◌++◌, length, length-append, if◌then◌else◌, inl, inr}
use Rattle.std.specs.Prelude.{slice_get, ◌==◌, ◌≢◌, cond, unwrap_or}
use Rattle.std.specs.Option.{option_map}
use Rattle.std.proofs.lemmas.Bool.{eq-eqb, ne_eqb, cases_eq, cases_order}
use Rattle.std.proofs.lemmas.Option.{slice_get_past}
use Rattle.osc_context.specs.SecurityContext.{SecurityContext}
use Rattle.osc_window.specs.declared.window_size.WindowSize.{WindowSize}
use Rattle.osc_endpoint.specs.declared.server.ServerOf.{ServerOf}
use Rattle.osc_life.specs.declared.slot.Slot.{Slot}
use Rattle.osc_life.specs.declared.start.Start.{Start}
use Rattle.osc_life.specs.declared.start.Start.TheVariants.{Fresh, Restarted, Received, Reserved}
use Rattle.osc_endpoint.specs.Agrees.{Agrees, PlaceAgrees, TableAgrees}
use Rattle.osc_life.specs.Agrees.{HoldsLife, SlotAgrees}
use Rattle.osc_life.specs.Life.{Life, born, succeeding}
use Rattle.osc_endpoint.specs.ServerAnswer.{HaveSameLookup, IsTaken}
use Rattle.osc_life.specs.ServerHistory.{History, Then, Add, Added, Replace, Replaced, life}

slice_get-pushed : (xs : List (Option Slot)) (y : Option Slot) → slice_get (xs ++ y ∷ []) (length xs) ≡ Some y
slice_get-pushed [] y = refl
slice_get-pushed (x ∷ xs) y = slice_get-pushed xs y

slice_get-kept : (xs : List (Option Slot)) (y : Option Slot) (i : ℕ) → i < length xs → slice_get (xs ++ y ∷ []) i ≡ slice_get xs i
slice_get-kept [] y i h = absurd (omega arith)
slice_get-kept (x ∷ xs) y zero h = refl
slice_get-kept (x ∷ xs) y (suc i) h = slice_get-kept xs y i (omega arith)

none_of : (o : Option Life) → PlaceAgrees None o → o ≡ None
none_of None h = refl
none_of (Some l) h = absurd h

past_life : (slots : List (Option Slot)) (lives : ℕ → Option Life) (i : ℕ) → length slots ≤ i → TableAgrees slots lives → lives i ≡ None
past_life slots lives i h table = none_of (lives i) (subst (λ o. PlaceAgrees o (lives i)) (slice_get_past slots i h) (table.at i))

place_from : (o p : Option (Option Slot)) (l m : Option Life) → o ≡ p → l ≡ m → PlaceAgrees p m → PlaceAgrees o l
place_from o p l m e f h = subst (λ x. PlaceAgrees x l) (sym e) (subst (λ y. PlaceAgrees p y) (sym f) h)

pub table_push : (slots : List (Option Slot)) (lives : ℕ → Option Life) (s : Option Slot) (l : Life) (n : ℕ) → TableAgrees slots lives → HoldsLife s l → n ≡ length slots
    → TableAgrees (slots ++ s ∷ []) (λ i. if i == n then Some l else lives i)
table_push slots lives s l n table k is = record {
  at = λ j. elim (cases_order j n) [
    | inl same ↦
        place_from _ (Some s) _ (Some l)
        (ap (slice_get (slots ++ s ∷ [])) (same ∙ is) ∙ slice_get-pushed slots s)
        (ap (λ b. cond b (Some l) (lives j)) (eq-eqb j n same))
        k
    | inr other ↦ elim other [
      | inl below ↦
          place_from _ _ _ _ (slice_get-kept slots s j (omega arith))
          (ap (λ b. cond b (Some l) (lives j)) (ne_eqb j n (λ e. omega arith)))
          (table.at j)
      | inr above ↦
          place_from _ None _ None
          (slice_get_past (slots ++ s ∷ []) j (omega (arith, length-append slots (s ∷ []))))
          (ap (λ b. cond b (Some l) (lives j)) (ne_eqb j n (λ e. omega arith)) ∙ past_life slots lives j (omega arith) table)
          tt
    ]
  ];
}

-- where a life is read behind an addition
life_now : (h : History) (s : SecurityContext) (start : Start) (size : WindowSize) (places n i : ℕ) (of : Life) → life (Then h (Add s start size places) (Added n)) i ≡ Some of
    → (b : Bool) → (i == n) ≡ b → cond b (Some (born s start size)) (life h i) ≡ Some of
life_now h s start size places n i of e b f = subst (λ c. cond c (Some (born s start size)) (life h i) ≡ Some of) f e

pub born_context : (s : SecurityContext) (start : Start) (size : WindowSize) (of : Life) → Some (born s start size) ≡ Some of → s ≡ of.context
born_context s (Fresh next) size of e = let f : born s (Fresh next) size ≡ of = cc in ap (λ (l : Life). l.context) f
born_context s (Restarted next) size of e = let f : born s (Restarted next) size ≡ of = cc in ap (λ (l : Life). l.context) f
born_context s (Received next highest) size of e = let f : born s (Received next highest) size ≡ of = cc in ap (λ (l : Life). l.context) f
born_context s (Reserved next highest ahead) size of e = let f : born s (Reserved next highest ahead) size ≡ of = cc in ap (λ (l : Life). l.context) f

-- no two contexts are so related, as OneEach says of one lookup
abbrev pub OneBy : (SecurityContext → SecurityContext → Type 0) → History → Type 0
OneBy R h = (i j : ℕ) (of other : Life) → life h i ≡ Some of → life h j ≡ Some other → R of.context other.context → i ≡ j

-- a context is there that is so related to this one
abbrev pub HasBy : (SecurityContext → SecurityContext → Type 0) → History → SecurityContext → Type 0
HasBy R h s = (i : ℕ) × (of : Life) × (life h i ≡ Some of) × R of.context s

pub one_more : (R : SecurityContext → SecurityContext → Type 0) → ((s t : SecurityContext) → R s t → R t s) → (h : History) (s : SecurityContext) (start : Start) (size : WindowSize) (places n : ℕ)
    → OneBy R h → (HasBy R h s → ⊥) → OneBy R (Then h (Add s start size places) (Added n))
one_more R turned h s start size places n each free i j of other e f same = elim (cases_eq i n) [
  | inl a ↦ elim (cases_eq j n) [
    | inl b ↦ a ∙ sym b
    | inr c ↦
        let here = born_context s start size of (life_now h s start size places n i of e true (eq-eqb i n a)) in
        absurd (free (j, other, life_now h s start size places n j other f false (ne_eqb j n c), subst (R other.context) (sym here) (turned of.context other.context same)))
  ]
  | inr a ↦ elim (cases_eq j n) [
    | inl b ↦
        let here = born_context s start size other (life_now h s start size places n j other f true (eq-eqb j n b)) in
        absurd (free (i, of, life_now h s start size places n i of e false (ne_eqb i n a), subst (R of.context) (sym here) same))
    | inr c ↦ each i j of other (life_now h s start size places n i of e false (ne_eqb i n a)) (life_now h s start size places n j other f false (ne_eqb j n c)) same
  ]
]

-- a context that takes the place of another
pub succeeded_context : (s : SecurityContext) (start : Start) (size : WindowSize) (o : Option Life) (of : Life) → option_map (succeeding s start size) o ≡ Some of → s ≡ of.context
succeeded_context s start size None of e = absurd (let e' : None ≡ Some of = e in cc)
succeeded_context s start size (Some l) of e =
    let is : succeeding s start size l ≡ of = ap (λ (o : Option Life). unwrap_or o of) e in
    born_context s start size (born s start size) refl ∙ ap (λ (x : Life). x.context) is

life_then : (h : History) (i : ℕ) (s : SecurityContext) (start : Start) (size : WindowSize) (j : ℕ) (of : Life) → life (Then h (Replace i s start size) Replaced) j ≡ Some of
    → (b : Bool) → (j == i) ≡ b → cond b (option_map (succeeding s start size) (life h j)) (life h j) ≡ Some of
life_then h i s start size j of e b f = subst (λ c. cond c (option_map (succeeding s start size) (life h j)) (life h j) ≡ Some of) f e

-- no other context than this one is so related to that one
abbrev pub HasNoneBeside : (SecurityContext → SecurityContext → Type 0) → History → ℕ → SecurityContext → Type 0
HasNoneBeside R h i s = (j : ℕ) (of : Life) → j ≢ i → life h j ≡ Some of → R of.context s → ⊥

pub one_replaced : (R : SecurityContext → SecurityContext → Type 0) → ((s t : SecurityContext) → R s t → R t s) → (h : History) (i : ℕ) (s : SecurityContext) (start : Start) (size : WindowSize)
    → HasNoneBeside R h i s → OneBy R h → OneBy R (Then h (Replace i s start size) Replaced)
one_replaced R turned h i s start size free each j k of other e f same = elim (cases_eq j i) [
  | inl a ↦ elim (cases_eq k i) [
    | inl b ↦ a ∙ sym b
    | inr c ↦
        let here = succeeded_context s start size (life h j) of (life_then h i s start size j of e true (eq-eqb j i a)) in
        absurd (free k other c (life_then h i s start size k other f false (ne_eqb k i c)) (subst (R other.context) (sym here) (turned of.context other.context same)))
  ]
  | inr a ↦ elim (cases_eq k i) [
    | inl b ↦
        let here = succeeded_context s start size (life h k) other (life_then h i s start size k other f true (eq-eqb k i b)) in
        absurd (free j of a (life_then h i s start size j of e false (ne_eqb j i a)) (subst (R of.context) (sym here) same))
    | inr c ↦ each j k of other (life_then h i s start size j of e false (ne_eqb j i a)) (life_then h i s start size k other f false (ne_eqb k i c)) same
  ]
]

pub lookup_turned : (s t : SecurityContext) → HaveSameLookup s t → HaveSameLookup t s
lookup_turned s t same = (sym same.0, sym same.1)

pub agrees_added : {N : ℕ} (old new : ServerOf N) (h : History) (s : SecurityContext) (start : Start) (size : WindowSize) (places : ℕ) (slot : Slot) (n : ℕ) → Agrees old h → (IsTaken h s → ⊥)
    → new.clock ≡ old.clock → n ≡ length old.slots.items → new.slots.items ≡ old.slots.items ++ Some slot ∷ [] → SlotAgrees slot (born s start size)
    → Agrees new (Then h (Add s start size places) (Added n))
agrees_added old new h s start size places slot n a free same index items begins = record {
  clock_is = same ∙ a.clock_is;
  contexts = ap (λ (xs : List (Option Slot)). length xs) items ∙ length-append old.slots.items (Some slot ∷ []) ∙ ap (λ k. k + 1) a.contexts;
  places = subst (λ xs. TableAgrees xs (λ i. if i == n then Some (born s start size) else life h i)) (sym items) (table_push old.slots.items (life h) (Some slot) (born s start size) n a.places begins index);
  one_each = one_more HaveSameLookup lookup_turned h s start size places n a.one_each free;
}
