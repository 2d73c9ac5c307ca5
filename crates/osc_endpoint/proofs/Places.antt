-- A table whose places stand for lives.
use Rattle.std.proofs.Common.{◌≡◌, ◌≢◌, ℕ, zero, suc, ◌<◌, ◌∙◌, sym, ap, subst, refl, arith, Bool, true, false, Option, Some, None, List, [], ◌∷◌, length, slice_set, if◌then◌else◌, inl, inr}
use Rattle.std.specs.Prelude.{slice_get, ◌==◌, cond}
use Rattle.std.specs.Option.{option_map}
use Rattle.std.proofs.lemmas.Bool.{eq-eqb, ne_eqb, cases_eq}
use Rattle.std.proofs.lemmas.Option.{slice_get_within}
use Rattle.osc_context.specs.Views.{number_of}
use Rattle.osc_life.specs.declared.decision.Decided.{Decided}
use Rattle.osc_life.specs.declared.judging.Named.{Named}
use Rattle.osc_life.specs.declared.slot.Slot.{Slot}
use Rattle.osc_life.specs.Agrees.{HoldsLife}
use Rattle.osc_endpoint.specs.Agrees.{PlaceAgrees, TableAgrees}
use Rattle.osc_life.specs.Judging.{JudgesTo, arrival_of}
use Rattle.osc_life.specs.Life.{Life, Mark, marked}
use Rattle.osc_life.specs.LifeAnswer.{Arrival, MeetsLifeRow}
use Rattle.osc_life.specs.ServerHistory.{Answer, Malformed, NotRequest, Plain, Undecodable, NoContext, Replay, BadTag, BadInner, Challenge, SequenceExhausted, Deliver, mark_at, TicketValues}
use Rattle.osc_endpoint.specs.Table.{TableJudges}

pub slice_get-set_same : {A : Type 0} → (xs : List A) (i : ℕ) (y : A) → i < length xs → slice_get (slice_set xs i y) i ≡ Some y
slice_get-set_same [] i y h = absurd (omega arith)
slice_get-set_same (x ∷ xs) zero y h = refl
slice_get-set_same (x ∷ xs) (suc i) y h = slice_get-set_same xs i y (omega arith)

pub slice_get-set_other : {A : Type 0} → (xs : List A) (i j : ℕ) (y : A) → j ≢ i → slice_get (slice_set xs i y) j ≡ slice_get xs j
slice_get-set_other [] i j y h = refl
slice_get-set_other (x ∷ xs) zero zero y h = absurd (h refl)
slice_get-set_other (x ∷ xs) zero (suc j) y h = refl
slice_get-set_other (x ∷ xs) (suc i) zero y h = refl
slice_get-set_other (x ∷ xs) (suc i) (suc j) y h = slice_get-set_other xs i j y (λ e. h (ap suc e))

-- the life that a taken place stands for
life_of : (s : Option Slot) (o : Option Life) → PlaceAgrees (Some s) o → (l : Life) × (o ≡ Some l) × HoldsLife s l
life_of s None h = absurd h
life_of s (Some l) h = (l, refl, h)

pub life_at : (slots : List (Option Slot)) (lives : ℕ → Option Life) (i : ℕ) (s : Option Slot) → TableAgrees slots lives → slice_get slots i ≡ Some s
    → (l : Life) × (lives i ≡ Some l) × HoldsLife s l
life_at slots lives i s h e = life_of s (lives i) (subst (λ o. PlaceAgrees o (lives i)) e (h.at i))

-- the place of a life that is there
slot_of : (o : Option (Option Slot)) (l : Life) → PlaceAgrees o (Some l) → (s : Option Slot) × (o ≡ Some s) × HoldsLife s l
slot_of None l h = absurd h
slot_of (Some s) l h = (s, refl, h)

pub slot_at : (slots : List (Option Slot)) (lives : ℕ → Option Life) (i : ℕ) (l : Life) → TableAgrees slots lives → lives i ≡ Some l
    → (s : Option Slot) × (slice_get slots i ≡ Some s) × HoldsLife s l
slot_at slots lives i l h e = slot_of (slice_get slots i) l (subst (λ o. PlaceAgrees (slice_get slots i) o) e (h.at i))

place_from : (o p : Option (Option Slot)) (l m : Option Life) → o ≡ p → l ≡ m → PlaceAgrees p m → PlaceAgrees o l
place_from o p l m e f h = subst (λ x. PlaceAgrees x l) (sym e) (subst (λ y. PlaceAgrees p y) (sym f) h)

-- an answer leaves nothing in the life of another context
cond_none : (b : Bool) (m : Mark) → b ≡ false → (if b then Some m else None) ≡ None
cond_none true m h = cc
cond_none false m h = refl

pub other_mark : (l : Life) (i n : ℕ) (a : Arrival) (answer : Answer) (j : ℕ) → MeetsLifeRow l i n a answer → j ≢ i → mark_at j answer ≡ None
other_mark l i n a (BadInner k m) j row h = cond_none (j == k) _ (ne_eqb j k (λ e. h (e ∙ row.2)))
other_mark l i n a (Challenge k m echo issued) j row h = cond_none (j == k) _ (ne_eqb j k (λ e. h (e ∙ row.3)))
other_mark l i n a (Deliver received ticket) j row h = cond_none (j == ticket.context) _ (ne_eqb j ticket.context (λ e. h (e ∙ ap (λ (t : TicketValues). t.context) row.2)))
other_mark l i n a (Malformed fault place) j row h = absurd row
other_mark l i n a NotRequest j row h = refl
other_mark l i n a Plain j row h = refl
other_mark l i n a Undecodable j row h = refl
other_mark l i n a NoContext j row h = refl
other_mark l i n a Replay j row h = refl
other_mark l i n a BadTag j row h = refl
other_mark l i n a SequenceExhausted j row h = refl

pub same_life : (o : Option Life) (m : Option Mark) → m ≡ None → option_map (marked m) o ≡ o
same_life None m h = refl
same_life (Some l) m h = ap (λ k. Some (marked k l)) h

-- a context judges a request, and its place with it
pub table_judges : (slots : List (Option Slot)) (lives : ℕ → Option Life) (r : Named) (d : List ℕ) (result : Decided) (new reply : List ℕ) (s t : Option Slot)
    → TableAgrees slots lives → slice_get slots r.index ≡ Some s → ((l : Life) → HoldsLife s l → JudgesTo l r d result new reply t)
    → TableJudges lives r d result new reply (slice_set slots r.index t)
table_judges slots lives r d result new reply s t h e judges =
    let k = life_at slots lives r.index s h e in
    let j = judges k.0 k.2 in
    record {
      of = k.0;
      life_is = k.1;
      answer = j.answer;
      row = j.row;
      decides = j.decides;
      agrees = record {
        at = λ i. elim (cases_eq i r.index) [
          | inl same ↦
              place_from _ (Some t) _ (Some (marked (mark_at r.index j.answer) k.0))
              (ap (slice_get (slice_set slots r.index t)) same ∙ slice_get-set_same slots r.index t (slice_get_within slots r.index s e))
              (ap (λ x. option_map (marked (mark_at x j.answer)) (lives x)) same ∙ ap (option_map (marked (mark_at r.index j.answer))) k.1)
              j.agrees
          | inr other ↦
              place_from _ _ _ _ (slice_get-set_other slots r.index i t other)
              (same_life (lives i) _ (other_mark k.0 r.index (number_of r.number) (arrival_of r d) j.answer i j.row.0 other))
              (h.at i)
        ];
      };
    }

-- a place stands for another life, and the others for what they did
pub table_changed : (slots : List (Option Slot)) (lives : ℕ → Option Life) (f : Life → Life) (n : ℕ) (s t : Option Slot) → TableAgrees slots lives → slice_get slots n ≡ Some s
    → ((l : Life) → HoldsLife s l → HoldsLife t (f l)) → TableAgrees (slice_set slots n t) (λ i. if i == n then option_map f (lives i) else lives i)
table_changed slots lives f n s t table there changes =
    let (l, is, holds) = life_at slots lives n s table there in
    record {
      at = λ i. elim (cases_eq i n) [
        | inl same ↦
            place_from _ (Some t) _ (Some (f l))
            (ap (slice_get (slice_set slots n t)) same ∙ slice_get-set_same slots n t (slice_get_within slots n s there))
            (ap (λ b. cond b (option_map f (lives i)) (lives i)) (eq-eqb i n same) ∙ ap (λ x. option_map f (lives x)) same ∙ ap (option_map f) is)
            (changes l holds)
        | inr other ↦
            place_from _ _ _ _ (slice_get-set_other slots n i t other)
            (ap (λ b. cond b (option_map f (lives i)) (lives i)) (ne_eqb i n other))
            (table.at i)
      ];
    }
