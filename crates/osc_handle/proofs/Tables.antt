-- The bytes of a server's contexts, and what they stand for. t are the bytes of the table, b those of one context.
use Rattle.std.proofs.Common.{◌≡◌, ◌≢◌, ◌∙◌, ◌<◌, ◌≤◌, sym, ap, ap₂, subst, refl, arith, ℕ, zero, suc, List, [], ◌∷◌, Option, Some, None, length, slice_set, slice_index_or, inl, inr}
use Rattle.std.specs.Prelude.{slice_get, unwrap_or}
use Rattle.std.specs.Option.{option_map}
use Rattle.std.proofs.lemmas.Bool.{cases_eq}
use Rattle.std.proofs.lemmas.Option.{get_or_from_slice_get, none-some, same_Some, slice_get-get_or, slice_get_within}
use Rattle.osc_context.specs.SecurityContext.{AnswersTo, SecurityContext}
use Rattle.osc_context.specs.Views.{as_server, number_of}
use Rattle.osc_window.proofs.Alike.{alike, one_size}
use Rattle.osc_window.specs.declared.gate.Gate.{Gate}
use Rattle.osc_window.specs.declared.gate.Gate.TheVariants as gates
use Rattle.osc_protect.specs.Views.{context_of}
use Rattle.std.proofs.lemmas.List.{length-set}
use Rattle.osc_protect.specs.Protection.{requests}
use Rattle.osc_protect.specs.Stages.{Decrypts}
use Rattle.osc_protect.specs.StageViews.{IsSealedRequest}
use Rattle.osc_endpoint.proofs.Places.{life_at, slice_get-set_other, slice_get-set_same, table_judges}
use Rattle.osc_life.specs.Agrees.{GateAgrees, HoldsLife, SlotAgrees}
use Rattle.osc_endpoint.specs.Agrees.{PlaceAgrees, TableAgrees}
use Rattle.osc_life.specs.Deciding.{IsOpenedIn, Leaves}
use Rattle.osc_life.specs.Judging.{GateRefuses, IsNamed, JudgesTo}
use Rattle.osc_life.specs.Life.{Life, Mark, floor, marked, spent}
use Rattle.osc_endpoint.specs.Table.{FindsAt, NamesAt, TableJudges}
use Rattle.osc_life.specs.declared.decision.Decided.{Decided}
use Rattle.osc_life.specs.declared.decision.Decision.{Decision}
use Rattle.osc_life.specs.declared.decision.Decision.TheVariants as decisions
use Rattle.osc_life.specs.declared.judging.Named.{Named}
use Rattle.osc_life.specs.declared.slot.Slot.{Slot}
use Rattle.osc_context_handle.specs.ContextBytes.{server_in}
use Rattle.osc_handle.specs.SingleServerBytes.{table_of}
use Rattle.osc_handle.specs.SlotBytes.{HoldsIn, IsGateIn, IsHighestIn, IsSlotIn}
use Rattle.osc_handle.specs.TableBytes.{IsPlaceIn, IsTableIn, bytes_at}
use Rattle.osc_handle.specs.TableSteps.{ChangesAt}
use Rattle.osc_handle.specs.declared.slot_handle.SlotHandle.{SlotHandle}

-- bytes of an open window say so
open_gate : (b : SlotHandle) (highest : Option ℕ) → IsHighestIn b highest → 2 ≤ b.gate
open_gate b None h = omega (arith, h)
open_gate b (Some n) h = omega (arith, h.0)

-- bytes say one highest number
one_highest : (b : SlotHandle) (m n : Option ℕ) → IsHighestIn b m → IsHighestIn b n → m ≡ n
one_highest b None None g h = refl
one_highest b None (Some n) g h = absurd (omega (arith, g, h.0))
one_highest b (Some m) None g h = absurd (omega (arith, g.0, h))
one_highest b (Some m) (Some n) g h = ap Some (sym g.1 ∙ h.1)

-- gates of the same bytes agree with the same lives
gates_alike : (b : SlotHandle) (g f : Gate) (l : Life) → IsGateIn b g → IsGateIn b f → GateAgrees g l → GateAgrees f l
gates_alike b (gates.Restarted None) (gates.Restarted None) l g f a = a
gates_alike b (gates.Restarted None) (gates.Restarted (Some d)) l g f a = absurd (omega (arith, g, f.0))
gates_alike b (gates.Restarted None) (gates.Open w) l g f a = absurd (let two = open_gate b _ f.highest in omega (arith, g, two))
gates_alike b (gates.Restarted (Some c)) (gates.Restarted None) l g f a = absurd (omega (arith, g.0, f))
gates_alike b (gates.Restarted (Some c)) (gates.Restarted (Some d)) l g f a =
    (a.0, ap₂ (λ (echo : List ℕ) (issued : ℕ). Some (echo, issued)) (sym f.1 ∙ g.1) (sym f.2 ∙ g.2) ∙ a.1)
gates_alike b (gates.Restarted (Some c)) (gates.Open w) l g f a = absurd (let two = open_gate b _ f.highest in omega (arith, g.0, two))
gates_alike b (gates.Open v) (gates.Restarted None) l g f a = absurd (let two = open_gate b _ g.highest in omega (arith, f, two))
gates_alike b (gates.Open v) (gates.Restarted (Some d)) l g f a = absurd (let two = open_gate b _ g.highest in omega (arith, f.0, two))
gates_alike b (gates.Open v) (gates.Open w) l g f a =
    (a.0, alike v w l.size (floor l.least l.open_at_birth l.marks) (spent l.open_at_birth l.marks) (one_highest b _ _ g.highest f.highest) (sym g.mask ∙ f.mask) (one_size _ _ (g.size ∙ sym f.size)) a.1)

-- what a gate refuses, a context with it refuses, if no number is in doubt
pub refuses_alike : (s : Slot) (gate : Gate) (n : ℕ) → s.gate ≡ gate → s.doubt ≡ None → GateRefuses gate None n → GateRefuses s.gate s.doubt n
refuses_alike s gate n same sure refuses = subst (λ g. GateRefuses g s.doubt n) (sym same) (subst (λ o. GateRefuses gate o n) (sym sure) refuses)

-- contexts of the same bytes agree with the same lives
pub slots_alike : (b : SlotHandle) (s t : Slot) (l : Life) → IsSlotIn b s → IsSlotIn b t → SlotAgrees s l → SlotAgrees t l
slots_alike b s t l x y a =
    record {
      context = y.context ∙ (sym x.context ∙ a.context);
      size = one_size t.size s.size (y.size ∙ sym x.size) ∙ a.size;
      doubt = y.doubt ∙ (sym x.doubt ∙ a.doubt);
      gate = gates_alike b s.gate t.gate l x.gate y.gate a.gate;
      next = sym y.next ∙ (x.next ∙ a.next);
      life = sym y.life ∙ (x.life ∙ a.life);
    }

-- what bytes stand for, at one place
slot_in : (b : SlotHandle) (p : Option (Option Slot)) → IsPlaceIn (Some b) p → (s : Slot) × (p ≡ Some (Some s)) × IsSlotIn b s
slot_in b None h = absurd h
slot_in b (Some None) h = absurd h
slot_in b (Some (Some s)) h = (s, refl, h)

-- what the bytes at an index stand for
pub slot_at : (t : List SlotHandle) (slots : List (Option Slot)) (i : ℕ) (b : SlotHandle) → IsTableIn t slots → slice_get t i ≡ Some b
    → (s : Slot) × (slice_get slots i ≡ Some (Some s)) × IsSlotIn b s
slot_at t slots i b h e = slot_in b (slice_get slots i) (subst (λ o. IsPlaceIn o (slice_get slots i)) e (h.at i))

-- a place is written, in the bytes and in what they stand for
pub table_set : (t : List SlotHandle) (slots : List (Option Slot)) (i : ℕ) (b c : SlotHandle) (s : Slot)
    → IsTableIn t slots → slice_get t i ≡ Some b → IsSlotIn c s
    → (p : Option Slot) → slice_get slots i ≡ Some p
    → IsTableIn (slice_set t i c) (slice_set slots i (Some s))
table_set t slots i b c s h e there p at =
    record {
      at = λ j. elim (cases_eq j i) [
        | inl same ↦
            subst (λ k. IsPlaceIn (slice_get (slice_set t i c) k) (slice_get (slice_set slots i (Some s)) k)) (sym same)
            (subst (λ o. IsPlaceIn o (slice_get (slice_set slots i (Some s)) i)) (sym (slice_get-set_same t i c (slice_get_within t i b e)))
            (subst (λ o. IsPlaceIn (Some c) o) (sym (slice_get-set_same slots i (Some s) (slice_get_within slots i p at))) there))
        | inr other ↦
            subst (λ o. IsPlaceIn o (slice_get (slice_set slots i (Some s)) j)) (sym (slice_get-set_other t i j c other))
            (subst (λ o. IsPlaceIn (slice_get t j) o) (sym (slice_get-set_other slots i j (Some s) other)) (h.at j))
      ];
    }

-- the size of a context's window outlasts what its life is marked with
pub size_marked : (m : Option Mark) (l : Life) → (marked m l).size ≡ l.size
size_marked None l = refl
size_marked (Some m) l = refl

-- so do the numbers in doubt
pub doubt_marked : (m : Option Mark) (l : Life) → (marked m l).doubt ≡ l.doubt
doubt_marked None l = refl
doubt_marked (Some m) l = refl

bytes_there : (o : Option SlotHandle) (c : SecurityContext) → option_map (λ (b : SlotHandle). server_in b.context) o ≡ Some c → (b : SlotHandle) × (o ≡ Some b) × (server_in b.context ≡ c)
bytes_there None c e = absurd (none-some c e)
bytes_there (Some b) c e = (b, refl, ap (λ (o : Option SecurityContext). unwrap_or o c) e)

-- the bytes at the index of a context
pub bytes_of : (t : List SlotHandle) (i : ℕ) (c : SecurityContext) → bytes_at t i ≡ Some c
    → (b : SlotHandle) × (slice_get t i ≡ Some b) × (server_in b.context ≡ c)
bytes_of t i c e = bytes_there (slice_get t i) c e

-- what the bytes at a request's index stand for
pub record NamedIn (t : List SlotHandle) (r : Named) (d : List ℕ) (slot : Slot) : Type 0 where
  pub bytes : SlotHandle
  pub there : slice_get t r.index ≡ Some bytes
  pub slot_is : IsSlotIn bytes slot
  pub named : IsNamed (as_server (context_of slot.context)) (number_of r.number) d
  pub sealed : IsSealedRequest (requests (as_server (context_of slot.context))) d r.sealed

pub named_in : (t : List SlotHandle) (r : Named) (d : List ℕ) (other : SlotHandle) (slot : Slot) → NamesAt (bytes_at t) r d → IsSlotIn (slice_index_or t r.index other) slot → NamedIn t r d slot
named_in t r d other slot names made =
    let (b, there, same) = bytes_of t r.index names.context names.there in
    let one : slice_index_or t r.index other ≡ b = get_or_from_slice_get t r.index b other there in
    let is : IsSlotIn b slot = subst (λ x. IsSlotIn x slot) one made in
    let context : names.context ≡ as_server (context_of slot.context) = sym (is.context ∙ same) in
    record {
      bytes = b;
      there = there;
      slot_is = is;
      named = subst (λ (c : SecurityContext). IsNamed c (number_of r.number) d) context names.named;
      sealed = subst (λ (c : SecurityContext). IsSealedRequest (requests c) d r.sealed) context names.sealed;
    }

-- a context judged a request, and its bytes with it
pub judged_in : (t : List SlotHandle) (slots : List (Option Slot)) (lives : ℕ → Option Life) (r : Named) (d : List ℕ) (result : Decided) (new reply : List ℕ) (slot after : Slot) (kept : SlotHandle)
    → (in_t : NamedIn t r d slot) → IsTableIn t slots → TableAgrees slots lives
    → ((l : Life) → SlotAgrees slot l → JudgesTo l r d result new reply (Some after))
    → after.context ≡ slot.context
    → (after.size ≡ slot.size → IsSlotIn kept after)
    → (x : List (Option Slot)) × IsTableIn (slice_set t r.index kept) x × (length x ≡ length slots) × TableJudges lives r d result new reply x
judged_in t slots lives r d result new reply slot after kept n h agrees judges context keeps =
    let (s, at, is) = slot_at t slots r.index n.bytes h n.there in
    let (l, life_is, holds) = life_at slots lives r.index (Some s) agrees at in
    let a = slots_alike n.bytes s slot l is n.slot_is holds in
    let j = judges l a in
    let size : after.size ≡ slot.size = j.agrees.size ∙ (size_marked _ l ∙ sym a.size) in (
      slice_set slots r.index (Some after),
      table_set t slots r.index n.bytes kept after h n.there (keeps size) (Some s) at,
      length-set slots r.index (Some after),
      table_judges slots lives r d result new reply (Some s) (Some after) agrees at (λ k held. judges k (slots_alike n.bytes s slot k is n.slot_is held)),
    )

-- opened under a context of the one table is opened under one of the other
opened_in : (slot : Slot) (slots : List (Option Slot)) (i : ℕ) (s : Slot) (d new : List ℕ) → slice_get slots i ≡ Some (Some s) → as_server (context_of s.context) ≡ as_server (context_of slot.context)
    → IsOpenedIn (Some slot ∷ []) d new → IsOpenedIn slots d new
opened_in slot slots i s d new at same (zero, x, e, n, len, decrypts) =
    let one : slot ≡ x = ap (λ (o : Option (Option Slot)). unwrap_or (unwrap_or o None) x) e in
    (i, s, at, n, len, subst (λ (c : SecurityContext). Decrypts (requests c) d n len new) (ap (λ (y : Slot). as_server (context_of y.context)) (sym one) ∙ sym same) decrypts)
opened_in slot slots i s d new at same (suc k, x, e, n, len, decrypts) = absurd (none-some (Some x) e)

-- the table of one context
pub alone : (b : SlotHandle) (s : Slot) → IsSlotIn b s → IsTableIn (table_of b) (Some s ∷ [])
alone b s is = record { at = λ i. place b s is i } where
  place : (b : SlotHandle) (s : Slot) → IsSlotIn b s → (i : ℕ) → IsPlaceIn (slice_get (table_of b) i) (slice_get (Some s ∷ []) i)
  place b s is zero = is
  place b s is (suc i) = tt

-- what was opened in a table of one was opened under its context
pub opened_alone : (s : Slot) (d new : List ℕ) → IsOpenedIn (Some s ∷ []) d new → (n : ℕ) × (len : ℕ) × Decrypts (requests (as_server (context_of s.context))) d n len new
opened_alone s d new (zero, x, e, n, len, decrypts) =
    let one : s ≡ x = ap (λ (o : Option (Option Slot)). unwrap_or (unwrap_or o None) x) e in
    (n, len, subst (λ (y : Slot). Decrypts (requests (as_server (context_of y.context))) d n len new) (sym one) decrypts)
opened_alone s d new (suc k, x, e, n, len, decrypts) = absurd (none-some (Some x) e)

pub leaves_in : (decision : Decision) (slot : Slot) (slots : List (Option Slot)) (i : ℕ) (s : Slot) (d new : List ℕ) → slice_get slots i ≡ Some (Some s) → as_server (context_of s.context) ≡ as_server (context_of slot.context)
    → Leaves (Some slot ∷ []) decision d new → Leaves slots decision d new
leaves_in (decisions.Malformed e) slot slots i s d new at same h = h
leaves_in decisions.NotRequest slot slots i s d new at same h = h
leaves_in decisions.Plain slot slots i s d new at same h = h
leaves_in decisions.Undecodable slot slots i s d new at same h = h
leaves_in decisions.NoContext slot slots i s d new at same h = h
leaves_in decisions.Replay slot slots i s d new at same h = h
leaves_in decisions.BadTag slot slots i s d new at same h = h
leaves_in decisions.BadInner slot slots i s d new at same h = opened_in slot slots i s d new at same h
leaves_in (decisions.Challenge echo issued) slot slots i s d new at same h = opened_in slot slots i s d new at same h
leaves_in decisions.SequenceExhausted slot slots i s d new at same h = opened_in slot slots i s d new at same h
leaves_in (decisions.Deliver x ticket) slot slots i s d new at same h = opened_in slot slots i s d new at same h

-- bytes in use are read
read_at : (t : List SlotHandle) (i : ℕ) (other : SlotHandle) → i < length t → slice_get t i ≡ Some (slice_index_or t i other)
read_at t i other within = slice_get-get_or t i other within

-- bytes whose context answers are found
pub found_bytes : (t : List SlotHandle) (i : ℕ) (other : SlotHandle) (kid : List ℕ) (kid_context : Option (List ℕ)) → i < length t
    → AnswersTo (server_in (slice_index_or t i other).context) kid kid_context → FindsAt (bytes_at t) i kid kid_context
found_bytes t i other kid kid_context within answers =
    record {
      context = server_in (slice_index_or t i other).context;
      there = ap (option_map (λ (b : SlotHandle). server_in b.context)) (read_at t i other within);
      answers = answers;
    }

-- ---- one place changes

set_itself : {A : Type 0} → (xs : List A) (i : ℕ) (x : A) → slice_get xs i ≡ Some x → slice_set xs i x ≡ xs
set_itself [] i x h = refl
set_itself {A = A} (y ∷ ys) zero x h = ap (λ z. z ∷ ys) (sym (ap (λ (o : Option A). unwrap_or o x) h))
set_itself (y ∷ ys) (suc i) x h = ap (λ zs. y ∷ zs) (set_itself ys i x h)

-- a table whose place is written with what it holds
pub kept_itself : (t : List SlotHandle) (slots : List (Option Slot)) (i : ℕ) (b : SlotHandle) → slice_get t i ≡ Some b
    → IsTableIn (slice_set t i b) slots → IsTableIn t slots
kept_itself t slots i b there h = subst (λ (xs : List SlotHandle). IsTableIn xs slots) (set_itself t i b there) h

table_changed : (slots : List (Option Slot)) (lives after : ℕ → Option Life) (i : ℕ) (s t : Option Slot) (m : Life) → TableAgrees slots lives → slice_get slots i ≡ Some s
    → after i ≡ Some m → HoldsLife t m → ((j : ℕ) → j ≢ i → after j ≡ lives j) → TableAgrees (slice_set slots i t) after
table_changed slots lives after i s t m h e here holds others =
    record {
      at = λ j. elim (cases_eq j i) [
        | inl same ↦
            subst (λ k. PlaceAgrees (slice_get (slice_set slots i t) k) (after k)) (sym same)
            (subst (λ o. PlaceAgrees o (after i)) (sym (slice_get-set_same slots i t (slice_get_within slots i s e))) (subst (λ o. PlaceAgrees (Some t) o) (sym here) holds))
        | inr other ↦
            subst (λ o. PlaceAgrees o (after j)) (sym (slice_get-set_other slots i j t other)) (subst (λ o. PlaceAgrees (slice_get slots j) o) (sym (others j other)) (h.at j))
      ];
    }

-- the bytes of one place change, and the life that they stand for
pub place_changed : (t : List SlotHandle) (slots : List (Option Slot)) (lives : ℕ → Option Life) (i : ℕ) (b kept : SlotHandle) (l m : Life) → IsTableIn t slots → TableAgrees slots lives
    → slice_get t i ≡ Some b → lives i ≡ Some l → ((s : Slot) → IsSlotIn b s → SlotAgrees s l → HoldsIn kept m)
    → ChangesAt slots lives i m (slice_set t i kept)
place_changed t slots lives i b kept l m h agrees there life changes =
    let (s, at, is) = slot_at t slots i b h there in
    let (k, life_is, holds) = life_at slots lives i (Some s) agrees at in
    let (x, made, stands) = changes s is (subst (λ k. SlotAgrees s k) (same_Some k l (sym life_is ∙ life)) holds) in
    record {
      new = slice_set slots i (Some x);
      table = table_set t slots i b kept x h there made (Some s) at;
      len = length-set slots i (Some x);
      agrees = λ after here others. table_changed slots lives after i (Some s) (Some x) m agrees at here stands others;
    }

-- the life of a place in use
pub life_there : (t : List SlotHandle) (slots : List (Option Slot)) (lives : ℕ → Option Life) (i : ℕ) (b : SlotHandle) → IsTableIn t slots → TableAgrees slots lives → slice_get t i ≡ Some b
    → (l : Life) × (lives i ≡ Some l) × (s : Slot) × IsSlotIn b s × SlotAgrees s l
life_there t slots lives i b h agrees there =
    let (s, at, is) = slot_at t slots i b h there in
    let (l, life_is, holds) = life_at slots lives i (Some s) agrees at in
    (l, life_is, s, is, holds)

-- the context at an index that is in use
pub index_used : (t : List SlotHandle) (i : ℕ) (c : SecurityContext) → bytes_at t i ≡ Some c → i < length t
index_used t i c e = let b = bytes_of t i c e in slice_get_within t i b.0 b.1

-- the place of a life that is known
pub there_as : (t : List SlotHandle) (slots : List (Option Slot)) (lives : ℕ → Option Life) (i : ℕ) (b : SlotHandle) (l : Life) → IsTableIn t slots → TableAgrees slots lives → slice_get t i ≡ Some b
    → lives i ≡ Some l → (s : Slot) × IsSlotIn b s × SlotAgrees s l
there_as t slots lives i b l h agrees there life =
    let (k, life_is, s, is, stands) = life_there t slots lives i b h agrees there in
    (s, is, subst (λ k. SlotAgrees s k) (same_Some k l (sym life_is ∙ life)) stands)

-- a context whose gate refuses a request answers it, and its bytes stay
pub replayed_in : (t : List SlotHandle) (slots : List (Option Slot)) (lives : ℕ → Option Life) (r : Named) (d : List ℕ) (result : Decided) (reply : List ℕ) (other : SlotHandle) (gate : Gate)
    → NamesAt (bytes_at t) r d → IsTableIn t slots → TableAgrees slots lives → IsGateIn (slice_index_or t r.index other) gate
    → ((s : Slot) (l : Life) → s.gate ≡ gate → s.doubt ≡ None → SlotAgrees s l → JudgesTo l r d result d reply (Some s))
    → (x : List (Option Slot)) × IsTableIn t x × (length x ≡ length slots) × TableJudges lives r d result d reply x
replayed_in t slots lives r d result reply other gate names h agrees made judges =
    let (b, there, same) = bytes_of t r.index names.context names.there in
    let (s, at, is) = slot_at t slots r.index b h there in
    let one : slice_index_or t r.index other ≡ b = get_or_from_slice_get t r.index b other there in
    let x : Slot = record s { gate = gate } in
    let slot_is : IsSlotIn b x = record { handle = is.handle; context = is.context; size = is.size; doubt = is.doubt; gate = subst (λ y. IsGateIn y gate) one made; next = is.next; life = is.life } in
    let context : names.context ≡ as_server (context_of s.context) = sym (is.context ∙ same) in
    let n : NamedIn t r d x = record {
      bytes = b;
      there = there;
      slot_is = slot_is;
      named = subst (λ (c : SecurityContext). IsNamed c (number_of r.number) d) context names.named;
      sealed = subst (λ (c : SecurityContext). IsSealedRequest (requests c) d r.sealed) context names.sealed;
    } in
    let (new, kept, len, judged) = judged_in t slots lives r d result d reply x x b n h agrees (λ l a. judges x l refl is.doubt a) refl (λ _. slot_is) in
    (new, kept_itself t new r.index b there kept, len, judged)

-- a request's context is one that is in use
pub named_used : (t : List SlotHandle) (r : Named) (d : List ℕ) → NamesAt (bytes_at t) r d → r.index < length t
named_used t r d names = index_used t r.index names.context names.there
