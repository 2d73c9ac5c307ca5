-- What holds of the messages of a table, over every history.
use Rattle.std.proofs.Common.{◌≡◌, ◌≢◌, ◌∙◌, sym, ap, refl, arith, ℕ, ◌+◌, ◌≤◌, false, inl, inr}
use Rattle.std.specs.Prelude.{Option, Some, None, slice_get}
use Rattle.osc_message.specs.Sending.{Sending, again, stopped}
use Rattle.osc_message.specs.Slots.{Puts}
use Rattle.osc_message.specs.Table.{Table, History, Lawful, IsIdle, Begun, Stopped, Resent, Ended, Start, Then, table}
use Rattle.osc_message.specs.Laws.{AtMostFourEach, OneToAPeer}
use Rattle.osc_message.proofs.Walking.{no_some, none_yet, one_of, puts_at}
use Rattle.osc_message.proofs.Times.{resends_early}

-- ---- how often each was sent again

abbrev AreFew : Table → Type 0
AreFew t = (i : ℕ) (x : Sending) → slice_get t.places i ≡ Some (Some x) → x.resent ≤ 4

few_by : (old new : Table) (place : ℕ) (before after : Option Sending) → Puts old.places new.places place before after → AreFew old
    → ((x : Sending) → after ≡ Some x → x.resent ≤ 4) → AreFew new
few_by old new place before after p few put i x there = elim (puts_at old.places new.places place i before after (Some x) p there) [
  | inl it ↦ put x it.1
  | inr it ↦ few i x it.1
]

few_as : (n : ℕ) (x y : Sending) → Some x ≡ Some y → x.resent ≡ n → n ≤ 4 → y.resent ≤ 4
few_as n x y e is few = let same = ap (λ (z : Sending). z.resent) (one_of x y e) in omega (arith, same, is, few)

few : (h : History) → Lawful h → AreFew (table h)
few (Start k) l = λ i x there. absurd (none_yet k i x there)
few (Then h (Begun place x) t) l =
    few_by (table h) t place None (Some x) l.1.puts (few h l.0) (λ y e. few_as 0 x y e l.1.unsent (omega arith))
few (Then h (Stopped place x) t) l =
    few_by (table h) t place (Some x) (Some (stopped x)) l.1.puts (few h l.0)
    (λ y e. few_as x.resent (stopped x) y e refl (few h l.0 place x l.1.puts.there))
few (Then h (Resent place x now) t) l =
    let less = (resends_early x now l.1.1).0 in
    few_by (table h) t place (Some x) (Some (again x now)) l.1.0.puts (few h l.0) (λ y e. few_as (x.resent + 1) (again x now) y e refl (omega (arith, less)))
few (Then h (Ended place x why) t) l =
    few_by (table h) t place (Some x) None l.1.0.puts (few h l.0) (λ y e. absurd (no_some y e))

pub at_most_four_each : AtMostFourEach
at_most_four_each h i x l there = few h l i x there

-- ---- one without its ACK to an address

abbrev IsOne : Table → Type 0
IsOne t = (i j : ℕ) (x y : Sending) → slice_get t.places i ≡ Some (Some x) → slice_get t.places j ≡ Some (Some y)
    → x.acked ≡ false → y.acked ≡ false → x.to ≡ y.to → i ≡ j

-- what is put at a place has no other one beside it
abbrev IsAlone : Table → ℕ → Option Sending → Type 0
IsAlone old place after = (x : Sending) → after ≡ Some x → x.acked ≡ false → (j : ℕ) (y : Sending) → slice_get old.places j ≡ Some (Some y) → j ≢ place
    → y.acked ≡ false → x.to ≡ y.to → ⊥

one_by : (old new : Table) (place : ℕ) (before after : Option Sending) → Puts old.places new.places place before after → IsOne old → IsAlone old place after → IsOne new
one_by old new place before after p one alone i j x y at_i at_j acked_x acked_y to = elim (puts_at old.places new.places place i before after (Some x) p at_i) [
  | inl here ↦ elim (puts_at old.places new.places place j before after (Some y) p at_j) [
    | inl there ↦ here.0 ∙ sym there.0
    | inr there ↦ absurd (alone x here.1 acked_x j y there.1 there.0 acked_y to)
  ]
  | inr here ↦ elim (puts_at old.places new.places place j before after (Some y) p at_j) [
    | inl there ↦ absurd (alone y there.1 acked_y i x here.1 here.0 acked_x (sym to))
    | inr there ↦ one i j x y here.1 there.1 acked_x acked_y to
  ]
]

alone_begun : (old : Table) (place : ℕ) (x : Sending) → IsIdle old x.to → IsAlone old place (Some x)
alone_begun old place x idle y e acked j z there other unacked to =
    let same = one_of x y e in
    let yes = idle j z there (sym to ∙ ap (λ (w : Sending). w.to) (sym same)) in
    grind (arith, yes, unacked)

alone_moved : (old : Table) (place : ℕ) (x y : Sending) → slice_get old.places place ≡ Some (Some x) → IsOne old → y.to ≡ x.to → (y.acked ≡ false → x.acked ≡ false)
    → IsAlone old place (Some y)
alone_moved old place x y here one to acked z e unacked j w there other others same =
    let it = one_of y z e in
    let mine = acked (ap (λ (v : Sending). v.acked) it ∙ unacked) in
    other (sym (one place j x w here there mine others (sym to ∙ (ap (λ (v : Sending). v.to) it ∙ same))))

alone_none : (old : Table) (place : ℕ) → IsAlone old place None
alone_none old place x e acked j y there other unacked to = no_some x e

is_one : (h : History) → Lawful h → IsOne (table h)
is_one (Start k) l = λ i j x y at_i at_j acked_x acked_y to. absurd (none_yet k i x at_i)
is_one (Then h (Begun place x) t) l =
    one_by (table h) t place None (Some x) l.1.puts (is_one h l.0) (alone_begun (table h) place x l.1.idle)
is_one (Then h (Stopped place x) t) l =
    one_by (table h) t place (Some x) (Some (stopped x)) l.1.puts (is_one h l.0)
    (alone_moved (table h) place x (stopped x) l.1.puts.there (is_one h l.0) refl (λ no. absurd (let it = no in grind (arith, it))))
is_one (Then h (Resent place x now) t) l =
    one_by (table h) t place (Some x) (Some (again x now)) l.1.0.puts (is_one h l.0)
    (alone_moved (table h) place x (again x now) l.1.0.puts.there (is_one h l.0) refl (λ no. no))
is_one (Then h (Ended place x why) t) l =
    one_by (table h) t place (Some x) None l.1.0.puts (is_one h l.0) (alone_none (table h) place)

pub one_to_a_peer : OneToAPeer
one_to_a_peer h i j x y l = is_one h l i j x y
