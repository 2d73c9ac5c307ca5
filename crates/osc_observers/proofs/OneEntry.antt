-- An address and a token have one entry.
use Rattle.std.proofs.Common.{◌≡◌, ◌≢◌, ◌∙◌, sym, ap, refl, ℕ, List, inl, inr}
use Rattle.std.specs.Prelude.{Option, Some, None}
use Rattle.osc_observers.specs.Laws.{OneEntryEach}
use Rattle.osc_message.specs.Slots.{IsAt, NonePasses, Puts}
use Rattle.osc_observers.specs.Table.{Ended, History, Lawful, Noted, Registered, Replaced, Start, Table, Then, table}
use Rattle.osc_observers.specs.Watching.{Watching, fresh, is_of, noted}
use Rattle.osc_observers.proofs.Listed.{not_of}
use Rattle.osc_message.proofs.Walking.{no_some, none_yet, one_of, puts_at}

abbrev AreApart : Table → Type 0
AreApart t = (i j : ℕ) (x y : Watching) → IsAt t.places i x → IsAt t.places j y → x.from ≡ y.from → x.token ≡ y.token → i ≡ j

-- what is put at a place has no other one beside it
abbrev IsAlone : Table → ℕ → Option Watching → Type 0
IsAlone old place after = (x : Watching) → after ≡ Some x → (j : ℕ) (y : Watching) → IsAt old.places j y → j ≢ place → x.from ≡ y.from → x.token ≡ y.token → ⊥

apart_by : (old new : Table) (place : ℕ) (before after : Option Watching) → Puts old.places new.places place before after → AreApart old → IsAlone old place after → AreApart new
apart_by old new place before after p apart alone i j x y at_i at_j from token = elim (puts_at old.places new.places place i before after (Some x) p at_i) [
  | inl here ↦ elim (puts_at old.places new.places place j before after (Some y) p at_j) [
    | inl there ↦ here.0 ∙ sym there.0
    | inr there ↦ absurd (alone x here.1 j y there.1 there.0 from token)
  ]
  | inr here ↦ elim (puts_at old.places new.places place j before after (Some y) p at_j) [
    | inl there ↦ absurd (alone y there.1 i x here.1 here.0 (sym from) (sym token))
    | inr there ↦ apart i j x y here.1 there.1 from token
  ]
]

alone_registered : (old : Table) (place number : ℕ) (from token : List ℕ) (now : ℕ) → NonePasses (is_of from token) old.places → IsAlone old place (Some (fresh number from token now))
alone_registered old place number from token now none x e j y there other of_from of_token =
    let it = one_of (fresh number from token now) x e in
    not_of from token y (none j y there) (sym of_from ∙ ap (λ (w : Watching). w.from) (sym it)) (sym of_token ∙ ap (λ (w : Watching). w.token) (sym it))

alone_there : (old : Table) (place : ℕ) (x z : Watching) → IsAt old.places place x → AreApart old → x.from ≡ z.from → x.token ≡ z.token → IsAlone old place (Some z)
alone_there old place x z here apart from token w e j y there other of_from of_token =
    let it = one_of z w e in
    other (sym (apart place j x y here there (from ∙ (ap (λ (v : Watching). v.from) it ∙ of_from)) (token ∙ (ap (λ (v : Watching). v.token) it ∙ of_token))))

alone_none : (old : Table) (place : ℕ) → IsAlone old place None
alone_none old place x e j y there other from token = no_some x e

noted_from : (x : Watching) (message_id : ℕ) (call : Option ℕ) (now : ℕ) → x.from ≡ (noted x message_id call now).from
noted_from x message_id None now = refl
noted_from x message_id (Some call) now = refl

noted_token : (x : Watching) (message_id : ℕ) (call : Option ℕ) (now : ℕ) → x.token ≡ (noted x message_id call now).token
noted_token x message_id None now = refl
noted_token x message_id (Some call) now = refl

are_apart : (h : History) → Lawful h → AreApart (table h)
are_apart (Start k) l = λ i j x y at_i at_j from token. absurd (none_yet k i x at_i)
are_apart (Then h (Registered place number from token now) t) l =
    apart_by (table h) t place None (Some (fresh number from token now)) l.1.0.puts (are_apart h l.0) (alone_registered (table h) place number from token now l.1.1)
are_apart (Then h (Replaced place y number now) t) l =
    apart_by (table h) t place (Some y) (Some (fresh number y.from y.token now)) l.1.puts (are_apart h l.0)
    (alone_there (table h) place y (fresh number y.from y.token now) l.1.puts.there (are_apart h l.0) refl refl)
are_apart (Then h (Noted place x message_id call now) t) l =
    apart_by (table h) t place (Some x) (Some (noted x message_id call now)) l.1.puts (are_apart h l.0)
    (alone_there (table h) place x (noted x message_id call now) l.1.puts.there (are_apart h l.0) (noted_from x message_id call now) (noted_token x message_id call now))
are_apart (Then h (Ended place x why) t) l =
    apart_by (table h) t place (Some x) None l.1.0.puts (are_apart h l.0) (alone_none (table h) place)

pub one_entry : OneEntryEach
one_entry h i j x y l = are_apart h l i j x y
