-- A NON follows a registration or a CON by less than 24 hours.
use Rattle.std.proofs.Common.{◌≡◌, inl, inr, subst, refl, arith, ℕ, ◌+◌, ◌≤◌, ◌<◌, false}
use Rattle.std.specs.Prelude.{Option, Some, None}
use Rattle.std.proofs.lemmas.Bool.Decides.{nat_tests}
use Rattle.osc_observers.specs.Laws.{IsForward, WasReached, WithinADay, clock}
use Rattle.osc_message.specs.Slots.{IsAt, Puts}
use Rattle.osc_observers.specs.Table.{Ended, History, Lawful, Noted, Registered, Replaced, Start, Table, Then, table}
use Rattle.osc_observers.specs.Watching.{Watching, fresh, needs_con, noted}
use Rattle.osc_message.proofs.Walking.{no_some, none_yet, one_of, puts_at}

-- what is kept of each observer holds of its past
abbrev pub Holds : (Watching → Type 0) → Table → Type 0
Holds P t = (i : ℕ) (x : Watching) → IsAt t.places i x → P x

-- what holds of all, behind a change of one place
held_by : (P Q : Watching → Type 0) (old new : Table) (place : ℕ) (before after : Option Watching) → Puts old.places new.places place before after → Holds P old
    → ((x : Watching) → P x → Q x) → ((x : Watching) → after ≡ Some x → Q x) → Holds Q new
held_by P Q old new place before after p all still put i x there = elim (puts_at old.places new.places place i before after (Some x) p there) [
  | inl it ↦ put x it.1
  | inr it ↦ still x (all i x it.1)
]

put_one : (Q : Watching → Type 0) (z : Watching) → Q z → (x : Watching) → Some z ≡ Some x → Q x
put_one Q z q x e = subst Q (one_of z x e) q

put_none : (Q : Watching → Type 0) (x : Watching) → None ≡ Some x → Q x
put_none Q x e = absurd (no_some x e)

-- ---- its registration or last CON was noted

abbrev Reached : History → Watching → Type 0
Reached h x = WasReached h x.number x.confirmed

reached : (h : History) → Lawful h → Holds (Reached h) (table h)
reached (Start k) l = λ i x there. absurd (none_yet k i x there)
reached (Then h (Registered place number from token now) t) l =
    let Q = Reached (Then h (Registered place number from token now) t) in
    held_by (Reached h) Q (table h) t place None (Some (fresh number from token now)) l.1.0.puts (reached h l.0) (λ x r. inr r)
    (put_one Q (fresh number from token now) (inl (refl, refl)))
reached (Then h (Replaced place y number now) t) l =
    let Q = Reached (Then h (Replaced place y number now) t) in
    held_by (Reached h) Q (table h) t place (Some y) (Some (fresh number y.from y.token now)) l.1.puts (reached h l.0) (λ x r. inr r)
    (put_one Q (fresh number y.from y.token now) (inl (refl, refl)))
reached (Then h (Noted place x message_id None now) t) l =
    let Q = Reached (Then h (Noted place x message_id None now) t) in
    held_by (Reached h) Q (table h) t place (Some x) (Some (noted x message_id None now)) l.1.puts (reached h l.0) (λ y r. r)
    (put_one Q (noted x message_id None now) (reached h l.0 place x l.1.puts.there))
reached (Then h (Noted place x message_id (Some call) now) t) l =
    let Q = Reached (Then h (Noted place x message_id (Some call) now) t) in
    held_by (Reached h) Q (table h) t place (Some x) (Some (noted x message_id (Some call) now)) l.1.puts (reached h l.0) (λ y r. inr r)
    (put_one Q (noted x message_id (Some call) now) (inl (refl, refl)))
reached (Then h (Ended place x why) t) l =
    let Q = Reached (Then h (Ended place x why) t) in
    held_by (Reached h) Q (table h) t place (Some x) None l.1.0.puts (reached h l.0) (λ y r. r) (put_none Q)

-- ---- it isn't later than the clock

abbrev IsPast : ℕ → Watching → Type 0
IsPast now x = x.confirmed ≤ now

later : (a b : ℕ) → a ≤ b → (x : Watching) → IsPast a x → IsPast b x
later a b more x past = omega (arith, more, past)

same_moment : (n : ℕ) → n ≤ n
same_moment n = omega arith

past : (h : History) → Lawful h → IsForward h → Holds (IsPast (clock h)) (table h)
past (Start k) l f = λ i x there. absurd (none_yet k i x there)
past (Then h (Registered place number from token now) t) l f =
    held_by (IsPast (clock h)) (IsPast now) (table h) t place None (Some (fresh number from token now)) l.1.0.puts (past h l.0 f.0) (later (clock h) now f.1)
    (put_one (IsPast now) (fresh number from token now) (same_moment now))
past (Then h (Replaced place y number now) t) l f =
    held_by (IsPast (clock h)) (IsPast now) (table h) t place (Some y) (Some (fresh number y.from y.token now)) l.1.puts (past h l.0 f.0) (later (clock h) now f.1)
    (put_one (IsPast now) (fresh number y.from y.token now) (same_moment now))
past (Then h (Noted place x message_id None now) t) l f =
    held_by (IsPast (clock h)) (IsPast now) (table h) t place (Some x) (Some (noted x message_id None now)) l.1.puts (past h l.0 f.0) (later (clock h) now f.1)
    (put_one (IsPast now) (noted x message_id None now) (later (clock h) now f.1 x (past h l.0 f.0 place x l.1.puts.there)))
past (Then h (Noted place x message_id (Some call) now) t) l f =
    held_by (IsPast (clock h)) (IsPast now) (table h) t place (Some x) (Some (noted x message_id (Some call) now)) l.1.puts (past h l.0 f.0) (later (clock h) now f.1)
    (put_one (IsPast now) (noted x message_id (Some call) now) (same_moment now))
past (Then h (Ended place x why) t) l f =
    held_by (IsPast (clock h)) (IsPast (clock h)) (table h) t place (Some x) None l.1.0.puts (past h l.0 f.0) (λ y r. r) (put_none (IsPast (clock h)))

soon : (x : Watching) (now : ℕ) → needs_con now x ≡ false → now < x.confirmed + 86400000
soon x now e = grind (arith, nat_tests, e)

pub within_a_day : WithinADay
within_a_day (Start k) l f a = tt
within_a_day (Then h (Registered place number from token now) t) l f a = within_a_day h l.0 f.0 a
within_a_day (Then h (Replaced place y number now) t) l f a = within_a_day h l.0 f.0 a
within_a_day (Then h (Noted place x message_id None now) t) l f a =
    let there = l.1.puts.there in (
      within_a_day h l.0 f.0 a.0,
      (x.confirmed, reached h l.0 place x there, later (clock h) now f.1 x (past h l.0 f.0 place x there), soon x now a.1),
    )
within_a_day (Then h (Noted place x message_id (Some call) now) t) l f a = within_a_day h l.0 f.0 a
within_a_day (Then h (Ended place x why) t) l f a = within_a_day h l.0 f.0 a
