-- Each call is on its way or has ended, once.
use Rattle.std.proofs.Common.{List, zero, suc, ◌≡◌, ◌∙◌, sym, ap, refl, arith, ℕ, ◌+◌, ◌-◌, ◌<◌, if◌then◌else◌}
use Rattle.std.specs.Prelude.{Option, Some, None, set, cond, nat_lt, nat_eq, replicate, slice_get}
use Rattle.std.specs.List.{count_by, sum_by}
use Rattle.std.proofs.lemmas.Bool.Decides.{nat_tests}
use Rattle.std.proofs.lemmas.List.Sums.{sum_by-cons, sum_by-set}
use Rattle.std.proofs.lemmas.Option.{slice_get_within, get_or_from_slice_get}
use Rattle.osc_message.specs.Slots.{Puts, holds}
use Rattle.osc_message.specs.Sending.{Sending, step, again, stopped}
use Rattle.osc_message.specs.declared.exchange.Step.TheVariants.{Rest}
use Rattle.osc_message.specs.Table.{Begun, Stopped, Resent, Ended, Start, Then, table, ended}
use Rattle.osc_message.specs.Laws.{EndsOnce, RestIsYoung}

young : (x : Sending) (now : ℕ) → step x now ≡ Rest → now - x.begun < 93000
young x now e = grind (arith, nat_tests, e)

pub rest_is_young : RestIsYoung
rest_is_young places now i x h there = young x now (h i x there)

-- how many messages of this call a place has
abbrev is_of : ℕ → Option Sending → ℕ
is_of n o = cond (holds (λ x. nat_eq x.call n) o) 1 0

-- how many are counted for a call: one if it was made
abbrev made : ℕ → ℕ → ℕ
made n next = if nat_lt n next then 1 else 0

none_of : (n k : ℕ) → sum_by (is_of n) (replicate k None) ≡ 0
none_of n zero = refl
none_of n (suc k) =
    let rest = none_of n k in
    let one = sum_by-cons (is_of n) None (replicate k None) in
    omega (arith, one, rest)

start_counts : (n : ℕ) → 0 ≡ made n 0
start_counts n = grind (arith, nat_tests)

-- what a place has in place of what it had
pub put_sums : {A : Type 0} → (f : A → ℕ) (old new : List A) (place : ℕ) (before after : A) → slice_get old place ≡ Some before → new ≡ set old place after
    → sum_by f new + f before ≡ sum_by f old + f after
put_sums f old new place before after there is =
    let less = slice_get_within old place before there in
    let put = sum_by-set f old place after before less in
    let it = ap f (get_or_from_slice_get old place before before there) in
    let now = ap (sum_by f) is in
    omega (arith, put, it, now)

put_counts : (old new : List (Option Sending)) (place n : ℕ) (before after : Option Sending) → Puts old new place before after
    → sum_by (is_of n) new + is_of n before ≡ sum_by (is_of n) old + is_of n after
put_counts old new place n before after p = put_sums (is_of n) old new place before after p.there p.put

begun_counts : (was is e next n call : ℕ) → was + e ≡ made n next → call ≡ next → is + 0 ≡ was + cond (nat_eq call n) 1 0 → is + e ≡ made n (next + 1)
begun_counts was is e next n call h same put = grind (arith, nat_tests, h, same, put)

ended_counts : (was is e m k : ℕ) → was + e ≡ m → is + k ≡ was + 0 → is + (k + e) ≡ m
ended_counts was is e m k h put = omega (arith, h, put)

moved_counts : (was is e m j k : ℕ) → was + e ≡ m → j ≡ k → is + j ≡ was + k → is + e ≡ m
moved_counts was is e m j k h same put = omega (arith, h, same, put)

pub once : EndsOnce
once (Start k) n l = ap (λ (s : ℕ). s + 0) (none_of n k) ∙ start_counts n
once (Then h (Begun place x) t) n l =
    begun_counts _ _ (count_by (λ m. nat_eq m n) (ended h)) (table h).next_call n x.call (once h n l.0) l.1.number (put_counts (table h).places t.places place n None (Some x) l.1.puts)
    ∙ ap (made n) (sym l.1.next)
once (Then h (Stopped place x) t) n l =
    moved_counts _ _ (count_by (λ m. nat_eq m n) (ended h)) _ _ _ (once h n l.0) refl (put_counts (table h).places t.places place n (Some x) (Some (stopped x)) l.1.puts) ∙ ap (made n) (sym l.1.next)
once (Then h (Resent place x now) t) n l =
    moved_counts _ _ (count_by (λ m. nat_eq m n) (ended h)) _ _ _ (once h n l.0) refl (put_counts (table h).places t.places place n (Some x) (Some (again x now)) l.1.0.puts) ∙ ap (made n) (sym l.1.0.next)
once (Then h (Ended place x why) t) n l =
    ap (λ (k : ℕ). count_by (λ o. holds (λ y. nat_eq y.call n) o) t.places + k) (sum_by-cons (λ m. cond (nat_eq m n) 1 0) x.call (ended h))
    ∙ ended_counts _ _ (count_by (λ m. nat_eq m n) (ended h)) _ _ (once h n l.0) (put_counts (table h).places t.places place n (Some x) None l.1.0.puts)
    ∙ ap (made n) (sym l.1.0.next)
