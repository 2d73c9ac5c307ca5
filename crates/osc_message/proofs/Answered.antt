-- A message that came is answered once, and acknowledged by itself once.
use Rattle.std.proofs.Common.{zero, suc, ◌≡◌, refl, arith, ℕ, ◌+◌, ◌≤◌, Bool, true, false, Some, if◌then◌else◌}
use Rattle.std.specs.Prelude.{Option, None, ◌&&◌, cond, nat_eq, nat_lt, not, replicate}
use Rattle.std.specs.List.{count_by, sum_by}
use Rattle.std.proofs.lemmas.Bool.Decides.{nat_tests}
use Rattle.std.proofs.lemmas.List.Sums.{sum_by-cons}
use Rattle.osc_message.specs.declared.arrival.Stage.{Stage}
use Rattle.osc_message.specs.declared.arrival.Stage.TheVariants.{Waiting, Acknowledged, Answered, Done}
use Rattle.osc_message.specs.Arriving.{Acked, History, IsUnused, Lawful, Noted, Replied, Start, Then, arrived, late_acks, replies}
use Rattle.osc_message.specs.ArrivingLaws.{AckedOnce, AnsweredOnce}
use Rattle.osc_message.specs.Hearing.{Heard, acknowledged, answered, answered_at, is_done, is_done_at, is_due, is_waiting}
use Rattle.osc_message.specs.Slots.{holds}
use Rattle.osc_message.proofs.Counting.{put_sums}

-- how many are counted for a number: one at most, and none before it was given
abbrev made : ℕ → ℕ → ℕ
made n next = if nat_lt n next then 1 else 0

-- how many messages of this number, which pass, a place has
abbrev counted : (Stage → Bool) → ℕ → Option Heard → ℕ
counted passes n o = cond (holds (λ x. nat_eq x.number n && passes x.stage) o) 1 0

abbrev is_open : Stage → Bool
is_open stage = not (is_done_at stage)

none_of : (passes : Stage → Bool) (n k : ℕ) → sum_by (counted passes n) (replicate k None) ≡ 0
none_of passes n zero = refl
none_of passes n (suc k) =
    let rest = none_of passes n k in
    let one = sum_by-cons (counted passes n) None (replicate k None) in
    omega (arith, one, rest)

start : (s n : ℕ) → s ≡ 0 → s + 0 ≤ made n 0
start s n e = omega (arith, e)

-- ---- answers

-- nothing more is to be sent for what can be replaced
none_open : (n : ℕ) (o : Option Heard) → IsUnused o → counted is_open n o ≡ 0
none_open n None u = refl
none_open n (Some x) u = grind (arith, u)

new_counts : (was is e n next number : ℕ) (b : Bool) → was + e ≤ made n next → number ≡ next → is + 0 ≡ was + cond (nat_eq number n && b) 1 0 → is + e ≤ made n (next + 1)
new_counts was is e n next number b h same put = grind (arith, nat_tests, h, same, put)

noted : (was is e n next number drop : ℕ) (b : Bool) → was + e ≤ made n next → number ≡ next → drop ≡ 0 → is + drop ≡ was + cond (nat_eq number n && b) 1 0 → is + e ≤ made n (next + 1)
noted was is e n next number drop b h same none put = new_counts was is e n next number b h same (omega (arith, none, put))

stays_open : (n : ℕ) (x : Heard) (now : ℕ) → is_due now x ≡ true → counted is_open n (Some (acknowledged x)) ≡ counted is_open n (Some x)
stays_open n x now due = grind (arith, due)

closed : (stage : Stage) (confirmable : Bool) → is_done_at (answered_at stage confirmable) ≡ true
closed Waiting true = refl
closed Waiting false = refl
closed Acknowledged confirmable = refl
closed Answered confirmable = refl
closed Done confirmable = refl

none_left : (n : ℕ) (x : Heard) → counted is_open n (Some (answered x)) ≡ 0
none_left n x = let done = closed x.stage x.confirmable in grind (arith, done)

one_left : (n : ℕ) (x : Heard) → is_done x ≡ false → counted is_open n (Some x) ≡ cond (nat_eq x.number n) 1 0
one_left n x still = grind (arith, still)

same_counts : (was is e m j k : ℕ) → was + e ≤ m → j ≡ k → is + k ≡ was + j → is + e ≤ m
same_counts was is e m j k h same put = omega (arith, h, same, put)

moved_counts : (was is e m j k l : ℕ) → was + e ≤ m → k ≡ 0 → l ≡ j → is + l ≡ was + k → is + (j + e) ≤ m
moved_counts was is e m j k l h none one put = omega (arith, h, none, one, put)

at_most : (s e m next n : ℕ) → s + e ≤ m → m ≡ made n next → e ≤ 1
at_most s e m next n h is = grind (arith, nat_tests, h, is)

made_by : (s m n next after : ℕ) → s ≤ made n next → after ≡ next → s ≤ made n after
made_by s m n next after h is = grind (arith, h, is)

answered_by : (h : History) (n : ℕ) → Lawful h → sum_by (counted is_open n) (arrived h).places + count_by (λ m. nat_eq m n) (replies h) ≤ made n (arrived h).next_number
answered_by (Start k) n l = start _ n (none_of is_open n k)
answered_by (Then h (Noted place before x) t) n l =
    let it = l.1 in
    let put = put_sums (counted is_open n) (arrived h).places t.places place before (Some x) it.puts.there it.puts.put in
    made_by _ 0 n _ _ (noted _ _ (count_by (λ m. nat_eq m n) (replies h)) n (arrived h).next_number x.number _ (is_open x.stage) (answered_by h n l.0) it.number (none_open n before it.unused) put) it.next
answered_by (Then h (Acked place x now) t) n l =
    let it = l.1.0 in
    let put = put_sums (counted is_open n) (arrived h).places t.places place (Some x) (Some (acknowledged x)) it.puts.there it.puts.put in
    made_by _ 0 n _ _ (same_counts _ _ (count_by (λ m. nat_eq m n) (replies h)) _ _ _ (answered_by h n l.0) (stays_open n x now l.1.1) put) it.next
answered_by (Then h (Replied place x) t) n l =
    let it = l.1.0 in
    let put = put_sums (counted is_open n) (arrived h).places t.places place (Some x) (Some (answered x)) it.puts.there it.puts.put in
    let cons = sum_by-cons (λ m. cond (nat_eq m n) 1 0) x.number (replies h) in
    let fits = moved_counts _ _ (count_by (λ m. nat_eq m n) (replies h)) _ (cond (nat_eq x.number n) 1 0) _ _ (answered_by h n l.0) (none_left n x) (one_left n x l.1.1) put in
    made_by _ 0 n _ _ (omega (arith, fits, cons)) it.next

pub answered_once : AnsweredOnce
answered_once h n l = at_most _ _ _ (arrived h).next_number n (answered_by h n l) refl

-- ---- ACKs that go out by themselves

nothing_waits : (n : ℕ) (o : Option Heard) → IsUnused o → counted is_waiting n o ≡ 0
nothing_waits n None u = refl
nothing_waits n (Some x) u = by_stage x.stage u where
  by_stage : (stage : Stage) → is_done_at stage ≡ true → ◌≡◌ {A = ℕ} (cond (nat_eq x.number n && is_waiting stage) 1 0) 0
  by_stage Waiting e = absurd (grind (arith, e))
  by_stage Acknowledged e = grind arith
  by_stage Answered e = grind arith
  by_stage Done e = grind arith

waits_no_more : (n : ℕ) (x : Heard) → counted is_waiting n (Some (acknowledged x)) ≡ 0
waits_no_more n x = grind arith

one_waited : (n now : ℕ) (x : Heard) → is_due now x ≡ true → counted is_waiting n (Some x) ≡ cond (nat_eq x.number n) 1 0
one_waited n now x due = grind (arith, due)

waits_not : (stage : Stage) (confirmable : Bool) → is_waiting (answered_at stage confirmable) ≡ false
waits_not Waiting true = refl
waits_not Waiting false = refl
waits_not Acknowledged confirmable = refl
waits_not Answered confirmable = refl
waits_not Done confirmable = refl

none_waits : (n : ℕ) (x : Heard) → counted is_waiting n (Some (answered x)) ≡ 0
none_waits n x = let not_so = waits_not x.stage x.confirmable in grind (arith, not_so)

fewer_counts : (was is e m j k : ℕ) → was + e ≤ m → k ≡ 0 → is + j ≡ was + k → is + e ≤ m
fewer_counts was is e m j k h none put = omega (arith, h, none, put)

acked_by : (h : History) (n : ℕ) → Lawful h → sum_by (counted is_waiting n) (arrived h).places + count_by (λ m. nat_eq m n) (late_acks h) ≤ made n (arrived h).next_number
acked_by (Start k) n l = start _ n (none_of is_waiting n k)
acked_by (Then h (Noted place before x) t) n l =
    let it = l.1 in
    let put = put_sums (counted is_waiting n) (arrived h).places t.places place before (Some x) it.puts.there it.puts.put in
    made_by _ 0 n _ _ (noted _ _ (count_by (λ m. nat_eq m n) (late_acks h)) n (arrived h).next_number x.number _ (is_waiting x.stage) (acked_by h n l.0) it.number (nothing_waits n before it.unused) put) it.next
acked_by (Then h (Acked place x now) t) n l =
    let it = l.1.0 in
    let put = put_sums (counted is_waiting n) (arrived h).places t.places place (Some x) (Some (acknowledged x)) it.puts.there it.puts.put in
    let cons = sum_by-cons (λ m. cond (nat_eq m n) 1 0) x.number (late_acks h) in
    let fits = moved_counts _ _ (count_by (λ m. nat_eq m n) (late_acks h)) _ (cond (nat_eq x.number n) 1 0) _ _ (acked_by h n l.0) (waits_no_more n x) (one_waited n now x l.1.1) put in
    made_by _ 0 n _ _ (omega (arith, fits, cons)) it.next
acked_by (Then h (Replied place x) t) n l =
    let it = l.1.0 in
    let put = put_sums (counted is_waiting n) (arrived h).places t.places place (Some x) (Some (answered x)) it.puts.there it.puts.put in
    made_by _ 0 n _ _ (fewer_counts _ _ (count_by (λ m. nat_eq m n) (late_acks h)) _ _ _ (acked_by h n l.0) (none_waits n x) put) it.next

pub acked_once : AckedOnce
acked_once h n l = at_most _ _ _ (arrived h).next_number n (acked_by h n l) refl
