-- Each observer is listed or has ended, once.
use Rattle.std.proofs.Common.{List, ◌∷◌, zero, suc, ◌≡◌, ◌∙◌, inl, inr, sym, ap, refl, arith, ℕ, ◌+◌, ◌≤◌, if◌then◌else◌}
use Rattle.std.specs.Prelude.{Option, Some, None, cond, nat_lt, nat_eq, replicate}
use Rattle.std.specs.List.{count_by, sum_by}
use Rattle.std.proofs.lemmas.Bool.Decides.{nat_tests}
use Rattle.std.proofs.lemmas.List.Sums.{get_or-le-sum_by, sum_by-cons, sum_by-set}
use Rattle.std.proofs.lemmas.Option.{slice_get_within, get_or_from_slice_get}
use Rattle.osc_observers.specs.Laws.{EndsOnce, HasEnded, IsGone, NoneNotedAfter}
use Rattle.osc_message.specs.Slots.{IsAt, Puts, holds}
use Rattle.osc_observers.specs.Table.{Ended, History, Noted, Registered, Replaced, Start, Then, ended, table}
use Rattle.osc_observers.specs.Watching.{Watching, fresh, noted}

-- how many observers of this number a place has
abbrev is_one_of : ℕ → Option Watching → ℕ
is_one_of n o = cond (holds (λ x. nat_eq x.number n) o) 1 0

-- how many are counted for a number: one if it was given
abbrev made : ℕ → ℕ → ℕ
made n next = if nat_lt n next then 1 else 0

none_of : (n k : ℕ) → sum_by (is_one_of n) (replicate k None) ≡ 0
none_of n zero = refl
none_of n (suc k) =
    let rest = none_of n k in
    let one = sum_by-cons (is_one_of n) None (replicate k None) in
    omega (arith, one, rest)

start_counts : (n : ℕ) → 0 ≡ made n 0
start_counts n = grind (arith, nat_tests)

-- what a place has in place of what it had
put_counts : (old new : List (Option Watching)) (place n : ℕ) (before after : Option Watching) → Puts old new place before after
    → sum_by (is_one_of n) new + is_one_of n before ≡ sum_by (is_one_of n) old + is_one_of n after
put_counts old new place n before after p =
    let less = slice_get_within old place before p.there in
    let put = sum_by-set (is_one_of n) old place after before less in
    let it = ap (is_one_of n) (get_or_from_slice_get old place before before p.there) in
    let now = ap (sum_by (is_one_of n)) p.put in
    omega (arith, put, it, now)

registered_counts : (was is e next n number : ℕ) → was + e ≡ made n next → number ≡ next → is + 0 ≡ was + cond (nat_eq number n) 1 0 → is + e ≡ made n (next + 1)
registered_counts was is e next n number h same put = grind (arith, nat_tests, h, same, put)

replaced_counts : (was is e next n number k : ℕ) → was + e ≡ made n next → number ≡ next → is + k ≡ was + cond (nat_eq number n) 1 0 → is + (k + e) ≡ made n (next + 1)
replaced_counts was is e next n number k h same put = grind (arith, nat_tests, h, same, put)

ended_counts : (was is e m k : ℕ) → was + e ≡ m → is + k ≡ was + 0 → is + (k + e) ≡ m
ended_counts was is e m k h put = omega (arith, h, put)

stayed_counts : (was is e m j k : ℕ) → was + e ≡ m → j ≡ k → is + j ≡ was + k → is + e ≡ m
stayed_counts was is e m j k h same put = omega (arith, h, same, put)

pub noted_number : (x : Watching) (message_id : ℕ) (call : Option ℕ) (now : ℕ) → (noted x message_id call now).number ≡ x.number
noted_number x message_id None now = refl
noted_number x message_id (Some call) now = refl

pub once : EndsOnce
once (Start k) n l = ap (λ (s : ℕ). s + 0) (none_of n k) ∙ start_counts n
once (Then h (Registered place number from token now) t) n l =
    registered_counts _ _ (count_by (λ m. nat_eq m n) (ended h)) (table h).next_number n number (once h n l.0) l.1.0.number
    (put_counts (table h).places t.places place n None (Some (fresh number from token now)) l.1.0.puts)
    ∙ ap (made n) (sym l.1.0.next)
once (Then h (Replaced place y number now) t) n l =
    ap (λ (k : ℕ). count_by (λ o. holds (λ x. nat_eq x.number n) o) t.places + k) (sum_by-cons (λ m. cond (nat_eq m n) 1 0) y.number (ended h))
    ∙ replaced_counts _ _ (count_by (λ m. nat_eq m n) (ended h)) (table h).next_number n number _ (once h n l.0) l.1.number
    (put_counts (table h).places t.places place n (Some y) (Some (fresh number y.from y.token now)) l.1.puts)
    ∙ ap (made n) (sym l.1.next)
once (Then h (Noted place x message_id call now) t) n l =
    let same = ap (λ (m : ℕ). cond (nat_eq m n) 1 0) (sym (noted_number x message_id call now)) in
    stayed_counts _ _ (count_by (λ m. nat_eq m n) (ended h)) _ _ _ (once h n l.0) same
    (put_counts (table h).places t.places place n (Some x) (Some (noted x message_id call now)) l.1.puts)
    ∙ ap (made n) (sym l.1.next)
once (Then h (Ended place x why) t) n l =
    ap (λ (k : ℕ). count_by (λ o. holds (λ y. nat_eq y.number n) o) t.places + k) (sum_by-cons (λ m. cond (nat_eq m n) 1 0) x.number (ended h))
    ∙ ended_counts _ _ (count_by (λ m. nat_eq m n) (ended h)) _ _ (once h n l.0) (put_counts (table h).places t.places place n (Some x) None l.1.0.puts)
    ∙ ap (made n) (sym l.1.0.next)

-- ---- what has ended is gone

one_more : (n m : ℕ) (ms : List ℕ) → m ≡ n → 1 ≤ count_by (λ k. nat_eq k n) (m ∷ ms)
one_more n m ms e = let cons = sum_by-cons (λ k. cond (nat_eq k n) 1 0) m ms in grind (arith, nat_tests, cons, e)

still_more : (n m : ℕ) (ms : List ℕ) → 1 ≤ count_by (λ k. nat_eq k n) ms → 1 ≤ count_by (λ k. nat_eq k n) (m ∷ ms)
still_more n m ms more = let cons = sum_by-cons (λ k. cond (nat_eq k n) 1 0) m ms in omega (arith, cons, more)

ended_once : (h : History) (n : ℕ) → HasEnded h n → 1 ≤ count_by (λ m. nat_eq m n) (ended h)
ended_once (Start k) n e = absurd e
ended_once (Then h (Registered place number from token now) t) n e = ended_once h n e
ended_once (Then h (Replaced place y number now) t) n (inl e) = one_more n y.number (ended h) e
ended_once (Then h (Replaced place y number now) t) n (inr e) = still_more n y.number (ended h) (ended_once h n e)
ended_once (Then h (Noted place x message_id call now) t) n e = ended_once h n e
ended_once (Then h (Ended place x why) t) n (inl e) = one_more n x.number (ended h) e
ended_once (Then h (Ended place x why) t) n (inr e) = still_more n x.number (ended h) (ended_once h n e)

-- what is at a place is counted
listed_once : (places : List (Option Watching)) (i : ℕ) (x : Watching) → IsAt places i x → 1 ≤ count_by (λ o. holds (λ y. nat_eq y.number x.number) o) places
listed_once places i x there =
    let within = slice_get_within places i (Some x) there in
    let read = ap (is_one_of x.number) (get_or_from_slice_get places i (Some x) (Some x) there) in
    let less = get_or-le-sum_by (is_one_of x.number) places i (Some x) within in
    let one : is_one_of x.number (Some x) ≡ 1 = grind (arith, nat_tests) in
    omega (arith, read, less, one)

two : (a b n next : ℕ) → 1 ≤ a → 1 ≤ b → a + b ≡ made n next → ⊥
two a b n next some more e = absurd (grind (arith, nat_tests, some, more, e))

pub is_gone : IsGone
is_gone h i x l there e = two _ _ x.number (table h).next_number (listed_once (table h).places i x there) (ended_once h x.number e) (once h x.number l)

pub none_noted : NoneNotedAfter
none_noted (Start k) l = tt
none_noted (Then h (Registered place number from token now) t) l = none_noted h l.0
none_noted (Then h (Replaced place y number now) t) l = none_noted h l.0
none_noted (Then h (Noted place x message_id call now) t) l = (none_noted h l.0, λ e. is_gone h place x l.0 l.1.puts.there e)
none_noted (Then h (Ended place x why) t) l = none_noted h l.0
