-- That a client has one answer to an event.
use Rattle.std.proofs.Common.{◌≡◌, ℕ, sym, ap, subst, refl, arith, Bool, true, false, List, [], bytes_eq, not}
use Rattle.std.specs.Prelude.{◌↔◌, max}
use Rattle.osc_client.specs.Agrees.{TokensDiffer}
use Rattle.osc_laws.specs.AnswerLaws.{ClientAnswerLaws}
use Rattle.osc_client.specs.ClientAnswer.{ClientAnswer, SkipAnswer}
use Rattle.osc_client.specs.ClientHistory.{Advance, Advanced, Asked, Datagram, Deliver, Entry, Event, Forget, Forgot, History, IsSetApart, New, NotSkipped, Notified, Request, Restart, Restarted, Sent, SetApart, Skip, Skipped, Then, Took, asked, clock, context, life_ms, next, pending, pending_at, wait_of, without}
use Rattle.osc_laws.specs.ClientLaws.{AllClientAnswers, OneClientAnswer}
use Rattle.osc_observe.specs.Observing.{place_of}
use Rattle.osc_client.proofs.Asking.{differ_filter, differ_heard, differ_later, ended, heard_alive}
use Rattle.osc_laws.proofs.ClientRequestRows.{one_request_answer}
use Rattle.osc_client.proofs.ClientRequests.{beside_more, differ_beside_more}
use Rattle.osc_laws.proofs.ClientTakeRows.{one_take_answer}

-- without those of a token the others differ
differ_without : (h : History) (moment : ℕ) (token : List ℕ) → TokensDiffer (pending_at h moment) → TokensDiffer (without token (pending_at h moment))
differ_without h moment token d = differ_filter (λ r. not (bytes_eq r.token token)) (pending_at h moment) d

none_differ : TokensDiffer []
none_differ = λ i j d below within. absurd (omega (arith, within))

-- no two pending requests have one token
pub tokens_differ : (n : ℕ) (h : History) → AllClientAnswers n h → TokensDiffer (pending h)
tokens_differ n (New s first ms) a = none_differ
tokens_differ n (Then h (Request now p room) (Sent bytes)) a =
    let before = differ_later h now (tokens_differ n h a.0) in
    let r : Asked = record { token = p.token; number = next h; moment = max (clock h) now; wait = wait_of (context h).features p } in
    let x = (context h).features in
    subst TokensDiffer (sym (beside_more (max (clock h) now) (life_ms h) x p (asked h) r refl)) (differ_beside_more x p (pending_at h (max (clock h) now)) r before a.1.0.0.1)
tokens_differ n (Then h (Request now p room) entry) a = differ_later h now (tokens_differ n h a.0)
tokens_differ n (Then h (Datagram now d) (Took (Notified received number))) a =
    let place = place_of received.number in
    subst TokensDiffer (sym (heard_alive (max (clock h) now) (life_ms h) place received.token (asked h)))
    (differ_heard received.token place (pending_at h (max (clock h) now)) (differ_later h now (tokens_differ n h a.0)))
tokens_differ n (Then h (Datagram now d) (Took (Deliver received number))) a =
    subst TokensDiffer (ended h (max (clock h) now) received.token) (differ_without h (max (clock h) now) received.token (differ_later h now (tokens_differ n h a.0)))
tokens_differ n (Then h (Datagram now d) entry) a = differ_later h now (tokens_differ n h a.0)
tokens_differ n (Then h (Forget token) entry) a =
    subst TokensDiffer (ended h (clock h) token) (differ_without h (clock h) token (tokens_differ n h a.0))
tokens_differ n (Then h (Restart first) entry) a = none_differ
tokens_differ n (Then h (Skip count) entry) a = tokens_differ n h a.0
tokens_differ n (Then h (SetApart places) entry) a = tokens_differ n h a.0
tokens_differ n (Then h (Advance now) entry) a = differ_later h now (tokens_differ n h a.0)

one_test : (x y : Bool) (P : Type 0) → (x ≡ true) ↔ P → (y ≡ true) ↔ P → x ≡ y
one_test true true P a b = refl
one_test true false P a b = sym (b.1 (a.0 refl))
one_test false true P a b = a.1 (b.0 refl)
one_test false false P a b = refl

one_skip : (h : History) (count : ℕ) (x y : Entry) → SkipAnswer h count x → SkipAnswer h count y → x ≡ y
one_skip h count Skipped Skipped row other = refl
one_skip h count NotSkipped NotSkipped row other = refl
one_skip h count Skipped NotSkipped row other = absurd (omega (arith, row, other))
one_skip h count NotSkipped Skipped row other = absurd (omega (arith, row, other))
one_skip h count Skipped y row other = absurd other
one_skip h count NotSkipped y row other = absurd other
one_skip h count x y row other = absurd row

one_answer : ClientAnswerLaws → (n : ℕ) (h : History) (event : Event) (x y : Entry) → TokensDiffer (pending h) → ClientAnswer n h event x → ClientAnswer n h event y → x ≡ y
one_answer laws n h (Request now p room) x y differ row other = one_request_answer laws n h (max (clock h) now) p room x y row other
one_answer laws n h (Datagram now d) (Took x) (Took y) differ row other = ap Took (one_take_answer laws h now d x y differ row other)
one_answer laws n h (Datagram now d) (Took x) y differ row other = absurd other
one_answer laws n h (Datagram now d) x y differ row other = absurd row
one_answer laws n h (Forget token) (Forgot x) (Forgot y) differ row other = ap Forgot (one_test x y _ row other)
one_answer laws n h (Forget token) (Forgot x) y differ row other = absurd other
one_answer laws n h (Forget token) x y differ row other = absurd row
one_answer laws n h (Restart first) Restarted Restarted differ row other = refl
one_answer laws n h (Restart first) Restarted y differ row other = absurd other
one_answer laws n h (Restart first) x y differ row other = absurd row
one_answer laws n h (Skip count) x y differ row other = one_skip h count x y row other
one_answer laws n h (SetApart places) IsSetApart IsSetApart differ row other = refl
one_answer laws n h (SetApart places) IsSetApart y differ row other = absurd other
one_answer laws n h (SetApart places) x y differ row other = absurd row
one_answer laws n h (Advance now) Advanced Advanced differ row other = refl
one_answer laws n h (Advance now) Advanced y differ row other = absurd other
one_answer laws n h (Advance now) x y differ row other = absurd row

pub client_answers_once : ClientAnswerLaws → OneClientAnswer
client_answers_once laws n h event x y all row other = one_answer laws n h event x y (tokens_differ n h all) row other
