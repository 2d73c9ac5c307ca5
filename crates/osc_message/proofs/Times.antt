-- What is done about one message over a list of moments.
use Rattle.std.proofs.Common.{sym, add-one, inl, inr, ◌≡◌, ◌∙◌, ap, subst, refl, arith, length, ℕ, ◌+◌, ◌-◌, ◌*◌, ◌^◌, ◌≤◌, ◌<◌, List, [], ◌∷◌, Bool, true, false}
use Rattle.std.proofs.lemmas.Bool.Decides.{nat_tests}
use Rattle.std.proofs.Math.Nat.{pow-suc}
use Rattle.osc_message.specs.Sending.{Sending, step, again, wait, by_step, resends, is_given_up}
use Rattle.osc_message.specs.declared.exchange.Step.{Step}
use Rattle.osc_message.specs.declared.exchange.Step.TheVariants.{Rest, Resend, GiveUp}
use Rattle.osc_message.specs.Laws.{Punctually, AtMostFour, AtItsTimes, IsGivenUpInTime, AckedRests, AreSpaced, Reaches, IsFirst}

-- what a step says
pub resends_early : (x : Sending) (now : ℕ) → step x now ≡ Resend → (x.resent < 4) × (wait x ≤ now - x.last) × (x.acked ≡ false)
resends_early x now e = (grind (arith, nat_tests, e), grind (arith, nat_tests, e), grind (arith, nat_tests, e))

few_by : (s : Step) (x : Sending) (now : ℕ) (later : List ℕ) → step x now ≡ s → x.resent ≤ 4
    → x.resent + length (resends x later) ≤ 4 → ((x.resent < 4) → x.resent + 1 + length (resends (again x now) later) ≤ 4)
    → x.resent + length (by_step s (resends x later) (now ∷ resends (again x now) later) []) ≤ 4
few_by Rest x now later e h a b = a
few_by Resend x now later e h a b = let r = b (resends_early x now e).0 in omega (arith, r)
few_by GiveUp x now later e h a b = omega (arith, h)

few : (x : Sending) (moments : List ℕ) → x.resent ≤ 4 → x.resent + length (resends x moments) ≤ 4
few x [] h = omega (arith, h)
few x (now ∷ later) h =
    few_by (step x now) x now later refl h (few x later h) (λ less. few (again x now) later (omega (arith, less)))

double : (a b c : ℕ) → c ≡ b * 2 → a * c ≡ 2 * (a * b)
double a b c e = grind (arith, e)

doubled : (x : Sending) (now : ℕ) → wait (again x now) ≡ 2 * wait x
doubled x now = double x.first_wait (2 ^ x.resent) (2 ^ (x.resent + 1)) (ap (λ (k : ℕ). 2 ^ k) (add-one x.resent) ∙ pow-suc 2 x.resent)

spaced_by : (s : Step) (x : Sending) (now : ℕ) (later : List ℕ) → step x now ≡ s
    → AreSpaced x.last (wait x) (resends x later) → AreSpaced now (2 * wait x) (resends (again x now) later)
    → AreSpaced x.last (wait x) (by_step s (resends x later) (now ∷ resends (again x now) later) [])
spaced_by Rest x now later e a b = a
spaced_by Resend x now later e a b = ((resends_early x now e).1, b)
spaced_by GiveUp x now later e a b = tt

spaced : (x : Sending) (moments : List ℕ) → AreSpaced x.last (wait x) (resends x moments)
spaced x [] = tt
spaced x (now ∷ later) =
    spaced_by (step x now) x now later refl (spaced x later)
    (subst (λ (w : ℕ). AreSpaced now w (resends (again x now) later)) (doubled x now) (spaced (again x now) later))

ended_by : (s : Step) (x : Sending) (now : ℕ) (later : List ℕ) → is_given_up x later ≡ true → is_given_up (again x now) later ≡ true
    → by_step s (is_given_up x later) (is_given_up (again x now) later) true ≡ true
ended_by Rest x now later a b = a
ended_by Resend x now later a b = b
ended_by GiveUp x now later a b = refl

late : (x : Sending) (now : ℕ) → x.begun + 93000 ≤ now → step x now ≡ GiveUp
late x now h = grind (arith, nat_tests, h)

ended_at : (s : Step) (a b : Bool) → s ≡ GiveUp → by_step s a b true ≡ true
ended_at Rest a b e = grind (arith, e)
ended_at Resend a b e = grind (arith, e)
ended_at GiveUp a b e = refl

ended : (x : Sending) (moments : List ℕ) → Reaches (x.begun + 93000) moments → is_given_up x moments ≡ true
ended x [] h = absurd h
ended x (now ∷ later) (inl h) = ended_at (step x now) (is_given_up x later) (is_given_up (again x now) later) (late x now h)
ended x (now ∷ later) (inr h) = ended_by (step x now) x now later (ended x later h) (ended (again x now) later h)

acked_by : (s : Step) (rest more : List ℕ) → (s ≡ Resend → ⊥) → rest ≡ [] → by_step s rest more [] ≡ []
acked_by Rest rest more h e = e
acked_by Resend rest more h e = absurd (h refl)
acked_by GiveUp rest more h e = refl

acked_rests : (x : Sending) (moments : List ℕ) → x.acked ≡ true → resends x moments ≡ []
acked_rests x [] h = refl
acked_rests x (now ∷ later) h =
    acked_by (step x now) (resends x later) (now ∷ resends (again x now) later)
    (λ e. let no = (resends_early x now e).2 in grind (arith, h, no)) (acked_rests x later h)

pub at_most_four : AtMostFour
at_most_four x moments f = let h = few x moments (omega (arith, f.resent)) in omega (arith, h, f.resent)

times_one : (a : ℕ) → a * 1 ≡ a
times_one a = omega arith

first_is : (x : Sending) → IsFirst x → wait x ≡ x.first_wait
first_is x f = ap (λ (k : ℕ). x.first_wait * 2 ^ k) f.resent ∙ times_one x.first_wait

pub at_its_times : AtItsTimes
at_its_times x moments f =
    subst (λ (m : ℕ). AreSpaced m x.first_wait (resends x moments)) f.last
    (subst (λ (w : ℕ). AreSpaced x.last w (resends x moments)) (first_is x f) (spaced x moments))

pub is_given_up_in_time : IsGivenUpInTime
is_given_up_in_time = ended

pub acked : AckedRests
acked = acked_rests

-- before the time has come, and before the end, nothing is to be done
pub early : (x : Sending) (now w : ℕ) → now - x.begun < 93000 → w ≡ wait x → now - x.last < w → step x now ≡ Rest
early x now w begun is less = grind (arith, nat_tests, begun, is, less)

resend_now : (x : Sending) (now w : ℕ) → w ≡ wait x → w ≤ now - x.last → now - x.begun < 93000 → x.acked ≡ false → x.resent < 4 → step x now ≡ Resend
resend_now x now w is over young unacked more = grind (arith, nat_tests, is, over, young, unacked, more)

give_up_now : (x : Sending) (now w : ℕ) → w ≡ wait x → w ≤ now - x.last → x.acked ≡ false → x.resent ≡ 4 → step x now ≡ GiveUp
give_up_now x now w is over unacked all = grind (arith, nat_tests, is, over, unacked, all)

goes : (x : Sending) (now : ℕ) (later : List ℕ) → step x now ≡ Resend → resends x (now ∷ later) ≡ now ∷ resends (again x now) later
goes x now later e = ap (λ (s : Step). by_step s (resends x later) (now ∷ resends (again x now) later) []) e

goes_on : (x : Sending) (now : ℕ) (later : List ℕ) → step x now ≡ Resend → is_given_up x (now ∷ later) ≡ is_given_up (again x now) later
goes_on x now later e = ap (λ (s : Step). by_step s (is_given_up x later) (is_given_up (again x now) later) true) e

-- asked about each time its wait is over
pub punctually : Punctually
punctually x f most least =
    let b = x.begun in
    let w = x.first_wait in
    let x1 = again x (b + w) in
    let x2 = again x1 (b + 3 * w) in
    let x3 = again x2 (b + 7 * w) in
    let x4 = again x3 (b + 15 * w) in
    let w0 : w ≡ wait x = sym (first_is x f) in
    let w1 : 2 * w ≡ wait x1 = ap (λ (n : ℕ). 2 * n) w0 ∙ sym (doubled x (b + w)) in
    let w2 : 2 * (2 * w) ≡ wait x2 = ap (λ (n : ℕ). 2 * n) w1 ∙ sym (doubled x1 (b + 3 * w)) in
    let w3 : 2 * (2 * (2 * w)) ≡ wait x3 = ap (λ (n : ℕ). 2 * n) w2 ∙ sym (doubled x2 (b + 7 * w)) in
    let w4 : 2 * (2 * (2 * (2 * w))) ≡ wait x4 = ap (λ (n : ℕ). 2 * n) w3 ∙ sym (doubled x3 (b + 15 * w)) in
    let l = f.last in
    let r = f.resent in
    let s0 = resend_now x (b + w) w w0 (omega (arith, l)) (omega (arith, most)) f.acked (omega (arith, r)) in
    let s1 = resend_now x1 (b + 3 * w) (2 * w) w1 (omega arith) (omega (arith, most)) f.acked (omega (arith, r)) in
    let s2 = resend_now x2 (b + 7 * w) (2 * (2 * w)) w2 (omega arith) (omega (arith, most)) f.acked (omega (arith, r)) in
    let s3 = resend_now x3 (b + 15 * w) (2 * (2 * (2 * w))) w3 (omega arith) (omega (arith, most)) f.acked (omega (arith, r)) in
    let s4 = give_up_now x4 (b + 31 * w) (2 * (2 * (2 * (2 * w)))) w4 (omega arith) f.acked (omega (arith, r)) in
    let p4 = (b + 31 * w) ∷ [] in
    let p3 = (b + 15 * w) ∷ p4 in
    let p2 = (b + 7 * w) ∷ p3 in
    let p1 = (b + 3 * w) ∷ p2 in (
      goes x (b + w) p1 s0 ∙ ap (λ (m : List ℕ). (b + w) ∷ m) (goes x1 (b + 3 * w) p2 s1 ∙ ap (λ (m : List ℕ). (b + 3 * w) ∷ m)
          (goes x2 (b + 7 * w) p3 s2 ∙ ap (λ (m : List ℕ). (b + 7 * w) ∷ m) (goes x3 (b + 15 * w) p4 s3 ∙ ap (λ (m : List ℕ). (b + 15 * w) ∷ m)
          (ap (λ (s : Step). by_step s [] ((b + 31 * w) ∷ []) []) s4)))),
      goes_on x (b + w) p1 s0 ∙ (goes_on x1 (b + 3 * w) p2 s1 ∙ (goes_on x2 (b + 7 * w) p3 s2 ∙ (goes_on x3 (b + 15 * w) p4 s3
          ∙ ended_at (step x4 (b + 31 * w)) false false s4))),
    )
