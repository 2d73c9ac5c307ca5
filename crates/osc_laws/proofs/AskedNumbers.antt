-- What a client asked stays as it was asked: each request keeps its number and its token, and whether it observes. P is a fact about these three, h a history.
use Rattle.std.proofs.Common.{◌≡◌, ℕ, ◌+◌, ◌<◌, ◌≤◌, sym, subst, refl, arith, Bool, true, false, List, if◌then◌else◌}
use Rattle.std.specs.Prelude.{All, max, not, bytes_eq}
use Rattle.std.proofs.lemmas.List.Elements.{All-filter, All-map, All-nil, All-push, All-weaker}
use Rattle.osc_client.specs.declared.pending.Wait.{Wait}
use Rattle.osc_client.specs.declared.pending.Wait.TheVariants.{Once, Observing}
use Rattle.osc_observe.specs.Observing.{place_of, registers}
use Rattle.osc_coap.specs.Datagram.{Parts}
use Rattle.osc_client.specs.ClientHistory.{Asked, Datagram, Deliver, Entry, Event, Forget, History, New, Notified, Request, Restart, Sent, Skip, Skipped, Then, Took, after_place, after_response, alive, asked, beside, clock, context, is_alive, life_ms, next, observes, wait_of}
use Rattle.osc_client.proofs.GivingWay.{All-beside}

-- the fact about a request
abbrev Of : (ℕ → List ℕ → Bool → Type 0) → Asked → Type 0
Of P r = P r.number r.token (observes r.wait)

observes_after : (place : ℕ) (w : Wait) → observes (after_place place w) ≡ observes w
observes_after place Once = refl
observes_after place (Observing from) = refl

observes_first : (b : Bool) → observes (if b then Observing 0 else Once) ≡ b
observes_first true = refl
observes_first false = refl

of_heard : (P : ℕ → List ℕ → Bool → Type 0) (token : List ℕ) (place : ℕ) (r : Asked) → Of P r → Of P (after_response token place r)
of_heard P token place r h = by_test (bytes_eq r.token token)
  where
    by_test : (b : Bool) → Of P (if b then record r { wait = after_place place r.wait } else r)
    by_test true = subst (P r.number r.token) (sym (observes_after place r.wait)) h
    by_test false = h

-- the fact about the request that an event asks, if it asks one
abbrev IfAsked : (ℕ → List ℕ → Bool → Type 0) → History → Event → Entry → Type 0
IfAsked P h (Request now plain room) (Sent bytes) = P (next h) plain.token (observes (wait_of (context h).features plain))
IfAsked P h event entry = Unit {0}

asked_after : (P : ℕ → List ℕ → Bool → Type 0) (h : History) (event : Event) (entry : Entry) → IfAsked P h event entry → All (Of P) (asked h) → All (Of P) (asked (Then h event entry))
asked_after P h (Request now plain room) (Sent bytes) new a =
    let x = (context h).features in
    All-push (Of P) (beside x plain (asked h)) _ (All-beside (Of P) x plain (asked h) a) new
asked_after P h (Datagram now d) (Took (Notified received number)) new a =
    let xs = alive (max (clock h) now) (life_ms h) (asked h) in
    let place = place_of received.number in
    All-map (Of P) (after_response received.token place) xs
    (All-weaker (Of P) (λ r. Of P (after_response received.token place r)) (λ r f. of_heard P received.token place r f) xs
    (All-filter (is_alive (max (clock h) now) (life_ms h)) (Of P) (asked h) a))
asked_after P h (Datagram now d) (Took (Deliver received number)) new a = All-filter (λ r. not (bytes_eq r.token received.token)) (Of P) (asked h) a
asked_after P h (Forget token) entry new a = All-filter (λ r. not (bytes_eq r.token token)) (Of P) (asked h) a
asked_after P h (Restart first) entry new a = All-nil (Of P)
asked_after P h event entry new a = a

-- each request that is asked has a number below the next one
numbers_below : (h : History) → All (λ (r : Asked). r.number < next h) (asked h)
numbers_below (New s first ms) = All-nil (λ (r : Asked). r.number < first)
numbers_below (Then h (Restart first) entry) = All-nil (λ (r : Asked). r.number < first)
numbers_below (Then h (Request now plain room) (Sent bytes)) =
    asked_after (λ k t o. k < next h + 1) h (Request now plain room) (Sent bytes) (omega arith)
    (All-weaker (λ (r : Asked). r.number < next h) (λ (r : Asked). r.number < next h + 1) (λ r f. omega (arith, f)) (asked h) (numbers_below h))
numbers_below (Then h (Skip count) Skipped) =
    asked_after (λ k t o. k < next h + count) h (Skip count) Skipped tt
    (All-weaker (λ (r : Asked). r.number < next h) (λ (r : Asked). r.number < next h + count) (λ r f. omega (arith, f)) (asked h) (numbers_below h))
numbers_below (Then h (Forget token) entry) = asked_after (λ k t o. k < next h) h (Forget token) entry tt (numbers_below h)
numbers_below (Then h event entry) = asked_after (λ k t o. k < next h) h event entry tt (numbers_below h)

-- a request of this number was sealed; while it is asked, it has this token, and observes or not
abbrev pub Knows : History → ℕ → List ℕ → Bool → Type 0
Knows h n token observing = (n < next h) × All (λ (r : Asked). r.number ≡ n → (r.token ≡ token) × (observes r.wait ≡ observing)) (asked h)

apart : (h : History) (event : Event) (entry : Entry) (n : ℕ) (token : List ℕ) (observing : Bool) → n < next h → IfAsked (λ k t o. k ≡ n → (t ≡ token) × (o ≡ observing)) h event entry
apart h (Request now plain room) (Sent bytes) n token observing less = λ e. absurd (omega (arith, less, e))
apart h event entry n token observing less = tt

-- that stays so, where the next number isn't lowered
pub known_after : (h : History) (event : Event) (entry : Entry) (n : ℕ) (token : List ℕ) (observing : Bool) → next h ≤ next (Then h event entry) → Knows h n token observing
    → Knows (Then h event entry) n token observing
known_after h event entry n token observing less k = (
  omega (arith, less, k.0),
  asked_after (λ m t o. m ≡ n → (t ≡ token) × (o ≡ observing)) h event entry (apart h event entry n token observing k.0) k.1,
)

-- and is so of a request that is sealed
pub known_new : (h : History) (now : ℕ) (plain : Parts) (room : ℕ) (bytes : List ℕ)
    → Knows (Then h (Request now plain room) (Sent bytes)) (next h) plain.token (registers (context h).features plain.code plain.options)
known_new h now plain room bytes =
    let observing = registers (context h).features plain.code plain.options in (
      omega arith,
      asked_after (λ m t o. m ≡ next h → (t ≡ plain.token) × (o ≡ observing)) h (Request now plain room) (Sent bytes) (λ e. (refl, observes_first observing))
          (All-weaker (λ (r : Asked). r.number < next h) (λ (r : Asked). r.number ≡ next h → (r.token ≡ plain.token) × (observes r.wait ≡ observing)) (λ r f e. absurd (omega (arith, f, e))) (asked h)
          (numbers_below h)),
    )
