-- The numbers of a client's requests, and their nonces. r and q are sealed requests, c is how many restarts there were, k the next number.
use Rattle.std.proofs.Common.{◌≡◌, ℕ, ◌+◌, ◌<◌, ◌≤◌, ◌^◌, ◌∙◌, sym, ap, subst, refl, arith, Bool, cond, List, [], ◌∷◌, length}
use Rattle.std.specs.List.{AllByRecursion}
use Rattle.std.proofs.lemmas.Bool.{eq-eqb, ne_eqb}
use Rattle.osc_coap.specs.Datagram.{Parts}
use Rattle.osc_context.specs.Laws.{OneNonce}
use Rattle.osc_context.specs.OscoreValue.{IsOscoreValue}
use Rattle.osc_context.specs.SecurityContext.{SecurityContext}
use Rattle.osc_protect.specs.Laws.{RequestsShowHeads}
use Rattle.osc_protect.specs.Sealed.{SealsRequest}
use Rattle.osc_client.specs.ClientHistory.{History, New, Request, Restart, Sent, Skip, Skipped, Then, context, next}
use Rattle.osc_laws.specs.ClientLaws.{AllClientAnswers, ClientNoncesOnce, HasNumber, RequestNumbersOnce, RequestsCountUp, RequestsHaveTwoNonces, RequestsRise, SealedRequest, first_number, passed_over, restarts, sealed, sealed_after}
use Rattle.osc_laws.proofs.OwnNumbers.{all_weaker}

-- the request was sealed before the next number came up
record IsEarlier (c k : ℕ) (r : SealedRequest) : Type 0 where
  pub begun : r.restarts ≤ c
  pub less : r.number < 2 ^ 40
  pub below : r.restarts ≡ c → r.number < k

record AreCounted (h : History) : Type 0 where
  pub earlier : AllByRecursion (IsEarlier (restarts h) (next h)) (sealed h)
  pub begun : first_number h ≤ next h
  pub rise : RequestsRise (context h) (first_number h) (next h) (sealed_after (restarts h) (sealed h))
  pub counts : passed_over h ≡ 0
      → RequestsCountUp (context h) (first_number h) (sealed_after (restarts h) (sealed h)) × (first_number h + length (sealed_after (restarts h) (sealed h)) ≡ next h)

-- requests whose numbers rise do so below a greater limit
rise_below : (s : SecurityContext) (first limit more : ℕ) (rs : List SealedRequest) → limit ≤ more → RequestsRise s first limit rs → RequestsRise s first more rs
rise_below s first limit more [] less rise = tt
rise_below s first limit more (r ∷ rs) less (has, least, below, earlier) = (has, least, omega (arith, below, less), earlier)

-- behind a restart there is none at first
none_yet : (c k : ℕ) (rs : List SealedRequest) → AllByRecursion (IsEarlier c k) rs → sealed_after (c + 1) rs ≡ []
none_yet c k [] all = refl
none_yet c k (r ∷ rs) (is, all) =
    let begun = is.begun in
    let other : r.restarts ≡ c + 1 → ⊥ = λ e. omega (arith, begun, e) in
    ap (λ (b : Bool). cond b (r ∷ sealed_after (c + 1) rs) (sealed_after (c + 1) rs)) (ne_eqb r.restarts (c + 1) other) ∙ none_yet c k rs all

one_more : (c : ℕ) (r : SealedRequest) (rs : List SealedRequest) → r.restarts ≡ c → sealed_after c (r ∷ rs) ≡ r ∷ sealed_after c rs
one_more c r rs same = ap (λ (b : Bool). cond b (r ∷ sealed_after c rs) (sealed_after c rs)) (eq-eqb r.restarts c same)

-- what is sealed by a number says it
has_number : RequestsShowHeads → (s : SecurityContext) (r : SealedRequest) (p : Parts) (number : ℕ) → r.number ≡ number → SealsRequest s r.number p r.bytes → HasNumber s r number
has_number shows s r p number is seals =
    let head = (shows s).sealed r.bytes number p (subst (λ n. SealsRequest s n p r.bytes) is seals) in
    record {
      number_is = is;
      outer = head.1.0;
      datagram = head.1.1;
      value = head.1.2.value;
      single = head.1.2.single;
      reads = subst (λ v. IsOscoreValue v head.1.2.value) head.2 head.1.2.reads;
    }

counted : RequestsShowHeads → (n : ℕ) (h : History) → AllClientAnswers n h → AreCounted h
counted shows n (New s first ms) a = record { earlier = tt; begun = omega arith; rise = tt; counts = λ none. (tt, omega arith) }
counted shows n (Then h (Request now p room) (Sent bytes)) a =
    let old = counted shows n h a.0 in
    let r : SealedRequest = record { restarts = restarts h; number = next h; bytes = bytes } in
    let less : next h < 2 ^ 40 = a.1.0.2 in
    let more = one_more (restarts h) r (sealed h) refl in
    let begun = old.begun in
    let has : (number : ℕ) → next h ≡ number → HasNumber (context h) r number = λ number is. has_number shows (context h) r p number is a.1.1 in
    record {
      earlier = (
        record { begun = omega arith; less = less; below = λ e. omega arith },
        all_weaker (IsEarlier (restarts h) (next h)) (IsEarlier (restarts h) (next h + 1))
            (λ q is. record { begun = is.begun; less = is.less; below = λ e. let b = is.below e in omega (arith, b) }) (sealed h) old.earlier,
      );
      begun = omega (arith, begun);
      rise = subst (RequestsRise (context h) (first_number h) (next h + 1)) (sym more) (has (next h) refl, begun, omega arith, old.rise);
      counts = λ none.
          let before = old.counts none in
          let used = before.1 in (
            subst (RequestsCountUp (context h) (first_number h)) (sym more) (has (first_number h + length (sealed_after (restarts h) (sealed h))) (sym used), before.0),
            ap (λ (rs : List SealedRequest). first_number h + length rs) more ∙ omega (arith, used),
          );
    }
counted shows n (Then h (Restart first) entry) a =
    let old = counted shows n h a.0 in
    let none = none_yet (restarts h) (next h) (sealed h) old.earlier in
    record {
      earlier =
          all_weaker (IsEarlier (restarts h) (next h)) (IsEarlier (restarts h + 1) first)
          (λ q is. let begun = is.begun in record { begun = omega (arith, begun); less = is.less; below = λ e. absurd (omega (arith, begun, e)) }) (sealed h) old.earlier;
      begun = omega arith;
      rise = subst (RequestsRise (context h) first first) (sym none) tt;
      counts = λ _. (subst (RequestsCountUp (context h) first) (sym none) tt, ap (λ (rs : List SealedRequest). first + length rs) none ∙ omega arith);
    }
counted shows n (Then h (Skip count) Skipped) a =
    let old = counted shows n h a.0 in
    let begun = old.begun in
    record {
      earlier =
          all_weaker (IsEarlier (restarts h) (next h)) (IsEarlier (restarts h) (next h + count))
          (λ q is. record { begun = is.begun; less = is.less; below = λ e. let b = is.below e in omega (arith, b) }) (sealed h) old.earlier;
      begun = omega (arith, begun);
      rise = rise_below (context h) (first_number h) (next h) (next h + count) _ (omega arith) old.rise;
      counts = λ none.
          let before = old.counts (omega (arith, none)) in
          let used = before.1 in
          (before.0, omega (arith, used, none));
    }
counted shows n (Then h event entry) a = let old = counted shows n h a.0 in record { earlier = old.earlier; begun = old.begun; rise = old.rise; counts = old.counts }

pub request_numbers : RequestsShowHeads → RequestNumbersOnce
request_numbers shows n h a =
    let c = counted shows n h a in
    record { rise = c.rise; count_up = λ none. (c.counts none).0 }

-- a request by the next number, and an earlier one
apart : OneNonce → (s : SecurityContext) (c k : ℕ) (r q : SealedRequest) → length s.client ≤ 7 → r.restarts ≡ c → r.number ≡ k → k < 2 ^ 40 → IsEarlier c k q → RequestsHaveTwoNonces s r q
apart one s c k r q fits restart number less is same e =
    let equal : r.number ≡ q.number = (one s.common_iv s.client s.client r.number q.number fits fits (omega (arith, number, less)) is.less e).1 in
    let below = is.below (sym same ∙ restart) in
    omega (arith, equal, number, below)

-- no two requests share a nonce
pub request_nonces : OneNonce → RequestsShowHeads → ClientNoncesOnce
request_nonces one shows n (New s first ms) fits a = tt
request_nonces one shows n (Then h (Request now p room) (Sent bytes)) fits a =
    let r : SealedRequest = record { restarts = restarts h; number = next h; bytes = bytes } in (
      all_weaker (IsEarlier (restarts h) (next h)) (RequestsHaveTwoNonces (context h) r)
          (λ q is. apart one (context h) (restarts h) (next h) r q fits refl refl a.1.0.2 is) (sealed h) (counted shows n h a.0).earlier,
      request_nonces one shows n h fits a.0,
    )
request_nonces one shows n (Then h event entry) fits a = request_nonces one shows n h fits a.0
