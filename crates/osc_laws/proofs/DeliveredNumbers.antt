-- That in one life of a context no number is delivered twice.
use Rattle.std.proofs.Common.{◌≡◌, ◌≢◌, ℕ, ◌+◌, ◌<◌, ◌≤◌, ◌∙◌, sym, ap, subst, refl, arith, Bool, true, Option, Some, None, List, [], ◌∷◌, All, inl, inr, if◌then◌else◌}
use Rattle.std.specs.Prelude.{◌==◌, max}
use Rattle.std.specs.List.{AllByRecursion}
use Rattle.std.specs.Option.{option_map}
use Rattle.std.proofs.lemmas.Bool.{cases_Bool, cond-false, cond_both, eq-eqb, eqb-true, ne_eqb}
use Rattle.std.proofs.lemmas.List.Elements.{All-head, All-nil, All-tail, All-weaker}
use Rattle.std.proofs.lemmas.Bool.Decides.{leb_tells}
use Rattle.osc_coap.specs.Inner.{InnerParts}
use Rattle.osc_window.proofs.Agreements.{places_most}
use Rattle.osc_window.specs.Views.{places_of}
use Rattle.osc_window.specs.declared.window_size.WindowSize.{WindowSize}
use Rattle.osc_context.specs.SecurityContext.{SecurityContext}
use Rattle.osc_laws.specs.Laws.{AllAnswers, AreApart, DeliveredOnce, Pairwise, delivered}
use Rattle.osc_life.specs.Life.{Admits, Answered, Challenged, Delivered, Life, Mark, PassedOver, Spoiled, born, is_open, marked, opened, renewed, spent, succeeding}
use Rattle.osc_observe.specs.Received.{Received}
use Rattle.osc_life.specs.LifeAnswer.{LifeReplace, LifeRestart, LifeSkip}
use Rattle.osc_life.specs.declared.start.Start.{Start}
use Rattle.osc_endpoint.specs.ServerAnswer.{ServerAnswer}
use Rattle.osc_life.specs.ServerHistory.{Add, Added, Advance, Answer, Begin, Datagram, Deliver, Entry, Event, History, Notify, NotReplaced, Replace, Replaced, Replied, Reply, Restart, Restarted, Skip, Skipped, Then, TicketValues, Took, added, clock, life, mark_at, reply_mark_at, skip_mark_at}
use Rattle.osc_life.proofs.Lives.{closed_bare}

-- ---- numbers that are spent

-- not each of the numbers is another one
abbrev IsAmong : List ℕ → ℕ → Type 0
IsAmong ms n = All (λ m. m ≢ n) ms → ⊥

among_front : (n : ℕ) (ms : List ℕ) → IsAmong (n ∷ ms) n
among_front n ms apart = All-head (λ m. m ≢ n) n ms apart refl

among_more : (n k : ℕ) (ms : List ℕ) → IsAmong ms n → IsAmong (k ∷ ms) n
among_more n k ms h apart = h (All-tail (λ m. m ≢ n) k ms apart)

-- a mark leaves spent what is
still_among : (fresh : Bool) (mark : Mark) (marks : List Mark) (n : ℕ) → IsAmong (spent fresh marks) n → IsAmong (spent fresh (mark ∷ marks)) n
still_among fresh (Delivered k) marks n h = among_more n k (spent fresh marks) h
still_among fresh (Spoiled k) marks n h =
    cond_both (opened fresh marks) (k ∷ spent fresh marks) (spent fresh marks) (λ ms. IsAmong ms n) (λ e. among_more n k (spent fresh marks) h) (λ e. h)
still_among fresh (Challenged echo issued) marks n h = h
still_among fresh Answered marks n h = h
still_among fresh (PassedOver count) marks n h = h

-- a number that is admitted isn't spent
unspent : (of : Life) (clock n : ℕ) (m : InnerParts) → Admits of clock n m → All (λ k. k ≢ n) (spent of.open_at_birth of.marks)
unspent of clock n m admits = elim (cases_Bool (is_open of)) [
  | inl is ↦ (admits.0.0 is).unspent
  | inr shut ↦ subst (All (λ k. k ≢ n)) (sym (closed_bare of.open_at_birth of.marks shut).spent_is) (All-nil (λ k. k ≢ n))
]

-- a number that is admitted is less than 64 below those that are spent
pub admitted_near : (of : Life) (clock n : ℕ) (m : InnerParts) → Admits of clock n m → All (λ k. k < n + 64) (spent of.open_at_birth of.marks)
admitted_near of clock n m admits = elim (cases_Bool (is_open of)) [
  | inl is ↦
      let most = places_most of.size in
      All-weaker (λ k. k < n + places_of of.size) (λ k. k < n + 64) (λ k less. omega (arith, less, most)) (spent of.open_at_birth of.marks) (admits.0.0 is).within
  | inr shut ↦ subst (All (λ k. k < n + 64)) (sym (closed_bare of.open_at_birth of.marks shut).spent_is) (All-nil (λ k. k < n + 64))
]

-- one of numbers below a bound is below it
among_below : (bound n : ℕ) (ms : List ℕ) → All (λ k. k < bound) ms → IsAmong ms n → n < bound
among_below bound n ms below among = elim (leb_tells bound n) [
  | inl past ↦ absurd (among (All-weaker (λ k. k < bound) (λ k. k ≢ n) (λ k less e. omega (arith, less, e, past.1)) ms below))
  | inr less ↦ less.1
]

-- ---- tickets of spent numbers

-- the ticket is of an earlier life, or its number is spent in the present one
abbrev pub IsSpentIn : Option Life → TicketValues → Type 0
IsSpentIn None t = ⊥
IsSpentIn (Some of) t = (t.life ≤ of.count) × (t.life ≡ of.count → IsAmong (spent of.open_at_birth of.marks) t.number)

-- no ticket is of a context that isn't there
no_ticket : (o : Option Life) (t : TicketValues) → o ≡ None → IsSpentIn o t → ⊥
no_ticket o t none before = subst (λ p. IsSpentIn p t) none before

-- marks and a restart leave the ticket so
spent_marked : (o : Option Life) (m : Option Mark) (t : TicketValues) → IsSpentIn o t → IsSpentIn (option_map (marked m) o) t
spent_marked None m t h = h
spent_marked (Some of) None t h = h
spent_marked (Some of) (Some mark) t h = (h.0, λ e. still_among of.open_at_birth mark of.marks t.number (h.1 e))

spent_renewed : (o : Option Life) (next : ℕ) (t : TicketValues) → IsSpentIn o t → IsSpentIn (option_map (renewed next) o) t
spent_renewed None next t h = h
spent_renewed (Some of) next t h = (omega (arith, h.0), λ e. absurd (omega (arith, h.0, e)))

spent_succeeding : (o : Option Life) (s : SecurityContext) (start : Start) (size : WindowSize) (t : TicketValues) → IsSpentIn o t → IsSpentIn (option_map (succeeding s start size) o) t
spent_succeeding None s start size t h = h
spent_succeeding (Some of) s start size t h = (omega (arith, h.0), λ e. absurd (omega (arith, h.0, e)))

-- a delivery spends its number
spent_now : (o : Option Life) (of : Life) (b : Bool) (t : TicketValues) → o ≡ Some of → b ≡ true → t.life ≡ of.count
    → IsSpentIn (option_map (marked (if b then Some (Delivered t.number) else None)) o) t
spent_now o of b t there here count = rw (there, here) (omega (arith, count), λ e. among_front t.number (spent of.open_at_birth of.marks))

-- ---- indices

-- no context is there from the next index on
abbrev pub HasNoneBeyond : History → Type 0
HasNoneBeyond h = (i : ℕ) → added h ≤ i → life h i ≡ None

none_after : (h : History) (event : Event) (entry : Entry) → ServerAnswer h event entry → HasNoneBeyond h → HasNoneBeyond (Then h event entry)
none_after h (Add s start size places) (Added index) row none i beyond =
    let later : added h + 1 ≤ i = beyond in
    let index_is : index ≡ added h = row.1.2 in
    cond-false (i == index) (Some (born s start size)) (life h i) (ne_eqb i index (λ e. omega (arith, later, index_is, e))) ∙ none i (omega (arith, later))
none_after h (Datagram now echo mid d) (Took answer reply) row none i beyond = ap (option_map (marked (mark_at i answer))) (none i beyond)
none_after h (Reply ticket own mid plain room) (Replied bytes) row none i beyond = ap (option_map (marked (reply_mark_at i ticket own))) (none i beyond)
none_after h (Notify ticket plain room) (Replied bytes) row none i beyond = ap (option_map (marked (reply_mark_at i ticket true))) (none i beyond)
none_after h (Restart context next) Restarted row none i beyond =
    cond_both (i == context) (option_map (renewed next) (life h i)) (life h i) (λ o. o ≡ None) (λ e. ap (option_map (renewed next)) (none i beyond)) (λ e. none i beyond)
none_after h (Replace context s start size) Replaced row none i beyond =
    cond_both (i == context) (option_map (succeeding s start size) (life h i)) (life h i) (λ o. o ≡ None) (λ e. ap (option_map (succeeding s start size)) (none i beyond)) (λ e. none i beyond)
none_after h (Skip context count) Skipped row none i beyond = ap (option_map (marked (skip_mark_at i context count))) (none i beyond)
none_after h event (Added index) row none i beyond = let later : added h + 1 ≤ i = beyond in none i (omega (arith, later))
none_after h event entry row none i beyond = none i beyond

pub none_beyond : (h : History) → AllAnswers h → HasNoneBeyond h
none_beyond Begin all = λ i beyond. refl
none_beyond (Then h event entry) all = none_after h event entry all.1 (none_beyond h all.0)

-- ---- one event more

-- a number that is spent stays so
pub still_spent : (h : History) (event : Event) (entry : Entry) → ServerAnswer h event entry → HasNoneBeyond h
    → (t : TicketValues) → IsSpentIn (life h t.context) t → IsSpentIn (life (Then h event entry) t.context) t
still_spent h (Add s start size places) (Added index) row none t before =
    let index_is : index ≡ added h = row.1.2 in
    cond_both (t.context == index) (Some (born s start size)) (life h t.context) (λ o. IsSpentIn o t)
    (λ e. absurd (no_ticket (life h t.context) t (none t.context (omega (arith, eqb-true t.context index e, index_is))) before)) (λ e. before)
still_spent h (Datagram now echo mid d) (Took answer reply) row none t before = spent_marked (life h t.context) (mark_at t.context answer) t before
still_spent h (Reply ticket own mid plain room) (Replied bytes) row none t before = spent_marked (life h t.context) (reply_mark_at t.context ticket own) t before
still_spent h (Notify ticket plain room) (Replied bytes) row none t before = spent_marked (life h t.context) (reply_mark_at t.context ticket true) t before
still_spent h (Restart context next) Restarted row none t before =
    cond_both (t.context == context) (option_map (renewed next) (life h t.context)) (life h t.context) (λ o. IsSpentIn o t)
    (λ e. spent_renewed (life h t.context) next t before) (λ e. before)
still_spent h (Replace context s start size) Replaced row none t before =
    cond_both (t.context == context) (option_map (succeeding s start size) (life h t.context)) (life h t.context) (λ o. IsSpentIn o t)
    (λ e. spent_succeeding (life h t.context) s start size t before) (λ e. before)
still_spent h (Skip context count) Skipped row none t before = spent_marked (life h t.context) (skip_mark_at t.context context count) t before
still_spent h event entry row none t before = before

-- what was delivered before is apart from a number that is admitted
apart_from : (h : History) (of : Life) (clock : ℕ) (m : InnerParts) (ticket t : TicketValues)
    → life h ticket.context ≡ Some of → ticket.life ≡ of.count → Admits of clock ticket.number m → IsSpentIn (life h t.context) t → AreApart ticket t
apart_from h of clock m ticket t there count admits before context_is life_is number_is =
    let now : IsSpentIn (Some of) t = subst (λ o. IsSpentIn o t) (ap (life h) (sym context_is) ∙ there) before in
    now.1 (sym life_is ∙ count) (subst (λ n. All (λ k. k ≢ n) (spent of.open_at_birth of.marks)) number_is (unspent of clock ticket.number m admits))

-- what was delivered before is less than 64 above a number that is admitted
near_to : (h : History) (of : Life) (clock : ℕ) (m : InnerParts) (ticket t : TicketValues)
    → life h ticket.context ≡ Some of → ticket.life ≡ of.count → Admits of clock ticket.number m → IsSpentIn (life h t.context) t → ticket.context ≡ t.context → ticket.life ≡ t.life
    → t.number < ticket.number + 64
near_to h of clock m ticket t there count admits before context_is life_is =
    let now : IsSpentIn (Some of) t = subst (λ o. IsSpentIn o t) (ap (life h) (sym context_is) ∙ there) before in
    among_below (ticket.number + 64) t.number (spent of.open_at_birth of.marks) (admitted_near of clock ticket.number m admits) (now.1 (sym life_is ∙ count))

-- the ticket's number is spent in the later history, isn't one of those before, and is less than 64 below them
pub record IsFirst (h g : History) (ticket : TicketValues) : Type 0 where
  pub spent_then : IsSpentIn (life g ticket.context) ticket
  pub apart : (t : TicketValues) → IsSpentIn (life h t.context) t → AreApart ticket t
  pub near : (t : TicketValues) → IsSpentIn (life h t.context) t → ticket.context ≡ t.context → ticket.life ≡ t.life → t.number < ticket.number + 64

restart_takes_none : (o : Option Life) (answer : Answer) (reply : List ℕ) → LifeRestart o (Took answer reply) → ⊥
restart_takes_none None answer reply row = row
restart_takes_none (Some of) answer reply row = row

-- the entry isn't that of a replacement
abbrev pub IsOther : Entry → Type 0
IsOther Replaced = ⊥
IsOther (NotReplaced e) = ⊥
IsOther entry = Unit {0}

pub no_other : (o : Option Life) (entry : Entry) → IsOther entry → LifeReplace o entry → ⊥
no_other o Replaced other row = other
no_other o (NotReplaced e) other row = other
no_other None entry other row = row
no_other (Some of) entry other row = row

skip_takes_none : (o : Option Life) (count : ℕ) (answer : Answer) (reply : List ℕ) → LifeSkip o count (Took answer reply) → ⊥
skip_takes_none None count answer reply row = row
skip_takes_none (Some of) count answer reply row = row

pub first_delivery : (h : History) (event : Event) (received : Received) (ticket : TicketValues) (reply : List ℕ)
    → ServerAnswer h event (Took (Deliver received ticket) reply) → IsFirst h (Then h event (Took (Deliver received ticket) reply)) ticket
first_delivery h (Datagram now echo mid d) received ticket reply ((i, n, of, request, (receives, admits, values)), none) =
    let there : life h ticket.context ≡ Some of = ap (λ (v : TicketValues). life h v.context) values ∙ request.life_is in
    let count : ticket.life ≡ of.count = ap (λ (v : TicketValues). v.life) values in
    let number : ticket.number ≡ n = ap (λ (v : TicketValues). v.number) values in
    let moment = max (clock h) now in
    record {
      spent_then = spent_now (life h ticket.context) of (ticket.context == ticket.context) ticket there (eq-eqb ticket.context ticket.context refl) count;
      apart = λ t. apart_from h of moment received.message ticket t there count (subst (λ k. Admits of moment k received.message) (sym number) admits);
      near = λ t. near_to h of moment received.message ticket t there count (subst (λ k. Admits of moment k received.message) (sym number) admits);
    }
first_delivery h (Add s start size places) received ticket reply row = absurd row.1
first_delivery h (Reply t own mid plain room) received ticket reply row = absurd row.2
first_delivery h (Notify t plain room) received ticket reply row = absurd row.1.2
first_delivery h (Restart i next) received ticket reply row = absurd (restart_takes_none (life h i) (Deliver received ticket) reply row)
first_delivery h (Replace i s start size) received ticket reply row = absurd (no_other (life h i) (Took (Deliver received ticket) reply) tt row.1)
first_delivery h (Skip i count) received ticket reply row = absurd (skip_takes_none (life h i) count (Deliver received ticket) reply row)
first_delivery h (Advance now) received ticket reply row = absurd row

-- ---- histories

pub all_kept : (P Q : TicketValues → Type 0) (ts : List TicketValues) → ((t : TicketValues) → P t → Q t) → AllByRecursion P ts → AllByRecursion Q ts
all_kept P Q [] keeps h = tt
all_kept P Q (t ∷ ts) keeps h = (keeps t h.0, all_kept P Q ts keeps h.1)

-- the numbers that were delivered are spent, and no two are one
record DeliversOnce (h : History) : Type 0 where
  pub spent_then : AllByRecursion (λ t. IsSpentIn (life h t.context) t) (delivered h)
  pub apart : Pairwise AreApart (delivered h)

delivers_more : (h : History) (event : Event) (entry : Entry) → ServerAnswer h event entry → HasNoneBeyond h → DeliversOnce h → DeliversOnce (Then h event entry)
delivers_more h event (Took (Deliver received ticket) reply) row none before =
    let entry = Took (Deliver received ticket) reply in
    let first = first_delivery h event received ticket reply row in
    record {
      spent_then = (
        first.spent_then,
        all_kept (λ t. IsSpentIn (life h t.context) t) (λ t. IsSpentIn (life (Then h event entry) t.context) t) (delivered h) (still_spent h event entry row none) before.spent_then,
      );
      apart = (all_kept (λ t. IsSpentIn (life h t.context) t) (AreApart ticket) (delivered h) first.apart before.spent_then, before.apart);
    }
delivers_more h event entry row none before =
    record {
      spent_then = all_kept (λ t. IsSpentIn (life h t.context) t) (λ t. IsSpentIn (life (Then h event entry) t.context) t) (delivered h) (still_spent h event entry row none) before.spent_then;
      apart = before.apart;
    }

delivers_once : (h : History) → AllAnswers h → DeliversOnce h
delivers_once Begin all = record { spent_then = tt; apart = tt }
delivers_once (Then h event entry) all = delivers_more h event entry all.1 (none_beyond h all.0) (delivers_once h all.0)

pub numbers_once : DeliveredOnce
numbers_once h all = (delivers_once h all).apart
