-- That a reply to a request that waits is the first to it, where each reply is due. t and u are tickets, of which context, life and number
-- count alone.
use Rattle.std.proofs.Common.{◌≡◌, ◌<◌, ◌≤◌, ◌^◌, ◌∙◌, sym, subst, refl, ℕ, Bool, true, false, Option, Some, None, List, [], ◌+◌, ap, arith, inl, inr, ◌⊎◌, ◌&&◌, ◌==◌, not, ◌||◌}
use Rattle.std.specs.Prelude.{nat_le}
use Rattle.std.specs.List.{AllByRecursion}
use Rattle.std.proofs.lemmas.Bool.{and_from, and_left, and_parts, both_ways, cond-false, cond-true, cond_both, eq-eqb, eqb-true, false_from_ne_true, leb-true}
use Rattle.osc_coap.specs.Datagram.{Parts}
use Rattle.osc_coap.specs.declared.message.Kind.TheVariants.{Con}
use Rattle.osc_context.specs.Laws.{OneNonce, ValueNumberInRange}
use Rattle.osc_laws.specs.AnswerLaws.{SealedHeads}
use Rattle.osc_laws.specs.Laws.{AllAnswers, AreApart, Pairwise, answered}
use Rattle.osc_life.specs.Life.{Life}
use Rattle.osc_observe.specs.Received.{Received}
use Rattle.osc_endpoint.specs.ServerAnswer.{ServerAnswer}
use Rattle.osc_life.specs.ServerHistory.{Begin, Datagram, Deliver, Entry, Event, History, Replied, Reply, Then, TicketValues, Took, life}
use Rattle.osc_laws.specs.Waiting.{AnsweredOnce, AnswersDue, AreFirst, WaitingHasLife, WaitingNoncesOnce, is_due, is_far_above, is_to, lies_far_back, waits}
use Rattle.osc_laws.proofs.DeliveredNumbers.{HasNoneBeyond, IsSpentIn, all_kept, first_delivery, none_beyond, still_spent}
use Rattle.osc_laws.proofs.LifeCounts.{answered_plainly}
use Rattle.osc_laws.proofs.ServerNonces.{IsFor, all_for, all_plainly, texts_apart}

-- ---- one request

-- a ticket to the request, for facts that look at nothing else of it
abbrev request_of : ℕ → ℕ → ℕ → TicketValues
request_of i c n = record { context = i; life = c; number = n; kind = Con; message_id = 0; token = []; observes = false }

record Is (i c n : ℕ) (t : TicketValues) : Type 0 where
  pub context : i ≡ t.context
  pub life : c ≡ t.life
  pub number : n ≡ t.number

to_is : (i c n : ℕ) (t : TicketValues) → is_to i c n t ≡ true → Is i c n t
to_is i c n t e =
    let first = and_parts (i == t.context) ((c == t.life) && (n == t.number)) e in
    let rest = and_parts (c == t.life) (n == t.number) first.1 in
    record {
      context = eqb-true i t.context first.0;
      life = eqb-true c t.life rest.0;
      number = eqb-true n t.number rest.1;
    }

is_to_itself : (t : TicketValues) → is_to t.context t.life t.number t ≡ true
is_to_itself t =
    and_from (t.context == t.context) ((t.life == t.life) && (t.number == t.number)) (eq-eqb t.context t.context refl)
    (and_from (t.life == t.life) (t.number == t.number) (eq-eqb t.life t.life refl) (eq-eqb t.number t.number refl))

not_to : (t u : TicketValues) → AreApart u t → is_to t.context t.life t.number u ≡ false
not_to t u apart =
    false_from_ne_true (is_to t.context t.life t.number u) (λ e.
    let is = to_is t.context t.life t.number u e in
    apart (sym is.context) (sym is.life) (sym is.number))

spent_same : (o : Option Life) (i c n : ℕ) (t : TicketValues) → Is i c n t → IsSpentIn o t → IsSpentIn o (request_of i c n)
spent_same None i c n t is h = h
spent_same (Some of) i c n t is h = rw (is.life, is.number) h

spent_itself : (o : Option Life) (t : TicketValues) → IsSpentIn o (request_of t.context t.life t.number) → IsSpentIn o t
spent_itself None t h = h
spent_itself (Some of) t h = h

-- ---- what holds of each history

-- the request was delivered, and its number has room in a nonce
record IsMet (h : History) (i c n : ℕ) : Type 0 where
  pub spent : IsSpentIn (life h i) (request_of i c n)
  pub in_range : n < 2 ^ 40

still_met : (h : History) (event : Event) (entry : Entry) → ServerAnswer h event entry → HasNoneBeyond h → (i c n : ℕ) → IsMet h i c n → IsMet (Then h event entry) i c n
still_met h event entry row none i c n met = record { spent = still_spent h event entry row none (request_of i c n) met.spent; in_range = met.in_range }

met : ValueNumberInRange → (h : History) → AllAnswers h → (i c n : ℕ) → waits h i c n ≡ true → IsMet h i c n
met range Begin all i c n = λ waiting. absurd (both_ways false refl waiting)
met range (Then h (Datagram now echo mid d) (Took (Deliver received ticket) reply)) all i c n =
    let event = Datagram now echo mid d in
    let g : History = Then h event (Took (Deliver received ticket) reply) in
    cond_both (is_to i c n ticket) true (waits h i c n && not (is_far_above i c n ticket)) (λ b. b ≡ true → IsMet g i c n)
    (λ same _.
    let is = to_is i c n ticket same in
    record {
      spent = spent_same (life g i) i c n ticket is (subst (λ j. IsSpentIn (life g j) ticket) (sym is.context) (first_delivery h event received ticket reply all.1).spent_then);
      in_range = subst (λ m. m < 2 ^ 40) (sym is.number) (all_for range g all).0;
    })
    (λ other waiting.
    still_met h event (Took (Deliver received ticket) reply) all.1 (none_beyond h all.0) i c n (met range h all.0 i c n (and_parts (waits h i c n) (not (is_far_above i c n ticket)) waiting).0))
met range (Then h (Reply ticket own mid plain room) (Replied bytes)) all i c n =
    cond_both (is_to i c n ticket) false (waits h i c n) (λ b. b ≡ true → IsMet (Then h (Reply ticket own mid plain room) (Replied bytes)) i c n)
    (λ same waiting. absurd (both_ways false refl waiting))
    (λ other waiting. still_met h (Reply ticket own mid plain room) (Replied bytes) all.1 (none_beyond h all.0) i c n (met range h all.0 i c n waiting))
met range (Then h event entry) all i c n = λ waiting. still_met h event entry all.1 (none_beyond h all.0) i c n (met range h all.0 i c n waiting)

-- ---- requests that lie far back

or_parts : (x y : Bool) → (x || y) ≡ true → (x ≡ true) ⊎ (y ≡ true)
or_parts true y e = inl refl
or_parts false y e = inr e

or_right : (x y : Bool) → y ≡ true → (x || y) ≡ true
or_right true y e = refl
or_right false y e = e

-- a number that is higher by 64 or more was delivered
record HasAbove (h : History) (i c n : ℕ) : Type 0 where
  pub ticket : TicketValues
  pub spent : IsSpentIn (life h ticket.context) ticket
  pub context : i ≡ ticket.context
  pub life : c ≡ ticket.life
  pub above : n + 64 ≤ ticket.number

still_above : (h : History) (event : Event) (entry : Entry) → ServerAnswer h event entry → HasNoneBeyond h → (i c n : ℕ) → HasAbove h i c n → HasAbove (Then h event entry) i c n
still_above h event entry row none i c n has =
    record { ticket = has.ticket; spent = still_spent h event entry row none has.ticket has.spent; context = has.context; life = has.life; above = has.above }

far_number : (i c n : ℕ) (t : TicketValues) → is_far_above i c n t ≡ true → n + 64 ≤ t.number
far_number i c n t e =
    let first = and_parts (i == t.context) ((c == t.life) && nat_le (n + 64) t.number) e in
    leb-true (n + 64) t.number (and_parts (c == t.life) (nat_le (n + 64) t.number) first.1).1

above_now : (g : History) (i c n : ℕ) (t : TicketValues) → IsSpentIn (life g t.context) t → is_far_above i c n t ≡ true → HasAbove g i c n
above_now g i c n t spent e =
    let first = and_parts (i == t.context) ((c == t.life) && nat_le (n + 64) t.number) e in
    let rest = and_parts (c == t.life) (nat_le (n + 64) t.number) first.1 in
    record { ticket = t; spent = spent; context = eqb-true i t.context first.0; life = eqb-true c t.life rest.0; above = far_number i c n t e }

has_above : (h : History) → AllAnswers h → (i c n : ℕ) → lies_far_back h i c n ≡ true → HasAbove h i c n
has_above Begin all i c n far = absurd (both_ways false refl far)
has_above (Then h (Datagram now echo mid d) (Took (Deliver received ticket) reply)) all i c n far =
    let event = Datagram now echo mid d in
    let entry : Entry = Took (Deliver received ticket) reply in
    elim (or_parts (is_far_above i c n ticket) (lies_far_back h i c n) far) [
      | inl now ↦ above_now (Then h event entry) i c n ticket (first_delivery h event received ticket reply all.1).spent_then now
      | inr before ↦ still_above h event entry all.1 (none_beyond h all.0) i c n (has_above h all.0 i c n before)
    ]
has_above (Then h event entry) all i c n far = still_above h event entry all.1 (none_beyond h all.0) i c n (has_above h all.0 i c n far)

and_false : (x : Bool) → (x && false) ≡ false
and_false true = refl
and_false false = refl

-- such a request doesn't wait, nor is it delivered any more
too_late : (h : History) (event : Event) (received : Received) (ticket : TicketValues) (reply : List ℕ) → ServerAnswer h event (Took (Deliver received ticket) reply) → (i c n : ℕ)
    → is_to i c n ticket ≡ true → (HasAbove h i c n → ⊥) × (is_far_above i c n ticket ≡ true → ⊥)
too_late h event received ticket reply row i c n same =
    let is = to_is i c n ticket same in
    let number = is.number in (
      λ before.
          let near = (first_delivery h event received ticket reply row).near before.ticket before.spent (sym is.context ∙ before.context) (sym is.life ∙ before.life) in
          let above = before.above in
          omega (arith, near, above, number),
      λ now. let above = far_number i c n ticket now in omega (arith, above, number),
    )

far_waits_not : (h : History) → AllAnswers h → (i c n : ℕ) → lies_far_back h i c n ≡ true → waits h i c n ≡ false
far_waits_not Begin all i c n far = refl
far_waits_not (Then h (Datagram now echo mid d) (Took (Deliver received ticket) reply)) all i c n far =
    let event = Datagram now echo mid d in
    cond_both (is_to i c n ticket) true (waits h i c n && not (is_far_above i c n ticket)) (λ b. b ≡ false)
    (λ same.
    let late = too_late h event received ticket reply all.1 i c n same in
    elim (or_parts (is_far_above i c n ticket) (lies_far_back h i c n) far) [
      | inl now ↦ absurd (late.1 now)
      | inr before ↦ absurd (late.0 (has_above h all.0 i c n before))
    ])
    (λ other. elim (or_parts (is_far_above i c n ticket) (lies_far_back h i c n) far) [
      | inl now ↦ ap (λ b. waits h i c n && not b) now ∙ and_false (waits h i c n)
      | inr before ↦ and_left (waits h i c n) (not (is_far_above i c n ticket)) (far_waits_not h all.0 i c n before)
    ])
far_waits_not (Then h (Reply ticket own mid plain room) (Replied bytes)) all i c n far =
    cond_both (is_to i c n ticket) false (waits h i c n) (λ b. b ≡ false) (λ same. refl) (λ other. far_waits_not h all.0 i c n far)
far_waits_not (Then h event entry) all i c n far = far_waits_not h all.0 i c n far

-- ---- what holds of each history

-- the ticket's request was delivered, and doesn't wait; or it lies far back
abbrev IsDone : History → TicketValues → Type 0
IsDone h t = (IsSpentIn (life h t.context) t × (waits h t.context t.life t.number ≡ false)) ⊎ (lies_far_back h t.context t.life t.number ≡ true)

record AreTracked (h : History) : Type 0 where
  pub done : AllByRecursion (IsDone h) (answered h)
  pub first : AreFirst h
  pub in_range : AllByRecursion IsFor (answered_plainly h)
  pub apart : Pairwise AreApart (answered_plainly h)

still_done : (h g : History) (t : TicketValues) → waits g t.context t.life t.number ≡ waits h t.context t.life t.number → lies_far_back g t.context t.life t.number ≡ lies_far_back h t.context t.life t.number
    → (IsSpentIn (life h t.context) t → IsSpentIn (life g t.context) t) → IsDone h t → IsDone g t
still_done h g t waiting back spent (inl done) = inl (spent done.0, waiting ∙ done.1)
still_done h g t waiting back spent (inr far) = inr (back ∙ far)

-- ---- a delivery

done_delivered : (h : History) (now mid : ℕ) (echo d : List ℕ) (received : Received) (ticket : TicketValues) (reply : List ℕ)
    → AllAnswers (Then h (Datagram now echo mid d) (Took (Deliver received ticket) reply)) → (t : TicketValues) → IsDone h t
    → IsDone (Then h (Datagram now echo mid d) (Took (Deliver received ticket) reply)) t
done_delivered h now mid echo d received ticket reply all t (inl done) =
    let event = Datagram now echo mid d in
    let first = first_delivery h event received ticket reply all.1 in
    inl (
      still_spent h event (Took (Deliver received ticket) reply) all.1 (none_beyond h all.0) t done.0,
      cond-false (is_to t.context t.life t.number ticket) true (waits h t.context t.life t.number && not (is_far_above t.context t.life t.number ticket)) (not_to t ticket (first.apart t done.0))
          ∙ and_left (waits h t.context t.life t.number) (not (is_far_above t.context t.life t.number ticket)) done.1,
    )
done_delivered h now mid echo d received ticket reply all t (inr far) = inr (or_right (is_far_above t.context t.life t.number ticket) (lies_far_back h t.context t.life t.number) far)

-- ---- a reply

done_replied : (h : History) (ticket : TicketValues) (own : Bool) (mid room : ℕ) (plain : Parts) (bytes : List ℕ) → AllAnswers (Then h (Reply ticket own mid plain room) (Replied bytes))
    → (t : TicketValues) → IsDone h t → IsDone (Then h (Reply ticket own mid plain room) (Replied bytes)) t
done_replied h ticket own mid room plain bytes all t (inl done) = inl (
  still_spent h (Reply ticket own mid plain room) (Replied bytes) all.1 (none_beyond h all.0) t done.0,
  cond_both (is_to t.context t.life t.number ticket) false (waits h t.context t.life t.number) (λ b. b ≡ false) (λ _. refl) (λ _. done.1),
)
done_replied h ticket own mid room plain bytes all t (inr far) = inr far

-- the request of a ticket that waits is apart from those that are done
waiting_apart : (h : History) (ticket t : TicketValues) → AllAnswers h → waits h ticket.context ticket.life ticket.number ≡ true → IsDone h t → AreApart ticket t
waiting_apart h ticket t all waiting done context life number =
    both_ways (waits h t.context t.life t.number) (waits_not done)
    (subst (λ i. waits h i t.life t.number ≡ true) context (subst (λ c. waits h ticket.context c t.number ≡ true) life (subst (λ n. waits h ticket.context ticket.life n ≡ true) number waiting)))
  where
    waits_not : IsDone h t → waits h t.context t.life t.number ≡ false
    waits_not (inl met) = met.1
    waits_not (inr far) = far_waits_not h all t.context t.life t.number far

-- a reply that is due is to a request that waits, or to one that lies far back and then has a Partial IV of its own
pub due_parts : (w own far : Bool) → (w || (own && far)) ≡ true → (w ≡ true) ⊎ ((own ≡ true) × (far ≡ true))
due_parts true own far due = inl refl
due_parts false own far due = inr (and_parts own far due)

replied_first : (h : History) (ticket : TicketValues) → AllAnswers h → AllByRecursion (IsDone h) (answered h) → waits h ticket.context ticket.life ticket.number ≡ true
    → AllByRecursion (AreApart ticket) (answered h)
replied_first h ticket all done waiting = all_kept (IsDone h) (AreApart ticket) (answered h) (λ t. waiting_apart h ticket t all waiting) done

replied_done : ValueNumberInRange → (h : History) (ticket : TicketValues) (own : Bool) (mid room : ℕ) (plain : Parts) (bytes : List ℕ)
    → AllAnswers (Then h (Reply ticket own mid plain room) (Replied bytes)) → is_due h ticket own ≡ true → IsDone (Then h (Reply ticket own mid plain room) (Replied bytes)) ticket
replied_done range h ticket own mid room plain bytes all due =
    elim (due_parts (waits h ticket.context ticket.life ticket.number) own (lies_far_back h ticket.context ticket.life ticket.number) due) [
      | inl waiting ↦ inl (
        still_spent h (Reply ticket own mid plain room) (Replied bytes) all.1 (none_beyond h all.0) ticket
            (spent_itself (life h ticket.context) ticket (met range h all.0 ticket.context ticket.life ticket.number waiting).spent),
        cond-true (is_to ticket.context ticket.life ticket.number ticket) false (waits h ticket.context ticket.life ticket.number) (is_to_itself ticket),
      )
      | inr late ↦ inr late.1
    ]

-- a reply without a Partial IV of its own is to a request that waits
plainly_waits : (w far : Bool) → (w || (false && far)) ≡ true → w ≡ true
plainly_waits true far due = refl
plainly_waits false far due = absurd (both_ways false refl due)

-- ---- histories

tracked : ValueNumberInRange → (h : History) → AllAnswers h → AnswersDue h → AreTracked h
tracked range Begin all due = record { done = tt; first = tt; in_range = tt; apart = tt }
tracked range (Then h (Datagram now echo mid d) (Took (Deliver received ticket) reply)) all due =
    let before = tracked range h all.0 due in
    let g = Then h (Datagram now echo mid d) (Took (Deliver received ticket) reply) in
    record { done = all_kept (IsDone h) (IsDone g) (answered h) (done_delivered h now mid echo d received ticket reply all) before.done; first = before.first; in_range = before.in_range; apart = before.apart }
tracked range (Then h (Reply ticket true mid plain room) (Replied bytes)) all due =
    let before = tracked range h all.0 due.0 in
    let g = Then h (Reply ticket true mid plain room) (Replied bytes) in
    record {
      done = (replied_done range h ticket true mid room plain bytes all due.1, all_kept (IsDone h) (IsDone g) (answered h) (done_replied h ticket true mid room plain bytes all) before.done);
      first = (before.first, replied_first h ticket all.0 before.done);
      in_range = before.in_range;
      apart = before.apart;
    }
tracked range (Then h (Reply ticket false mid plain room) (Replied bytes)) all due =
    let before = tracked range h all.0 due.0 in
    let g = Then h (Reply ticket false mid plain room) (Replied bytes) in
    let waiting = plainly_waits (waits h ticket.context ticket.life ticket.number) (lies_far_back h ticket.context ticket.life ticket.number) due.1 in
    record {
      done = (replied_done range h ticket false mid room plain bytes all due.1, all_kept (IsDone h) (IsDone g) (answered h) (done_replied h ticket false mid room plain bytes all) before.done);
      first = (before.first, replied_first h ticket all.0 before.done);
      in_range = ((met range h all.0 ticket.context ticket.life ticket.number waiting).in_range, before.in_range);
      apart = (all_plainly (AreApart ticket) h (replied_first h ticket all.0 before.done waiting), before.apart);
    }
tracked range (Then h event entry) all due =
    let before = tracked range h all.0 due in
    record {
      done = all_kept (IsDone h) (IsDone (Then h event entry)) (answered h) (λ t. still_done h (Then h event entry) t refl refl (still_spent h event entry all.1 (none_beyond h all.0) t)) before.done;
      first = before.first;
      in_range = before.in_range;
      apart = before.apart;
    }

pub answers_once : ValueNumberInRange → AnsweredOnce
answers_once range h all due = (tracked range h all due).first

pub waiting_nonces : OneNonce → ValueNumberInRange → SealedHeads → WaitingNoncesOnce
waiting_nonces one range shows h all due =
    let t = tracked range h all due in
    texts_apart one shows h all t.apart t.in_range

life_of : (o : Option Life) (i c n : ℕ) → IsSpentIn o (request_of i c n) → (of : Life) × (o ≡ Some of) × (c ≤ of.count)
life_of None i c n h = absurd h
life_of (Some of) i c n h = (of, refl, h.0)

pub waiting_life : ValueNumberInRange → WaitingHasLife
waiting_life range h i c n all waiting = life_of (life h i) i c n (met range h all i c n waiting).spent
