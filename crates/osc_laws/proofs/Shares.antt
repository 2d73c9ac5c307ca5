-- That a context of a server is answered as if it were alone.
use Rattle.std.proofs.Common.{◌≡◌, ℕ, zero, suc, ◌+◌, ◌≤◌, ◌∙◌, sym, ap, subst, refl, arith, Bool, true, false, Option, Some, None, List}
use Rattle.std.specs.Prelude.{◌==◌, max, if◌then◌else◌}
use Rattle.std.specs.Option.{option_map}
use Rattle.std.proofs.lemmas.Bool.{cond-false, eqb-true, ne_eqb}
use Rattle.osc_coap.specs.Datagram.{Parts}
use Rattle.osc_protect.specs.Protection.{requests}
use Rattle.osc_protect.specs.Refusals.{Names}
use Rattle.osc_context.specs.SecurityContext.{SecurityContext}
use Rattle.osc_laws.specs.Laws.{AllAnswers}
use Rattle.osc_life.specs.Life.{Life, Mark, born, marked, renewed, succeeding}
use Rattle.osc_life.specs.Replies.{as_reply}
use Rattle.osc_endpoint.specs.ServerAnswer.{AddAnswer, HasSenderIn, IsTaken, IsTakenBeside, MeetsNamedRow, MeetsRow, NamesNone, NotifyAnswer, ReplaceAnswer, ReplyAnswer, SaysReply, TakeAnswer, arrival}
use Rattle.osc_life.specs.LifeAnswer.{Arrival, LifeReplace, LifeRestart, LifeSkip, MeetsLifeRow, as_notification}
use Rattle.osc_life.specs.ServerHistory.{Add, Added, Advance, Advanced, Answer, BadInner, BadTag, Begin, Challenge, Datagram, Deliver, Entry, History, Malformed, NoContext, NotReplied, NotRequest, Notify, Plain, Replace, Replaced, Replay, Replied, Reply, Restart, Restarted, Skip, Skipped, SequenceExhausted, Then, TicketValues, Took, Undecodable, added, clock, life, mark_at, reply_mark_at, skip_mark_at}
use Rattle.osc_life.specs.declared.server_error.ReplyError.TheVariants.{NotObserving, StaleTicket}
use Rattle.osc_laws.proofs.DeliveredNumbers.{none_beyond}
use Rattle.osc_endpoint.proofs.Places.{same_life}
use Rattle.osc_laws.specs.OneContext.{ContextsStandAlone, NamesNoOther, answer_alone, concerns, share, ticket_alone}

-- ---- what an answer leaves

-- an answer that concerns the context leaves the same in the only life of a server that has it alone
same_mark : (i : ℕ) (answer : Answer) → concerns i answer ≡ true → mark_at 0 (answer_alone answer) ≡ mark_at i answer
same_mark i (BadInner context number) e = rw e refl
same_mark i (Challenge context number echo issued) e = rw e refl
same_mark i (Deliver received ticket) e = rw e refl
same_mark i answer e = absurd (cc)

-- any other answer leaves nothing
no_mark : (i : ℕ) (answer : Answer) → concerns i answer ≡ false → mark_at i answer ≡ None
no_mark i (BadInner context number) e = rw e refl
no_mark i (Challenge context number echo issued) e = rw e refl
no_mark i (Deliver received ticket) e = rw e refl
no_mark i answer e = refl

-- so for a reply
same_reply_mark : (i : ℕ) (ticket : TicketValues) (own : Bool) → (i == ticket.context) ≡ true → reply_mark_at 0 (ticket_alone ticket) own ≡ reply_mark_at i ticket own
same_reply_mark i ticket own e = rw e refl

no_reply_mark : (i : ℕ) (ticket : TicketValues) (own : Bool) → (i == ticket.context) ≡ false → reply_mark_at i ticket own ≡ None
no_reply_mark i ticket true e = rw e refl
no_reply_mark i ticket false e = refl

same_skip_mark : (i context count : ℕ) → (i == context) ≡ true → skip_mark_at 0 0 count ≡ skip_mark_at i context count
same_skip_mark i context count e = rw e refl

no_skip_mark : (i context count : ℕ) → (i == context) ≡ false → skip_mark_at i context count ≡ None
no_skip_mark i context count e = rw e refl

-- ---- clock, lives and count of a share

-- what holds of either of two histories holds of the one that a test chooses
pub of_chosen : (P : History → Type 0) (b : Bool) (x y : History) → (b ≡ true → P x) → (b ≡ false → P y) → P (if b then x else y)
of_chosen P true x y h k = h refl
of_chosen P false x y h k = k refl

clock_share : (i : ℕ) (h : History) → AllAnswers h → clock (share i h) ≡ clock h
clock_share i Begin all = refl
clock_share i (Then h (Add context start size places) (Added index)) all =
    let before = clock_share i h all.0 in
    of_chosen (λ g. clock g ≡ clock h) (i == index) (Then (share i h) (Add context start size places) (Added 0)) (share i h) (λ e. before) (λ e. before)
clock_share i (Then h (Datagram now echo mid d) (Took answer reply)) all =
    let later = ap (λ (c : ℕ). max c now) (clock_share i h all.0) in
    of_chosen (λ g. clock g ≡ max (clock h) now) (concerns i answer) (Then (share i h) (Datagram now echo mid d) (Took (answer_alone answer) reply)) (Then (share i h) (Advance now) Advanced) (λ e. later) (λ e. later)
clock_share i (Then h (Reply ticket own mid plain room) (Replied bytes)) all =
    let before = clock_share i h all.0 in
    of_chosen (λ g. clock g ≡ clock h) (i == ticket.context) (Then (share i h) (Reply (ticket_alone ticket) own mid plain room) (Replied bytes)) (share i h) (λ e. before) (λ e. before)
clock_share i (Then h (Notify ticket plain room) (Replied bytes)) all =
    let before = clock_share i h all.0 in
    of_chosen (λ g. clock g ≡ clock h) (i == ticket.context) (Then (share i h) (Notify (ticket_alone ticket) plain room) (Replied bytes)) (share i h) (λ e. before) (λ e. before)
clock_share i (Then h (Restart context next) Restarted) all =
    let before = clock_share i h all.0 in
    of_chosen (λ g. clock g ≡ clock h) (i == context) (Then (share i h) (Restart 0 next) Restarted) (share i h) (λ e. before) (λ e. before)
clock_share i (Then h (Replace context by start size) Replaced) all =
    let before = clock_share i h all.0 in
    of_chosen (λ g. clock g ≡ clock h) (i == context) (Then (share i h) (Replace 0 by start size) Replaced) (share i h) (λ e. before) (λ e. before)
clock_share i (Then h (Skip context count) Skipped) all =
    let before = clock_share i h all.0 in
    of_chosen (λ g. clock g ≡ clock h) (i == context) (Then (share i h) (Skip 0 count) Skipped) (share i h) (λ e. before) (λ e. before)
clock_share i (Then h (Advance now) Advanced) all = ap (λ (c : ℕ). max c now) (clock_share i h all.0)
clock_share i (Then h (Add context start size places) entry) all = clock_share i h all.0
clock_share i (Then h (Datagram now echo mid d) entry) all = absurd all.1
clock_share i (Then h (Reply ticket own mid plain room) entry) all = clock_share i h all.0
clock_share i (Then h (Notify ticket plain room) entry) all = clock_share i h all.0
clock_share i (Then h (Restart context next) entry) all = clock_share i h all.0
clock_share i (Then h (Replace context by start size) entry) all = clock_share i h all.0
clock_share i (Then h (Skip context count) entry) all = clock_share i h all.0
clock_share i (Then h (Advance now) entry) all = absurd all.1

-- one test chooses a history and a life
life_chosen : (b : Bool) (x y : History) (l k : Option Life) → (b ≡ true → life x 0 ≡ l) → (b ≡ false → life y 0 ≡ k) → life (if b then x else y) 0 ≡ (if b then l else k)
life_chosen true x y l k h g = h refl
life_chosen false x y l k h g = g refl

life_share : (i : ℕ) (h : History) → life (share i h) 0 ≡ life h i
life_share i Begin = refl
life_share i (Then h (Add context start size places) (Added index)) =
    life_chosen (i == index) (Then (share i h) (Add context start size places) (Added 0)) (share i h) (Some (born context start size)) (life h i) (λ e. refl) (λ e. life_share i h)
life_share i (Then h (Datagram now echo mid d) (Took answer reply)) =
    of_chosen (λ g. life g 0 ≡ option_map (marked (mark_at i answer)) (life h i)) (concerns i answer) (Then (share i h) (Datagram now echo mid d) (Took (answer_alone answer) reply)) (Then (share i h) (Advance now) Advanced)
    (λ e. ap (λ (m : Option Mark). option_map (marked m) (life (share i h) 0)) (same_mark i answer e) ∙ ap (option_map (marked (mark_at i answer))) (life_share i h))
    (λ e. life_share i h ∙ sym (same_life (life h i) (mark_at i answer) (no_mark i answer e)))
life_share i (Then h (Reply ticket own mid plain room) (Replied bytes)) =
    of_chosen (λ g. life g 0 ≡ option_map (marked (reply_mark_at i ticket own)) (life h i)) (i == ticket.context) (Then (share i h) (Reply (ticket_alone ticket) own mid plain room) (Replied bytes)) (share i h)
    (λ e. ap (λ (m : Option Mark). option_map (marked m) (life (share i h) 0)) (same_reply_mark i ticket own e) ∙ ap (option_map (marked (reply_mark_at i ticket own))) (life_share i h))
    (λ e. life_share i h ∙ sym (same_life (life h i) (reply_mark_at i ticket own) (no_reply_mark i ticket own e)))
life_share i (Then h (Notify ticket plain room) (Replied bytes)) =
    of_chosen (λ g. life g 0 ≡ option_map (marked (reply_mark_at i ticket true)) (life h i)) (i == ticket.context) (Then (share i h) (Notify (ticket_alone ticket) plain room) (Replied bytes)) (share i h)
    (λ e. ap (λ (m : Option Mark). option_map (marked m) (life (share i h) 0)) (same_reply_mark i ticket true e) ∙ ap (option_map (marked (reply_mark_at i ticket true))) (life_share i h))
    (λ e. life_share i h ∙ sym (same_life (life h i) (reply_mark_at i ticket true) (no_reply_mark i ticket true e)))
life_share i (Then h (Restart context next) Restarted) =
    life_chosen (i == context) (Then (share i h) (Restart 0 next) Restarted) (share i h) (option_map (renewed next) (life h i)) (life h i) (λ e. ap (option_map (renewed next)) (life_share i h)) (λ e. life_share i h)
life_share i (Then h (Replace context by start size) Replaced) =
    life_chosen (i == context) (Then (share i h) (Replace 0 by start size) Replaced) (share i h) (option_map (succeeding by start size) (life h i)) (life h i) (λ e. ap (option_map (succeeding by start size)) (life_share i h)) (λ e. life_share i h)
life_share i (Then h (Skip context count) Skipped) =
    of_chosen (λ g. life g 0 ≡ option_map (marked (skip_mark_at i context count)) (life h i)) (i == context) (Then (share i h) (Skip 0 count) Skipped) (share i h)
    (λ e. ap (λ (m : Option Mark). option_map (marked m) (life (share i h) 0)) (same_skip_mark i context count e) ∙ ap (option_map (marked (skip_mark_at i context count))) (life_share i h))
    (λ e. life_share i h ∙ sym (same_life (life h i) (skip_mark_at i context count) (no_skip_mark i context count e)))
life_share i (Then h (Advance now) Advanced) = life_share i h
life_share i (Then h event entry) = life_share i h

not_first : (j : ℕ) → (suc j == 0) ≡ false
not_first j = ne_eqb (suc j) 0 (λ e. omega (arith, e))

-- it has no other life
none_else : (i j : ℕ) (h : History) → life (share i h) (suc j) ≡ None
none_else i j Begin = refl
none_else i j (Then h (Add context start size places) (Added index)) =
    of_chosen (λ g. life g (suc j) ≡ None) (i == index) (Then (share i h) (Add context start size places) (Added 0)) (share i h)
    (λ e. cond-false (suc j == 0) (Some (born context start size)) (life (share i h) (suc j)) (not_first j) ∙ none_else i j h) (λ e. none_else i j h)
none_else i j (Then h (Datagram now echo mid d) (Took answer reply)) =
    of_chosen (λ g. life g (suc j) ≡ None) (concerns i answer) (Then (share i h) (Datagram now echo mid d) (Took (answer_alone answer) reply)) (Then (share i h) (Advance now) Advanced)
    (λ e. ap (option_map (marked (mark_at (suc j) (answer_alone answer)))) (none_else i j h)) (λ e. none_else i j h)
none_else i j (Then h (Reply ticket own mid plain room) (Replied bytes)) =
    of_chosen (λ g. life g (suc j) ≡ None) (i == ticket.context) (Then (share i h) (Reply (ticket_alone ticket) own mid plain room) (Replied bytes)) (share i h)
    (λ e. ap (option_map (marked (reply_mark_at (suc j) (ticket_alone ticket) own))) (none_else i j h)) (λ e. none_else i j h)
none_else i j (Then h (Notify ticket plain room) (Replied bytes)) =
    of_chosen (λ g. life g (suc j) ≡ None) (i == ticket.context) (Then (share i h) (Notify (ticket_alone ticket) plain room) (Replied bytes)) (share i h)
    (λ e. ap (option_map (marked (reply_mark_at (suc j) (ticket_alone ticket) true))) (none_else i j h)) (λ e. none_else i j h)
none_else i j (Then h (Restart context next) Restarted) =
    of_chosen (λ g. life g (suc j) ≡ None) (i == context) (Then (share i h) (Restart 0 next) Restarted) (share i h)
    (λ e. cond-false (suc j == 0) (option_map (renewed next) (life (share i h) (suc j))) (life (share i h) (suc j)) (not_first j) ∙ none_else i j h) (λ e. none_else i j h)
none_else i j (Then h (Replace context by start size) Replaced) =
    of_chosen (λ g. life g (suc j) ≡ None) (i == context) (Then (share i h) (Replace 0 by start size) Replaced) (share i h)
    (λ e. cond-false (suc j == 0) (option_map (succeeding by start size) (life (share i h) (suc j))) (life (share i h) (suc j)) (not_first j) ∙ none_else i j h) (λ e. none_else i j h)
none_else i j (Then h (Skip context count) Skipped) =
    of_chosen (λ g. life g (suc j) ≡ None) (i == context) (Then (share i h) (Skip 0 count) Skipped) (share i h)
    (λ e. ap (option_map (marked (skip_mark_at (suc j) 0 count))) (none_else i j h)) (λ e. none_else i j h)
none_else i j (Then h (Advance now) Advanced) = none_else i j h
none_else i j (Then h event entry) = none_else i j h

-- before a context is added its share has none
pub none_yet : (i : ℕ) (h : History) → AllAnswers h → added h ≤ i → added (share i h) ≡ 0
none_yet i Begin all early = refl
none_yet i (Then h (Add context start size places) (Added index)) all early =
    let later : added h + 1 ≤ i = early in
    let index_is : index ≡ added h = all.1.1.2 in
    of_chosen (λ g. added g ≡ 0) (i == index) (Then (share i h) (Add context start size places) (Added 0)) (share i h)
    (λ e. absurd (omega (arith, later, index_is, eqb-true i index e))) (λ e. none_yet i h all.0 (omega (arith, later)))
none_yet i (Then h (Datagram now echo mid d) (Took answer reply)) all early =
    let before = none_yet i h all.0 early in
    of_chosen (λ g. added g ≡ 0) (concerns i answer) (Then (share i h) (Datagram now echo mid d) (Took (answer_alone answer) reply)) (Then (share i h) (Advance now) Advanced) (λ e. before) (λ e. before)
none_yet i (Then h (Reply ticket own mid plain room) (Replied bytes)) all early =
    let before = none_yet i h all.0 early in
    of_chosen (λ g. added g ≡ 0) (i == ticket.context) (Then (share i h) (Reply (ticket_alone ticket) own mid plain room) (Replied bytes)) (share i h) (λ e. before) (λ e. before)
none_yet i (Then h (Notify ticket plain room) (Replied bytes)) all early =
    let before = none_yet i h all.0 early in
    of_chosen (λ g. added g ≡ 0) (i == ticket.context) (Then (share i h) (Notify (ticket_alone ticket) plain room) (Replied bytes)) (share i h) (λ e. before) (λ e. before)
none_yet i (Then h (Restart context next) Restarted) all early =
    let before = none_yet i h all.0 early in
    of_chosen (λ g. added g ≡ 0) (i == context) (Then (share i h) (Restart 0 next) Restarted) (share i h) (λ e. before) (λ e. before)
none_yet i (Then h (Replace context by start size) Replaced) all early =
    let before = none_yet i h all.0 early in
    of_chosen (λ g. added g ≡ 0) (i == context) (Then (share i h) (Replace 0 by start size) Replaced) (share i h) (λ e. before) (λ e. before)
none_yet i (Then h (Skip context count) Skipped) all early =
    let before = none_yet i h all.0 early in
    of_chosen (λ g. added g ≡ 0) (i == context) (Then (share i h) (Skip 0 count) Skipped) (share i h) (λ e. before) (λ e. before)
none_yet i (Then h event (Added index)) all early = let later : added h + 1 ≤ i = early in none_yet i h all.0 (omega (arith, later))
none_yet i (Then h event entry) all early = none_yet i h all.0 early

-- ---- rows

-- a row of the life is the same row at index 0
life_row : (of : Life) (i n : ℕ) (a : Arrival) (answer : Answer) → MeetsLifeRow of i n a answer → MeetsLifeRow of 0 n a (answer_alone answer)
life_row of i n a (Malformed fault place) row = row
life_row of i n a NotRequest row = row
life_row of i n a Plain row = row
life_row of i n a Undecodable row = row
life_row of i n a NoContext row = row
life_row of i n a Replay row = row
life_row of i n a BadTag row = row
life_row of i n a (BadInner j k) row = (row.0, row.1, refl, row.3)
life_row of i n a (Challenge j k given issued) row = (row.0, row.1, row.2, refl, row.4)
life_row of i n a SequenceExhausted row = row
life_row of i n a (Deliver received ticket) row = (row.0, row.1, ap ticket_alone row.2)

-- a row of the context's life is one of a server that has it alone
named_row : (h g : History) (i : ℕ) → life g 0 ≡ life h i → (a : Arrival) (answer : Answer) → (row : MeetsNamedRow h a answer) → row.0 ≡ i → MeetsNamedRow g a (answer_alone answer)
named_row h g i here a answer (j, n, of, request, row) e =
    (0, n, of, record { head = request.head; has_head = request.has_head; life_is = here ∙ ap (life h) (sym e) ∙ request.life_is; names = request.names }, life_row of j n a answer row)

-- the only life in g is that of context i in h
module _ (h g : History) (i : ℕ) (here : life g 0 ≡ life h i) (nowhere : (j : ℕ) → life g (suc j) ≡ None) where
  none_named : (d : List ℕ) → NamesNone h d → NamesNone g d
  none_named d (head, has, none) = (head, has, unnamed)
    where
      unnamed : (j : ℕ) (of : Life) → life g j ≡ Some of → (n : ℕ) → Names (requests of.context) head n → ⊥
      unnamed zero of e n names = none i of (sym here ∙ e) n names
      unnamed (suc j) of e n names = absurd (let e' : None ≡ Some of = sym (nowhere j) ∙ e in cc)

  row_alone : (a : Arrival) (answer : Answer) → NamesNoOther h i a.bytes → MeetsRow h a answer → MeetsRow g a (answer_alone answer)
  row_alone a (Malformed fault place) only row = row
  row_alone a NotRequest only row = row
  row_alone a Plain only row = row
  row_alone a Undecodable only row = row
  row_alone a NoContext only row = none_named a.bytes row
  row_alone a answer only row = named_row h g i here a answer row (only row.0 row.1 row.2 row.3)

  -- a challenge is of the context that its row names
  reply_alone : (a : Arrival) (answer : Answer) (reply : List ℕ) → NamesNoOther h i a.bytes → TakeAnswer h a answer reply → SaysReply g a (answer_alone answer) reply
  reply_alone a (Challenge j k given issued) reply only ((index, n, of, request, row), (other, is, says)) =
      (other, here ∙ ap (life h) (sym (row.3 ∙ only index n of request)) ∙ is, says)
  reply_alone a answer reply only both = both.1

  take_alone : (a : Arrival) (answer : Answer) (reply : List ℕ) → NamesNoOther h i a.bytes → TakeAnswer h a answer reply → TakeAnswer g a (answer_alone answer) reply
  take_alone a answer reply only both = (row_alone a answer only both.0, reply_alone a answer reply only both)

  ticket_row : (t : TicketValues) (own : Bool) (p : Parts) (room : ℕ) (entry : Entry) → t.context ≡ i → ReplyAnswer h t own p room entry → ReplyAnswer g (ticket_alone t) own p room entry
  ticket_row t own p room (NotReplied StaleTicket) e row = λ of present. row of (ap (life h) e ∙ sym here ∙ present.0, present.1)
  ticket_row t own p room entry e (of, present, row) = (of, (here ∙ ap (life h) (sym e) ∙ present.0, present.1), row)

  notify_row : (t : TicketValues) (p : Parts) (room : ℕ) (entry : Entry) → t.context ≡ i → NotifyAnswer h t p room entry → NotifyAnswer g (ticket_alone t) p room entry
  notify_row t p room (NotReplied StaleTicket) e row = λ of present. row of (ap (life h) e ∙ sym here ∙ present.0, present.1)
  notify_row t p room (NotReplied NotObserving) e row = (row.0, (here ∙ ap (life h) (sym e) ∙ row.1.0, row.1.1), row.2)
  notify_row t p room entry e row = (row.0, (row.1.0, (here ∙ ap (life h) (sym e) ∙ row.1.1.0, row.1.1.1), row.1.2))

-- ---- events

-- the same arrival, by the same clock
same_arrival : (h g : History) (now mid : ℕ) (echo d : List ℕ) → clock g ≡ clock h → arrival h now echo mid d ≡ arrival g now echo mid d
same_arrival h g now mid echo d e = ap (λ (c : ℕ). record { clock = max c now; echo = echo; mid = mid; bytes = d }) (sym e)

-- it gets the same answer and reply by the context's life alone
concerned_take : (h g : History) (i now mid : ℕ) (echo d : List ℕ) (answer : Answer) (reply : List ℕ) → life g 0 ≡ life h i → clock g ≡ clock h → concerns i answer ≡ true
    → TakeAnswer h (arrival h now echo mid d) answer reply → TakeAnswer g (arrival g now echo mid d) (answer_alone answer) reply
concerned_take h g i now mid echo d answer reply here same e both =
    subst (λ a. TakeAnswer g a (answer_alone answer) reply) (same_arrival h g now mid echo d same) (concerned h g i (arrival h now echo mid d) answer reply here e both)
  where
    concerned : (h g : History) (i : ℕ) (a : Arrival) (answer : Answer) (reply : List ℕ) → life g 0 ≡ life h i → concerns i answer ≡ true → TakeAnswer h a answer reply → TakeAnswer g a (answer_alone answer) reply
    concerned h g i a (BadInner j k) reply here e (row, says) = (named_row h g i here a (BadInner j k) row (sym (eqb-true i j e ∙ row.4.2)), says)
    concerned h g i a (Challenge j k given issued) reply here e (row, (of, is, says)) =
        (named_row h g i here a (Challenge j k given issued) row (sym (eqb-true i j e ∙ row.4.3)), (of, here ∙ ap (life h) (eqb-true i j e) ∙ is, says))
    concerned h g i a (Deliver received ticket) reply here e (row, says) =
        (named_row h g i here a (Deliver received ticket) row (sym (eqb-true i ticket.context e ∙ ap (λ (t : TicketValues). t.context) row.4.2)), says)
    concerned h g i a answer reply here e both = absurd (cc)

-- the first context of a share is added to an empty server
added_first : (h : History) (s : SecurityContext) (i index places : ℕ) → AllAnswers h → (i == index) ≡ true → AddAnswer h s places (Added index) → AddAnswer (share i h) s places (Added 0)
added_first h s i index places all e row =
    let early : added h ≤ i = omega (arith, row.2, eqb-true i index e) in
    let empty = none_yet i h all early in
    (omega (arith, empty, row.0), untaken (share i h) (life_share i h ∙ none_beyond h all i early) (λ j. none_else i j h), sym empty)
  where
    untaken : (g : History) → life g 0 ≡ None → ((j : ℕ) → life g (suc j) ≡ None) → IsTaken g s → ⊥
    untaken g none others (zero, of, is, same) = absurd (let e' : None ≡ Some of = sym none ∙ is in cc)
    untaken g none others (suc j, of, is, same) = absurd (let e' : None ≡ Some of = sym (others j) ∙ is in cc)

-- what is alone has no other beside it, and its own Sender Key alone
replaced_alone : (h g : History) (i : ℕ) (s : SecurityContext) → life g 0 ≡ life h i → ((j : ℕ) → life g (suc j) ≡ None) → ReplaceAnswer (life h) i s Replaced → ReplaceAnswer (life g) 0 s Replaced
replaced_alone h g i s here nowhere (left, free, differs) = (subst (λ o. LifeReplace o Replaced) (sym here) left, unbeside, unshared)
  where
    unbeside : IsTakenBeside (life g) 0 s → ⊥
    unbeside (zero, of, other, is, same) = other refl
    unbeside (suc j, of, other, is, same) = absurd (let e : None ≡ Some of = sym (nowhere j) ∙ is in cc)

    unshared : HasSenderIn (life g) s → ⊥
    unshared (zero, of, is, same) = differs (i, of, sym here ∙ is, same)
    unshared (suc j, of, is, same) = absurd (let e : None ≡ Some of = sym (nowhere j) ∙ is in cc)

-- each entry of a share is an answer
answers_share : (i : ℕ) (h : History) → AllAnswers h → AllAnswers (share i h)
answers_share i Begin all = tt
answers_share i (Then h (Add context start size places) (Added index)) all =
    of_chosen AllAnswers (i == index) (Then (share i h) (Add context start size places) (Added 0)) (share i h)
    (λ e. (answers_share i h all.0, (all.1.0, added_first h context i index places all.0 e all.1.1))) (λ e. answers_share i h all.0)
answers_share i (Then h (Datagram now echo mid d) (Took answer reply)) all =
    of_chosen AllAnswers (concerns i answer) (Then (share i h) (Datagram now echo mid d) (Took (answer_alone answer) reply)) (Then (share i h) (Advance now) Advanced)
    (λ e. (answers_share i h all.0, concerned_take h (share i h) i now mid echo d answer reply (life_share i h) (clock_share i h all.0) e all.1)) (λ e. (answers_share i h all.0, tt))
answers_share i (Then h (Reply ticket own mid plain room) (Replied bytes)) all =
    of_chosen AllAnswers (i == ticket.context) (Then (share i h) (Reply (ticket_alone ticket) own mid plain room) (Replied bytes)) (share i h)
    (λ e. (answers_share i h all.0, ticket_row h (share i h) i (life_share i h) (λ j. none_else i j h) ticket own (as_reply ticket.kind ticket.message_id ticket.token mid plain) room (Replied bytes) (sym (eqb-true i ticket.context e)) all.1))
    (λ e. answers_share i h all.0)
answers_share i (Then h (Notify ticket plain room) (Replied bytes)) all =
    of_chosen AllAnswers (i == ticket.context) (Then (share i h) (Notify (ticket_alone ticket) plain room) (Replied bytes)) (share i h)
    (λ e. (answers_share i h all.0, notify_row h (share i h) i (life_share i h) (λ j. none_else i j h) ticket (as_notification ticket.token plain) room (Replied bytes) (sym (eqb-true i ticket.context e)) all.1))
    (λ e. answers_share i h all.0)
answers_share i (Then h (Restart context next) Restarted) all =
    of_chosen AllAnswers (i == context) (Then (share i h) (Restart 0 next) Restarted) (share i h)
    (λ e. (answers_share i h all.0, subst (λ o. LifeRestart o Restarted) (sym (life_share i h ∙ ap (life h) (eqb-true i context e))) all.1)) (λ e. answers_share i h all.0)
answers_share i (Then h (Replace context by start size) Replaced) all =
    of_chosen AllAnswers (i == context) (Then (share i h) (Replace 0 by start size) Replaced) (share i h)
    (λ e. (
      answers_share i h all.0,
      (all.1.0, replaced_alone h (share i h) i by (life_share i h) (λ j. none_else i j h) (subst (λ j. ReplaceAnswer (life h) j by Replaced) (sym (eqb-true i context e)) all.1.1)),
    )) (λ e. answers_share i h all.0)
answers_share i (Then h (Skip context count) Skipped) all =
    of_chosen AllAnswers (i == context) (Then (share i h) (Skip 0 count) Skipped) (share i h)
    (λ e. (answers_share i h all.0, subst (λ o. LifeSkip o count Skipped) (sym (life_share i h ∙ ap (life h) (eqb-true i context e))) all.1)) (λ e. answers_share i h all.0)
answers_share i (Then h (Advance now) Advanced) all = (answers_share i h all.0, tt)
answers_share i (Then h event entry) all = answers_share i h all.0

pub contexts_stand_alone : ContextsStandAlone
contexts_stand_alone h i all = record {
  answers = answers_share i h all;
  clock_is = clock_share i h all;
  life_is = life_share i h;
  datagram = λ now echo mid d answer reply only row.
      subst (λ a. TakeAnswer (share i h) a (answer_alone answer) reply) (same_arrival h (share i h) now mid echo d (clock_share i h all))
      (take_alone h (share i h) i (life_share i h) (λ j. none_else i j h) (arrival h now echo mid d) answer reply only row);
  reply = λ ticket own mid plain room entry e row.
      ticket_row h (share i h) i (life_share i h) (λ j. none_else i j h) ticket own (as_reply ticket.kind ticket.message_id ticket.token mid plain) room entry e row;
  notify = λ ticket plain room entry e row.
      notify_row h (share i h) i (life_share i h) (λ j. none_else i j h) ticket (as_notification ticket.token plain) room entry e row;
  restart = λ next entry row. subst (λ o. LifeRestart o entry) (sym (life_share i h)) row;
  replace = λ by start size row. (row.0, replaced_alone h (share i h) i by (life_share i h) (λ j. none_else i j h) row.1);
  skip = λ count entry row. subst (λ o. LifeSkip o count entry) (sym (life_share i h)) row;
}
