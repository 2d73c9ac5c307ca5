-- To be believed: what one context of a server has to do with the others: nothing. The contract of laws.rt. h is a history, i the
-- index of a context.
use Rattle.std.specs.Prelude.{◌≡◌, ℕ, ◌==◌, Bool, false, List, if◌then◌else◌}
use Rattle.osc_coap.specs.Datagram.{Parts}
use Rattle.osc_context.specs.SecurityContext.{SecurityContext}
use Rattle.osc_laws.specs.Laws.{AllAnswers}
use Rattle.osc_life.specs.Life.{Life}
use Rattle.osc_life.specs.declared.start.Start.{Start}
use Rattle.osc_window.specs.declared.window_size.WindowSize.{WindowSize}
use Rattle.osc_endpoint.specs.ServerAnswer.{IsRequestOf, ServerAnswer}
use Rattle.osc_life.specs.ServerHistory.{Add, Added, Advance, Advanced, Answer, BadInner, Begin, Challenge, Datagram, Deliver, Entry, History, Notify, Replace, Replaced, Replied, Reply, Restart, Restarted, Skip, Skipped, Then, TicketValues, Took, clock, life}

-- the answer leaves something in the life of this context (own rule)
abbrev pub concerns : ℕ → Answer → Bool
concerns i (BadInner context number) = i == context
concerns i (Challenge context number echo issued) = i == context
concerns i (Deliver received ticket) = i == ticket.context
concerns i answer = false

-- a ticket of a server that has this context alone, at index 0 (own rule)
abbrev pub ticket_alone : TicketValues → TicketValues
ticket_alone ticket = record ticket { context = 0 }

-- the same for an answer (own rule)
abbrev pub answer_alone : Answer → Answer
answer_alone (BadInner context number) = BadInner 0 number
answer_alone (Challenge context number echo issued) = Challenge 0 number echo issued
answer_alone (Deliver received ticket) = Deliver received (ticket_alone ticket)
answer_alone answer = answer

-- what happened to this context, as the history of a server that has it alone; of every other datagram only the moment is left (own rule)
abbrev pub share : ℕ → History → History
share i Begin = Begin
share i (Then h (Add context start size places) (Added index)) = if i == index then Then (share i h) (Add context start size places) (Added 0) else share i h
share i (Then h (Datagram now echo mid d) (Took answer reply)) =
    if concerns i answer then Then (share i h) (Datagram now echo mid d) (Took (answer_alone answer) reply) else Then (share i h) (Advance now) Advanced
share i (Then h (Reply ticket own mid plain room) (Replied bytes)) =
    if i == ticket.context then Then (share i h) (Reply (ticket_alone ticket) own mid plain room) (Replied bytes) else share i h
share i (Then h (Notify ticket plain room) (Replied bytes)) =
    if i == ticket.context then Then (share i h) (Notify (ticket_alone ticket) plain room) (Replied bytes) else share i h
share i (Then h (Restart context next) Restarted) = if i == context then Then (share i h) (Restart 0 next) Restarted else share i h
share i (Then h (Replace context by start size) Replaced) = if i == context then Then (share i h) (Replace 0 by start size) Replaced else share i h
share i (Then h (Skip context count) Skipped) = if i == context then Then (share i h) (Skip 0 count) Skipped else share i h
share i (Then h (Advance now) Advanced) = Then (share i h) (Advance now) Advanced
share i (Then h event entry) = share i h

-- the datagram names no other context (RFC 8613, 8.2)
abbrev pub NamesNoOther : History → ℕ → List ℕ → Type 0
NamesNoOther h i d = (j n : ℕ) (of : Life) → IsRequestOf h d j n of → j ≡ i

-- the context's share is a history of answers, with the same clock and the same life; and to each datagram that names no other context, to each
-- reply, to each notification and to each restart of this context, a server that has it alone gives the same answer; and where another context can take its place, one
-- can there (own rule)
pub record AnswersAlone (h : History) (i : ℕ) : Type 0 where
  pub answers : AllAnswers (share i h)
  pub clock_is : clock (share i h) ≡ clock h
  pub life_is : life (share i h) 0 ≡ life h i
  pub datagram : (now : ℕ) (echo : List ℕ) (mid : ℕ) (d : List ℕ) (answer : Answer) (reply : List ℕ) → NamesNoOther h i d
      → ServerAnswer h (Datagram now echo mid d) (Took answer reply) → ServerAnswer (share i h) (Datagram now echo mid d) (Took (answer_alone answer) reply)
  pub reply : (ticket : TicketValues) (own : Bool) (mid : ℕ) (plain : Parts) (room : ℕ) (entry : Entry) → ticket.context ≡ i
      → ServerAnswer h (Reply ticket own mid plain room) entry → ServerAnswer (share i h) (Reply (ticket_alone ticket) own mid plain room) entry
  pub notify : (ticket : TicketValues) (plain : Parts) (room : ℕ) (entry : Entry) → ticket.context ≡ i
      → ServerAnswer h (Notify ticket plain room) entry → ServerAnswer (share i h) (Notify (ticket_alone ticket) plain room) entry
  pub restart : (next : ℕ) (entry : Entry) → ServerAnswer h (Restart i next) entry → ServerAnswer (share i h) (Restart 0 next) entry
  pub replace : (by : SecurityContext) (start : Start) (size : WindowSize) → ServerAnswer h (Replace i by start size) Replaced → ServerAnswer (share i h) (Replace 0 by start size) Replaced
  pub skip : (count : ℕ) (entry : Entry) → ServerAnswer h (Skip i count) entry → ServerAnswer (share i h) (Skip 0 count) entry

-- each context of a server is answered as if it were alone under the server's clock (own rule)
abbrev pub ContextsStandAlone : Type 0
ContextsStandAlone = (h : History) (i : ℕ) → AllAnswers h → AnswersAlone h i
