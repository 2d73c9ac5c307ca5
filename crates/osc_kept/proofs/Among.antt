-- A server of many contexts: each has its two ends. f and g are histories that are alike.
use Rattle.std.proofs.Common.{◌≡◌, ℕ, ◌∙◌, sym, ap, subst, refl, arith, Bool, Some, None, List, [], inl, inr}
use Rattle.std.specs.Prelude.{max}
use Rattle.osc_coap.specs.Datagram.{Parts}
use Rattle.osc_context.specs.SecurityContext.{SecurityContext}
use Rattle.osc_window.specs.declared.window_size.WindowSize.{WindowSize}
use Rattle.osc_life.specs.declared.server_error.ReplyError.TheVariants.{NotObserving, StaleTicket}
use Rattle.osc_life.specs.declared.start.Start.{Start}
use Rattle.osc_laws.specs.Laws.{AllAnswers}
use Rattle.osc_endpoint.specs.Tickets.{AreLeft, TakesTickets}
use Rattle.osc_laws.specs.OneContext.{ContextsStandAlone, share}
use Rattle.osc_life.specs.Replies.{as_reply}
use Rattle.osc_life.specs.LifeAnswer.{Arrival, LifeRestart, LifeSkip, as_notification}
use Rattle.osc_endpoint.specs.ServerAnswer.{MeetsNamedRow, MeetsRow, NamesNone, NotifyAnswer, ReplyAnswer, SaysReply, ServerAnswer, TakeAnswer, arrival}
use Rattle.osc_life.specs.ServerHistory as server
use Rattle.osc_kept.specs.Among.{AnswersAmong, EachContext, IsAdded, IsShare, SetsClock}
use Rattle.osc_kept.specs.Claims.{TwoEnds}
use Rattle.osc_kept.specs.Premises.{Answers, AtEach, BringsNoContext}
use Rattle.osc_kept.specs.World.{World, Event, Begin, Then, Draws, Reserves, ClientStarts, ServerStarts, AtClient, AtServer, server_history}
use Rattle.osc_kept.proofs.SharedTickets.{takes_share}

-- ---- what holds after a history holds after one that is like it

module _ (f g : server.History) (here : (j : ℕ) → server.life f j ≡ server.life g j) where
  named_row : (a : Arrival) (answer : server.Answer) → MeetsNamedRow f a answer → MeetsNamedRow g a answer
  named_row a answer (i, n, of, request, row) =
      (i, n, of, record { head = request.head; has_head = request.has_head; life_is = sym (here i) ∙ request.life_is; names = request.names }, row)

  none_named : (d : List ℕ) → NamesNone f d → NamesNone g d
  none_named d (head, has, none) = (head, has, λ i of e. none i of (here i ∙ e))

  like_row : (a : Arrival) (answer : server.Answer) → MeetsRow f a answer → MeetsRow g a answer
  like_row a (server.Malformed fault place) row = row
  like_row a server.NotRequest row = row
  like_row a server.Plain row = row
  like_row a server.Undecodable row = row
  like_row a server.NoContext row = none_named a.bytes row
  like_row a answer row = named_row a answer row

  like_reply : (a : Arrival) (answer : server.Answer) (reply : List ℕ) → SaysReply f a answer reply → SaysReply g a answer reply
  like_reply a (server.Challenge i n given issued) reply (of, is, says) = (of, sym (here i) ∙ is, says)
  like_reply a answer reply says = says

  like_take : (a b : Arrival) (answer : server.Answer) (reply : List ℕ) → a ≡ b → TakeAnswer f a answer reply → TakeAnswer g b answer reply
  like_take a b answer reply e (row, says) = subst (λ c. TakeAnswer g c answer reply) e (like_row a answer row, like_reply a answer reply says)

  ticket_row : (t : server.TicketValues) (own : Bool) (p : Parts) (room : ℕ) (entry : server.Entry) → ReplyAnswer f t own p room entry → ReplyAnswer g t own p room entry
  ticket_row t own p room (server.NotReplied StaleTicket) row = λ of present. row of (here t.context ∙ present.0, present.1)
  ticket_row t own p room entry (of, present, row) = (of, (sym (here t.context) ∙ present.0, present.1), row)

  notify_row : (t : server.TicketValues) (p : Parts) (room : ℕ) (entry : server.Entry) → NotifyAnswer f t p room entry → NotifyAnswer g t p room entry
  notify_row t p room (server.NotReplied StaleTicket) row = λ of present. row of (here t.context ∙ present.0, present.1)
  notify_row t p room (server.NotReplied NotObserving) row = (row.0, (sym (here t.context) ∙ row.1.0, row.1.1), row.2)
  notify_row t p room entry row = (row.0, (row.1.0, (sym (here t.context) ∙ row.1.1.0, row.1.1.1), row.1.2))

  like_answer : server.clock f ≡ server.clock g → (event : server.Event) (entry : server.Entry) → BringsNoContext event → ServerAnswer f event entry → ServerAnswer g event entry
  like_answer same (server.Add context start size places) entry isnt row = absurd isnt
  like_answer same (server.Replace context by start size) entry isnt row = absurd isnt
  like_answer same (server.Datagram now echo mid d) (server.Took answer reply) isnt row =
      let e : arrival f now echo mid d ≡ arrival g now echo mid d = ap (λ (c : ℕ). record { clock = max c now; echo = echo; mid = mid; bytes = d }) same in
      like_take (arrival f now echo mid d) (arrival g now echo mid d) answer reply e row
  like_answer same (server.Reply t own mid p room) entry isnt row = ticket_row t own (as_reply t.kind t.message_id t.token mid p) room entry row
  like_answer same (server.Notify t p room) entry isnt row = notify_row t (as_notification t.token p) room entry row
  like_answer same (server.Restart i next) entry isnt row = subst (λ o. LifeRestart o entry) (here i) row
  like_answer same (server.Skip i count) entry isnt row = subst (λ o. LifeSkip o count entry) (here i) row
  like_answer same event entry isnt row = row

pub like_left : (f g : server.History) → ((ts : List server.TicketValues) → AreLeft f ts → AreLeft g ts) → (event : server.Event) (entry : server.Entry) (ts : List server.TicketValues)
    → AreLeft (server.Then f event entry) ts → AreLeft (server.Then g event entry) ts
like_left f g k event (server.Took (server.Deliver received t) reply) ts (before, left, is) = (before, k before left, is)
like_left f g k (server.Reply t own mid p room) (server.Replied bytes) ts (before, left, out) = (before, k before left, out)
like_left f g k (server.Notify t p room) (server.Replied bytes) ts (left, among) = (k ts left, among)
like_left f g k event entry ts left = k ts left

-- ---- the share of an answer is an answer

shared : ContextsStandAlone → (i : ℕ) (g : server.History) (event : server.Event) (entry : server.Entry) → BringsNoContext event → IsShare i g event entry → ServerAnswer g event entry
shared alone i g event entry isnt x =
    let all : AllAnswers (server.Then x.h x.of x.result) = (x.all, x.answer) in
    let both : AllAnswers (server.Then (share i x.h) event entry) = subst AllAnswers x.after (alone (server.Then x.h x.of x.result) i all).answers in
    like_answer (share i x.h) g x.before.life_is x.before.clock_is event entry isnt both.1

takes : (i : ℕ) (g : server.History) (event : server.Event) (entry : server.Entry) → IsShare i g event entry → TakesTickets (server.Then g event entry)
takes i g event entry x =
    let own : TakesTickets (server.Then (share i x.h) event entry) = subst TakesTickets x.after (takes_share i (server.Then x.h x.of x.result) (x.all, x.answer) x.tickets) in
    (own.0, like_left (share i x.h) g x.before.left_is event entry own.0 own.1)

-- a context that is added to a server of many can be added to one that has none
added : (i : ℕ) (s : SecurityContext) (start : Start) (size : WindowSize) → IsAdded i s start size → ServerAnswer server.Begin (server.Add s start size 1) (server.Added 0)
added i s start size (h, places, row) = (row.0, (omega arith, λ taken. let e : None ≡ Some taken.1 = taken.2 in cc, refl))

set_clock : (n : ℕ) (s : SecurityContext) (w : World) (g : server.History) (event : server.Event) (entry : server.Entry) → server_history s w ≡ Some g → BringsNoContext event → SetsClock g event entry
    → Answers n s w (AtServer event entry)
set_clock n s w (server.Then server.Begin (server.Add context start size places) (server.Added index)) (server.Advance now) server.Advanced is isnt x =
    (server.Then server.Begin (server.Add context start size places) (server.Added index), is, tt, tt, ([], refl))
set_clock n s w g event entry is isnt x = absurd x

answers : ContextsStandAlone → (n i : ℕ) (s : SecurityContext) (w : World) (event : Event) → AnswersAmong n i s w event → Answers n s w event
answers alone n i s w (ServerStarts start size) x = added i s start size x
answers alone n i s w (AtServer event entry) (g, is, isnt, inl x) = (g, is, shared alone i g event entry isnt x, isnt, takes i g event entry x)
answers alone n i s w (AtServer event entry) (g, is, isnt, inr x) = set_clock n s w g event entry is isnt x
answers alone n i s w (AtClient event entry) x = x
answers alone n i s w (ClientStarts loaded ms) x = tt
answers alone n i s w (Draws of) x = tt
answers alone n i s w (Reserves of) x = tt

all_answers : ContextsStandAlone → (n i : ℕ) (s : SecurityContext) (w : World) → AtEach (AnswersAmong n i s) w → AtEach (Answers n s) w
all_answers alone n i s Begin x = tt
all_answers alone n i s (Then w event) x = (all_answers alone n i s w x.0, answers alone n i s w event x.1)

pub each_has_ends : ContextsStandAlone → TwoEnds → EachContext
each_has_ends alone ends n i s w x =
    ends n s w (record { usable = x.usable; answers = all_answers alone n i s w x.answers; sealed = x.sealed; unseen = x.unseen; above = x.above; fresh = x.fresh })
