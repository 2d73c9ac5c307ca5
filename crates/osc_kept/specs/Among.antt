-- To be believed: a server of many contexts, each over all the lives of its two ends: a contract of laws.rt. i is the index of a context, s the context, w the
-- world of its two ends before the event, g the history of its server there, n how many pending requests its client has room for.
use Rattle.std.specs.Prelude.{◌≡◌, ◌⊎◌, ℕ, List, Some}
use Rattle.osc_context.specs.SecurityContext.{SecurityContext, IsUsable}
use Rattle.osc_window.specs.declared.window_size.WindowSize.{WindowSize}
use Rattle.osc_life.specs.declared.start.Start.{Start}
use Rattle.osc_laws.specs.Laws.{AllAnswers}
use Rattle.osc_endpoint.specs.Tickets.{AreLeft, TakesTickets}
use Rattle.osc_laws.specs.OneContext.{share}
use Rattle.osc_endpoint.specs.ServerAnswer.{ServerAnswer}
use Rattle.osc_life.specs.ServerHistory as server
use Rattle.osc_kept.specs.Claims.{BothEnds}
use Rattle.osc_kept.specs.Premises.{Answers, AtEach, EchoIsNew, StartsAboveDelivered, BringsNoContext, NobodyForges, BeginsAbove}
use Rattle.osc_kept.specs.World.{World, Event, AtServer, ServerStarts, server_history}

-- two histories with the same clock, the same lives and the same tickets left: what is answered, except to Add and Replace, depends on nothing else of them (own rule)
pub record IsLike (f g : server.History) : Type 0 where
  pub clock_is : server.clock f ≡ server.clock g
  pub life_is : (j : ℕ) → server.life f j ≡ server.life g j
  pub left_is : (ts : List server.TicketValues) → AreLeft f ts → AreLeft g ts

-- the event is what one event of a server of many contexts is for this one: that server, whose history is h, answers by its tables, its replies take tickets
-- that its deliveries gave, and the context's share of its history, which is like the history g, goes on with the event (RFC 8613, 8.1 to 8.4)
pub record IsShare (i : ℕ) (g : server.History) (event : server.Event) (entry : server.Entry) : Type 0 where
  pub h : server.History
  pub all : AllAnswers h
  pub before : IsLike (share i h) g
  pub of : server.Event
  pub result : server.Entry
  pub answer : ServerAnswer h of result
  pub after : share i (server.Then h of result) ≡ server.Then (share i h) event entry
  pub tickets : TakesTickets (server.Then h of result)

-- the context was just added, and its clock is set, to that of the server of many (own rule)
abbrev pub SetsClock : server.History → server.Event → server.Entry → Type 0
SetsClock (server.Then server.Begin (server.Add context start size places) (server.Added index)) (server.Advance now) server.Advanced = Unit {0}
SetsClock g event entry = ⊥

-- a context that starts is added to a server of many, at any time, as context i (own rule)
abbrev pub IsAdded : ℕ → SecurityContext → Start → WindowSize → Type 0
IsAdded i s start size = (h : server.History) × (places : ℕ) × ServerAnswer h (server.Add s start size places) (server.Added i)

-- a running client answers by its table; a context that starts is added to a server of many, at any time; then its clock is set, and what happens to it is its
-- share of what happens to that server (RFC 8613, 8.1 to 8.4)
abbrev pub AnswersAmong : ℕ → ℕ → SecurityContext → World → Event → Type 0
AnswersAmong n i s w (ServerStarts start size) = IsAdded i s start size
AnswersAmong n i s w (AtServer event entry) = (g : server.History) × (server_history s w ≡ Some g) × BringsNoContext event × (IsShare i g event entry ⊎ SetsClock g event entry)
AnswersAmong n i s w event = Answers n s w event

-- the premises on two ends, of which the server's is one context of many (own rule)
pub record IsLawfulAmong (n i : ℕ) (s : SecurityContext) (w : World) : Type 0 where
  pub usable : IsUsable s
  pub answers : AtEach (AnswersAmong n i s) w
  pub sealed : AtEach (NobodyForges s) w
  pub unseen : AtEach (EchoIsNew s) w
  pub above : AtEach (BeginsAbove s) w
  pub fresh : AtEach StartsAboveDelivered w

-- what holds of two ends holds of each context of a server of many, and its client (RFC 8613, 5.2, 7.4 and 8.4)
abbrev pub EachContext : Type 0
EachContext = (n i : ℕ) (s : SecurityContext) (w : World) → IsLawfulAmong n i s w → BothEnds s w

-- the share of a context that was just added is like the history of its server alone, with the clock set; and two histories that are alike stay so by any
-- event: so what happens to the context meets the condition on its share (own rule)
pub record StaysLike : Type 0 where
  pub begins : (h : server.History) (i : ℕ) (s : SecurityContext) (start : Start) (size : WindowSize) (places : ℕ) → AllAnswers (server.Then h (server.Add s start size places) (server.Added i))
      → IsLike (share i (server.Then h (server.Add s start size places) (server.Added i)))
      (server.Then (server.Then server.Begin (server.Add s start size 1) (server.Added 0)) (server.Advance (server.clock h)) server.Advanced)
  pub goes_on : (f g : server.History) (event : server.Event) (entry : server.Entry) → IsLike f g → IsLike (server.Then f event entry) (server.Then g event entry)
