-- To be believed: what a server and a client do whose contexts take no part in Observe: contracts of laws.rt (RFC 8613, 4.1.3.5). h is a history, n the
-- number of pending requests that there is room for.
use Rattle.std.specs.Prelude.{◌≡◌, ℕ, List, Bool, false, Some, All}
use Rattle.osc_coap.specs.Datagram.{Parts}
use Rattle.osc_client.specs.declared.pending.Wait.TheVariants.{Once}
use Rattle.osc_life.specs.Life.{Life}
use Rattle.osc_observe.specs.Received.{Received}
use Rattle.osc_life.specs.ServerHistory as server
use Rattle.osc_life.specs.LifeAnswer.{Arrival, asks_own}
use Rattle.osc_endpoint.specs.ServerAnswer.{MeetsRow, ServerAnswer}
use Rattle.osc_client.specs.ClientHistory as client
use Rattle.osc_client.specs.ClientAnswer.{ResponseAnswer}
use Rattle.osc_laws.specs.ClientLaws.{AllClientAnswers}

-- no context of the server takes part in Observe (RFC 8613, 4.1.3.5)
abbrev pub WithoutObserve : server.History → Type 0
WithoutObserve h = (i : ℕ) (of : Life) → server.life h i ≡ Some of → of.context.features.observe ≡ false

-- no ticket observes, nothing is notified by a ticket that doesn't, and a reply by it has a Partial IV of its own exactly if one is asked for
-- (RFC 8613, 4.1.3.5)
pub record ServerIsPlain (h : server.History) : Type 0 where
  pub delivered : (a : Arrival) (received : Received) (ticket : server.TicketValues) → MeetsRow h a (server.Deliver received ticket) → ticket.observes ≡ false
  pub notified : (t : server.TicketValues) (p : Parts) (room : ℕ) (bytes : List ℕ) → t.observes ≡ false → ServerAnswer h (server.Notify t p room) (server.Replied bytes) → ⊥
  pub replied : (t : server.TicketValues) (own : Bool) → t.observes ≡ false → asks_own t own ≡ own

-- each request waits for one response, and no response is old or a notification (RFC 8613, 4.1.3.5)
pub record ClientIsPlain (h : client.History) : Type 0 where
  pub once : All (λ (r : client.Asked). r.wait ≡ Once) (client.asked h)
  pub never_old : (clock : ℕ) (d : List ℕ) → ResponseAnswer h clock d client.Old → ⊥
  pub never_notified : (clock : ℕ) (d : List ℕ) (received : Received) (number : ℕ) → ResponseAnswer h clock d (client.Notified received number) → ⊥

-- without Observe, both ends are as they were before there was Observe (RFC 8613, 4.1.3.5)
pub record EndsArePlain : Type 0 where
  pub server : (h : server.History) → WithoutObserve h → ServerIsPlain h
  pub client : (n : ℕ) (h : client.History) → AllClientAnswers n h → (client.context h).features.observe ≡ false → ClientIsPlain h
