-- To be believed: how old a request is that opens a restarted life of the server, over all that happens at both ends (RFC 8613, 7.3 and B.1.2; RFC 9175, 2.3).
-- w is the world before an event, v an earlier one, s the security context, value the value of a challenge, moment when it was issued; moments are in
-- milliseconds, by the server's clock.
use Rattle.std.specs.Prelude.{◌≡◌, ◌⊎◌, ℕ, ◌-◌, ◌≤◌, List, Some, max, false}
use Rattle.osc_context.specs.SecurityContext.{SecurityContext}
use Rattle.osc_life.specs.Doubting.{IsBeyond}
use Rattle.osc_life.specs.Life.{Life, is_open}
use Rattle.osc_life.specs.ServerHistory as server
use Rattle.osc_kept.specs.World.{World, Event, Begin, Then, AtServer, Has, Request, server_history, server_life, sent}

-- a fact about the server's clock after a moment (own rule)
abbrev pub AtClock : SecurityContext → World → ℕ → (ℕ → Type 0) → Type 0
AtClock s w now P = (h : server.History) → server_history s w ≡ Some h → P (max (server.clock h) now)

-- the event is a challenge that gives this value, issued at that very moment of the server's clock (RFC 9175, 2.3)
abbrev pub GivesNow : SecurityContext → World → Event → List ℕ → ℕ → Type 0
GivesNow s w (AtServer (server.Datagram now echo mid d) (server.Took (server.Challenge i n given issued) reply)) value moment =
    (given ≡ value) × (issued ≡ moment) × AtClock s w now (λ clock. issued ≡ clock)
GivesNow s w event value moment = ⊥

-- such a challenge came right after v (own rule)
abbrev pub WasGivenAfter : SecurityContext → World → List ℕ → ℕ → World → Type 0
WasGivenAfter s v value moment Begin = ⊥
WasGivenAfter s v value moment (Then w event) = ((v ≡ w) × GivesNow s w event value moment) ⊎ WasGivenAfter s v value moment w

-- the request was sealed after a challenge that the server issued at most 30,000 ms before: so it is at most that old (RFC 8613, 7.3; own rule: the time)
pub record IsFresh (s : SecurityContext) (w : World) (now : ℕ) (r : Request) : Type 0 where
  pub value : List ℕ
  pub moment : ℕ
  pub v : World
  pub given : WasGivenAfter s v value moment w
  pub recent : AtClock s w now (λ clock. clock - moment ≤ 30000)
  pub was_sent : Has r (sent s w)
  pub after : Has r (sent s v) → ⊥

-- a request that opens a closed life is fresh, if its number isn't above those in doubt; where none are in doubt, as in a restarted life, no number is
-- (RFC 8613, 7.3 and B.1.2; own rule: the doubt)
abbrev pub OpensFresh : SecurityContext → World → Event → Type 0
OpensFresh s w (AtServer (server.Datagram now echo mid d) (server.Took (server.Deliver received ticket) reply)) =
    (of : Life) → server_life s w ≡ Some of → is_open of ≡ false → (IsBeyond of.doubt ticket.number → ⊥) → IsFresh s w now (record { number = ticket.number; message = received.message })
OpensFresh s w event = Unit {0}
