-- To be believed: what two ends do whose context takes no part in Observe, over all their lives: a contract of laws.rt (RFC 8613, 4.1.3.5). w is the world
-- before an event, s the security context, n how many pending requests the client has room for.
use Rattle.std.specs.Prelude.{◌≡◌, ℕ, Bool, false, Some, All}
use Rattle.osc_context.specs.SecurityContext.{SecurityContext}
use Rattle.osc_client.specs.declared.pending.Wait.TheVariants.{Once}
use Rattle.osc_client.specs.ClientHistory as client
use Rattle.osc_life.specs.LifeAnswer.{asks_own}
use Rattle.osc_life.specs.ServerHistory as server
use Rattle.osc_kept.specs.Premises.{Answers, AtEach}
use Rattle.osc_kept.specs.World.{World, Event, AtClient, AtServer, client_history}

-- no ticket observes, nothing is notified, a reply has a Partial IV of its own exactly if one is asked for, and no response is old or a notification
-- (RFC 8613, 4.1.3.5)
abbrev pub IsPlain : World → Event → Type 0
IsPlain w (AtServer (server.Datagram now echo mid d) (server.Took (server.Deliver received ticket) reply)) = ticket.observes ≡ false
IsPlain w (AtServer (server.Notify t p room) (server.Replied bytes)) = ⊥
IsPlain w (AtServer (server.Reply t own mid p room) (server.Replied bytes)) = (asked : Bool) → asks_own t asked ≡ asked
IsPlain w (AtClient (client.Datagram now d) (client.Took client.Old)) = ⊥
IsPlain w (AtClient (client.Datagram now d) (client.Took (client.Notified received number))) = ⊥
IsPlain w event = Unit {0}

-- each request of the running client waits for one response (RFC 7252, 5.3.2)
abbrev pub WaitsOnce : SecurityContext → World → Type 0
WaitsOnce s w = (h : client.History) → client_history s w ≡ Some h → All (λ (r : client.Asked). r.wait ≡ Once) (client.asked h)

-- what holds of two ends without Observe, over all their lives (RFC 8613, 4.1.3.5)
pub record BothArePlain (s : SecurityContext) (w : World) : Type 0 where
  pub events : AtEach IsPlain w
  pub once : WaitsOnce s w

-- without Observe, this holds of whatever happens at both ends, if they answer by their tables (RFC 8613, 4.1.3.5)
abbrev pub KeptEndsArePlain : Type 0
KeptEndsArePlain = (n : ℕ) (s : SecurityContext) (w : World) → s.features.observe ≡ false → AtEach (Answers n s) w → BothArePlain s w
