-- What is lent of a delivery shows what was decided.
use Rattle.std.proofs.Common.{ℕ, List}
use Rattle.osc_protect.specs.StageViews.{CanLendRequest, OpensRequestAfter}
use Rattle.osc_protect.specs.declared.opened.Opened.{Opened}
use Rattle.osc_protect.specs.declared.stages.DecryptedRequest.{DecryptedRequest}
use Rattle.osc_protect.specs.declared.stages.ReadRequest.{ReadRequest}
use Rattle.osc_life.specs.declared.decision.Decision.TheVariants as decisions
use Rattle.osc_life.specs.declared.outcome.Outcome.TheVariants as outcomes
use Rattle.osc_life.specs.declared.ticket.Ticket.{Ticket}
use Rattle.osc_life.specs.Deciding.{Decides}
use Rattle.osc_life.specs.ServerHistory as server
use Rattle.osc_life.specs.Views.{Shows}

pub shows_delivery : (y : ReadRequest) (t : Ticket) (new : List ℕ) (o : Opened) → ((x : DecryptedRequest) → CanLendRequest new x y → OpensRequestAfter new x o)
    → (answer : server.Answer) → Decides (decisions.Deliver y t) new answer → Shows (outcomes.Deliver o t) answer
shows_delivery y t new o opens (server.Deliver received ticket) h = (h.0.2 o (opens (h.0.0) h.0.1), h.1)
shows_delivery y t new o opens (server.Malformed fault place) h = absurd h
shows_delivery y t new o opens server.NotRequest h = absurd h
shows_delivery y t new o opens server.Plain h = absurd h
shows_delivery y t new o opens server.Undecodable h = absurd h
shows_delivery y t new o opens server.NoContext h = absurd h
shows_delivery y t new o opens server.Replay h = absurd h
shows_delivery y t new o opens server.BadTag h = absurd h
shows_delivery y t new o opens (server.BadInner i n) h = absurd h
shows_delivery y t new o opens (server.Challenge i n echo issued) h = absurd h
shows_delivery y t new o opens server.SequenceExhausted h = absurd h
