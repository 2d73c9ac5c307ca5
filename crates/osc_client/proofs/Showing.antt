-- What is lent of a delivery or of a notification shows what was decided.
use Rattle.std.proofs.Common.{ℕ, List}
use Rattle.osc_context.specs.declared.partial_iv.Piv.{Piv}
use Rattle.osc_protect.specs.StageViews.{CanLendResponse, OpensResponseAfter}
use Rattle.osc_protect.specs.declared.opened.Opened.{Opened}
use Rattle.osc_protect.specs.declared.stages.DecryptedResponse.{DecryptedResponse}
use Rattle.osc_protect.specs.declared.stages.ReadResponse.{ReadResponse}
use Rattle.osc_client.specs.declared.client_outcome.ClientOutcome.TheVariants as client_outcomes
use Rattle.osc_client.specs.declared.decision.ClientDecision.TheVariants as client_decisions
use Rattle.osc_client.specs.ClientDeciding as client_deciding
use Rattle.osc_client.specs.ClientHistory as client
use Rattle.osc_client.specs.Views.{ClientShows}

-- of a delivery
pub shows_response : (y : ReadResponse) (piv : Piv) (new : List ℕ) (o : Opened) → ((x : DecryptedResponse) → CanLendResponse new x y → OpensResponseAfter new x o)
    → (answer : client.Answer) → client_deciding.Decides (client_decisions.Deliver y piv) new answer → ClientShows (client_outcomes.Deliver o piv) answer
shows_response y piv new o opens (client.Deliver received number) h = (h.0.2 o (opens (h.0.0) h.0.1), h.1)
shows_response y piv new o opens (client.Malformed fault place) h = absurd h
shows_response y piv new o opens client.NotResponse h = absurd h
shows_response y piv new o opens client.UnknownToken h = absurd h
shows_response y piv new o opens client.Unprotected h = absurd h
shows_response y piv new o opens client.Undecodable h = absurd h
shows_response y piv new o opens client.BadTag h = absurd h
shows_response y piv new o opens client.BadInner h = absurd h
shows_response y piv new o opens client.Old h = absurd h
shows_response y piv new o opens (client.Notified received number) h = absurd h

-- of a notification
pub shows_notification : (y : ReadResponse) (piv : Piv) (new : List ℕ) (o : Opened) → ((x : DecryptedResponse) → CanLendResponse new x y → OpensResponseAfter new x o)
    → (answer : client.Answer) → client_deciding.Decides (client_decisions.Notified y piv) new answer → ClientShows (client_outcomes.Notified o piv) answer
shows_notification y piv new o opens (client.Notified received number) h = (h.0.2 o (opens (h.0.0) h.0.1), h.1)
shows_notification y piv new o opens (client.Malformed fault place) h = absurd h
shows_notification y piv new o opens client.NotResponse h = absurd h
shows_notification y piv new o opens client.UnknownToken h = absurd h
shows_notification y piv new o opens client.Unprotected h = absurd h
shows_notification y piv new o opens client.Undecodable h = absurd h
shows_notification y piv new o opens client.BadTag h = absurd h
shows_notification y piv new o opens client.BadInner h = absurd h
shows_notification y piv new o opens client.Old h = absurd h
shows_notification y piv new o opens (client.Deliver received number) h = absurd h
