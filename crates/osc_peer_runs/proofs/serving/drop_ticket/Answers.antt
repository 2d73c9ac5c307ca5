use Rattle.std.proofs.Common.{◌∙◌, ap, refl}
use Rattle.osc_endpoint.specs.ServerRun.{values_in}
use Rattle.osc_endpoint.proofs.Runs.{left_seen, values_taken}
use Rattle.osc_peer_runs.proofs.serving.drop_ticket.Goals as goal

pub returns : goal.returns
returns c = λ h.
    let ts = c.args.tickets.now in
    (c.is_some.ensures ∙ left_seen ts c.args.of c.take_out.result c.take_out.ensures.ticket, refl, ap values_in c.take_out.ensures.rest ∙ values_taken ts c.args.of)
