use Rattle.std.proofs.Common.{sym, subst, None}
use Rattle.std.specs.Option.{option_map}
use Rattle.osc_endpoint.specs.declared.server_event.ServerEvent.{ServerEvent}
use Rattle.osc_endpoint.specs.ServerRun.{values_in}
use Rattle.osc_endpoint.specs.Serving.{Serves}
use Rattle.osc_life.specs.Views.{values_of}
use Rattle.osc_endpoint.proofs.server_run.serve_event.Goals as goal

pub returns-in-Datagram : goal.returns-in-Datagram
returns-in-Datagram g c = λ h a.
    let ts = values_in c.args.tickets.now in
    let (g, serves, agrees) = c.serve_datagram.ensures h ts a in
    (g, subst (λ (e : ServerEvent). Serves h ts e c.serve_datagram.result.0 (option_map values_of c.serve_datagram.result.1) g ts) (sym c.in-Datagram.is) serves, agrees)

pub returns-in-Restart : goal.returns-in-Restart
returns-in-Restart g c = λ h a.
    let ts = values_in c.args.tickets.now in
    let (g, serves, agrees) = c.serve_restart.ensures h ts a in
    (g, subst (λ (e : ServerEvent). Serves h ts e c.serve_restart.result None g ts) (sym c.in-Restart.is) serves, agrees)
