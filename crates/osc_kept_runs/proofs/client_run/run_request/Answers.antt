use Rattle.std.proofs.Common.{length, refl}
use Rattle.osc_coap.specs.Views.{parts_of}
use Rattle.osc_kept_runs.proofs.KeptRunLemmas.{unsent_step}
use Rattle.osc_kept_runs.proofs.client_run.run_request.Goals as goal

pub returns-in-Ok-send : goal.returns-in-Ok-send
returns-in-Ok-send g c = λ h k.
    let step = c.in-Ok-send.ensures.answered (λ is. cc) h k in
    (_, ((c.in-Ok-send.ensures.number h k, parts_of c.in-Ok.message, c.in-Ok.ensures.accepted, (step.row, refl)), (_, _, refl, step.numbers, c.in-Ok-send.ensures.worked (λ is. cc))), step.kept)

pub returns-in-Err-send : goal.returns-in-Err-send
returns-in-Err-send g c = λ h k.
    unsent_step h c.args.client.now.source c.args.now c.args.plain.now (length c.args.out.now) c.in-Err-send.error c.send.new.self.source (parts_of c.in-Ok.message) c.send.new.self.client
    c.in-Ok.ensures.accepted
    (λ is. let (same, failures, kept) = c.in-Err-send.ensures.failed is in (same, failures, kept h k))
    c.in-Err-send.ensures.worked (λ not. c.in-Err-send.ensures.answered not h k)
