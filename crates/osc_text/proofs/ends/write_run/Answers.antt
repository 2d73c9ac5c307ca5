use Rattle.std.proofs.Common.{refl}
use Rattle.osc_text.specs.Printing.RunsContext.{derived, refused}
use Rattle.osc_text.proofs.ends.write_run.Goals as goal

pub returns-in-Ok : goal.returns-in-Ok
returns-in-Ok g c = derived (c.in-Ok.ensures.accepted refl) (rw (← c.in-Ok.ensures.client, ← c.in-Ok.ensures.server) c.begin.ensures)

pub returns-in-Err : goal.returns-in-Err
returns-in-Err g c =
    let e = c.in-Err.refusal in
    let first = c.in-Err.ensures.refused in
    refused e first (λ f first_too. c.one_context_refusal.ensures c.args.agreed.params f e first_too first) c.put_refused.ensures.written c.put_refused.ensures.status
