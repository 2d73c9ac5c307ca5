use Rattle.std.proofs.Common.{List, subst, take, ℕ}
use Rattle.osc_coap.specs.Datagram.{IsDatagram}
use Rattle.osc_fresh.specs.Wishing.{unobeyed_message}
use Rattle.osc_fresh.proofs.asking.write_plain.Goals as goal

pub returns-clause-written : goal.returns-clause-written
returns-clause-written c =
    let bytes = take c.finish.result c.finish.new.self.0 in
    let written = c.finish.ensures.datagram _ c.args.plain.now (c.in-Ok-payload.ensures.taken _ c.args.plain.now (c.in-Ok.ensures.taken _ c.args.plain.now c.begin-writer.ensures.made)) in
    subst (λ (t : List ℕ). IsDatagram (record (unobeyed_message c.args.echo.now) { token = t }) bytes) c.new-token.ensures
    (subst (λ (v : List ℕ). IsDatagram (record (unobeyed_message v) { token = c.new-token.result.items }) bytes) c.as_slice.ensures written)
