use Rattle.std.proofs.Common.{◌∙◌, ap, sym, Bool}
use Rattle.osc_coap.specs.Views.{parts_of}
use Rattle.osc_message.specs.Incoming.{row}
use Rattle.osc_message.specs.Views.{table_of}
use Rattle.osc_message.proofs.Judged.{somebody_waits}
use Rattle.osc_message.proofs.messages.Messages.take_message.Goals as goal

pub unreachable-requires-in-None-reset : goal.unreachable-requires-in-None-reset
unreachable-requires-in-None-reset g c =
    somebody_waits (table_of c.args.self.now.exchanges) c.args.from.now (parts_of c.args.message.now) c.is_some.result c.call_of-waits.result c.call_of-waits.ensures
    (sym (c.in-Reset.ensures ∙ ap (λ (waits : Bool). row c.args.message.now.kind c.args.message.now.code c.is_some.result waits) c.is_some-2.ensures)) c.in-None-reset.ensures.1
