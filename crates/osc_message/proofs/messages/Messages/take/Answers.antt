use Rattle.std.proofs.Common.{subst}
use Rattle.osc_coap.specs.Datagram.{Parts}
use Rattle.osc_coap.specs.Views.{parts_of}
use Rattle.osc_message.specs.LayerViews.{layer_of}
use Rattle.osc_message.specs.Taking.{Takes}
use Rattle.osc_message.proofs.messages.Messages.take.Goals as goal

pub returns-in-Ok-clause-message : goal.returns-in-Ok-clause-message
returns-in-Ok-clause-message g c = λ p is.
    let same = c.one_datagram.ensures.one (parts_of c.in-Ok.message) p c.args.datagram.now c.in-Ok.ensures.accepted is in
    let P : Parts → Type 0 = λ q. Takes (layer_of c.args.self.now) (layer_of c.take_message.new.self) c.args.from.now c.args.now q c.take_message.result in
    subst P same c.take_message.ensures.taken

pub returns-in-Some-clause-message : goal.returns-in-Some-clause-message
returns-in-Some-clause-message g c = λ p is. absurd (c.one_datagram.ensures.never_both _ _ _ _ is c.in-Err.ensures.refused)

pub returns-in-None-clause-message : goal.returns-in-None-clause-message
returns-in-None-clause-message g c = λ p is. absurd (c.one_datagram.ensures.never_both _ _ _ _ is c.in-Err.ensures.refused)
