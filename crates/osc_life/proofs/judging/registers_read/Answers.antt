use Rattle.std.proofs.Common.{◌≡◌, ◌∙◌, ap}
use Rattle.osc_coap.specs.Inner.{InnerParts}
use Rattle.osc_protect.specs.Views.{message_of}
use Rattle.osc_observe.specs.Observing.{registers as registering}
use Rattle.osc_life.proofs.judging.registers_read.Goals as goal

pub returns : goal.returns
returns c = λ x s d n m can decrypts protects.
    let o = c.opened-opened.ensures x can s d decrypts in
    let message = message_of c.opened-opened.result in
    let same : message ≡ m = (c.one_request.ensures s).message d o.number n message m o.protects protects in
    c.registers.ensures ∙ ap (registering c.args.features message.code) c.inner.ensures ∙ ap (λ (k : InnerParts). registering c.args.features k.code k.options) same
