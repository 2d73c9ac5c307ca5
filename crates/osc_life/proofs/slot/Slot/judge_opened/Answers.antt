use Rattle.std.proofs.Common.{◌≡◌, ◌∙◌, ap, refl}
use Rattle.osc_context.specs.Views.{as_server}
use Rattle.osc_context.specs.declared.context.Context.{Context}
use Rattle.osc_context.specs.declared.features.Features.{Features}
use Rattle.osc_protect.specs.Views.{context_of}
use Rattle.osc_observe.specs.Observing.{registers}
use Rattle.osc_life.proofs.Judgments.{spoiled, wants_echo, delivered, opened_in}
use Rattle.osc_life.proofs.slot.Slot.judge_opened.Goals as goal

pub returns-in_default-clause-decided : goal.returns-in_default-clause-decided
returns-in_default-clause-decided c = λ l d a decrypts named asker.
    spoiled l c.args.request d c.args.datagram.now c.args.decrypted c.args.self.now c.spoil.new.self a c.requires.passes decrypts c.in_default.ensures.refused (c.spoil.ensures.kept l a)

pub returns-then-not-admits_read-clause-decided : goal.returns-then-not-admits_read-clause-decided
returns-then-not-admits_read-clause-decided c = λ l d a decrypts named asker.
    c.demand.ensures.decided l d c.args.datagram.now a
    (wants_echo l c.args.request d c.args.datagram.now c.args.decrypted c.in-Ok.read c.args.self.now c.one_reading.ensures.request a named decrypts c.in-Ok.ensures.placed c.in-Ok.ensures.accepted c.requires.passes (c.if-not-admits_read.ensures.no refl l a))
    asker

pub returns-clause-decided : goal.returns-clause-decided
returns-clause-decided c = λ l d a decrypts named asker.
    let features : c.features.result ≡ (as_server (context_of c.args.self.now.context)).features = c.features.ensures.server ∙ ap (λ (k : Context). (as_server k).features) c.context.ensures in
    delivered l c.args.request d c.args.datagram.now c.args.decrypted c.in-Ok.read c.deliver.new.self.life c.registers_read-observes.result c.args.self.now c.deliver.new.self
    c.one_datagram.ensures.one c.one_request.ensures c.one_reading.ensures.request a c.requires.passes named asker decrypts c.in-Ok.ensures.placed c.in-Ok.ensures.accepted
    (c.if-not-admits_read.ensures.yes refl l a) c.deliver.ensures.life (λ x s e n m can opens protects. c.registers_read-observes.ensures x s e n m can opens protects ∙ ap (λ (k : Features). registers k m.code m.options) features) (c.deliver.ensures.kept l a)

pub returns-clause-shown : goal.returns-clause-shown
returns-clause-shown c = λ d decrypts. (c.args.decrypted, c.in-Ok.ensures.placed)

pub returns-in_default-clause-leaves : goal.returns-in_default-clause-leaves
returns-in_default-clause-leaves c = λ slots i d at decrypts. opened_in slots i c.args.self.now d c.args.datagram.now c.args.decrypted at decrypts

pub returns-then-not-admits_read-clause-leaves : goal.returns-then-not-admits_read-clause-leaves
returns-then-not-admits_read-clause-leaves c = λ slots i d at decrypts. c.demand.ensures.leaves slots d c.args.datagram.now (opened_in slots i c.args.self.now d c.args.datagram.now c.args.decrypted at decrypts)

pub returns-clause-leaves : goal.returns-clause-leaves
returns-clause-leaves c = λ slots i d at decrypts. opened_in slots i c.args.self.now d c.args.datagram.now c.args.decrypted at decrypts
