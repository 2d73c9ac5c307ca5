use Rattle.std.proofs.Common.{refl, subst, option_map}
use Rattle.osc_context.specs.Views.{number_of}
use Rattle.osc_protect.specs.Protection.{responses_to}
use Rattle.osc_context.specs.declared.features.Features.{Features}
use Rattle.osc_protect.specs.Halves.{RefusesInner}
use Rattle.osc_protect.specs.Stages.{HasPlaintext}
use Rattle.osc_protect.specs.declared.unprotect_error.UnprotectError.TheVariants.{Inner}
use Rattle.osc_protect.specs.declared.usage.Usage.TheVariants.{Response}
use Rattle.osc_protect.proofs.Staged.{holds_protected, one_to, refuses_open}
use Rattle.osc_protect.proofs.reading.inspect_response.Goals as goal

pub returns-in-Err-clause-refused : goal.returns-in-Err-clause-refused
returns-in-Err-clause-refused c = λ s r n old it. refuses_open c.one_datagram.ensures.one (responses_to s r n) old c.args.datagram.now (option_map number_of c.args.decrypted.number) c.args.decrypted.len it.1 (subst (λ (x : Features). RefusesInner Response x c.args.datagram.now c.args.decrypted.len) it.0 c.in-Err.ensures.refused)

pub returns-in-Err-clause-accepts : goal.returns-in-Err-clause-accepts
returns-in-Err-clause-accepts c = λ s r n old own m it x. absurd ((one_to c.one_response.ensures c.one_notification.ensures s r n).never_both old own m Inner x (returns-in-Err-clause-refused c s r n old it))

pub returns-in-Ok-clause-accepted : goal.returns-in-Ok-clause-accepted
returns-in-Ok-clause-accepted c = λ s r n old it.
    let h = subst (λ (x : Features). HasPlaintext Response x c.args.datagram.now c.args.decrypted.len c.in-Ok.payload_len) it.0 c.in-Ok.ensures.accepted in
    let i = (option_map number_of c.args.decrypted.number) in
    (i, h.inner, holds_protected c.one_datagram.ensures.one (responses_to s r n) old c.args.datagram.now i c.args.decrypted.len it.1 c.args.decrypted.len c.in-Ok.payload_len refl h)

pub returns-in-Ok-clause-refuses : goal.returns-in-Ok-clause-refuses
returns-in-Ok-clause-refuses c = λ s r n old it x. let h = returns-in-Ok-clause-accepted c s r n old it in absurd ((one_to c.one_response.ensures c.one_notification.ensures s r n).never_both old (h.0) (h.1) Inner h.2 x)
