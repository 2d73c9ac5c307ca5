use Rattle.std.proofs.Common.{refl, subst}
use Rattle.osc_context.specs.Views.{number_of}
use Rattle.osc_protect.specs.Protection.{requests}
use Rattle.osc_context.specs.declared.features.Features.{Features}
use Rattle.osc_protect.specs.Halves.{RefusesInner}
use Rattle.osc_protect.specs.Stages.{HasPlaintext}
use Rattle.osc_protect.specs.declared.unprotect_error.UnprotectError.TheVariants.{Inner}
use Rattle.osc_protect.specs.declared.usage.Usage.TheVariants.{Request}
use Rattle.osc_protect.proofs.Staged.{holds_protected, refuses_open}
use Rattle.osc_protect.proofs.reading.inspect_request.Goals as goal

pub returns-in-Err-clause-refused : goal.returns-in-Err-clause-refused
returns-in-Err-clause-refused c = λ s old it. refuses_open c.one_datagram.ensures.one (requests s) old c.args.datagram.now (number_of c.args.decrypted.number) c.args.decrypted.len it.1 (subst (λ (x : Features). RefusesInner Request x c.args.datagram.now c.args.decrypted.len) it.0 c.in-Err.ensures.refused)

pub returns-in-Err-clause-accepts : goal.returns-in-Err-clause-accepts
returns-in-Err-clause-accepts c = λ s old n m it x. absurd ((c.one_request.ensures s).never_both old n m Inner x (returns-in-Err-clause-refused c s old it))

pub returns-in-Ok-clause-accepted : goal.returns-in-Ok-clause-accepted
returns-in-Ok-clause-accepted c = λ s old it.
    let h = subst (λ (x : Features). HasPlaintext Request x c.args.datagram.now c.args.decrypted.len c.in-Ok.payload_len) it.0 c.in-Ok.ensures.accepted in
    let i = (number_of c.args.decrypted.number) in
    (i, h.inner, holds_protected c.one_datagram.ensures.one (requests s) old c.args.datagram.now i c.args.decrypted.len it.1 c.args.decrypted.len c.in-Ok.payload_len refl h)

pub returns-in-Ok-clause-refuses : goal.returns-in-Ok-clause-refuses
returns-in-Ok-clause-refuses c = λ s old it x. let h = returns-in-Ok-clause-accepted c s old it in absurd ((c.one_request.ensures s).never_both old (h.0) (h.1) Inner h.2 x)
