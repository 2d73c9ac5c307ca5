use Rattle.std.proofs.Common.{◌≡◌, ◌∙◌, IfOk, IsErrOf, IsOk, Result, Ok, Err, is_some, subst}
use Rattle.osc_coap.specs.Datagram.{Parts}
use Rattle.osc_coap.specs.Interpreted.{interpreted}
use Rattle.osc_coap.specs.OptionNumbers.{observe}
use Rattle.osc_coap.specs.Views.{parts_of}
use Rattle.osc_protect.specs.Checks.{Checks, observes}
use Rattle.osc_protect.specs.SealRefusals.{CanBeSealed, RefusesPlain}
use Rattle.osc_protect.specs.Usage.{sealing_features}
use Rattle.osc_protect.specs.declared.checked.Checked.{Checked}
use Rattle.osc_protect.specs.declared.family.Family.{Family}
use Rattle.osc_protect.specs.declared.protect_error.ProtectError.{ProtectError}
use Rattle.osc_protect.proofs.Observes.{observes_sealed}
use Rattle.osc_protect.proofs.Supported.{accepts_all, refuses_all, sealing_supported}
use Rattle.osc_protect.proofs.keyed_context.KeyedContext.check_response.Goals as goal

-- what was checked can be sealed
can : (f : Family) (p : Parts) (r : Result Checked ProtectError) → IfOk r (λ c. Checks f p c) → IsOk r → CanBeSealed f.usage (sealing_features f.usage f.features p.code) p
can f p (Ok checked) h ok = h.can
can f p (Err e) h ok = absurd (let bad : IsOk {T = Checked} (Err e) = ok in cc)

-- Observe counts where it is interpreted
read : (f : Family) (p : Parts) (r : Result Checked ProtectError) → IfOk r (λ c. Checks f p c) → IfOk r (λ c. observes c ≡ is_some (interpreted observe p.options))
read f p (Ok checked) h = h.observes ∙ observes_sealed f.features p.options (sealing_supported f.usage f.features p.code p.options h.can.1)
read f p (Err e) h = tt

pub returns-clause-observes : goal.returns-clause-observes
returns-clause-observes c = read c.of_response.result (parts_of c.args.plain.now) c.check.result c.check.ensures.checked

pub returns-clause-accepts : goal.returns-clause-accepts
returns-clause-accepts c =
    let p = parts_of c.args.plain.now in
    let f = c.of_response.result in
    subst (λ (g : Family). CanBeSealed g.usage (sealing_features g.usage g.features p.code) p → IsOk c.check.result) c.of_response.ensures
    (accepts_all f.usage (sealing_features f.usage f.features p.code) p c.check.result c.check.ensures.refused)

pub returns-clause-refuses : goal.returns-clause-refuses
returns-clause-refuses c =
    let p = parts_of c.args.plain.now in
    let f = c.of_response.result in
    subst (λ (g : Family). (e : ProtectError) → RefusesPlain g.usage (sealing_features g.usage g.features p.code) p e → IsErrOf c.check.result e) c.of_response.ensures
    (refuses_all f.usage (sealing_features f.usage f.features p.code) p c.check.result (can f p c.check.result c.check.ensures.checked) c.check.ensures.refused)
