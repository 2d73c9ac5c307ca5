use Rattle.std.proofs.Common.{◌∙◌, Bool, ap}
use Rattle.std.specs.Prelude.{if◌then◌else◌}
use Rattle.osc_coap.specs.Views.{parts_of}
use Rattle.osc_protect.specs.Usage.{observing_code_of, plain_code_of}
use Rattle.osc_protect.proofs.Observes.{observes_read}
use Rattle.osc_protect.proofs.Supported.{sealing_supported}
use Rattle.osc_protect.proofs.sealing.seal_in_room.Goals as goal

pub seal_parts-len-requires-clause-supported : goal.seal_parts-len-requires-clause-supported
seal_parts-len-requires-clause-supported c =
    let p = parts_of c.args.plain.now in
    sealing_supported c.args.family.usage c.args.family.features p.code p.options c.requires.checked.can.1

pub seal_parts-len-requires-clause-code : goal.seal_parts-len-requires-clause-code
seal_parts-len-requires-clause-code c =
    let p = parts_of c.args.plain.now in
    let u = c.args.family.usage in
    c.outer_code-code.ensures
    ∙ ap (λ (b : Bool). if b then observing_code_of u else plain_code_of u) (c.in_ok-layout.ensures.observes ∙ observes_read c.args.family.features.observe p.options)
