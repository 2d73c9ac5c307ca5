use Rattle.std.proofs.Common.{rules}
use Rattle.osc_coap.specs.Views.{parts_of}
use Rattle.osc_protect.proofs.Observes.{observes_read}
use Rattle.osc_protect.proofs.checked.has_observe.Goals as goal

pub returns-then-features : goal.returns-then-features
returns-then-features c =
    let read = observes_read c.args.features.observe (parts_of c.args.plain.now).options in
    search rules

pub returns-else-features : goal.returns-else-features
returns-else-features c =
    let read = observes_read c.args.features.observe (parts_of c.args.plain.now).options in
    search rules
