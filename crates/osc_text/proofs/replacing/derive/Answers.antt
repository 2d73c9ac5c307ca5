use Rattle.std.proofs.Common.{◌∙◌, refl}
use Rattle.osc_context.specs.declared.parameters.Params.{Params}
use Rattle.osc_text.specs.ReplaceEvents.{HasKeying}
use Rattle.osc_text.specs.ReplaceReading.{keying_seen}
use Rattle.osc_text.proofs.ReplaceSpellings.{client_is, makes_context, server_is}
use Rattle.osc_text.proofs.replacing.derive.Goals as goal

pub returns-in-Ok : goal.returns-in-Ok
returns-in-Ok c =
    let k = keying_seen c.args.keying.now in
    let g : Params = record { secret = c.deref.result; salt = c.deref-2.result; id_context = c.shown.result; sender = c.deref-3.result; recipient = c.deref-4.result } in
    let has : HasKeying g k = (c.deref.ensures.value, c.deref-2.ensures.value, c.deref-3.ensures.value, c.deref-4.ensures.value, c.shown.ensures) in
    (c.in-Ok.ensures.client ∙ client_is g k has, c.in-Ok.ensures.server ∙ server_is g k has, makes_context g k has (c.in-Ok.ensures.accepted refl))
