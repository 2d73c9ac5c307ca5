use Rattle.std.proofs.Common.{◌∙◌, ap, ◌<◌, ◌^◌, length, sym}
use Rattle.osc_status.specs.Statuses.{code}
use Rattle.osc_c.proofs.Room.{request_has_room}
use Rattle.osc_c.proofs.sealing.oscore_seal_request_v5.Goals as goal

pub returns-in-Ok-clause-refuses : goal.returns-in-Ok-clause-refuses
returns-in-Ok-clause-refuses c status why reason = absurd (c.in-Ok.ensures.refuses status why reason)

pub returns-in-Err-clause-refuses : goal.returns-in-Err-clause-refuses
returns-in-Err-clause-refuses c status why reason = let same = c.in-Err.ensures.refuses status why reason in (c.code.ensures ∙ ap code same.0, same.1)

pub returns-in-Err-clause-room : goal.returns-in-Err-clause-room
returns-in-Err-clause-room c = λ enough is.
    request_has_room c.enough_room.ensures.request (c.args.number < 2 ^ 40) c.args.context.now c.args.number c.args.plain.now (length c.args.out.now) _ _ c.in-Err.ensures.refused enough (sym c.code.ensures ∙ is)
