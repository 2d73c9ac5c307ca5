use Rattle.std.proofs.Common.{◌∙◌, ap, length, sym}
use Rattle.osc_status.specs.Statuses.{code}
use Rattle.osc_context_handle.specs.ContextBytes.{IsContext, server_in}
use Rattle.osc_c.specs.Calls.{AreNumbers}
use Rattle.osc_c.specs.Opened.{number_given}
use Rattle.osc_c.proofs.Room.{response_has_room}
use Rattle.osc_c.proofs.sealing.oscore_seal_response_v5.Goals as goal

pub returns-in-Ok-clause-refuses : goal.returns-in-Ok-clause-refuses
returns-in-Ok-clause-refuses c status why reason = absurd (c.in-Ok.ensures.refuses status why reason)

pub returns-in-Err-clause-refuses : goal.returns-in-Err-clause-refuses
returns-in-Err-clause-refuses c status why reason = let same = c.in-Err.ensures.refuses status why reason in (c.code.ensures ∙ ap code same.0, same.1)

pub returns-in-Err-clause-room : goal.returns-in-Err-clause-room
returns-in-Err-clause-room c = λ enough is.
    response_has_room c.enough_room.ensures.response (IsContext c.args.context.now) (AreNumbers c.args.request c.args.has_own c.args.own) (server_in c.args.context.now) c.args.request (number_given c.args.has_own c.args.own)
    c.args.plain.now (length c.args.out.now) _ _ c.in-Err.ensures.refused enough (sym c.code.ensures ∙ is)
