use Rattle.std.proofs.Common.{◌∙◌, ap, length}
use Rattle.osc_status.specs.Statuses.{code}
use Rattle.osc_c.specs.Writing.{message_asked}
use Rattle.osc_c.proofs.Unwritten.{is_written, one_refusal}
use Rattle.osc_c.proofs.writing.oscore_write_message_v5.Goals as goal

pub returns-in-Err-clause-accepts : goal.returns-in-Err-clause-accepts
returns-in-Err-clause-accepts c bytes kind is fits =
    absurd (is_written c.lengths_by_parts.ensures.datagram c.options_ascend.ensures.datagram c.args.kind (message_asked c.args.kind c.args.code c.args.message_id c.args.token.now c.args.options.now c.args.payload.now) (length c.args.out.now) _ _ bytes kind is fits c.in-Err.ensures.refused)

pub returns-in-Err-clause-refuses : goal.returns-in-Err-clause-refuses
returns-in-Err-clause-refuses c status why reason =
    let same = one_refusal c.args.kind (message_asked c.args.kind c.args.code c.args.message_id c.args.token.now c.args.options.now c.args.payload.now) (length c.args.out.now) _ _ _ _ c.in-Err.ensures.refused reason in
    (c.code.ensures ∙ ap code same.0, same.1)
