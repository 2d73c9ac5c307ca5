use Rattle.std.proofs.Common.{◌++◌}
use Rattle.std.proofs.lemmas.Result.{err_from_is_err_and}
use Rattle.osc_coap.specs.Views.{parts_of}
use Rattle.osc_text.specs.Explanation.{message_lines}
use Rattle.osc_text.proofs.Appending.{so_far_none, so_far_more, so_far_error, so_far_writes}
use Rattle.osc_text.proofs.explanation.put_explained.Goals as goal

pub returns-in_err-put_message : goal.returns-in_err-put_message
returns-in_err-put_message g c =
    let p = err_from_is_err_and c.from_residual.result c.from_residual.ensures.1 in
    let message = message_lines (parts_of c.args.message.now) in
    rw (p.1, p.2) (λ lines text. rw text.2 (so_far_error _ _ _ _ message (text.0) _ (so_far_none _ (message ++ text.0)) c.in_err-put_message.ensures))

pub returns : goal.returns
returns g c = λ lines text.
    let message = message_lines (parts_of c.args.message.now) in
    let after_message = so_far_more _ _ _ _ message (text.0) (so_far_none (g.W.Write.contents c.args.out.now) (message ++ text.0)) c.in_ok-put_message.ensures in
    let written = c.put_values.ensures (text.0) (rw c.options.ensures text.1) in
    rw text.2 (so_far_writes _ _ _ _ (text.0) c.put_values.result after_message written)
