use Rattle.std.proofs.Common.{List, ℕ, map}
use Rattle.std.proofs.lemmas.Result.{err_from_is_err_and}
use Rattle.osc_coap.specs.Datagram.{Parts}
use Rattle.osc_coap.specs.Views.{parts_of}
use Rattle.osc_text.specs.Explanation.{message_lines}
use Rattle.osc_text.specs.Lines.{head_lines, option_line}
use Rattle.osc_text.proofs.Appending.{so_far_none, so_far_more, so_far_error, so_far_writes}
use Rattle.osc_text.proofs.explanation.put_message.Goals as goal

-- the lines of a message's head
abbrev head : Parts → List (List ℕ)
head m = head_lines m.kind m.message_id m.token m.code

pub returns-in_err-put_head : goal.returns-in_err-put_head
returns-in_err-put_head g c =
    let p = err_from_is_err_and c.from_residual.result c.from_residual.ensures.1 in
    rw (p.1, p.2) (so_far_error _ _ _ _ (head (parts_of c.args.message.now)) _ _ (so_far_none _ (message_lines (parts_of c.args.message.now))) c.in_err-put_head.ensures)

pub returns-in_err-put_options : goal.returns-in_err-put_options
returns-in_err-put_options g c =
    let p = err_from_is_err_and c.from_residual-in_err-put_options.result c.from_residual-in_err-put_options.ensures.1 in
    let m = parts_of c.args.message.now in
    let after_head = so_far_more _ _ _ _ (head m) _ (so_far_none (g.W.Write.contents c.args.out.now) (message_lines m)) c.in_ok-put_head.ensures in
    rw (p.1, p.2) (so_far_error _ _ _ _ (map option_line m.options) _ _ after_head (rw c.options.ensures at c.in_err-put_options.ensures))

pub returns : goal.returns
returns g c =
    let m = parts_of c.args.message.now in
    let after_head = so_far_more _ _ _ _ (head m) _ (so_far_none (g.W.Write.contents c.args.out.now) (message_lines m)) c.in_ok-put_head.ensures in
    let options = rw c.options.ensures at c.in_ok-put_options.ensures in
    let after_options = so_far_more _ _ _ _ (map option_line m.options) _ after_head options in
    let payload = rw c.payload.ensures at c.put_bytes.ensures in
    so_far_writes _ _ _ _ _ c.put_bytes.result after_options payload
