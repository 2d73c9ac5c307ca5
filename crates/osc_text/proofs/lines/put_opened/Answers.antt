use Rattle.std.proofs.Common.{◌∷◌, [], map, codes}
use Rattle.std.proofs.lemmas.Result.{err_from_is_err_and}
use Rattle.osc_text.specs.Lines.{head_lines, number_line, part_lines, option_line}
use Rattle.osc_text.specs.Opening.{opened_lines}
use Rattle.osc_text.specs.Outcomes.{seen}
use Rattle.osc_text.proofs.Appending.{so_far_none, so_far_more, so_far_error, so_far_writes}
use Rattle.osc_text.proofs.lines.put_opened.Goals as goal

pub returns-in_err-put_head : goal.returns-in_err-put_head
returns-in_err-put_head g c =
    let p = err_from_is_err_and c.from_residual.result c.from_residual.ensures.1 in
    let x = seen c.args.opened.now in
    rw (p.1, p.2) (so_far_error _ _ _ _ (head_lines x.kind x.message_id x.token x.code) _ _ (so_far_none _ (opened_lines x)) c.in_err-put_head.ensures)

pub returns-in_err-put_number : goal.returns-in_err-put_number
returns-in_err-put_number g c =
    let p = err_from_is_err_and c.from_residual-in_err-put_number.result c.from_residual-in_err-put_number.ensures.1 in
    let x = seen c.args.opened.now in
    let after_head = so_far_more _ _ _ _ (head_lines x.kind x.message_id x.token x.code) _ (so_far_none (g.W.Write.contents c.args.out.now) (opened_lines x)) c.in_ok-put_head.ensures in
    rw (p.1, p.2) (so_far_error _ _ _ _ (number_line x.number ∷ []) _ _ after_head c.in_err-put_number.ensures)

pub returns-in_err-put_part : goal.returns-in_err-put_part
returns-in_err-put_part g c =
    let p = err_from_is_err_and c.from_residual-in_err-put_part.result c.from_residual-in_err-put_part.ensures.1 in
    let x = seen c.args.opened.now in
    let after_head = so_far_more _ _ _ _ (head_lines x.kind x.message_id x.token x.code) _ (so_far_none (g.W.Write.contents c.args.out.now) (opened_lines x)) c.in_ok-put_head.ensures in
    let after_number = so_far_more _ _ _ _ (number_line x.number ∷ []) _ after_head c.in_ok-put_number.ensures in
    rw (p.1, p.2) (so_far_error _ _ _ _ (part_lines (codes "uri-host") x.uri_host) _ _ after_number c.in_err-put_part.ensures)

pub returns-in_err-put_part-2 : goal.returns-in_err-put_part-2
returns-in_err-put_part-2 g c =
    let p = err_from_is_err_and c.from_residual-in_err-put_part-2.result c.from_residual-in_err-put_part-2.ensures.1 in
    let x = seen c.args.opened.now in
    let after_head = so_far_more _ _ _ _ (head_lines x.kind x.message_id x.token x.code) _ (so_far_none (g.W.Write.contents c.args.out.now) (opened_lines x)) c.in_ok-put_head.ensures in
    let after_number = so_far_more _ _ _ _ (number_line x.number ∷ []) _ after_head c.in_ok-put_number.ensures in
    let after_host = so_far_more _ _ _ _ (part_lines (codes "uri-host") x.uri_host) _ after_number c.in_ok-put_part.ensures in
    rw (p.1, p.2) (so_far_error _ _ _ _ (part_lines (codes "uri-port") x.uri_port) _ _ after_host c.in_err-put_part-2.ensures)

pub returns-in_err-put_inner : goal.returns-in_err-put_inner
returns-in_err-put_inner g c =
    let p = err_from_is_err_and c.from_residual-in_err-put_inner.result c.from_residual-in_err-put_inner.ensures.1 in
    let x = seen c.args.opened.now in
    let after_head = so_far_more _ _ _ _ (head_lines x.kind x.message_id x.token x.code) _ (so_far_none (g.W.Write.contents c.args.out.now) (opened_lines x)) c.in_ok-put_head.ensures in
    let after_number = so_far_more _ _ _ _ (number_line x.number ∷ []) _ after_head c.in_ok-put_number.ensures in
    let after_host = so_far_more _ _ _ _ (part_lines (codes "uri-host") x.uri_host) _ after_number c.in_ok-put_part.ensures in
    let after_port = so_far_more _ _ _ _ (part_lines (codes "uri-port") x.uri_port) _ after_host c.in_ok-put_part-2.ensures in
    rw (p.1, p.2) (so_far_error _ _ _ _ (map option_line x.options) _ _ after_port c.in_err-put_inner.ensures)

pub returns : goal.returns
returns g c =
    let x = seen c.args.opened.now in
    let after_head = so_far_more _ _ _ _ (head_lines x.kind x.message_id x.token x.code) _ (so_far_none (g.W.Write.contents c.args.out.now) (opened_lines x)) c.in_ok-put_head.ensures in
    let after_number = so_far_more _ _ _ _ (number_line x.number ∷ []) _ after_head c.in_ok-put_number.ensures in
    let after_host = so_far_more _ _ _ _ (part_lines (codes "uri-host") x.uri_host) _ after_number c.in_ok-put_part.ensures in
    let after_port = so_far_more _ _ _ _ (part_lines (codes "uri-port") x.uri_port) _ after_host c.in_ok-put_part-2.ensures in
    let after_options = so_far_more _ _ _ _ (map option_line x.options) _ after_port c.in_ok-put_inner.ensures in
    so_far_writes _ _ _ _ _ c.put_bytes.result after_options c.put_bytes.ensures
