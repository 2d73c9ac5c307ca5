use Rattle.std.proofs.Common.{◌∷◌, [], codes}
use Rattle.std.proofs.lemmas.Result.{err_from_is_err_and}
use Rattle.osc_text.specs.Lines.{kind_line, message_id_line, code_line, head_lines, bytes_line}
use Rattle.osc_text.proofs.Appending.{so_far_none, so_far_more, so_far_error, so_far_writes}
use Rattle.osc_text.proofs.lines.put_head.Goals as goal

pub returns-in_err-put_kind : goal.returns-in_err-put_kind
returns-in_err-put_kind g c =
    let p = err_from_is_err_and c.from_residual.result c.from_residual.ensures.1 in
    let whole = head_lines c.args.kind c.args.message_id c.args.token.now.items c.args.code in
    rw (p.1, p.2) (so_far_error _ _ _ _ (kind_line c.args.kind ∷ []) _ _ (so_far_none _ whole) c.in_err-put_kind.ensures)

pub returns-in_err-put_message_id : goal.returns-in_err-put_message_id
returns-in_err-put_message_id g c =
    let p = err_from_is_err_and c.from_residual-in_err-put_message_id.result c.from_residual-in_err-put_message_id.ensures.1 in
    let whole = head_lines c.args.kind c.args.message_id c.args.token.now.items c.args.code in
    let after_kind = so_far_more _ _ _ _ (kind_line c.args.kind ∷ []) _ (so_far_none (g.W.Write.contents c.args.out.now) whole) c.in_ok-put_kind.ensures in
    rw (p.1, p.2) (so_far_error _ _ _ _ (message_id_line c.args.message_id ∷ []) _ _ after_kind c.in_err-put_message_id.ensures)

pub returns-in_err-put_token : goal.returns-in_err-put_token
returns-in_err-put_token g c =
    let p = err_from_is_err_and c.from_residual-in_err-put_token.result c.from_residual-in_err-put_token.ensures.1 in
    let whole = head_lines c.args.kind c.args.message_id c.args.token.now.items c.args.code in
    let after_kind = so_far_more _ _ _ _ (kind_line c.args.kind ∷ []) _ (so_far_none (g.W.Write.contents c.args.out.now) whole) c.in_ok-put_kind.ensures in
    let after_mid = so_far_more _ _ _ _ (message_id_line c.args.message_id ∷ []) _ after_kind c.in_ok-put_message_id.ensures in
    rw (p.1, p.2) (so_far_error _ _ _ _ (bytes_line (codes "token") c.args.token.now.items ∷ []) _ _ after_mid c.in_err-put_token.ensures)

pub returns : goal.returns
returns g c =
    let whole = head_lines c.args.kind c.args.message_id c.args.token.now.items c.args.code in
    let after_kind = so_far_more _ _ _ _ (kind_line c.args.kind ∷ []) _ (so_far_none (g.W.Write.contents c.args.out.now) whole) c.in_ok-put_kind.ensures in
    let after_mid = so_far_more _ _ _ _ (message_id_line c.args.message_id ∷ []) _ after_kind c.in_ok-put_message_id.ensures in
    let after_token = so_far_more _ _ _ _ (bytes_line (codes "token") c.args.token.now.items ∷ []) _ after_mid c.in_ok-put_token.ensures in
    so_far_writes _ _ _ _ (code_line c.args.code ∷ []) c.put_code.result after_token c.put_code.ensures
