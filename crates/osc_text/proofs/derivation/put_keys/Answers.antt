use Rattle.std.proofs.Common.{◌∷◌, [], codes}
use Rattle.std.proofs.lemmas.Result.{err_from_is_err_and}
use Rattle.osc_text.specs.Lines.{bytes_line}
use Rattle.osc_text.proofs.Appending.{so_far_none, so_far_more, so_far_error, so_far_writes}
use Rattle.osc_text.proofs.derivation.put_keys.Goals as goal

pub returns-in_err-put_bytes : goal.returns-in_err-put_bytes
returns-in_err-put_bytes g c =
    let p = err_from_is_err_and c.from_residual.result c.from_residual.ensures.1 in
    rw (p.1, p.2, ← c.sender_key.ensures)
    (so_far_error _ _ _ _ (bytes_line (codes "sender key") c.sender_key.result.now ∷ []) _ _ (so_far_none _ _) c.in_err-put_bytes.ensures)

pub returns-in_err-put_bytes-2 : goal.returns-in_err-put_bytes-2
returns-in_err-put_bytes-2 g c =
    let p = err_from_is_err_and c.from_residual-in_err-put_bytes-2.result c.from_residual-in_err-put_bytes-2.ensures.1 in
    rw (p.1, p.2, ← c.sender_key.ensures, ← c.recipient_key.ensures)
    (so_far_error _ _ _ _ (bytes_line (codes "recipient key") c.recipient_key.result.now ∷ []) _ _
    (so_far_more _ _ _ _ (bytes_line (codes "sender key") c.sender_key.result.now ∷ []) _ (so_far_none _ _) c.in_ok-put_bytes.ensures)
    c.in_err-put_bytes-2.ensures)

pub returns : goal.returns
returns g c =
    rw (← c.sender_key.ensures, ← c.recipient_key.ensures, ← c.common_iv.ensures)
    (so_far_writes _ _ _ _ (bytes_line (codes "common iv") c.common_iv.result.now ∷ []) _
    (so_far_more _ _ _ _ (bytes_line (codes "recipient key") c.recipient_key.result.now ∷ []) _
    (so_far_more _ _ _ _ (bytes_line (codes "sender key") c.sender_key.result.now ∷ []) _ (so_far_none _ _) c.in_ok-put_bytes.ensures)
    c.in_ok-put_bytes-2.ensures) c.put_bytes-3.ensures)
