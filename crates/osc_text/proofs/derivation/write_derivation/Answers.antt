use Rattle.std.proofs.Common.{◌∷◌, [], refl, ap}
use Rattle.std.proofs.lemmas.Result.{err_from_is_err_and}
use Rattle.osc_context.specs.ContextRefusal.{context_error_text}
use Rattle.osc_context.specs.Views.{as_client}
use Rattle.osc_text.specs.Contexts.{key_lines}
use Rattle.osc_text.specs.Contexts.InContext.{in_context, no_context}
use Rattle.osc_text.specs.Lines.{refused_line}
use Rattle.osc_text.proofs.derivation.write_derivation.Goals as goal

pub returns-in_err-put_keys-in-Ok : goal.returns-in_err-put_keys-in-Ok
returns-in_err-put_keys-in-Ok g c =
    let p = err_from_is_err_and c.from_residual.result c.from_residual.ensures.1 in
    let s = as_client c.in-Ok.context in
    rw (p.1, p.2) (key_lines s, 0, in_context (c.in-Ok.ensures.accepted refl) (ap key_lines c.in-Ok.ensures.client, refl), c.in_err-put_keys-in-Ok.ensures, tt)

pub returns-in_ok-put_keys-in-Ok : goal.returns-in_ok-put_keys-in-Ok
returns-in_ok-put_keys-in-Ok g c =
    let s = as_client c.in-Ok.context in
    (key_lines s, 0, in_context (c.in-Ok.ensures.accepted refl) (ap key_lines c.in-Ok.ensures.client, refl), c.in_ok-put_keys-in-Ok.ensures, refl)

pub returns-in-Err : goal.returns-in-Err
returns-in-Err g c =
    let e = c.in-Err.refusal in
    (refused_line (context_error_text e) ∷ [], 2, no_context e c.in-Err.ensures.refused refl refl, c.put_refused.ensures.written, c.put_refused.ensures.status)
