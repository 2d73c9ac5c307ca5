use Rattle.std.proofs.Common.{sym}
use Rattle.std.proofs.lemmas.Result.{err_from_is_err_and}
use Rattle.osc_coap.specs.Views.{parts_of}
use Rattle.osc_text.proofs.ExplainTexts.{message_text, refusal_text}
use Rattle.osc_text.proofs.explanation.write_explanation.Goals as goal

pub returns-in_err-put_explained-in-Ok : goal.returns-in_err-put_explained-in-Ok
returns-in_err-put_explained-in-Ok g c =
    let p = err_from_is_err_and c.from_residual.result c.from_residual.ensures.1 in
    rw (p.1, p.2) (λ lines status text.
    let t = message_text c.args.datagram.now (parts_of c.in-Ok.message) lines status c.in-Ok.ensures.accepts c.in-Ok.ensures.refuses text in
    (c.in_err-put_explained-in-Ok.ensures lines t.0, tt))

pub returns-in_ok-put_explained-in-Ok : goal.returns-in_ok-put_explained-in-Ok
returns-in_ok-put_explained-in-Ok g c = λ lines status text.
    let t = message_text c.args.datagram.now (parts_of c.in-Ok.message) lines status c.in-Ok.ensures.accepts c.in-Ok.ensures.refuses text in
    (c.in_ok-put_explained-in-Ok.ensures lines t.0, sym t.1)

pub returns-in-Err : goal.returns-in-Err
returns-in-Err g c = λ lines status text.
    let t = refusal_text c.args.datagram.now c.in-Err.refusal lines status c.in-Err.ensures.accepts c.in-Err.ensures.refuses text in
    rw (t.0, t.1) (c.put_refused.ensures.written, c.put_refused.ensures.status)
