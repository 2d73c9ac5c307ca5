use Rattle.std.proofs.Common.{List, subst}
use Rattle.std.proofs.lemmas.Result.{err_from_is_err_and}
use Rattle.osc_coap.specs.OptionSpelling.{Entry}
use Rattle.osc_coap.specs.Views.{options_left}
use Rattle.osc_text.proofs.ExplainTexts.{Continues, continues_error, continues_more}
use Rattle.osc_text.proofs.oscore_lines.put_values.Goals as goal

pub returns-in_err-put_if_oscore : goal.returns-in_err-put_if_oscore
returns-in_err-put_if_oscore g c =
    let p = err_from_is_err_and c.from_residual.result c.from_residual.ensures.1 in
    let so_far = subst (λ (left : List Entry). Continues (g.W.Write.contents c.args.out.now) (g.W.Write.contents c.loop-number.out) (options_left c.args.options) left) c.in-Some.ensures.steps c.loop-number.invariant.so_far in
    rw (p.1, p.2) (continues_error _ _ _ (options_left c.args.options) (options_left c.next.new.self) (c.in-Some.number, c.in-Some.value.now) c.in_err-put_if_oscore.field-0.0 so_far c.in_err-put_if_oscore.ensures)

pub loop-number-preserved : goal.loop-number-preserved
loop-number-preserved g c =
    let so_far = subst (λ (left : List Entry). Continues (g.W.Write.contents c.args.out.now) (g.W.Write.contents c.loop-number.out) (options_left c.args.options) left) c.in-Some.ensures.steps c.loop-number.invariant.so_far in
    record { can_next = tt; is_finite = tt; so_far = continues_more _ _ _ (options_left c.args.options) (options_left c.next.new.self) (c.in-Some.number, c.in-Some.value.now) so_far c.in_ok-put_if_oscore.ensures }
