use Rattle.std.proofs.Common.{◌∷◌, [], map, List, subst}
use Rattle.std.proofs.lemmas.Result.{err_from_is_err_and}
use Rattle.osc_text.specs.Lines.{option_line}
use Rattle.osc_coap.specs.Views.{options_left}
use Rattle.osc_coap.specs.OptionSpelling.{Entry}
use Rattle.osc_text.proofs.Appending.{SoFar, so_far_more, so_far_error}
use Rattle.osc_text.proofs.lines.put_options.Goals as goal

pub returns-in_err-put_option : goal.returns-in_err-put_option
returns-in_err-put_option g c =
    let p = err_from_is_err_and c.from_residual.result c.from_residual.ensures.1 in
    let so_far = subst (λ (t : List Entry). SoFar (g.W.Write.contents c.args.out.now) (g.W.Write.contents c.loop-number.out) (map option_line (options_left c.args.options)) (map option_line t)) c.in-Some.ensures.steps c.loop-number.invariant.so_far in
    rw (p.1, p.2) (so_far_error _ _ _ _ (option_line (c.in-Some.number, c.in-Some.value.now) ∷ []) _ c.in_err-put_option.field-0.0 so_far c.in_err-put_option.ensures)

pub loop-number-preserved : goal.loop-number-preserved
loop-number-preserved g c =
    let so_far = subst (λ (t : List Entry). SoFar (g.W.Write.contents c.args.out.now) (g.W.Write.contents c.loop-number.out) (map option_line (options_left c.args.options)) (map option_line t)) c.in-Some.ensures.steps c.loop-number.invariant.so_far in
    record { can_next = tt; is_finite = tt; so_far = so_far_more _ _ _ _ (option_line (c.in-Some.number, c.in-Some.value.now) ∷ []) _ so_far c.in_ok-put_option.ensures }
