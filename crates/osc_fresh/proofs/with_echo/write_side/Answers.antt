use Rattle.std.proofs.Common.{List, [], ◌∷◌, ◌++◌, ap, length, sym, subst, ◌∙◌, append_assoc}
use Rattle.osc_coap.specs.OptionSpelling.{Entry}
use Rattle.osc_coap.specs.Views.{options_left}
use Rattle.osc_coap.specs.Writer.{Holds}
use Rattle.osc_coap.specs.Writing.{Draft}
use Rattle.osc_protect.proofs.Splits.{with_options-append}
use Rattle.osc_fresh.specs.Sides.{side}
use Rattle.osc_fresh.proofs.EchoSides.{no_ok, side-cons, takes_part}
use Rattle.osc_fresh.proofs.with_echo.write_side.Goals as goal

pub loop-number-preserved : goal.loop-number-preserved
loop-number-preserved c =
    let b = c.args.behind in
    let entry : Entry = (c.in-Some.number, c.in-Some.value.now) in
    let rest : List Entry = options_left c.next.new.self in
    record {
      can_next = tt;
      is_finite = tt;
      same_reference = c.in_ok-write_option.ensures.same_reference ∙ c.loop-number.invariant.same_reference;
      so_far = λ draft old h.
          let so_far = c.loop-number.invariant.so_far draft old h in (
            so_far.0 ++ side b (entry ∷ []),
            subst (λ (d : Draft). Holds c.write_option.new.writer d old) (with_options-append draft so_far.0 (side b (entry ∷ []))) (c.in_ok-write_option.ensures.taken _ _ so_far.1),
            so_far.2 ∙ ap (λ (es : List Entry). so_far.0 ++ side b es) c.in-Some.ensures.steps ∙ ap (λ (es : List Entry). so_far.0 ++ es) (side-cons b entry rest)
                ∙ sym (append_assoc so_far.0 (side b (entry ∷ [])) (side b rest)),
          );
    }

pub returns-in_err-write_option-clause-accepts : goal.returns-in_err-write_option-clause-accepts
returns-in_err-write_option-clause-accepts c = λ draft old h takes.
    let b = c.args.behind in
    let entry : Entry = (c.in-Some.number, c.in-Some.value.now) in
    let rest : List Entry = options_left c.next.new.self in
    let so_far = c.loop-number.invariant.so_far draft old h in
    no_ok (c.in_err-write_option.ensures.accepts _ old so_far.1
    (takes_part draft (length old) (side b (options_left c.args.options)) so_far.0 (side b (entry ∷ [])) (side b rest) takes
    (so_far.2 ∙ ap (λ (es : List Entry). so_far.0 ++ side b es) c.in-Some.ensures.steps ∙ ap (λ (es : List Entry). so_far.0 ++ es) (side-cons b entry rest))))
