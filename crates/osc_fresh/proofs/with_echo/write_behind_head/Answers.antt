use Rattle.std.proofs.Common.{length}
use Rattle.osc_coap.specs.Views.{options_left, parts_of}
use Rattle.osc_protect.proofs.Splits.{taken_either}
use Rattle.osc_fresh.proofs.EchoSides.{is_whole, no_ok, on_ok, takes_back, takes_front, takes_payload, takes_value}
use Rattle.osc_fresh.proofs.with_echo.write_behind_head.Goals as goal

pub returns-in_err-write_side-clause-accepts : goal.returns-in_err-write_side-clause-accepts
returns-in_err-write_side-clause-accepts c = λ old h takes.
    let p = parts_of c.args.plain.now in
    let up = c.options_ascend.ensures.held_message c.args.plain.now in
    no_ok (c.in_err-write_side.ensures.accepts _ old h (takes_front p c.args.echo.now (length old) takes up (options_left c.options-options.result) c.options-options.ensures))

pub returns-in_err-option-clause-accepts : goal.returns-in_err-option-clause-accepts
returns-in_err-option-clause-accepts c = λ old h takes.
    let p = parts_of c.args.plain.now in
    let up = c.options_ascend.ensures.held_message c.args.plain.now in
    no_ok (c.in_err-option.ensures.accepts _ old (c.in_ok-write_side.ensures.taken _ _ h)
    (takes_value p c.args.echo.now (length old) takes up (options_left c.options-options.result) c.options-options.ensures))

pub returns-in_err-write_side-2-clause-accepts : goal.returns-in_err-write_side-2-clause-accepts
returns-in_err-write_side-2-clause-accepts c = λ old h takes.
    let p = parts_of c.args.plain.now in
    let up = c.options_ascend.ensures.held_message c.args.plain.now in
    no_ok (c.in_err-write_side-2.ensures.accepts _ old (c.in_ok-option.ensures.taken _ _ (c.in_ok-write_side.ensures.taken _ _ h))
    (takes_back p c.args.echo.now (length old) takes up (options_left c.options-options.result) c.options-options.ensures))

pub returns-clause-taken : goal.returns-clause-taken
returns-clause-taken c =
    let p = parts_of c.args.plain.now in
    on_ok c.payload-2.result c.payload-2.ensures.taken (λ taken old h.
    is_whole p c.args.echo.now (options_left c.options-options.result) c.payload.result.now c.payload-2.new.self old c.options-options.ensures c.payload.ensures
    (taken _ _ (c.in_ok-write_side-2.ensures.taken _ _ (c.in_ok-option.ensures.taken _ _ (c.in_ok-write_side.ensures.taken _ _ h)))))

pub returns-clause-accepts : goal.returns-clause-accepts
returns-clause-accepts c = λ old h takes.
    let p = parts_of c.args.plain.now in
    let held = c.in_ok-write_side-2.ensures.taken _ _ (c.in_ok-option.ensures.taken _ _ (c.in_ok-write_side.ensures.taken _ _ h)) in
    let fits = takes_payload p c.args.echo.now (length old) (options_left c.options-options.result) c.payload.result.now takes c.options-options.ensures c.payload.ensures in
    taken_either c.payload.result.now c.payload-2.result (λ empty. (c.payload-2.ensures.nothing empty).0) (λ some. c.payload-2.ensures.accepts _ _ held some fits)
