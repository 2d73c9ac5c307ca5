use Rattle.std.proofs.Common.{length, sym, ◌∙◌}
use Rattle.osc_fresh.proofs.EchoSides.{holds_off, holds_on, on_ok, takes_one}
use Rattle.osc_fresh.proofs.with_echo.write_option.Goals as goal

pub returns-then-is_on_side-clause-taken : goal.returns-then-is_on_side-clause-taken
returns-then-is_on_side-clause-taken c =
    let is = sym c.is_on_side.ensures ∙ c.if-is_on_side.true in
    on_ok c.option.result c.option.ensures.taken (λ taken draft old h. holds_on c.option.new.self draft old c.args.behind c.args.number c.args.value.now is (taken draft old h))

pub returns-then-is_on_side-clause-accepts : goal.returns-then-is_on_side-clause-accepts
returns-then-is_on_side-clause-accepts c = λ draft old h takes.
    c.option.ensures.accepts draft old h (takes_one draft (length old) c.args.behind c.args.number c.args.value.now takes (sym c.is_on_side.ensures ∙ c.if-is_on_side.true))

pub returns-clause-taken : goal.returns-clause-taken
returns-clause-taken c = λ draft old h. holds_off c.args.writer.now draft old c.args.behind c.args.number c.args.value.now (sym c.is_on_side.ensures ∙ c.if-is_on_side.false) h
