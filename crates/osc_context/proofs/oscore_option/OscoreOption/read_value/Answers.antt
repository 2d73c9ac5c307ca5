use Rattle.std.proofs.Common.{arith}
use Rattle.std.proofs.lemmas.Result.{err_from_is_err_and}
use Rattle.std.specs.Option.{option_copied, option_map}
use Rattle.osc_context.specs.OscoreValue.{OscoreParts}
use Rattle.osc_context.specs.Views.{number_of}
use Rattle.osc_context.proofs.ValueParts.{closed, no_value}
use Rattle.osc_context.proofs.CutValues.{read_cut, value_cut, trailing_first}
use Rattle.osc_context.proofs.oscore_option.OscoreOption.read_value.Goals as goal

pub returns-in_default-clause-accepted : goal.returns-in_default-clause-accepted
returns-in_default-clause-accepted c = no_value c.args.bytes.now c.in_default.len_below

pub returns-in_err-kid-clause-refused : goal.returns-in_err-kid-clause-refused
returns-in_err-kid-clause-refused c =
    let cut =
    read_cut (option_copied c.in_ok-parts.parts.kid_context) c.args.bytes.now c.in_ok-parts.parts.piv.now c.in_ok-parts.parts.rest.now (option_map number_of c.in_ok-piv.piv)
    (omega arith) (omega arith) c.in_ok-check_flag.ensures.written c.in_ok-check_flag.ensures.plain c.in_ok-check_flag.ensures.piv_len
    c.in_ok-parts.ensures.spelled c.in_ok-parts.ensures.len c.in_ok-parts.ensures.present c.in_ok-piv.ensures.spelled in
    let first = trailing_first _ _ _ _ cut c.in_err-kid.ensures.trailing in
    let gone = err_from_is_err_and c.from_residual-in_err-kid.result c.from_residual-in_err-kid.ensures.1 in
    rw (gone.1, gone.2, c.in_err-kid.ensures.refused) first

pub returns-clause-accepted : goal.returns-clause-accepted
returns-clause-accepted c =
    let p : OscoreParts = record { piv = option_map number_of c.in_ok-piv.piv; kid_context = option_copied c.in_ok-parts.parts.kid_context; kid = option_copied c.in_ok-kid.kid } in
    let cut =
    read_cut (option_copied c.in_ok-parts.parts.kid_context) c.args.bytes.now c.in_ok-parts.parts.piv.now c.in_ok-parts.parts.rest.now (option_map number_of c.in_ok-piv.piv)
    (omega arith) (omega arith) c.in_ok-check_flag.ensures.written c.in_ok-check_flag.ensures.plain c.in_ok-check_flag.ensures.piv_len
    c.in_ok-parts.ensures.spelled c.in_ok-parts.ensures.len c.in_ok-parts.ensures.present c.in_ok-piv.ensures.spelled in
    closed p _ (value_cut p _ _ _ cut c.in_ok-piv.ensures.number c.in_ok-piv.ensures.spelled c.in_ok-kid.ensures.spelled c.in_ok-kid.ensures.present)
