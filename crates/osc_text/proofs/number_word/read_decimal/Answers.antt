use Rattle.std.proofs.Common.{◌≡◌, ◌≢◌, get_or, rules}
use Rattle.osc_text.proofs.NumberWords.{plus_first, decimal_read, no_decimal}
use Rattle.osc_text.proofs.number_word.read_decimal.Goals as goal

pub returns-then-first_byte-eq43 : goal.returns-then-first_byte-eq43
returns-then-first_byte-eq43 c =
    let first : get_or c.args.word.now 0 0 ≡ 43 = search rules in
    λ h. plus_first c.args.word.now first h.0

pub returns-in-Ok : goal.returns-in-Ok
returns-in-Ok c =
    let first : get_or c.args.word.now 0 0 ≢ 43 = search rules in
    decimal_read c.args.word.now c.parse.result c.in-Ok.number c.in-Ok.is c.parse.ensures.value.0 first

pub returns-in-Err : goal.returns-in-Err
returns-in-Err c =
    let first : get_or c.args.word.now 0 0 ≢ 43 = search rules in
    no_decimal c.args.word.now c.parse.result _ c.in-Err.is c.parse.ensures.value.0 first
