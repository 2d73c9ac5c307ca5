use Rattle.std.proofs.Common.{◌^◌}
use Rattle.osc_text.proofs.InputWords.{no_number, number_is}
use Rattle.osc_text.proofs.input_words.read_moment.Goals as goal

pub returns-in-Ok : goal.returns-in-Ok
returns-in-Ok c = rw (← c.in-Ok.ensures.cases.0) (number_is (2 ^ 64) c.in-Ok.word.now c.read_decimal.result c.read_decimal.ensures)

pub returns-in-Err : goal.returns-in-Err
returns-in-Err c = no_number (2 ^ 64) c.args.word.now c.in-Err.ensures.cases.0
