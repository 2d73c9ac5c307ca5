use Rattle.std.proofs.Common.{◌^◌, option_map}
use Rattle.osc_context.specs.Views.{number_of}
use Rattle.osc_text.proofs.InputWords.{no_number, number_is}
use Rattle.osc_text.proofs.input_words.read_next.Goals as goal

pub returns-in-Ok : goal.returns-in-Ok
returns-in-Ok c = rw (← c.in-Ok.ensures.cases.0) (number_is (2 ^ 40) c.in-Ok.word.now (option_map number_of c.read_number.result) c.read_number.ensures)

pub returns-in-Err : goal.returns-in-Err
returns-in-Err c = no_number (2 ^ 40) c.args.word.now c.in-Err.ensures.cases.0
