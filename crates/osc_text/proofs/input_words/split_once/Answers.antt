use Rattle.std.proofs.Common.{rules}
use Rattle.osc_text.proofs.InputWords.{split_none, split_at_first}
use Rattle.std.proofs.lemmas.List.{take_rest}
use Rattle.osc_text.proofs.input_words.split_once.Goals as goal

pub returns-in-Some : goal.returns-in-Some
returns-in-Some c =
    let found = split_at_first c.args.mark c.args.bytes.now c.in-Some.place (search rules) (search rules) (search rules) in
    rw (found, take_rest)

pub returns-in-None : goal.returns-in-None
returns-in-None c =
    let none = split_none c.args.mark c.args.bytes.now (search rules) in
    rw none
