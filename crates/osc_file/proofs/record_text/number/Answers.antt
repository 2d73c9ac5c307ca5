use Rattle.std.proofs.Common.{Some, None, ap, ◌∙◌, arith}
use Rattle.std.specs.Result.{result_ok}
use Rattle.std.specs.Fmt.{decimal}
use Rattle.std.proofs.lemmas.Fmt.{parse-decimal}
use Rattle.std.proofs.lemmas.Str.Pattern.{split_after}
use Rattle.osc_file.proofs.RecordTexts.{decimal_has_no_space}
use Rattle.osc_file.proofs.record_text.number.Goals as goal

-- src/record_text.rt:85:24
pub returns-in_err-word : goal.returns-in_err-word
returns-in_err-word c n rest small e = absurd (split_after 32 c.args.text.now (decimal n) rest None c.in_err-word.ensures.cases (omega arith) e (decimal_has_no_space n small))

-- src/record_text.rt:86:18
pub returns-in_err-number : goal.returns-in_err-number
returns-in_err-number c n rest small e =
    let cut = split_after 32 c.args.text.now (decimal n) rest (Some (c.in_ok-word.word, c.in_ok-word.rest)) c.in_ok-word.ensures.cases (omega arith) e (decimal_has_no_space n small) in
    let read = parse-decimal 64 n c.in_ok-word.word.now c.parse.result small small cut.0 c.parse.ensures.value.0 in
    cc (c.in_err-number.ensures.value ∙ ap (λ r. result_ok r) read)

-- src/record_text.rt:81:1
pub returns : goal.returns
returns c n rest small e =
    let cut = split_after 32 c.args.text.now (decimal n) rest (Some (c.in_ok-word.word, c.in_ok-word.rest)) c.in_ok-word.ensures.cases (omega arith) e (decimal_has_no_space n small) in
    let read = parse-decimal 64 n c.in_ok-word.word.now c.parse.result small small cut.0 c.parse.ensures.value.0 in
    (cc (c.in_ok-number.ensures.value ∙ ap (λ r. result_ok r) read), cut.1)
