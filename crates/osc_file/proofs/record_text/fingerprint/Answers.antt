use Rattle.std.proofs.Common.{ℕ, List, Some, None, ap, ◌∙◌, arith}
use Rattle.std.specs.Result.{result_ok}
use Rattle.std.proofs.lemmas.Str.Pattern.{split_after}
use Rattle.hex.specs.Hex.{decode_sized, encode_lower}
use Rattle.hex.proofs.HexLemmas.{decode_sized-encode_lower}
use Rattle.osc_file.proofs.RecordTexts.{hex_has_no_space}
use Rattle.osc_file.proofs.record_text.fingerprint.Goals as goal

-- src/record_text.rt:95:24
pub returns-in_err-word : goal.returns-in_err-word
returns-in_err-word c bytes rest eight are e = absurd (split_after 32 c.args.text.now (encode_lower bytes) rest None c.in_err-word.ensures.cases (omega arith) e (hex_has_no_space bytes are))

-- src/record_text.rt:96:23
pub returns-in_err-fingerprint : goal.returns-in_err-fingerprint
returns-in_err-fingerprint c bytes rest eight are e =
    let cut = split_after 32 c.args.text.now (encode_lower bytes) rest (Some (c.in_ok-word.word, c.in_ok-word.rest)) c.in_ok-word.ensures.cases (omega arith) e (hex_has_no_space bytes are) in
    let read = c.from_hex.ensures ∙ ap (λ (word : List ℕ). decode_sized word 8) cut.0 ∙ decode_sized-encode_lower bytes 8 eight are in
    cc (c.in_err-fingerprint.ensures.value ∙ ap (λ r. result_ok r) read)

-- src/record_text.rt:91:1
pub returns : goal.returns
returns c bytes rest eight are e =
    let cut = split_after 32 c.args.text.now (encode_lower bytes) rest (Some (c.in_ok-word.word, c.in_ok-word.rest)) c.in_ok-word.ensures.cases (omega arith) e (hex_has_no_space bytes are) in
    let read = c.from_hex.ensures ∙ ap (λ (word : List ℕ). decode_sized word 8) cut.0 ∙ decode_sized-encode_lower bytes 8 eight are in
    (cc (c.in_ok-fingerprint.ensures.value ∙ ap (λ r. result_ok r) read), cut.1)
