use Rattle.std.proofs.Common.{◌≡◌, ℕ, ◌+◌, ◌*◌, List, [], ◌∷◌, ◌++◌, length, arith, rules}
use Rattle.std.proofs.lemmas.List.{length-append}
use Rattle.osc_coap.specs.OptionSpelling.{extended_length}
use Rattle.osc_coap.specs.OptionText.{placed, nibble, extended, option_front}
use Rattle.osc_coap.proofs.OptionTexts.{number_written}
use Rattle.osc_coap.proofs.Placed.{placed_twice}
use Rattle.osc_coap.proofs.option_header.put_option.Goals as goal

pub returns-clause-written : goal.returns-clause-written
returns-clause-written c =
    let old = c.args.buf.now in
    let value = c.args.value.now in
    let place = c.args.place in
    let byte : List ℕ = (16 * nibble c.args.delta + nibble (length value)) ∷ [] in
    let two : List ℕ = byte ++ extended c.args.delta in
    let three : List ℕ = option_front c.args.delta (length value) in
    let delta_long : length (extended c.args.delta) ≡ extended_length c.args.delta = (number_written c.args.delta (omega arith)).long in
    let value_long : length (extended (length value)) ≡ extended_length (length value) = (number_written (length value) (omega arith)).long in
    let first : c.put-end.new.buf ≡ placed place byte old = search rules in
    let second : c.put_extended-end.new.buf ≡ placed c.put-end.result (extended c.args.delta) c.put-end.new.buf = search rules in
    let third : c.put_extended-end-2.new.buf ≡ placed c.put_extended-end.result (extended (length value)) c.put_extended-end.new.buf = search rules in
    let end : c.put-end.result ≡ place + 1 = c.put-end.ensures.end in
    let end_two : c.put_extended-end.result ≡ c.put-end.result + length (extended c.args.delta) = search rules in
    let end_three : c.put_extended-end-2.result ≡ c.put_extended-end.result + length (extended (length value)) = search rules in
    let two_long : length two ≡ 1 + length (extended c.args.delta) = omega arith in
    let three_long : length three ≡ 1 + (length (extended c.args.delta) + length (extended (length value))) = omega (arith, length-append (extended c.args.delta) (extended (length value))) in
    let front = placed_twice place c.put-end.result byte (extended c.args.delta) old c.put-end.new.buf c.put_extended-end.new.buf end (omega arith) first second in
    let whole = placed_twice place c.put_extended-end.result two (extended (length value)) old c.put_extended-end.new.buf c.put_extended-end-2.new.buf (omega arith) (omega arith) front third in
    placed_twice place c.put_extended-end-2.result three value old c.put_extended-end-2.new.buf c.put.new.buf (omega arith) (omega arith) whole c.put.ensures.written
