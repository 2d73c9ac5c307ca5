use Rattle.std.proofs.Common.{arith, length, ap, ◌∙◌, sym}
use Rattle.osc_aes.specs.Aes128.{expanded_key}
use Rattle.osc_aes.proofs.Lengths.{take-expanded_key}
use Rattle.osc_aes.proofs.plain.PlainAes.new.Goals as goal

pub returns : goal.returns
returns c = take-expanded_key c.expand.result c.args.key.now (omega arith) c.expand.ensures

pub invariant_of-result : goal.invariant_of-result
invariant_of-result c =
    let same = take-expanded_key c.expand.result c.args.key.now (omega arith) c.expand.ensures in
    record { expanded = c.expand.ensures ∙ sym (ap expanded_key same); key_len = ap length same ∙ omega arith }
