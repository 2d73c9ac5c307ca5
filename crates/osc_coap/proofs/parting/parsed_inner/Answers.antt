use Rattle.std.proofs.Common.{ℕ, ◌-◌, ◌∙◌, ap, length}
use Rattle.osc_coap.proofs.OneInner.{inner_code}
use Rattle.osc_coap.proofs.Parted.{inner_lies, inner_is, inner_options_end, inner_payload_last}
use Rattle.osc_coap.proofs.parting.parsed_inner.Goals as goal

pub invariant_of-result : goal.invariant_of-result
invariant_of-result c =
    let p = c.requires.0 in
    let is = c.requires.1 in
    let end = ap (λ (n : ℕ). length c.args.plaintext.now - n) c.marked_len.ensures ∙ inner_options_end p _ c.args.payload_len is c.requires.2 in
    record { spelled = (inner_lies p _ _ is end).are }

pub returns : goal.returns
returns c =
    let p = c.requires.0 in
    let is = c.requires.1 in
    let end = ap (λ (n : ℕ). length c.args.plaintext.now - n) c.marked_len.ensures ∙ inner_options_end p _ c.args.payload_len is c.requires.2 in
    inner_is p _ _ _ _ is (inner_code p _ is) (inner_lies p _ _ is end).options_are (inner_payload_last p _ c.args.payload_len is c.requires.2)
