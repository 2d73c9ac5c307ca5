use Rattle.std.proofs.Common.{ℕ, ◌+◌, ◌-◌, ◌∙◌, ap, length}
use Rattle.osc_coap.proofs.OneReading.{never_both}
use Rattle.osc_coap.proofs.Parted.{datagram_lies, datagram_is, head_fields, options_end, payload_last}
use Rattle.osc_coap.proofs.parting.parsed.Goals as goal

pub unreachable-requires : goal.unreachable-requires
unreachable-requires c = never_both c.requires.0 _ _ _ c.requires.1 c.in_default.ensures.fault

pub invariant_of-result : goal.invariant_of-result
invariant_of-result c =
    let p = c.requires.0 in
    let is = c.requires.1 in
    let fields = head_fields p _ c.in-Ok.head is c.in-Ok.ensures.read in
    let end = ap (λ (n : ℕ). length c.args.datagram.now - n) c.marked_len.ensures ∙ options_end p _ c.args.payload_len is c.requires.2 in
    record { spelled = (datagram_lies p _ _ _ is (ap (λ (n : ℕ). 4 + n) fields.3) end).body.are }

pub returns : goal.returns
returns c =
    let p = c.requires.0 in
    let is = c.requires.1 in
    let fields = head_fields p _ c.in-Ok.head is c.in-Ok.ensures.read in
    let end = ap (λ (n : ℕ). length c.args.datagram.now - n) c.marked_len.ensures ∙ options_end p _ c.args.payload_len is c.requires.2 in
    let lies = datagram_lies p _ _ _ is (ap (λ (n : ℕ). 4 + n) fields.3) end in
    datagram_is p _ _ _ _ _ _ _ is fields.0 fields.1 fields.2 (c.token_of.ensures ∙ lies.token) lies.body.options_are (payload_last p _ c.args.payload_len is c.requires.2)
