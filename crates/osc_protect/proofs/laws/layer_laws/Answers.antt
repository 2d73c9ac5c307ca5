use Rattle.osc_protect.proofs.laws.layer_laws.Goals as goal

pub returns : goal.returns
returns c = record {
  one = c.one_datagram.ensures.one;
  never_both = c.one_datagram.ensures.never_both;
  one_fault = c.one_datagram.ensures.one_fault;
  inner_one = c.one_inner.ensures.one;
  inner_never_both = c.one_inner.ensures.never_both;
  one_value = c.one_option_value.ensures.one_value;
  value_number = c.one_option_value.ensures.in_range;
  one_plaintext = c.one_plaintext.ensures;
  protection_length = c.protection_length.ensures;
}
