use Rattle.osc_kept.proofs.Hearing.{both_ends_hold}
use Rattle.osc_kept.proofs.laws.both_ends.Goals as goal

pub returns : goal.returns
returns c = both_ends_hold (record {
  tickets = c.ticket_once.ensures;
  request = c.one_cipher_input.ensures.request;
  response = c.one_cipher_input.ensures.response;
  in_range = c.one_option_value.ensures.in_range;
  nonce = c.one_nonce.ensures;
  one = c.one_datagram.ensures.one;
})
