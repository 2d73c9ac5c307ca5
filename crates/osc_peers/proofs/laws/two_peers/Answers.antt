use Rattle.osc_peers.proofs.Peering.{two_peers}
use Rattle.osc_peers.proofs.laws.two_peers.Goals as goal

pub returns : goal.returns
returns c = two_peers c.both_ends.ensures (record {
  tickets = c.ticket_once.ensures;
  request = c.one_cipher_input.ensures.request;
  response = c.one_cipher_input.ensures.response;
  in_range = c.one_option_value.ensures.in_range;
  nonce = c.one_nonce.ensures;
  one = c.one_datagram.ensures.one;
})
