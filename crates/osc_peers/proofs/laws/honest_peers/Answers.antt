use Rattle.osc_peers.proofs.Crossing.{honest_peers}
use Rattle.osc_peers.proofs.laws.honest_peers.Goals as goal

pub returns : goal.returns
returns c = honest_peers c.two_peers.ensures (record {
  tickets = c.ticket_once.ensures;
  request = c.one_cipher_input.ensures.request;
  response = c.one_cipher_input.ensures.response;
  in_range = c.one_option_value.ensures.in_range;
  nonce = c.one_nonce.ensures;
  one = c.one_datagram.ensures.one;
}) c.roles_apart.ensures
