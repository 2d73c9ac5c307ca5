use Rattle.std.proofs.Common.{take, refl}
use Rattle.osc_coap.specs.Views.{parts_of}
use Rattle.osc_callers.proofs.tests.premises.go_on.Goals as goal

pub returns : goal.returns
returns c = λ is_some. record {
  second = record { plain = parts_of c.in_ok-second.second; room = _; bytes = take c.in_ok-len.len c.ask.new.out };
  again = record { plain = parts_of c.in_ok-again.again; room = _; bytes = take c.in_ok-len-3.len c.ask-2.new.out };
  second_plain = c.in_ok-second.ensures;
  challenge = take c.in_ok-len-2.len c.challenge.new.out;
  last = c.in_ok-deliver.field-0;
  client_asked = c.ask.new.client;
  client_told = c.hear.new.client;
  server_challenged = c.challenge.new.server;
  asks = c.in_ok-len.ensures.answered;
  challenges = c.in_ok-len-2.ensures.answered;
  is_told = c.in_ok-hear.ensures refl;
  asks_again = c.in_ok-len-3.ensures.answered;
  admits = c.in_ok-deliver.ensures;
}
