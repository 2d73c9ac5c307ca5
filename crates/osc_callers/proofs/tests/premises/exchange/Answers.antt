use Rattle.std.proofs.Common.{take}
use Rattle.osc_coap.specs.Views.{parts_of}
use Rattle.osc_callers.proofs.tests.premises.exchange.Goals as goal

pub returns : goal.returns
returns c = λ is_some. record {
  first = record { plain = parts_of c.in_ok-first.first; room = _; bytes = take c.in_ok-len.len c.ask.new.out };
  first_plain = c.in_ok-first.ensures;
  reply = parts_of c.in_ok-reply.reply;
  room = _;
  response = take c.in_ok-len-2.len c.answer.new.out;
  ticket = c.in_ok-ticket.ticket;
  client_asked = c.ask.new.client;
  server_delivered = c.deliver.new.server;
  asks = c.in_ok-len.ensures.answered;
  delivers = c.in_ok-ticket.ensures;
  replies = c.in_ok-len-2.ensures.answered;
  hears = c.hear.ensures is_some;
}
