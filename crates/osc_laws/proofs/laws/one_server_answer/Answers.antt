use Rattle.osc_laws.proofs.OneAnswers.{answers_once}
use Rattle.osc_laws.proofs.laws.one_server_answer.Goals as goal

pub returns : goal.returns
returns c = answers_once (record {
  one = c.one_datagram.ensures.one;
  text = c.one_text.ensures.datagram;
  head = c.one_head.ensures.request;
  request = c.one_request.ensures;
  sealed = c.one_sealed.ensures;
})
