use Rattle.osc_client.proofs.ClientDecisions.{heads_law, responses_law}
use Rattle.osc_laws.proofs.OneClientAnswers.{client_answers_once}
use Rattle.osc_laws.proofs.laws.one_client_answer.Goals as goal

pub returns : goal.returns
returns c = client_answers_once (record {
  one = c.one_datagram.ensures.one;
  no_fault = c.one_datagram.ensures.never_both;
  head = c.one_head.ensures.response;
  response = responses_law c.one_response.ensures c.one_notification.ensures;
  shows = heads_law c.protections_show_heads.ensures.response c.protections_show_heads.ensures.notification;
  sealed = c.one_sealed.ensures;
})
