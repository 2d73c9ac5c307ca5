use Rattle.osc_laws.proofs.EntriesStand.{rows_exclude}
use Rattle.osc_laws.proofs.headlines.server_rows.Goals as goal

pub returns : goal.returns
returns c = rows_exclude (record {
  one = c.one_datagram.ensures.one;
  text = c.one_text.ensures.datagram;
  head = c.one_head.ensures.request;
  request = c.one_request.ensures;
  sealed = c.one_sealed.ensures;
}) c.one_reading.ensures.request c.one_server_answer.ensures
