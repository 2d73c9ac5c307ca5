use Rattle.osc_client.proofs.ClientDecisions.{heads_law, responses_law}
use Rattle.osc_laws.proofs.ClientEntriesStand.{rows_exclude}
use Rattle.osc_laws.proofs.headlines.client_rows.Goals as goal

pub returns : goal.returns
returns c =
    rows_exclude c.one_datagram.ensures.one c.one_head.ensures.response (responses_law c.one_response.ensures c.one_notification.ensures)
    (heads_law c.protections_show_heads.ensures.response c.protections_show_heads.ensures.notification) c.one_client_answer.ensures
