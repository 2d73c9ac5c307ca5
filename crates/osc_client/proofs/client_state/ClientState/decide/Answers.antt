use Rattle.std.proofs.Common.{◌∙◌, sym}
use Rattle.osc_client.proofs.ClientDecisions.{heads_law, responses_law}
use Rattle.osc_client.proofs.ClientDeliveries.{hears_row, row_hears, shown_hearing}
use Rattle.osc_client.proofs.client_state.ClientState.decide.Goals as goal

pub returns-clause-heard : goal.returns-clause-heard
returns-clause-heard g c = λ h continuing n own m outcome a shows e.
    let s = c.judge.ensures.answered h a in
    row_hears h c.args.now n c.args.datagram.now s.answer continuing own m s.row (sym (shown_hearing outcome s.answer (shows s.answer s.decides)) ∙ e)

pub returns-clause-hears : goal.returns-clause-hears
returns-clause-hears g c = λ h continuing n own m outcome a shows is.
    let s = c.judge.ensures.answered h a in
    shown_hearing outcome s.answer (shows s.answer s.decides)
    ∙ hears_row c.one_datagram.ensures.one c.one_head.ensures.response (responses_law c.one_response.ensures c.one_notification.ensures)
    (heads_law c.protections_show_heads.ensures.response c.protections_show_heads.ensures.notification) h c.args.now n c.args.datagram.now continuing own m a.differ is s.answer s.row
