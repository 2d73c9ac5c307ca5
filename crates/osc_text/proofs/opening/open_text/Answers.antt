use Rattle.osc_text.specs.Contexts.{agreed_client, agreed_server}
use Rattle.osc_text.proofs.ContextTexts.{context_once}
use Rattle.osc_text.proofs.OpenTexts.{one_opening_text, opening_status}
use Rattle.osc_text.proofs.opening.open_text.Goals as goal

pub returns : goal.returns
returns g c =
    let (lines, status, text, wrote, is) = c.write_opening.ensures in
    let p = c.args.agreed in
    let once = one_opening_text c.one_datagram.ensures.one c.one_request.ensures c.one_response.ensures c.one_notification.ensures (agreed_client p) (agreed_server p) c.args.what c.args.datagram.now in
    let both = context_once c.one_context_refusal.ensures p.params _ once (opening_status (agreed_client p) (agreed_server p) c.args.what c.args.datagram.now) (g.W.Write.contents c.args.out.now) (g.W.Write.contents c.write_opening.new.out) c.write_opening.result lines status text wrote is in
    record { told = (lines, status, text); written = λ xs n it. (both.0 xs n it).0; status = λ xs n it. (both.0 xs n it).1; two = both.1 }
