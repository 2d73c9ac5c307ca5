use Rattle.osc_text.specs.Contexts.{agreed_client, agreed_server}
use Rattle.osc_text.proofs.ContextTexts.{context_once}
use Rattle.osc_text.proofs.ProtectTexts.{one_plain_text, one_sealing_text, plain_status, sealing_status}
use Rattle.osc_text.proofs.protection.protect_text.Goals as goal

pub returns : goal.returns
returns g c =
    let (lines, status, text, wrote, is) = c.write_protection.ensures in
    let d = c.one_datagram.ensures in
    let client = agreed_client c.args.agreed in
    let server = agreed_server c.args.agreed in
    let once = one_plain_text d.one d.one_fault d.never_both _ (one_sealing_text c.one_sealed.ensures client server c.args.what) c.args.plain.now in
    let both = context_once c.one_context_refusal.ensures c.args.agreed.params _ once (plain_status _ (sealing_status client server c.args.what) c.args.plain.now) (g.W.Write.contents c.args.out.now) (g.W.Write.contents c.write_protection.new.out) c.write_protection.result lines status text wrote is in
    record { told = (lines, status, text); written = λ xs n it. (both.0 xs n it).0; status = λ xs n it. (both.0 xs n it).1; two = both.1 }
