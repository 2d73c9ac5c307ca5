use Rattle.osc_text.specs.Contexts.{agreed_client}
use Rattle.osc_text.proofs.ContextTexts.{context_once, key_status, one_key_text}
use Rattle.osc_text.proofs.derivation.derive_text.Goals as goal

pub returns : goal.returns
returns g c =
    let (lines, status, text, wrote, is) = c.write_derivation.ensures in
    let s = agreed_client c.args.agreed in
    let both = context_once c.one_context_refusal.ensures c.args.agreed.params _ (one_key_text s) (key_status s) (g.W.Write.contents c.args.out.now) (g.W.Write.contents c.write_derivation.new.out) c.write_derivation.result lines status text wrote is in
    record { told = (lines, status, text); written = λ xs n it. (both.0 xs n it).0; status = λ xs n it. (both.0 xs n it).1; two = both.1 }
