use Rattle.std.proofs.Common.{arith}
use Rattle.osc_text.specs.Explanation.{ExplainText}
use Rattle.osc_text.proofs.ContextTexts.{zero_or_two}
use Rattle.osc_text.proofs.ExplainTexts.{each_datagram, explain_status}
use Rattle.osc_text.proofs.explanation.explain_text.Goals as goal

pub returns-clause-told : goal.returns-clause-told
returns-clause-told g c =
    each_datagram c.one_datagram.ensures.each c.value_or_refusal.ensures.one c.args.datagram.now (λ i. let fits = c.type_inv.datagram i in omega (arith, fits))

pub returns-clause-written : goal.returns-clause-written
returns-clause-written g c = λ lines status text. (c.write_explanation.ensures lines status text).0

pub returns-clause-status : goal.returns-clause-status
returns-clause-status g c = λ lines status text. (c.write_explanation.ensures lines status text).1

pub returns-clause-two : goal.returns-clause-two
returns-clause-two g c =
    let told = each_datagram c.one_datagram.ensures.each c.value_or_refusal.ensures.one c.args.datagram.now (λ i. let fits = c.type_inv.datagram i in omega (arith, fits)) in
    zero_or_two (ExplainText c.args.datagram.now) (explain_status c.args.datagram.now) (told.0) (told.1) c.write_explanation.result told.2 (c.write_explanation.ensures (told.0) (told.1) told.2).1
