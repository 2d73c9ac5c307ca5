use Rattle.osc_text.specs.Outcomes.{ask_lines, ask_status}
use Rattle.osc_text.proofs.ForwardTexts.{text_of_asking}
use Rattle.osc_text.proofs.forwarding.write_asked.Goals as goal

pub returns : goal.returns
returns g c =
    let r = c.ask_proxy-outcome.result in
    let buffer = c.ask_proxy-outcome.new.out in
    let a = c.ask_proxy-outcome.ensures in
    (ask_lines buffer r, ask_status r, text_of_asking c.args.name.now c.args.sealed.now buffer r a.accepted a.written a.refused, c.write_outcome.ensures.written, c.write_outcome.ensures.status)
