use Rattle.std.proofs.Common.{◌∷◌, [], refl}
use Rattle.osc_coap.specs.Text.{error_text}
use Rattle.osc_coap.specs.Views.{parts_of}
use Rattle.osc_text.specs.Lines.{refused_line}
use Rattle.osc_text.specs.Protecting.PlainText.{message, faulty}
use Rattle.osc_text.proofs.protection.write_plain.Goals as goal

pub returns-in-Ok : goal.returns-in-Ok
returns-in-Ok g c =
    let w = c.write_message.ensures in
    (w.0, w.1, message (parts_of c.in-Ok.message) c.in-Ok.ensures.accepted w.2, w.3, w.4)

pub returns-in-Err : goal.returns-in-Err
returns-in-Err g c =
    let e = c.in-Err.refusal in
    (refused_line (error_text e) ∷ [], 2, faulty e c.in-Err.ensures.refused refl refl, c.put_refused.ensures.written, c.put_refused.ensures.status)
