use Rattle.std.proofs.Common.{◌∷◌, [], ℕ, List, refl, subst, take}
use Rattle.osc_coap.specs.Datagram.{Parts}
use Rattle.osc_coap.specs.Views.{parts_of}
use Rattle.osc_context.specs.Views.{as_client, number_of}
use Rattle.osc_protect.specs.Text.{protect_error_text}
use Rattle.osc_text.specs.Forwarding.{SplitText}
use Rattle.osc_text.specs.Forwarding.SplitText.{sealing, unsealed}
use Rattle.osc_text.specs.Lines.{refused_line}
use Rattle.osc_text.proofs.forwarding.write_split.Goals as goal

pub unreachable-requires : goal.unreachable-requires
unreachable-requires g c = c.one_datagram.ensures.never_both _ _ _ _ c.requires.1 c.in_default.ensures.refused

pub returns-in-Ok-seal_request : goal.returns-in-Ok-seal_request
returns-in-Ok-seal_request g c = λ q is.
    let same = c.one_datagram.ensures.one (parts_of c.in-Ok.message) q c.args.split.now c.in-Ok.ensures.accepted is in
    let w = c.write_asked.ensures in
    let text = sealing (take c.in-Ok-seal_request.len c.seal_request.new.out) c.in-Ok-seal_request.ensures.sealed w.2 in
    (w.0, w.1, subst (λ (p : Parts). SplitText (as_client c.args.context.now) (number_of c.args.number) c.args.name.now p w.0 w.1) same text, w.3, w.4)

pub returns-in-Err : goal.returns-in-Err
returns-in-Err g c = λ q is.
    let same = c.one_datagram.ensures.one (parts_of c.in-Ok.message) q c.args.split.now c.in-Ok.ensures.accepted is in
    let e = c.in-Err.refusal in
    let lines : List (List ℕ) = refused_line (protect_error_text e) ∷ [] in
    let text = unsealed e c.in-Err.ensures.refused refl refl in
    (lines, 2, subst (λ (p : Parts). SplitText (as_client c.args.context.now) (number_of c.args.number) c.args.name.now p lines 2) same text, c.put_refused.ensures.written, c.put_refused.ensures.status)
