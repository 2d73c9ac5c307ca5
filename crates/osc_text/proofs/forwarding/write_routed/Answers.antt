use Rattle.std.proofs.Common.{◌∷◌, [], ◌≡◌, ◌∙◌, ℕ, List, ap, refl, subst}
use Rattle.osc_context.specs.Views.{as_client, number_of}
use Rattle.osc_proxy.specs.Splitting.{split}
use Rattle.osc_proxy.specs.Text.{split_error_text}
use Rattle.osc_proxy.specs.Uri.{scheme_name}
use Rattle.osc_text.specs.Forwarding.{SplitText}
use Rattle.osc_text.specs.Forwarding.RoutedText.{splitting, unsplit}
use Rattle.osc_text.specs.Lines.{refused_line}
use Rattle.osc_text.proofs.forwarding.write_routed.Goals as goal

pub returns-in-Ok : goal.returns-in-Ok
returns-in-Ok g c =
    let (p, u, fits, scheme, is) = c.in-Ok.ensures.accepted in
    let w = c.write_split.ensures (split u p) is in
    let same : c.as_bytes-name.result.now ≡ scheme_name u.scheme = c.as_bytes-name.ensures.value ∙ (c.name.ensures.value ∙ ap scheme_name scheme) in
    let text = subst (λ (name : List ℕ). SplitText (as_client c.args.context.now) (number_of c.args.number) name (split u p) w.0 w.1) same w.2 in
    (w.0, w.1, splitting p u fits text, w.3, w.4)

pub returns-in-Err : goal.returns-in-Err
returns-in-Err g c =
    let e = c.in-Err.refusal in
    (refused_line (split_error_text e) ∷ [], 2, unsplit e c.in-Err.ensures.refused refl refl, c.put_refused.ensures.written, c.put_refused.ensures.status)
