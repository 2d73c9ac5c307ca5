use Rattle.std.proofs.Common.{◌∷◌, [], refl, subst, inr}
use Rattle.osc_context.specs.ContextRefusal.{context_error_text}
use Rattle.osc_context.specs.SecurityContext.{SecurityContext}
use Rattle.osc_context.specs.Views.{number_of}
use Rattle.osc_text.specs.Contexts.InContext.{in_context, no_context}
use Rattle.osc_text.specs.Forwarding.{RoutedText}
use Rattle.osc_text.specs.Lines.{refused_line}
use Rattle.osc_text.proofs.ForwardTexts.{is_known, routed_status}
use Rattle.osc_text.proofs.forwarding.forward_text.Goals as goal

pub returns-in-Ok-clause-written : goal.returns-in-Ok-clause-written
returns-in-Ok-clause-written g c =
    let w = c.write_routed.ensures in
    let text = subst (λ (s : SecurityContext). RoutedText s (number_of c.args.number) c.args.plain.now w.0 w.1) c.in-Ok.ensures.client w.2 in
    (w.0, w.1, in_context (c.in-Ok.ensures.accepted refl) text, w.3, w.4)

pub returns-in-Ok-clause-two : goal.returns-in-Ok-clause-two
returns-in-Ok-clause-two g c = let w = c.write_routed.ensures in is_known c.write_routed.result w.1 (routed_status w.2) w.4

pub returns-in-Err-clause-written : goal.returns-in-Err-clause-written
returns-in-Err-clause-written g c =
    let e = c.in-Err.refusal in
    (refused_line (context_error_text e) ∷ [], 2, no_context e c.in-Err.ensures.refused refl refl, c.put_refused.ensures.written, c.put_refused.ensures.status)

pub returns-in-Err-clause-two : goal.returns-in-Err-clause-two
returns-in-Err-clause-two g c = is_known c.put_refused.result 2 (inr refl) c.put_refused.ensures.status
