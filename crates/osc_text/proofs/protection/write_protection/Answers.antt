use Rattle.std.proofs.Common.{◌∷◌, [], refl, subst}
use Rattle.osc_context.specs.ContextRefusal.{context_error_text}
use Rattle.osc_context.specs.SecurityContext.{SecurityContext}
use Rattle.osc_context.specs.Views.{as_server}
use Rattle.osc_text.specs.Contexts.{agreed_client}
use Rattle.osc_text.specs.Contexts.InContext.{in_context, no_context}
use Rattle.osc_text.specs.Lines.{refused_line}
use Rattle.osc_text.specs.Protecting.{PlainText, SealingText}
use Rattle.osc_text.proofs.protection.write_protection.Goals as goal

pub returns-in-Ok : goal.returns-in-Ok
returns-in-Ok g c =
    let w = c.write_plain.ensures in
    let as_the_client = subst (λ (s : SecurityContext). PlainText (SealingText s (as_server c.in-Ok.context) c.args.what) c.args.plain.now (w.0) (w.1)) c.in-Ok.ensures.client w.2 in
    let text = subst (λ (s : SecurityContext). PlainText (SealingText (agreed_client c.args.agreed) s c.args.what) c.args.plain.now (w.0) (w.1)) c.in-Ok.ensures.server as_the_client in
    (w.0, w.1, in_context (c.in-Ok.ensures.accepted refl) text, w.3, w.4)

pub returns-in-Err : goal.returns-in-Err
returns-in-Err g c =
    let e = c.in-Err.refusal in
    (refused_line (context_error_text e) ∷ [], 2, no_context e c.in-Err.ensures.refused refl refl, c.put_refused.ensures.written, c.put_refused.ensures.status)
