use Rattle.std.proofs.Common.{codes, refl, subst, sym}
use Rattle.osc_client.specs.Agrees.{ClientAgrees}
use Rattle.osc_client.specs.declared.client.Client.{Client}
use Rattle.osc_text.specs.Asking.ReplaceLine.{placed, refused}
use Rattle.osc_text.specs.EntryLines.{not_done_line, replaced_line}
use Rattle.osc_text.specs.Feeding.RunsEvent.{ran}
use Rattle.osc_text.proofs.asking.follow_replace.Goals as goal

pub returns-in-Ok : goal.returns-in-Ok
returns-in-Ok g c =
    ran replaced_line (λ h agrees.
    (_, placed (λ same. let bad = (c.in-Ok.ensures.same_sender h agrees).1 same in cc bad) refl refl, c.in-Ok.ensures.replaced refl h agrees)) c.put_replaced.ensures

pub returns-in-Err : goal.returns-in-Err
returns-in-Err g c =
    ran (not_done_line (codes "SameSender")) (λ h agrees.
    (h, refused ((c.in-Err.ensures.same_sender h agrees).0 refl) refl refl, subst (λ (x : Client 16). ClientAgrees x h) (sym c.in-Err.ensures.unchanged) agrees)) c.put_not_done.ensures
