use Rattle.std.proofs.Common.{sym, subst, List, Option}
use Rattle.osc_life.specs.declared.slot.Slot.{Slot}
use Rattle.osc_life.specs.ServerHistory.{life}
use Rattle.osc_endpoint.specs.Agrees.{TableAgrees}
use Rattle.osc_endpoint.proofs.server.ServerOf.add_distinct.Goals as goal
use Rattle.osc_endpoint.proofs.server.ServerOf.add_distinct.Goals.{else-shares-via-then-shares+else-would_add, else-shares-via-else-shares}

pub returns-in-Ok-clause-distinct : goal.returns-in-Ok-clause-distinct
returns-in-Ok-clause-distinct g c = λ h a (i, of, is, shares).
    let row = (c.in-Ok.ensures.answered h a).1 in
    elim c.else-shares.branch [
      | else-shares-via-then-shares+else-would_add w ↦ w.would_add.ensures.no w.if-would_add.false h a row.0 row.1
      | else-shares-via-else-shares w ↦
          c.has_sender_at-shares.ensures.has_not w.if-shares.false (life h) (subst (λ (s : List (Option Slot)). TableAgrees s (life h)) (sym c.as_slice.ensures.value) a.places) i of is shares
    ]

pub returns-in-Err-clause-answered : goal.returns-in-Err-clause-answered
returns-in-Err-clause-answered g c = λ h a. (c.in-Err.ensures.answered h a, c.in-Err.ensures.follows h a)
