use Rattle.std.proofs.Common.{◌≡◌, Bool, Some, ap, false, refl, rules, true}
use Rattle.osc_c.specs.PeerCalls.RefusesPeerSaved.{bad_handle, bad_number}
use Rattle.osc_status.specs.declared.status.Status.TheVariants.{BadHandle, BadNumber}
use Rattle.osc_c.proofs.peer.oscore_peer_saved_v5.Goals as goal

pub returns-in-Some-false-clause-refused : goal.returns-in-Some-false-clause-refused
returns-in-Some-false-clause-refused c = λ _.
    let is : c.in-Some-false.field-0 ≡ false = search rules in
    (BadNumber, search rules, bad_number (c.in-Some-false.ensures.accepted refl) (c.in-Some-false.ensures.refused (ap (λ (b : Bool). Some b) is)) refl)

pub returns-in-None-clause-refused : goal.returns-in-None-clause-refused
returns-in-None-clause-refused c = λ _. (BadHandle, search rules, bad_handle (λ is. let f : false ≡ true = c.in-None.ensures.accepts is in absurd (cc)) refl)

pub returns-in-Some-false-clause-accepts : goal.returns-in-Some-false-clause-accepts
returns-in-Some-false-clause-accepts c = λ o has next.
    let is : c.in-Some-false.field-0 ≡ false = search rules in
    absurd (next (c.in-Some-false.ensures.refused (ap (λ (b : Bool). Some b) is) o has))

pub returns-in-None-clause-accepts : goal.returns-in-None-clause-accepts
returns-in-None-clause-accepts c = λ o has next. let f : false ≡ true = c.in-None.ensures.accepts has.whole in absurd (cc)
