use Rattle.std.proofs.Common.{◌≡◌, false, refl, rules, true}
use Rattle.osc_c.specs.Asking.RefusesNumber.{bad_handle, bad_number}
use Rattle.osc_status.specs.declared.status.Status.TheVariants.{BadHandle, BadNumber}
use Rattle.osc_c.proofs.peer.oscore_peer_begin_first_v5.Goals as goal

pub returns-then-not-is_whole-clause-refused : goal.returns-then-not-is_whole-clause-refused
returns-then-not-is_whole-clause-refused c = λ _. (BadHandle, search rules, bad_handle (λ is. c.if-not-is_whole.ensures.no refl is) refl)

pub returns-in_default-clause-refused : goal.returns-in_default-clause-refused
returns-in_default-clause-refused c = λ _.
    (BadNumber, search rules, bad_number (c.if-not-is_whole.ensures.yes refl) (λ can. let f : false ≡ true = c.in_default.ensures.accepts can in absurd (cc)) refl)

pub returns-clause-serves : goal.returns-clause-serves
returns-clause-serves c = λ done. let x = c.in-Some-begin_first.ensures.server in (x.0, c.in-Some.size, x.1, c.in-Some.ensures.made, x.2)
