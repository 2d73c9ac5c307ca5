use Rattle.std.proofs.Common.{◌≡◌, false, refl, rules, subst, true}
use Rattle.osc_peer_handle.specs.RecordBytes.{RefusesToBegin}
use Rattle.osc_peer_handle.specs.declared.peer_refusal.BeginRefusal.{BeginRefusal}
use Rattle.osc_c.specs.PeerCalls.RefusesAgain.{bad_handle, bad_number, exhausted, old_record}
use Rattle.osc_status.specs.declared.status.Status.TheVariants.{BadHandle, BadNumber, OldRecord, SequenceExhausted}
use Rattle.osc_c.proofs.peer.oscore_peer_begin_again_v5.Goals as goal

pub returns-then-not-is_whole-clause-refused : goal.returns-then-not-is_whole-clause-refused
returns-then-not-is_whole-clause-refused c = λ _. (BadHandle, search rules, bad_handle (λ is. c.if-not-is_whole.ensures.no refl is) refl)

pub returns-in_default-clause-refused : goal.returns-in_default-clause-refused
returns-in_default-clause-refused c = λ _.
    (BadNumber, search rules, bad_number (c.if-not-is_whole.ensures.yes refl) (λ can. let f : false ≡ true = c.in_default.ensures.accepts can in absurd (cc)) refl)

pub returns-in-Ok-clause-serves : goal.returns-in-Ok-clause-serves
returns-in-Ok-clause-serves c = λ done. let x = c.in-Ok.ensures.server in (x.0, c.in-Some.size, x.1, c.in-Some.ensures.made, x.2)

pub returns-in-Err-OldRecord-clause-refused : goal.returns-in-Err-OldRecord-clause-refused
returns-in-Err-OldRecord-clause-refused c = λ _.
    let r = subst (λ (e : BeginRefusal). RefusesToBegin c.args.context.now c.args.kept.now e) c.in-Err-OldRecord.field-0-is c.in-Err-OldRecord.ensures.refused in
    (OldRecord, search rules, old_record r.0 (c.in-Some.ensures.accepted refl) r.1 refl)

pub returns-in-Err-NumbersExhausted-clause-refused : goal.returns-in-Err-NumbersExhausted-clause-refused
returns-in-Err-NumbersExhausted-clause-refused c = λ _.
    let r = subst (λ (e : BeginRefusal). RefusesToBegin c.args.context.now c.args.kept.now e) c.in-Err-NumbersExhausted.field-0-is c.in-Err-NumbersExhausted.ensures.refused in
    (SequenceExhausted, search rules, exhausted r.0 (c.in-Some.ensures.accepted refl) r.1 r.2 refl)
