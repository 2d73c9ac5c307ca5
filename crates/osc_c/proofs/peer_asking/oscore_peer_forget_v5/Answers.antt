use Rattle.std.proofs.Common.{◌≡◌, Bool, refl, rules, subst, true, false}
use Rattle.osc_client.specs.ClientHistory.{Forget, Forgot}
use Rattle.osc_c.specs.Asking.{ReadsForgetting}
use Rattle.osc_c.specs.PeerAskingCalls.{StepsAmong}
use Rattle.osc_c.specs.PeerAskingCalls.RefusesPeerForgetting.{bad_handle, not_pending}
use Rattle.osc_status.specs.declared.status.Status.TheVariants.{BadHandle, NotPending}
use Rattle.osc_c.proofs.PeerRead.{heard_once}
use Rattle.osc_c.proofs.peer_asking.oscore_peer_forget_v5.Goals as goal

pub returns-in-Some-false-clause-refused : goal.returns-in-Some-false-clause-refused
returns-in-Some-false-clause-refused c = λ _.
    let is : c.in-Some-false.field-0 ≡ false = search rules in (
      NotPending,
      search rules,
      not_pending (c.in-Some-false.ensures.accepted refl) (c.if-not-are_pending.ensures.yes refl) refl
          (λ a old w.
          subst (λ (was : Bool). StepsAmong c.args.peer.now c.args.pending.now a (Forget c.args.token.now) (Forgot was) old c.forget_among.new.peer c.forget_among.new.pending_count c.forget_among.new.pending) is
          (c.in-Some-false.ensures.answered a old w)),
    )

pub returns-in-Some-true-clause-answers : goal.returns-in-Some-true-clause-answers
returns-in-Some-true-clause-answers c = λ pending a b o entry w catches y.
    let is : c.in-Some-true.field-0 ≡ true = search rules in
    let p = c.args.peer.now in
    let ps = c.args.pending.now in
    let step = subst (λ (was : Bool). StepsAmong p ps a (Forget c.args.token.now) (Forgot was) o c.forget_among.new.peer c.forget_among.new.pending_count c.forget_among.new.pending) is (c.in-Some-true.ensures.answered a o w) in
    heard_once c.one_client_answer.ensures (λ e. ReadsForgetting e 0) p c.forget_among.new.peer c.args.pending_count.now c.forget_among.new.pending_count ps c.forget_among.new.pending a b o (Forget c.args.token.now) (Forgot true) entry w catches step y refl

pub returns-in-Some-false-clause-answers : goal.returns-in-Some-false-clause-answers
returns-in-Some-false-clause-answers c = λ pending a b o entry w catches y.
    let is : c.in-Some-false.field-0 ≡ false = search rules in
    let p = c.args.peer.now in
    let ps = c.args.pending.now in
    let step = subst (λ (was : Bool). StepsAmong p ps a (Forget c.args.token.now) (Forgot was) o c.forget_among.new.peer c.forget_among.new.pending_count c.forget_among.new.pending) is (c.in-Some-false.ensures.answered a o w) in
    heard_once c.one_client_answer.ensures (λ e. ReadsForgetting e c.code-in-Some-false.result) p c.forget_among.new.peer c.args.pending_count.now c.forget_among.new.pending_count ps c.forget_among.new.pending a b o (Forget c.args.token.now) (Forgot false) entry w catches step y
    c.code-in-Some-false.ensures

pub returns-then-not-are_pending-clause-refused : goal.returns-then-not-are_pending-clause-refused
returns-then-not-are_pending-clause-refused c = λ _. (BadHandle, search rules, bad_handle (λ is pending. c.if-not-are_pending.ensures.no refl pending) refl refl refl refl)

pub returns-in-None-clause-refused : goal.returns-in-None-clause-refused
returns-in-None-clause-refused c = λ _.
    let same = c.in-None.ensures.unchanged refl in
    (BadHandle, search rules, bad_handle (λ is pending. let f : false ≡ true = c.in-None.ensures.accepts is in absurd (cc)) c.in-None.ensures.stays same.0 same.1 refl)
