use Rattle.std.proofs.Common.{◌≡◌, ◌∙◌, ap, length, refl, subst, sym, true, List, ℕ, Result, Ok, Err, IsErrAnd}
use Rattle.osc_coap.specs.Datagram.{Parts}
use Rattle.osc_coap.specs.Views.{parts_of}
use Rattle.osc_context.specs.Views.{number_of}
use Rattle.osc_observe.specs.Observing.{is_notification}
use Rattle.osc_life.specs.Agrees.{SlotAgrees}
use Rattle.osc_life.specs.Life.{Life, marked}
use Rattle.osc_life.specs.LifeAnswer.{LifeNotify, as_notification}
use Rattle.osc_life.specs.Replying.{reply_mark}
use Rattle.osc_life.specs.ServerHistory.{NotReplied}
use Rattle.osc_life.specs.Views.{reply_entry}
use Rattle.osc_life.specs.declared.server_error.ReplyError.{ReplyError}
use Rattle.osc_life.specs.declared.slot.Slot.{Slot}
use Rattle.osc_life.proofs.SealedReplies.{refused_to_notify, sealed_notification}
use Rattle.osc_life.proofs.slot.Slot.notify_to.Goals as goal

-- an error that is handed on
refused : (slot : Slot) (l : Life) (n room : ℕ) (q : Parts) (bytes : List ℕ) (r : Result ℕ ReplyError) (e : ReplyError) → IsErrAnd r (λ f. f ≡ e) → SlotAgrees slot l → LifeNotify l n q room (NotReplied e)
    → LifeNotify l n q room (reply_entry r bytes) × SlotAgrees slot (marked (reply_mark r true) l)
refused slot l n room q bytes (Ok k) e same a row = absurd same
refused slot l n room q bytes (Err f) e same a row = (subst (λ (g : ReplyError). LifeNotify l n q room (NotReplied g)) (sym same) row, a)

pub returns-in_err-checked-clause-kept : goal.returns-in_err-checked-clause-kept
returns-in_err-checked-clause-kept c = λ l a.
    let plain = parts_of c.args.plain.now in
    let q : Parts = as_notification c.args.token.now.items plain in
    let head : parts_of c.with_head-message.result ≡ q = c.with_head-message.ensures ∙ ap (λ (token : List ℕ). as_notification token plain) c.copy_of.ensures in
    refused c.args.self.now l (number_of c.args.number) (length c.args.out.now) q c.args.out.now c.from_residual.result c.in_err-checked.field-0.0 c.from_residual.ensures.1 a
    (subst (λ (x : Parts). LifeNotify l (number_of c.args.number) x (length c.args.out.now) (NotReplied c.in_err-checked.field-0.0)) head (c.in_err-checked.ensures.refused l a (number_of c.args.number) (length c.args.out.now)))

pub returns-in-Ok-clause-kept : goal.returns-in-Ok-clause-kept
returns-in-Ok-clause-kept c = λ l a.
    let plain = parts_of c.args.plain.now in
    let p = parts_of c.with_head-message.result in
    let q : Parts = as_notification c.args.token.now.items plain in
    let notifies : is_notification p.code p.options ≡ true = c.in_ok-checked.ensures.notifies refl in
    let head : p ≡ q = c.with_head-message.ensures ∙ ap (λ (token : List ℕ). as_notification token plain) c.copy_of.ensures in (
      sealed_notification l c.args.self.now c.registering-request.result (number_of c.args.number) c.in-Ok.len (number_of c.in-Some.own) p q _ c.args.out.now
          a c.in-Some.ensures.made c.in-Some.own.in_range c.registering-request.ensures.registering c.registering-request.ensures.number head notifies c.seal_checked.auto.out c.in-Ok.ensures.sealed,
      c.count.ensures.kept l c.in-Ok.len a,
    )

pub returns-in-Err-clause-kept : goal.returns-in-Err-clause-kept
returns-in-Err-clause-kept c = λ l a.
    let plain = parts_of c.args.plain.now in
    let p = parts_of c.with_head-message.result in
    let q : Parts = as_notification c.args.token.now.items plain in
    let notifies : is_notification p.code p.options ≡ true = c.in_ok-checked.ensures.notifies refl in
    let head : p ≡ q = c.with_head-message.ensures ∙ ap (λ (token : List ℕ). as_notification token plain) c.copy_of.ensures in (
      subst (λ e. LifeNotify l (number_of c.args.number) q (length c.args.out.now) (NotReplied e)) (sym c.lift.ensures.value)
          (refused_to_notify l c.args.self.now c.registering-request.result (number_of c.args.number) (number_of c.in-Some.own) (length c.args.out.now) p q c.in-Err.error
          a c.in-Some.ensures.made c.in-Some.own.in_range c.registering-request.ensures.registering c.registering-request.ensures.number head notifies c.in-Err.ensures.refused),
      a,
    )
