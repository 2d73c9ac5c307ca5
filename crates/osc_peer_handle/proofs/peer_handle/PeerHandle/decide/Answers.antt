use Rattle.std.proofs.Common.{◌∙◌, ap, inr, refl, subst, sym, take, Err}
use Rattle.osc_handle.specs.declared.kept_refusal.KeptRefusal.{KeptRefusal}
use Rattle.osc_handle.specs.declared.kept_refusal.KeptRefusal.TheVariants as kept
use Rattle.osc_peer_handle.specs.PeerBytes.{DecidesAnswering, DeliversFrom, KeepsFirst}
use Rattle.osc_peer_handle.proofs.AnswerSteps.{caught_up, decides_answering, keeps_first, no_error, opened_from, has_to_save, same_keep, same_save, wants_after, wants_before}
use Rattle.osc_peer_handle.proofs.peer_handle.PeerHandle.decide.Goals as goal

pub returns-in-Err-SaveFirst-clause-save_first : goal.returns-in-Err-SaveFirst-clause-save_first
returns-in-Err-SaveFirst-clause-save_first c = λ number is.
    let same = same_save is in
    let refused = c.in-Err-SaveFirst.ensures.refused number (ap (λ (e : KeptRefusal). Err e) (c.in-Err-SaveFirst.field-0-is ∙ ap (λ n. kept.SaveFirst n) (sym c.in-Err-SaveFirst.number-is ∙ same))) in (
      refused.0,
      λ h o w.
          let (g, passes, serves) = caught_up c.args.self.now o h w in
          inr (wants_before h g o c.args.self.now.server.reserved passes (refused.1 g o serves)),
    )

pub returns-in_default-keep_first-clause-answered : goal.returns-in_default-keep_first-clause-answered
returns-in_default-keep_first-clause-answered c = λ h old w.
    subst (λ e. DecidesAnswering c.args.self.now h c.args.now (record { echo = e; mid = c.args.mid }) c.args.datagram.now c.in-Ok.decided.decision c.decide.new.datagram
    (take c.in-Ok.decided.reply c.decide.new.out) old (record c.args.self.now { server = c.decide.new.self })) c.to_be_bytes-echo.ensures
    (decides_answering c.args.self.now _ h c.args.now _ c.args.datagram.now c.in-Ok.decided.decision c.decide.new.datagram _ old refl refl refl (λ g serves. c.in-Ok.ensures.answered g old serves) w)

pub returns-in_default-keep_first-clause-saves_first : goal.returns-in_default-keep_first-clause-saves_first
returns-in_default-keep_first-clause-saves_first c = λ h o w wants.
    let (g, passes, serves) = caught_up c.args.self.now o h w in
    absurd (no_error (c.in-Ok.ensures.refuses g o serves (wants_after h g o c.args.self.now.server.reserved passes (has_to_save _ _ c.args.self.now (c.claim_first.ensures.accepted c.in_default.is) wants))))

pub returns-clause-saves_first : goal.returns-clause-saves_first
returns-clause-saves_first c = λ h o w wants.
    let (g, passes, serves) = caught_up c.args.self.now o h w in
    absurd (no_error (c.in-Ok.ensures.refuses g o serves (wants_after h g o c.args.self.now.server.reserved passes (has_to_save _ _ c.args.self.now (c.claim_first.ensures.accepted c.in_default.is) wants))))

pub returns-clause-keep_first : goal.returns-clause-keep_first
returns-clause-keep_first c = λ number is h o w.
    subst (λ e. KeepsFirst c.args.self.now.received h c.args.now (record { echo = e; mid = c.args.mid }) c.args.datagram.now number) c.to_be_bytes-echo.ensures
    (keeps_first c.args.self.now c.decide.new.self h c.args.now _ c.args.datagram.now c.in-Ok.decided.decision c.decide.new.datagram _ o number
    (subst (λ n. DeliversFrom c.in-Ok.decided.decision c.args.self.now.received n) (same_keep is) c.in-Some-keep_first.ensures.some) (λ g serves. c.in-Ok.ensures.answered g o serves) w)

pub returns-clause-unchanged : goal.returns-clause-unchanged
returns-clause-unchanged c = (
  refl,
  c.encrypt_again.ensures c.args.datagram.now (λ slots table.
      opened_from c.in-Ok.decided.decision c.args.self.now.received c.in-Some-keep_first.number slots c.args.datagram.now c.decide.new.datagram c.in-Some-keep_first.ensures.some (c.in-Ok.ensures.left slots table)),
  refl,
)
