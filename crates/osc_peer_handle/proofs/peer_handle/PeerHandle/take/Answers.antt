use Rattle.std.proofs.Common.{◌∙◌, ap, sym, Err}
use Rattle.std.proofs.lemmas.Result.{IfOk-at_ok}
use Rattle.osc_peer_handle.specs.declared.peer_refusal.PeerRefusal.{PeerRefusal}
use Rattle.osc_peer_handle.proofs.AnswerSteps.{no_error, same_refusal, takes_below}
use Rattle.osc_peer_handle.proofs.peer_handle.PeerHandle.take.Goals as goal

pub returns-in-Ok-clause-answered : goal.returns-in-Ok-clause-answered
returns-in-Ok-clause-answered c = λ h old w.
    let d = IfOk-at_ok _ c.in-Ok.is c.decide_and_lend-decided.ensures.answered h old w in
    record { answer = d.answer; shows = c.outcome-outcome.ensures.shows d.answer d.decides; step = d.step }

pub returns-in-Ok-clause-kept : goal.returns-in-Ok-clause-kept
returns-in-Ok-clause-kept c = λ h old w.
    let d = IfOk-at_ok _ c.in-Ok.is c.decide_and_lend-decided.ensures.answered h old w in
    takes_below c.in-Ok.field-0.decision c.outcome-outcome.result d.answer c.decide_and_lend-decided.result.datagram.now c.decide_and_lend-decided.new.self.received d.decides
    (c.outcome-outcome.ensures.shows d.answer d.decides) (IfOk-at_ok _ c.in-Ok.is c.decide_and_lend-decided.ensures.kept)

pub returns-in-Ok-clause-saves_first : goal.returns-in-Ok-clause-saves_first
returns-in-Ok-clause-saves_first c = λ h o w wants. absurd (no_error (sym c.in-Ok.is ∙ c.decide_and_lend-decided.ensures.saves_first h o w wants))

pub returns-in-Err-clause-save_first : goal.returns-in-Err-clause-save_first
returns-in-Err-clause-save_first c = λ number is. c.decide_and_lend-decided.ensures.save_first number (c.in-Err.is ∙ ap (λ (e : PeerRefusal). Err e) (same_refusal is))

pub returns-in-Err-clause-saves_first : goal.returns-in-Err-clause-saves_first
returns-in-Err-clause-saves_first c = λ h o w wants. ap (λ (e : PeerRefusal). Err e) (same_refusal (sym c.in-Err.is ∙ c.decide_and_lend-decided.ensures.saves_first h o w wants))

pub returns-in-Err-clause-keep_first : goal.returns-in-Err-clause-keep_first
returns-in-Err-clause-keep_first c = λ number is. c.decide_and_lend-decided.ensures.keep_first number (c.in-Err.is ∙ ap (λ (e : PeerRefusal). Err e) (same_refusal is))
