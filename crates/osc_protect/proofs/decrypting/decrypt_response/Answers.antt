use Rattle.std.proofs.Common.{ap, option_map, subst}
use Rattle.std.specs.Prelude.{IfOk, OnErr}
use Rattle.osc_context.specs.OscoreValue.{OscoreParts}
use Rattle.osc_context.specs.Views.{number_of}
use Rattle.osc_context.specs.declared.context.Context.{Context}
use Rattle.osc_protect.specs.Refusals.{RefusesTag}
use Rattle.osc_protect.specs.Stages.{Decrypts}
use Rattle.osc_protect.specs.Views.{context_of, opened_responses}
use Rattle.osc_protect.proofs.Decrypted.{accepts_held, refuses_held}
use Rattle.osc_protect.proofs.Staged.{when_ok}
use Rattle.osc_protect.proofs.decrypting.decrypt_response.Goals as goal

pub returns-clause-accepts : goal.returns-clause-accepts
returns-clause-accepts c = accepts_held (opened_responses (context_of c.args.context.now) c.args.request.now) c.one_head.ensures.response (λ own k e. ap (λ (v : OscoreParts). v.piv) e) c.args.datagram.now c.decrypt_response_by.result (subst (λ (x : Context). OnErr c.decrypt_response_by.result (RefusesTag (opened_responses x c.args.request.now) c.args.datagram.now)) c.recipient.ensures c.decrypt_response_by.ensures.refused)

pub returns-clause-refuses : goal.returns-clause-refuses
returns-clause-refuses c = refuses_held (opened_responses (context_of c.args.context.now) c.args.request.now) c.one_head.ensures.response (λ own k e. ap (λ (v : OscoreParts). v.piv) e) c.args.datagram.now (λ x. option_map number_of x.number) (λ x. x.len) c.decrypt_response_by.new.datagram c.decrypt_response_by.result (subst (λ (s : Context). IfOk c.decrypt_response_by.result (λ x. Decrypts (opened_responses s c.args.request.now) c.args.datagram.now (option_map number_of x.number) x.len c.decrypt_response_by.new.datagram)) c.recipient.ensures (when_ok c.decrypt_response_by.result (λ x h. h.1) c.decrypt_response_by.ensures.decrypted))
