use Rattle.std.proofs.Common.{ap, subst}
use Rattle.std.specs.Prelude.{IfOk, OnErr}
use Rattle.osc_context.specs.OscoreValue.{OscoreParts}
use Rattle.osc_context.specs.Views.{number_of}
use Rattle.osc_context.specs.declared.context.Context.{Context}
use Rattle.osc_protect.specs.Refusals.{RefusesTag}
use Rattle.osc_protect.specs.Stages.{Decrypts}
use Rattle.osc_protect.specs.Views.{context_of, opened_requests}
use Rattle.osc_protect.proofs.Decrypted.{accepts_held, refuses_held}
use Rattle.osc_protect.proofs.Staged.{when_ok}
use Rattle.osc_protect.proofs.Protections.{some_same}
use Rattle.osc_protect.proofs.decrypting.decrypt_request.Goals as goal

pub returns-clause-accepts : goal.returns-clause-accepts
returns-clause-accepts c = accepts_held (opened_requests (context_of c.args.context.now)) c.one_head.ensures.request (λ n k e. some_same n k (ap (λ (v : OscoreParts). v.piv) e)) c.args.datagram.now c.decrypt_request_by.result (subst (λ (x : Context). OnErr c.decrypt_request_by.result (RefusesTag (opened_requests x) c.args.datagram.now)) c.recipient.ensures c.decrypt_request_by.ensures.refused)

pub returns-clause-refuses : goal.returns-clause-refuses
returns-clause-refuses c = refuses_held (opened_requests (context_of c.args.context.now)) c.one_head.ensures.request (λ n k e. some_same n k (ap (λ (v : OscoreParts). v.piv) e)) c.args.datagram.now (λ x. number_of x.number) (λ x. x.len) c.decrypt_request_by.new.datagram c.decrypt_request_by.result (subst (λ (s : Context). IfOk c.decrypt_request_by.result (λ x. Decrypts (opened_requests s) c.args.datagram.now (number_of x.number) x.len c.decrypt_request_by.new.datagram)) c.recipient.ensures (when_ok c.decrypt_request_by.result (λ x h. h.1) c.decrypt_request_by.ensures.decrypted))
