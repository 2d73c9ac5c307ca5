use Rattle.std.proofs.Common.{Err, ap, length, subst}
use Rattle.osc_coap.specs.Views.{parts_of}
use Rattle.osc_client.specs.ClientHistory as asked
use Rattle.osc_client.specs.declared.client_outcome.RequestError.{RequestError}
use Rattle.osc_kept_ends.specs.PeerOwning.{own_in}
use Rattle.osc_kept_ends.specs.Peering.{AskStep}
use Rattle.osc_fresh.specs.declared.echo_request_error.EchoRequestError.TheVariants as refusals
use Rattle.osc_fresh.proofs.EchoAnswers.{same_error, some_entry}
use Rattle.osc_fresh.proofs.requesting.seal.Goals as goal

pub returns-in-Ok-clause-answered : goal.returns-in-Ok-clause-answered
returns-in-Ok-clause-answered g c = λ worked entry is k behind.
    subst (λ (e : asked.Entry). AskStep {N = g.row.N} k (asked.Request c.args.now (parts_of c.args.plain.now) (length c.args.out.now)) e (own_in c.args.peer.now.source)
    (own_in c.request.new.self.source) c.request.new.self.client) (some_entry _ _ is) (c.in-Ok.ensures.answered tt k behind)

pub returns-in-Err-clause-answered : goal.returns-in-Err-clause-answered
returns-in-Err-clause-answered g c = λ worked entry is k behind.
    subst (λ (e : asked.Entry). AskStep {N = g.row.N} k (asked.Request c.args.now (parts_of c.args.plain.now) (length c.args.out.now)) e (own_in c.args.peer.now.source)
    (own_in c.request.new.self.source) c.request.new.self.client) (some_entry _ _ is)
    (c.in-Err.ensures.answered (λ bad. worked (ap (λ (e : RequestError). Err (refusals.Refused e)) bad)) k behind)

pub returns-in-Err-clause-failed : goal.returns-in-Err-clause-failed
returns-in-Err-clause-failed g c = λ bad. c.in-Err.ensures.failed (same_error _ _ bad)

pub returns-in-Err-clause-worked : goal.returns-in-Err-clause-worked
returns-in-Err-clause-worked g c = λ worked. c.in-Err.ensures.worked (λ bad. worked (ap (λ (e : RequestError). Err (refusals.Refused e)) bad))
