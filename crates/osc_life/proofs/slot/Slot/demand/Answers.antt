use Rattle.std.proofs.Common.{subst, take, Some}
use Rattle.osc_context.specs.Views.{as_server, number_of}
use Rattle.osc_protect.specs.Sealed.{SealsResponse}
use Rattle.osc_protect.specs.Views.{context_of}
use Rattle.osc_protect.specs.declared.keyed_context.KeyedContext.{KeyedContext}
use Rattle.osc_life.specs.Replies.{as_reply, challenge_message}
use Rattle.osc_life.proofs.Judgments.{exhausted, challenged}
use Rattle.osc_life.proofs.slot.Slot.demand.Goals as goal

pub returns-in_default-clause-decided : goal.returns-in_default-clause-decided
returns-in_default-clause-decided c = λ l d new a wants asker.
    exhausted l c.args.request.now d new c.args.self.now a wants c.in_default.ensures.refused

pub returns-clause-decided : goal.returns-clause-decided
returns-clause-decided c = λ l d new a wants asker.
    let r = c.args.request.now in
    let reply = take c.write_challenge-reply.result c.write_challenge-reply.new.out in
    let p = as_reply r.asker.kind r.asker.message_id r.asker.token.items r.fresh.mid (challenge_message c.challenge-issued.result.0) in
    let sealed = subst (λ (x : KeyedContext). SealsResponse (as_server (context_of x)) (number_of r.number) (Some (number_of c.in-Some.own)) p reply) c.challenge-issued.ensures.context c.write_challenge-reply.ensures.sealed in
    challenged l r d new reply c.challenge-issued.result.0 c.challenge-issued.result.1 (number_of c.in-Some.own) _ c.args.self.now c.challenge-issued.new.self
    a wants asker c.in-Some.ensures.made c.in-Some.own.in_range (c.challenge-issued.ensures.given l a) sealed (c.challenge-issued.ensures.kept l a)
