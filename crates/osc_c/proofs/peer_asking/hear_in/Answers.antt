use Rattle.std.proofs.Common.{refl}
use Rattle.osc_c.specs.PeerAskingCalls.RefusesPeerHearing.{refused}
use Rattle.osc_c.proofs.PeerAsking.{peer_answers_by, peer_heard_to}
use Rattle.osc_c.proofs.peer_asking.hear_in.Goals as goal

pub returns-in-Ok-clause-opened : goal.returns-in-Ok-clause-opened
returns-in-Ok-clause-opened c = λ a old w.
    peer_heard_to c.args.peer.now c.args.pending.now a c.hear_among.new.peer c.hear_among.new.pending_count c.hear_among.new.pending c.args.now c.args.datagram.now c.in-Some.outcome c.in-Ok.heard.2 c.in-Ok.heard.0 c.in-Ok.heard.1 old
    c.in-Ok.ensures.opened (c.in-Some.ensures.answered a old w)

pub returns-in-Err-clause-refused : goal.returns-in-Err-clause-refused
returns-in-Err-clause-refused c =
    refused (c.if-not-is_whole.ensures.yes refl) (c.if-not-are_pending.ensures.yes refl)
    (λ a old w.
    peer_answers_by c.args.peer.now c.args.pending.now a c.hear_among.new.peer c.hear_among.new.pending_count c.hear_among.new.pending c.args.now c.args.datagram.now c.in-Some.outcome c.in-Err.refusal.status c.in-Err.refusal.detail old
    (c.in-Some.ensures.answered a old w) c.in-Err.ensures.refused)
