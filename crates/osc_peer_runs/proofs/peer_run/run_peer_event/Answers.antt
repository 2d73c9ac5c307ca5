use Rattle.std.proofs.Common.{List, ℕ, length, subst, refl, ◌++◌, ◌∷◌, [], None}
use Rattle.osc_client.specs.ClientAnswer.{ClientAnswer}
use Rattle.osc_client.specs.Agrees.{ClientAgrees}
use Rattle.osc_client.specs.ClientDeciding.{ClientTakes}
use Rattle.osc_client.specs.ClientHistory as client
use Rattle.osc_endpoint.specs.declared.client_event.ClientEntry.TheVariants as asked
use Rattle.osc_life.specs.ServerHistory as server
use Rattle.osc_endpoint.specs.ServerRun.{values_in}
use Rattle.osc_peer_runs.specs.declared.peer_event.PeerEvent.TheVariants as events
use Rattle.osc_peer_runs.specs.declared.peer_event.PeerEntry.TheVariants as entries
use Rattle.osc_fresh.specs.Views.{heard_of, last_of}
use Rattle.osc_peer_runs.specs.PeerCalls.{echoes_of}
use Rattle.osc_peer_runs.specs.PeerRuns.{EchoStep, Echoes, RequestStep, peer_state, with_echoes}
use Rattle.osc_peer_runs.proofs.PeerRunLemmas.{above, asked_alone, both_advance}
use Rattle.osc_peer_runs.proofs.PeerCallLemmas.{above_still, called_same, hear_step, other_called}
use Rattle.osc_peer_runs.proofs.peer_run.run_peer_event.Goals as goal

pub returns-in-Response : goal.returns-in-Response
returns-in-Response g c =
    let old = c.args.peer.now in
    let new = c.hear-outcome.new.peer in
    let p = echoes_of c.args.memory.now in
    let heard = heard_of c.hear-outcome.new.self in
    let q : Echoes = record { last = p.last; heard = heard } in
    let outcome = c.hear-outcome.result in
    let now = c.in-Response.now in
    called_same old new p q c.args.tickets.now c.args.tickets.now None c.args.event.now (events.Response now c.in-Response.bytes) (entries.Asked (asked.Took outcome)) c.in-Response.is (λ h k b.
    let ts = values_in c.args.tickets.now in
    let us = ts ++ None ∷ [] in
    let t = subst (λ (d : List ℕ). ClientTakes k now d outcome new.client) c.deref_mut-in-Response.ensures.value (c.hear-outcome.ensures.answered k b.client.agrees) in
    let (m, step, both) = hear_step old new p heard now c.in-Response.bytes.items outcome h k ts us b t c.hear-outcome.ensures.same c.hear-outcome.ensures.remembered in
    (h, m, ((step, refl), refl, above_still (peer_state h m new.source us) q (above new.server new.client new.source h m us both)), both))

pub returns-in-Follow : goal.returns-in-Follow
returns-in-Follow g c =
    let old = c.args.peer.now in
    let new = c.follow-followed.new.peer in
    let p = echoes_of c.args.memory.now in
    let heard = heard_of c.follow-followed.new.self in
    let q : Echoes = record { last = p.last; heard = heard } in
    let x = c.follow-followed.result in
    let now = c.in-Follow.now in
    called_same old new p q c.args.tickets.now c.args.tickets.now None c.args.event.now (events.Follow now c.in-Follow.bytes) (entries.Followed x) c.in-Follow.is (λ h k b.
    let ts = values_in c.args.tickets.now in
    let us = ts ++ None ∷ [] in
    let (outcome, follows, (remembered, takes)) = c.follow-followed.ensures.followed in
    let t = subst (λ (d : List ℕ). ClientTakes k now d outcome new.client) c.deref_mut-in-Follow.ensures.value (takes k b.client.agrees) in
    let (m, step, both) = hear_step old new p heard now c.in-Follow.bytes.items outcome h k ts us b t c.follow-followed.ensures.same remembered in
    (h, m, ((outcome, follows, step, refl), refl, above_still (peer_state h m new.source us) q (above new.server new.client new.source h m us both)), both))

pub returns-in-Echo : goal.returns-in-Echo
returns-in-Echo g c =
    let n = g.row.N in
    let old = c.args.peer.now in
    let new = c.make_echo_request-entry.new.peer in
    let p = echoes_of c.args.memory.now in
    let entry = c.make_echo_request-entry.result in
    let now = c.in-Echo.now in
    called_same old new p p c.args.tickets.now c.args.tickets.now None c.args.event.now (events.Echo now c.in-Echo.plain c.in-Echo.room c.in-Echo.out) entry c.in-Echo.is (λ h k b.
    let ts = values_in c.args.tickets.now in
    let us = ts ++ None ∷ [] in
    let (after, m, step, both) = c.make_echo_request-entry.ensures p h k ts us b in
    let s = with_echoes p (peer_state h k old.source ts) in
    let t = with_echoes p (peer_state after m new.source us) in
    let given = subst (λ (d : List ℕ). EchoStep n p.heard s now d (length c.deref_mut-in-Echo.result.now) (length c.deref_mut-in-Echo-2.result.now) entry t) c.deref-in-Echo.ensures.value step in
    let roomy = subst (λ (d : List ℕ). EchoStep n p.heard s now c.in-Echo.plain.items (length d) (length c.deref_mut-in-Echo-2.result.now) entry t) c.deref_mut-in-Echo.ensures.value given in
    let whole = subst (λ (d : List ℕ). EchoStep n p.heard s now c.in-Echo.plain.items (length c.in-Echo.room.items) (length d) entry t) c.deref_mut-in-Echo-2.ensures.value roomy in
    (after, m, ((whole, refl), refl, above_still (peer_state after m new.source us) p (above new.server new.client new.source after m us both)), both))

pub returns-in-Forget : goal.returns-in-Forget
returns-in-Forget g c = other_called c.args.peer.now c.forget-was_pending.new.self (echoes_of c.args.memory.now) c.args.tickets.now c.args.tickets.now None c.args.event.now
    (events.Forget c.in-Forget.token) (entries.Asked (asked.Forgot c.forget-was_pending.result)) tt c.in-Forget.is (λ h k b.
    let old = c.args.peer.now in
    let new = c.forget-was_pending.new.self in
    let ts = values_in c.args.tickets.now in
    let us = ts ++ None ∷ [] in
    let was_pending = c.forget-was_pending.result in
    let row = subst (λ (token : List ℕ). ClientAnswer g.row.N k (client.Forget token) (client.Forgot was_pending)) c.deref-in-Forget.ensures.value (c.forget-was_pending.ensures.answered k b.client.agrees) in
    let agrees = subst (λ (token : List ℕ). ClientAgrees new.client (client.Then k (client.Forget token) (client.Forgot was_pending))) c.deref-in-Forget.ensures.value (c.forget-was_pending.ensures.follows k b.client.agrees) in
    let m = client.Then k (client.Forget c.in-Forget.token.items) (client.Forgot was_pending) in
    let same = c.forget-was_pending.ensures.same in
    let both = asked_alone old.server new.server new.client old.source new.source h m b.server (record { agrees = agrees; least = b.client.least }) same in
    (h, m, (((row, refl), refl, same.1, refl), refl, above new.server new.client new.source h m us both), both))

pub returns-in-Advance : goal.returns-in-Advance
returns-in-Advance g c = other_called c.args.peer.now c.advance.new.self (echoes_of c.args.memory.now) c.args.tickets.now c.args.tickets.now None c.args.event.now
    (events.Advance c.in-Advance.now) (entries.Advanced) tt c.in-Advance.is (λ h k b.
    let old = c.args.peer.now in
    let new = c.advance.new.self in
    let ts = values_in c.args.tickets.now in
    let us = ts ++ None ∷ [] in
    let now = c.in-Advance.now in
    let both = both_advance old.server new.server old.client new.client old.source new.source h k now b
    (c.advance.ensures.server h b.server.agrees) (c.advance.ensures.client k b.client.agrees) c.advance.ensures.source in
    let after = server.Then h (server.Advance now) server.Advanced in
    let m = client.Then k (client.Advance now) client.Advanced in
    (after, m, ((refl, refl, c.advance.ensures.source, refl), refl, above new.server new.client new.source after m us both), both))

pub returns-in-Datagram : goal.returns-in-Datagram
returns-in-Datagram g c =
    let made = c.serve_datagram.result in
    let ts = c.args.tickets.now in
    other_called c.args.peer.now c.serve_datagram.new.peer (echoes_of c.args.memory.now) ts ts made.1 c.args.event.now (events.Datagram c.in-Datagram.arrival) made.0 tt c.in-Datagram.is c.serve_datagram.ensures

pub returns-in-Reply : goal.returns-in-Reply
returns-in-Reply g c =
    other_called c.args.peer.now c.serve_reply.new.peer (echoes_of c.args.memory.now) c.args.tickets.now c.serve_reply.new.tickets None c.args.event.now (events.Reply c.in-Reply.answering) c.serve_reply.result tt c.in-Reply.is c.serve_reply.ensures

pub returns-in-Challenge : goal.returns-in-Challenge
returns-in-Challenge g c =
    other_called c.args.peer.now c.serve_challenge.new.peer (echoes_of c.args.memory.now) c.args.tickets.now c.serve_challenge.new.tickets None c.args.event.now (events.Challenge c.in-Challenge.challenging) c.serve_challenge.result tt c.in-Challenge.is c.serve_challenge.ensures

pub returns-in-Notify : goal.returns-in-Notify
returns-in-Notify g c =
    let ts = c.args.tickets.now in
    other_called c.args.peer.now c.serve_notification.new.peer (echoes_of c.args.memory.now) ts ts None c.args.event.now (events.Notify c.in-Notify.notifying) c.serve_notification.result tt c.in-Notify.is c.serve_notification.ensures

pub returns-in-Request : goal.returns-in-Request
returns-in-Request g c = other_called c.args.peer.now c.make_request.new.peer (echoes_of c.args.memory.now) c.args.tickets.now c.args.tickets.now None c.args.event.now
    (events.Request c.in-Request.now c.in-Request.plain c.in-Request.out) (entries.Asked c.make_request.result) tt c.in-Request.is (λ h k b.
    let n = g.row.N in
    let old = c.args.peer.now in
    let new = c.make_request.new.peer in
    let ts = values_in c.args.tickets.now in
    let us = ts ++ None ∷ [] in
    let now = c.in-Request.now in
    let entry = c.make_request.result in
    let (after, m, step, both) = c.make_request.ensures h k ts us b in
    let s = peer_state h k old.source ts in
    let t = peer_state after m new.source us in
    let given = subst (λ (d : List ℕ). RequestStep n s now d (length c.deref_mut.result.now) entry t) c.deref.ensures.value step in
    let whole = subst (λ (d : List ℕ). RequestStep n s now c.in-Request.plain.items (length d) entry t) c.deref_mut.ensures.value given in
    (after, m, ((whole, refl), refl, above new.server new.client new.source after m us both), both))

pub returns-in-Fresh : goal.returns-in-Fresh
returns-in-Fresh g c =
    let made = c.serve_fresh.result in
    let ts = c.args.tickets.now in
    let p = echoes_of c.args.memory.now in
    called_same c.args.peer.now c.serve_fresh.new.peer p (record { last = last_of c.serve_fresh.new.wishes; heard = p.heard }) ts ts made.1 c.args.event.now (events.Fresh c.in-Fresh.fresh_ms c.in-Fresh.arrival) made.0
    c.in-Fresh.is (c.serve_fresh.ensures p.heard)
