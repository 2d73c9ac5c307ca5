use Rattle.std.proofs.Common.{refl}
use Rattle.osc_coap.specs.Views.{parts_of}
use Rattle.osc_endpoint.specs.Agrees.{server_of}
use Rattle.osc_life.specs.ServerHistory as server
use Rattle.osc_endpoint.proofs.Decisions.{malformed, headless, unnamed, judged, found_named}
use Rattle.osc_endpoint.proofs.Finding.{found_place, place_found}
use Rattle.osc_endpoint.proofs.server_take.decide_over.Goals as goal

pub returns-in-Err-clause-answered : goal.returns-in-Err-clause-answered
returns-in-Err-clause-answered g c = λ h slots there a. (
  slots,
  there,
  malformed (server_of g.T.Contexts.places c.args.clock.now slots) (server_of g.T.Contexts.places c.max.result slots) h c.args.now c.args.fresh c.args.datagram.now c.in-Err.error a c.max.ensures refl c.in-Err.ensures.refused,
)

pub returns-in-Err-read-clause-answered : goal.returns-in-Err-read-clause-answered
returns-in-Err-read-clause-answered g c = λ h slots there a.
    let d = c.args.datagram.now in
    let p = parts_of c.in-Ok.message in (
      slots,
      there,
      headless (server_of g.T.Contexts.places c.args.clock.now slots) (server_of g.T.Contexts.places c.max.result slots) h c.args.now c.args.fresh d _ c.refuse_head.result p c.in-Err-read.none a c.max.ensures refl
          c.in-Ok.ensures.accepted c.in-Err-read.ensures.refused (c.refuse_head.ensures.decides d)
          (c.refuse_head.ensures.reply d (p, c.in-Ok.ensures.accepted, c.of-asker.ensures.kind, c.of-asker.ensures.message_id, c.of-asker.ensures.token)),
    )

pub returns-in_default-clause-answered : goal.returns-in_default-clause-answered
returns-in_default-clause-answered g c = λ h slots there a.
    let p = parts_of c.in-Ok.message in (
      slots,
      there,
      unnamed (server_of g.T.Contexts.places c.args.clock.now slots) (server_of g.T.Contexts.places c.max.result slots) h c.args.now c.args.fresh c.args.datagram.now _ _ c.in-Ok-read.head c.of-asker.result slots a c.max.ensures refl refl
          (p, c.in-Ok.ensures.accepted, c.in-Ok-read.ensures.head) (λ i s at looks. c.in_default.ensures.none i (place_found _ slots i _ _ s at looks (g.met.T.Contexts.held c.args.contexts.now slots i there)))
          (p, c.in-Ok.ensures.accepted, c.of-asker.ensures.kind, c.of-asker.ensures.message_id, c.of-asker.ensures.token)
          c.write_error-reply.ensures.written,
    )

pub returns-clause-answered : goal.returns-clause-answered
returns-clause-answered g c = λ h slots there a.
    let (s, at, looks) = found_place _ slots c.in-Some.index _ _ c.in-Some.ensures.found (g.met.T.Contexts.held c.args.contexts.now slots c.in-Some.index there) in
    let p = parts_of c.in-Ok.message in
    let (new, kept, len, judges) = c.judge_at.ensures.decided slots (server.life h) there a.places in (
      new,
      kept,
      judged (server_of g.T.Contexts.places c.args.clock.now slots) (server_of g.T.Contexts.places c.max.result new) h c.args.now c.args.fresh c.args.datagram.now c.judge_at.new.datagram _ c.judge_at.result _ new s a
          c.max.ensures c.max.ensures refl refl len at
          (found_named s c.in-Ok-read.head _ c.args.datagram.now (p, c.in-Ok.ensures.accepted, c.in-Ok-read.ensures.head) looks refl c.sealed-sealed.ensures)
          judges,
    )
