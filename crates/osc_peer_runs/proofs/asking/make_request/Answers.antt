use Rattle.std.proofs.Common.{◌≡◌, ◌<◌, ◌^◌, ◌∙◌, arith, length, refl, take}
use Rattle.std.proofs.lemmas.Grind.{not_there}
use Rattle.osc_client.specs.ClientHistory as asked
use Rattle.osc_coap.specs.Views.{parts_of}
use Rattle.osc_kept_ends.specs.Numbering.{upcoming}
use Rattle.osc_kept_ends.specs.PeerOwning.{own_in}
use Rattle.osc_kept_ends.proofs.Drawing.{number_in_hand}
use Rattle.osc_peer_runs.specs.PeerRuns.{no_echoes}
use Rattle.osc_peer_runs.proofs.PeerRunLemmas.{asks_step, both_advance, server_carried, unsent_step}
use Rattle.osc_peer_runs.proofs.asking.make_request.Goals as goal

pub returns-in-Err : goal.returns-in-Err
returns-in-Err g c = λ h k ts us b.
    let old = c.args.peer.now in
    let new = c.advance.new.self in (
      _,
      _,
      (c.in-Err.ensures.refused, refl, refl, c.advance.ensures.source),
      both_advance old.server new.server old.client new.client old.source new.source h k c.args.now b
          (c.advance.ensures.server h b.server.agrees) (c.advance.ensures.client k b.client.agrees) c.advance.ensures.source,
    )

pub returns-in-Err-request : goal.returns-in-Err-request
returns-in-Err-request g c = λ h k ts us b.
    let old = c.args.peer.now in
    let new = c.request.new.self in
    let p = parts_of c.in-Ok.message in
    let (after, m, step, both) = unsent_step h k ts us no_echoes old.source new.source c.args.now (length c.args.out.now) c.in-Err-request.error p old.server new.server old.client new.client
    b c.request.ensures.server new.served c.in-Err-request.ensures.failed c.in-Err-request.ensures.worked c.request.ensures.rises c.in-Err-request.ensures.answered in
    (after, m, (p, c.in-Ok.ensures.accepted, step), both)

pub returns : goal.returns
returns g c = λ h k ts us b.
    let old = c.args.peer.now in
    let new = c.request.new.self in
    let p = parts_of c.in-Ok.message in
    let (m, asks, behind) = asks_step k (asked.Request c.args.now p (length c.args.out.now)) (asked.Sent (take c.in-Ok-request.len c.request.new.out)) old.source new.source new.client
    (c.in-Ok-request.ensures.answered tt k b.client) (c.in-Ok-request.ensures.worked tt, c.request.ensures.rises) in (
      h,
      m,
      (p, c.in-Ok.ensures.accepted, (c.in-Some.ensures.made ∙ c.upcoming-next.ensures, asks, refl)),
      record { server = server_carried old.server new.server h (upcoming (own_in old.source)) (upcoming (own_in new.source)) b.server c.request.ensures.server new.served; client = behind },
    )

pub unreachable-requires : goal.unreachable-requires
unreachable-requires g c = not_there c.args.peer.now.asked (λ x.
    let (passed, passes, step) = c.in-Ok-request.ensures.answered tt x.0 x.1 in
    let (mid, drawn, used) = step.numbers in
    let below : asked.next passed < 2 ^ 40 = step.row.0.2 in
    let is : asked.next passed ≡ upcoming (own_in c.args.peer.now.source) = number_in_hand (own_in c.args.peer.now.source) mid (asked.next passed) drawn used.0 in
    let next = c.upcoming-next.ensures in
    let most = c.in-None.ensures.refused in
    omega (arith, below, is, next, most))
