use Rattle.std.proofs.Common.{◌≡◌, ◌<◌, ◌^◌, ◌∙◌, arith, length, refl, subst, sym, take}
use Rattle.std.proofs.lemmas.Grind.{not_there}
use Rattle.osc_client.specs.ClientHistory as asked
use Rattle.osc_client.specs.declared.client_outcome.RequestError.TheVariants as requests
use Rattle.osc_life.specs.ServerHistory as server
use Rattle.osc_peer_runs.specs.PeerCalls.{IsBehind}
use Rattle.osc_peer_runs.specs.PeerRuns.{EchoStep, peer_state, with_echoes}
use Rattle.osc_peer_runs.specs.declared.peer_event.PeerEntry.{PeerEntry}
use Rattle.osc_coap.specs.Views.{parts_of}
use Rattle.osc_fresh.specs.Echoing.{echo_in}
use Rattle.osc_fresh.specs.Views.{heard_of}
use Rattle.osc_fresh.specs.WithEcho.{echoing}
use Rattle.osc_kept_ends.specs.Numbering.{upcoming}
use Rattle.osc_kept_ends.specs.PeerOwning.{own_in}
use Rattle.osc_kept_ends.proofs.Drawing.{number_in_hand}
use Rattle.osc_peer_runs.proofs.EchoRequests.{echo_refused_step, echo_seal_step, no_echo, refused_as, refused_entry, refused_is, sealed_is}
use Rattle.osc_peer_runs.proofs.PeerRunLemmas.{asks_step, both_advance, server_carried, unsent_step}
use Rattle.osc_peer_runs.proofs.asking.make_echo_request.Goals as goal

pub returns-in-Err : goal.returns-in-Err
returns-in-Err g c = λ q h k ts us b.
    let old = c.args.peer.now in
    let new = c.advance.new.self in (
      _,
      _,
      (c.in-Err.ensures.refused, refl, refl, c.advance.ensures.source),
      both_advance old.server new.server old.client new.client old.source new.source h k c.args.now b
          (c.advance.ensures.server h b.server.agrees) (c.advance.ensures.client k b.client.agrees) c.advance.ensures.source,
    )

pub returns-in-Err-request_with_echo : goal.returns-in-Err-request_with_echo
returns-in-Err-request_with_echo g c = λ q h k ts us b.
    let old = c.args.peer.now in
    let new = c.request_with_echo.new.peer in
    let p = parts_of c.in-Ok.message in
    let heard = heard_of c.args.heard.now in
    let x = c.in-Err-request_with_echo.error in
    let said = c.in-Err-request_with_echo.ensures in
    let room = length c.args.out.now in
    subst (λ (entry : PeerEntry). (after : server.History) × (m : asked.History)
    × EchoStep g.row.N heard (with_echoes q (peer_state h k old.source ts)) c.args.now c.args.plain.now (length c.args.room.now) room entry
    (with_echoes q (peer_state after m new.source us)) × IsBehind new after m) (sym c.unsealed.ensures)
    (echo_refused_step old new q heard h k ts us c.args.now (length c.args.room.now) room c.args.plain.now p x c.in-Ok.ensures.accepted b
    (λ value has. ((said.echoes value has).0, (said.echoes value has).1)) said.no_room.0 said.no_room.1 (λ bad. (said.same bad).0)
    (λ e is none. unsent_step h k ts us q old.source new.source c.args.now room e (echoing heard p) old.server new.server old.client new.client
    b c.request_with_echo.ensures.server new.served (λ failed. said.failed (refused_is x e requests.KeeperFailed is failed))
    (λ not. said.worked (λ bad. not (refused_as x e requests.KeeperFailed is bad))) c.request_with_echo.ensures.rises
    (λ not. said.answered none (λ bad. not (refused_as x e requests.KeeperFailed is bad)) (asked.NotSent e) (refused_entry x e c.request_with_echo.new.out is))))

pub returns : goal.returns
returns g c = λ q h k ts us b.
    let old = c.args.peer.now in
    let new = c.request_with_echo.new.peer in
    let p = parts_of c.in-Ok.message in
    let heard = heard_of c.args.heard.now in
    let len = c.in-Ok-request_with_echo.len in
    let said = c.in-Ok-request_with_echo.ensures in
    let none = no_echo (echo_in p) (λ value has. sealed_is len _ (said.echoes value has).0) in
    let sealed = asked.Sent (take len c.request_with_echo.new.out) in
    let (m, asks, behind) = asks_step k (asked.Request c.args.now (echoing heard p) (length c.args.out.now)) sealed old.source new.source new.client
    (said.answered none (sealed_is len _) sealed refl k b.client) (said.worked (sealed_is len _), c.request_with_echo.ensures.rises) in (
      h,
      m,
      (
        p,
        c.in-Ok.ensures.accepted,
        echo_seal_step old new q heard (echo_in p) h h k m ts us c.args.now (length c.args.room.now) (length c.args.out.now) p _ none (λ lacks. sealed_is len _ (said.no_room.1 lacks))
            (c.in-Some.ensures.made ∙ c.upcoming-next.ensures, asks, refl),
      ),
      record { server = server_carried old.server new.server h (upcoming (own_in old.source)) (upcoming (own_in new.source)) b.server c.request_with_echo.ensures.server new.served; client = behind },
    )

pub unreachable-requires : goal.unreachable-requires
unreachable-requires g c = not_there c.args.peer.now.asked (λ x.
    let p = parts_of c.in-Ok.message in
    let len = c.in-Ok-request_with_echo.len in
    let said = c.in-Ok-request_with_echo.ensures in
    let none = no_echo (echo_in p) (λ value has. sealed_is len _ (said.echoes value has).0) in
    let (passed, passes, step) = said.answered none (sealed_is len _) (asked.Sent (take len c.request_with_echo.new.out)) refl x.0 x.1 in
    let (mid, drawn, used) = step.numbers in
    let below : asked.next passed < 2 ^ 40 = step.row.0.2 in
    let is : asked.next passed ≡ upcoming (own_in c.args.peer.now.source) = number_in_hand (own_in c.args.peer.now.source) mid (asked.next passed) drawn used.0 in
    let next = c.upcoming-next.ensures in
    let most = c.in-None.ensures.refused in
    omega (arith, below, is, next, most))
