use Rattle.std.proofs.Common.{[], ap₂, refl}
use Rattle.osc_client.specs.ClientHistory as client
use Rattle.osc_client.specs.ClientHistory.{New}
use Rattle.osc_context.specs.Views.{as_client, as_server}
use Rattle.osc_endpoint.specs.ServerRun.{values_in}
use Rattle.osc_kept_ends.specs.Refusals.{RefusesPeer}
use Rattle.osc_life.specs.ServerHistory.{Add, Added, Begin, History, Then}
use Rattle.osc_peer_runs.specs.PeerCalls.{IsBehind, echoes_of}
use Rattle.osc_peer_runs.specs.PeerRuns.{peer_state, with_echoes}
use Rattle.osc_text.specs.Asking.{places}
use Rattle.osc_text.specs.PeerEvents.{SpellsPeer}
use Rattle.osc_text.specs.PeerSeen.{IsRoomyPeer, peer_seen}
use Rattle.osc_text.specs.Peering.{PeerLine, StartsPeer}
use Rattle.osc_text.proofs.FollowedTexts.{any_feed, by_feed, ends_two, ends_zero, lines_told, no_start_followed, ran_told, start_followed}
use Rattle.osc_text.proofs.KeptPrinting.{begun_told, input_told, not_begun_told}
use Rattle.osc_text.proofs.peering.KeptPeeringBeginning.begin.Goals as goal

pub returns-in-Ok : goal.returns-in-Ok
returns-in-Ok g c =
    let k = g.R.RecordKeeper in
    let keeper = c.args.self.0 in
    let peering = c.args.self.1 in
    let server = as_server c.args.context in
    let asker = as_client c.args.context in
    let contents = g.W.Write.contents in
    let before = c.args.out.now in
    let after = c.run.new.out in
    let r = c.run.result in
    let (sender, received, mid, start, loads, least, rises, is_start, numbers, allowed, worked, served, asked, known) = c.in-Ok.ensures.begins in
    let h = Then Begin (Add server start peering.window 1) (Added 0) in
    let m = New asker sender peering.life_ms in
    let Refuses = RefusesPeer k.loads k.failures keeper in
    let Begins = StartsPeer k server asker peering keeper in
    let s = peer_state h m c.in-Ok.peer.source [] in
    let starts : Begins s = (sender, received, mid, start, loads, least, rises, is_start, numbers, allowed, worked, refl, refl, refl, refl) in
    by_feed _ _ _ _ _ _ (g.I.Input.feed c.args.input)
    (λ bytes runs. begun_told Refuses Begins contents SpellsPeer (PeerLine places) bytes before after r s starts
    (input_told contents SpellsPeer (PeerLine places) peer_seen IsRoomyPeer _ s bytes before after r (λ events lines told is. told h m (record { server = served; client = asked }) is) runs))
    (λ bytes runs. start_followed contents before after Refuses Begins SpellsPeer (PeerLine places) bytes r s starts
    (lines_told contents before after SpellsPeer (PeerLine places) peer_seen IsRoomyPeer _ s bytes r
    (ran_told {H = History × client.History} (λ peer n. IsBehind peer n.0 n.1) (λ peer memory n. with_echoes (echoes_of memory.echoes) (peer_state n.0 n.1 peer.source (values_in memory.tickets.items))) peer_seen IsRoomyPeer (PeerLine places) _ c.in-Ok.peer (h, m) s (λ n new. ap₂ (λ e ts. with_echoes e (peer_state h m c.in-Ok.peer.source (values_in ts))) new.0 new.1) (record { server = served; client = asked })) runs))
    (ends_zero r) c.run.ensures

pub returns-in-Err : goal.returns-in-Err
returns-in-Err g c =
    let k = g.R.RecordKeeper in
    let keeper = c.args.self.0 in
    let peering = c.args.self.1 in
    let server = as_server c.args.context in
    let asker = as_client c.args.context in
    let contents = g.W.Write.contents in
    let before = c.args.out.now in
    let after = c.put_refused.new.out in
    let r = c.put_refused.result in
    let Refuses = RefusesPeer k.loads k.failures keeper in
    let Begins = StartsPeer k server asker peering keeper in
    any_feed _ _ _ (g.I.Input.feed c.args.input)
    (λ bytes. not_begun_told Refuses Begins contents SpellsPeer (PeerLine places) bytes before after r c.in-Err.refusal c.in-Err._keeper c.in-Err.ensures.refused c.put_refused.ensures.written c.put_refused.ensures.status)
    (λ bytes. no_start_followed contents before after Refuses Begins SpellsPeer (PeerLine places) bytes r c.in-Err.refusal c.in-Err._keeper c.in-Err.ensures.refused c.put_refused.ensures.written c.put_refused.ensures.status)
    (ends_two r c.put_refused.ensures.status)
