use Rattle.std.proofs.Common.{[], map, vec_len}
use Rattle.osc_peer_runs.specs.PeerRuns.{RunStep, peer_state}
use Rattle.osc_text.specs.EntryLines.{entry_line}
use Rattle.osc_text.specs.PeerLog.{peer_entry_text}
use Rattle.osc_text.specs.PeerSeen.{IsRoomyPeer, peer_seen}
use Rattle.osc_text.proofs.KeptPrinting.{run_is}
use Rattle.osc_text.proofs.LogLines.{ran_whole}
use Rattle.osc_text.proofs.PeerPrinting.{peer_steps}
use Rattle.osc_text.proofs.peering.KeptPeerEnd.print.Goals as goal

pub returns : goal.returns
returns g c =
    let log = c.run_kept_peer-ran.new.log in
    record {
      n = vec_len log;
      lines = map (λ x. entry_line (peer_entry_text x)) log.items;
      served = λ h k a is.
          let (m, l, us, last, run, after) = c.run_kept_peer-ran.ensures.run h k a in
          run_is (RunStep g.row.N) peer_seen IsRoomyPeer peer_entry_text (peer_state h k c.args.self.now.source []) _ _ log.items is (peer_steps g.row.N _ _ _ log.items run);
      written = rw (← c.as_slice.ensures.value) c.write_log.ensures.written;
      whole = ran_whole c.run_kept_peer-ran.result _ (vec_len log) _ c.run_kept_peer-ran.ensures.all c.write_log.ensures.whole;
    }
