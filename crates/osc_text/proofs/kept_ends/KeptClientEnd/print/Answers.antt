use Rattle.std.proofs.Common.{map, vec_len}
use Rattle.osc_kept_runs.specs.KeptRuns.{ClientStep, client_state}
use Rattle.osc_text.specs.EntryLines.{entry_line}
use Rattle.osc_text.specs.KeptLog.{kept_asked_text}
use Rattle.osc_text.specs.KeptSeen.{IsRoomyAsked, kept_asked_seen}
use Rattle.osc_text.proofs.KeptPrinting.{run_is}
use Rattle.osc_text.proofs.LogLines.{ran_whole}
use Rattle.osc_text.proofs.kept_ends.KeptClientEnd.print.Goals as goal

pub returns : goal.returns
returns g c =
    let log = c.run_kept_client-ran.new.log in
    record {
      n = vec_len log;
      lines = map (λ x. entry_line (kept_asked_text x)) log.items;
      served = λ h a is. let (k, run, after) = c.run_kept_client-ran.ensures.run h a in run_is (ClientStep g.row.N) kept_asked_seen IsRoomyAsked kept_asked_text (client_state h c.args.self.now.source) _ _ log.items is run;
      written = rw (← c.as_slice.ensures.value) c.write_log.ensures.written;
      whole = ran_whole c.run_kept_client-ran.result _ (vec_len log) _ c.run_kept_client-ran.ensures.all c.write_log.ensures.whole;
    }
