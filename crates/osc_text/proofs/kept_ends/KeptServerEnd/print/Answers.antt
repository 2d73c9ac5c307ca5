use Rattle.std.proofs.Common.{[], map, vec_len}
use Rattle.osc_kept_runs.specs.KeptRuns.{ServerStep, server_state}
use Rattle.osc_text.specs.EntryLines.{entry_line}
use Rattle.osc_text.specs.KeptLog.{kept_text}
use Rattle.osc_text.specs.KeptSeen.{IsRoomy, kept_seen}
use Rattle.osc_text.proofs.KeptPrinting.{run_is}
use Rattle.osc_text.proofs.LogLines.{ran_whole}
use Rattle.osc_text.proofs.kept_ends.KeptServerEnd.print.Goals as goal

pub returns : goal.returns
returns g c =
    let log = c.run_kept_server-ran.new.log in
    record {
      n = vec_len log;
      lines = map (λ x. entry_line (kept_text x)) log.items;
      served = λ h a is. let (k, us, run, after) = c.run_kept_server-ran.ensures.run h a in run_is ServerStep kept_seen IsRoomy kept_text (server_state h c.args.self.now.source []) _ _ log.items is run;
      written = rw (← c.as_slice.ensures.value) c.write_log.ensures.written;
      whole = ran_whole c.run_kept_server-ran.result _ (vec_len log) _ c.run_kept_server-ran.ensures.all c.write_log.ensures.whole;
    }
