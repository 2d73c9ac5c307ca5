-- To be believed: how the entries of kept ends print, one per line (own rule: the words)
use Rattle.std.specs.Prelude.{ℕ, List, ◌++◌, Result, Ok, Err, codes}
use Rattle.osc_kept_ends.specs.Views.{kept_error_text}
use Rattle.osc_kept_ends.specs.declared.kept_error.KeptError.{KeptError}
use Rattle.osc_kept_runs.specs.declared.kept_event.KeptClientEntry.{KeptClientEntry}
use Rattle.osc_kept_runs.specs.declared.kept_event.KeptClientEntry.TheVariants.{Asked}
use Rattle.osc_kept_runs.specs.declared.kept_event.KeptClientEntry.TheVariants as client
use Rattle.osc_kept_runs.specs.declared.kept_event.KeptServerEntry.{KeptServerEntry}
use Rattle.osc_kept_runs.specs.declared.kept_event.KeptServerEntry.TheVariants.{Served}
use Rattle.osc_kept_runs.specs.declared.kept_event.KeptServerEntry.TheVariants as server
use Rattle.osc_text.specs.ClientLog.{asked_text}
use Rattle.osc_text.specs.ServerLog.{entry_text}

-- whether an end was restarted: that word, or the name of the refusal (own rule)
abbrev pub restart_text : {T : Type 0} → Result T KeptError → List ℕ
restart_text (Ok x) = codes "restarted"
restart_text (Err e) = codes "refused: " ++ kept_error_text e

-- an entry of a kept server: printed as a server's entry, or whether the server was restarted (own rule)
abbrev pub kept_text : KeptServerEntry → List ℕ
kept_text (Served entry) = entry_text entry
kept_text (server.Restarted r) = restart_text r

-- an entry of a kept client: printed as a client's entry, or whether the client was restarted (own rule)
abbrev pub kept_asked_text : KeptClientEntry → List ℕ
kept_asked_text (Asked entry) = asked_text entry
kept_asked_text (client.Restarted r) = restart_text r
