-- To be believed: how the entries of a server's log print, as the code has them (own rule: the words).
use Rattle.std.specs.Prelude.{ℕ, List, ◌++◌, Ok, Err, codes}
use Rattle.osc_context.specs.Views.{number_of}
use Rattle.osc_protect.specs.Views.{message_of}
use Rattle.osc_life.specs.Text.{reply_error_text, restart_error_text}
use Rattle.osc_life.specs.declared.seen.Seen.{Seen}
use Rattle.osc_life.specs.declared.seen.Seen.TheVariants as seen
use Rattle.osc_endpoint.specs.declared.server_event.ServerEntry.{ServerEntry}
use Rattle.osc_endpoint.specs.declared.server_event.ServerEntry.TheVariants as entries
use Rattle.osc_text.specs.EntryLines.{entry_line, fault_text}
use Rattle.osc_text.specs.Lines.{bytes_text}
use Rattle.osc_text.specs.ServerLines.{delivery_text, dropped_text, reply_text}

-- what the server made of a datagram, as it prints (how the code is seen)
abbrev pub seen_text : Seen → List ℕ
seen_text (seen.Malformed e) = codes "malformed " ++ fault_text e.fault e.place
seen_text seen.NotRequest = codes "not-request"
seen_text seen.Plain = codes "plain"
seen_text seen.Undecodable = codes "undecodable"
seen_text seen.NoContext = codes "no-context"
seen_text seen.Replay = codes "replay"
seen_text seen.BadTag = codes "bad-tag"
seen_text seen.BadInner = codes "bad-inner"
seen_text (seen.Challenge echo issued) = codes "challenge " ++ bytes_text echo
seen_text seen.SequenceExhausted = codes "exhausted"
seen_text seen.KeeperFailed = codes "keeper-failed"
seen_text (seen.Deliver opened context number) = delivery_text context (number_of number) (message_of opened)

-- an entry, as it prints (how the code is seen)
abbrev pub entry_text : ServerEntry → List ℕ
entry_text (entries.Took x reply) = seen_text x ++ reply_text reply.now
entry_text (entries.Replied (Ok sealed)) = codes "replied " ++ bytes_text sealed.datagram.now
entry_text (entries.Replied (Err e)) = codes "refused: " ++ reply_error_text e
entry_text entries.NoTicket = codes "no-ticket"
entry_text (entries.BadPlain e) = codes "bad-plain " ++ fault_text e.fault e.place
entry_text (entries.Dropped there) = dropped_text there
entry_text (entries.Restarted (Ok x)) = codes "restarted"
entry_text (entries.Restarted (Err e)) = codes "refused: " ++ restart_error_text e

-- the line of an entry (how the code is seen)
abbrev pub log_line : ServerEntry → List ℕ
log_line entry = entry_line (entry_text entry)
