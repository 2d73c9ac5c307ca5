-- How the code is seen: what the results of a server's calls show of its answers.
use Rattle.std.specs.Prelude.{ℕ, List, take, codes, Option, Some, None, Result, Ok, Err}
use Rattle.osc_life.specs.declared.ticket.Ticket.{Ticket}
use Rattle.osc_life.specs.declared.server_error.AddError.{AddError}
use Rattle.osc_life.specs.declared.server_error.ReplyError.{ReplyError}
use Rattle.osc_life.specs.ServerHistory as server
use Rattle.osc_life.specs.Text.{add_error_text}
use Rattle.osc_endpoint.specs.declared.add_refusal.AddRefusal.{AddRefusal}
use Rattle.osc_endpoint.specs.declared.add_refusal.AddRefusal.TheVariants.{Refused, SameSender}

-- the entry of an Add (how the code is seen)
abbrev pub added_entry : Result ℕ AddError → server.Entry
added_entry (Ok index) = server.Added index
added_entry (Err e) = server.NotAdded e

-- how a refusal to add a context prints (own rule)
abbrev pub add_refusal_text : AddRefusal → List ℕ
add_refusal_text (Refused e) = add_error_text e
add_refusal_text SameSender = codes "SameSender"

-- the entry of an addition; a refusal for the same Sender Key isn't an event of a server (how the code is seen)
abbrev pub entry_of_add : Result ℕ AddRefusal → Option server.Entry
entry_of_add (Ok index) = Some (server.Added index)
entry_of_add (Err (Refused e)) = Some (server.NotAdded e)
entry_of_add (Err SameSender) = None

-- the entry of a reply by the server, which returns the ticket of a refused reply (how the code is seen)
abbrev pub server_entry : Result ℕ (ReplyError × Ticket) → List ℕ → server.Entry
server_entry (Ok n) out = server.Replied (take n out)
server_entry (Err e) out = server.NotReplied e.0
