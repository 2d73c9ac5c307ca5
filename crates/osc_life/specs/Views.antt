-- How the code is seen: what tickets, outcomes and results show of a server's answers.
use Rattle.std.specs.Prelude.{◌≡◌, ℕ, List, take, Option, Some, None, Result, Ok, Err}
use Rattle.osc_coap.specs.Inner.{InnerParts}
use Rattle.osc_context.specs.Views.{number_of}
use Rattle.osc_protect.specs.Views.{message_of}
use Rattle.osc_life.specs.declared.ticket.Ticket.{Ticket}
use Rattle.osc_life.specs.declared.outcome.Outcome.{Outcome}
use Rattle.osc_life.specs.declared.outcome.Outcome.TheVariants as outcomes
use Rattle.osc_life.specs.declared.server_error.ReplyError.{ReplyError}
use Rattle.osc_life.specs.declared.server_error.ReplaceError.{ReplaceError}
use Rattle.osc_life.specs.declared.server_error.RestartError.{RestartError}
use Rattle.osc_life.specs.declared.server_error.SkipError.{SkipError}
use Rattle.osc_life.specs.declared.seen.Seen.{Seen}
use Rattle.osc_life.specs.declared.seen.Seen.TheVariants as seen
use Rattle.osc_life.specs.ServerHistory as server
use Rattle.osc_observe.specs.Views.{received_of}

-- what a ticket holds (how the code is seen)
abbrev pub values_of : Ticket → server.TicketValues
values_of t = record { context = t.context; life = t.life; number = number_of t.number; kind = t.asker.kind; message_id = t.asker.message_id; token = t.asker.token.items; observes = t.asker.observes }

-- the outcome shows this answer: all of it except the context and number of a bad plaintext and of a challenge (how the code is seen)
abbrev pub Shows : Outcome → server.Answer → Type 0
Shows (outcomes.Malformed e) (server.Malformed fault place) = (e.fault ≡ fault) × (e.place ≡ place)
Shows outcomes.NotRequest server.NotRequest = Unit {0}
Shows outcomes.Plain server.Plain = Unit {0}
Shows outcomes.Undecodable server.Undecodable = Unit {0}
Shows outcomes.NoContext server.NoContext = Unit {0}
Shows outcomes.Replay server.Replay = Unit {0}
Shows outcomes.BadTag server.BadTag = Unit {0}
Shows outcomes.BadInner (server.BadInner i n) = Unit {0}
Shows (outcomes.Challenge echo issued) (server.Challenge i n given moment) = (echo ≡ given) × (issued ≡ moment)
Shows outcomes.SequenceExhausted server.SequenceExhausted = Unit {0}
Shows (outcomes.Deliver o t) (server.Deliver received ticket) = (received_of o ≡ received) × (values_of t ≡ ticket)
Shows outcome answer = ⊥

-- the context, number and message of an outcome, if it is a delivery (how the code is seen)
abbrev pub delivery_of : Outcome → Option (ℕ × ℕ × InnerParts)
delivery_of (outcomes.Deliver o t) = Some (t.context, number_of t.number, message_of o)
delivery_of outcome = None

-- the same for what a log shows of an answer (how the code is seen)
abbrev pub seen_delivery : Seen → Option (ℕ × ℕ × InnerParts)
seen_delivery (seen.Deliver opened context number) = Some (context, number_of number, message_of opened)
seen_delivery x = None

-- the entry of a Restart (how the code is seen)
abbrev pub restarted_entry : Result Unit RestartError → server.Entry
restarted_entry (Ok x) = server.Restarted
restarted_entry (Err e) = server.NotRestarted e

-- the entry of a Replace (how the code is seen)
abbrev pub replaced_entry : Result Unit ReplaceError → server.Entry
replaced_entry (Ok x) = server.Replaced
replaced_entry (Err e) = server.NotReplaced e

-- the entry of a Skip (how the code is seen)
abbrev pub skipped_entry : Result Unit SkipError → server.Entry
skipped_entry (Ok x) = server.Skipped
skipped_entry (Err e) = server.NotSkipped e

-- the entry of a reply or a notification whose text stands at the front of the buffer (how the code is seen)
abbrev pub reply_entry : Result ℕ ReplyError → List ℕ → server.Entry
reply_entry (Ok n) out = server.Replied (take n out)
reply_entry (Err e) out = server.NotReplied e
