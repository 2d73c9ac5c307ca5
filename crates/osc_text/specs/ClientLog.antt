-- To be believed: how the entries of a client's log print, as the code has them (own rule: the words).
use Rattle.std.specs.Prelude.{ℕ, List, ◌++◌, codes}
use Rattle.osc_context.specs.Views.{number_of}
use Rattle.osc_protect.specs.Views.{message_of, opened_number}
use Rattle.osc_client.specs.Text.{request_error_text}
use Rattle.osc_endpoint.specs.declared.client_event.ClientEntry.{ClientEntry}
use Rattle.osc_endpoint.specs.declared.client_event.ClientEntry.TheVariants as entries
use Rattle.osc_client.specs.declared.client_outcome.ClientOutcome.{ClientOutcome}
use Rattle.osc_client.specs.declared.client_outcome.ClientOutcome.TheVariants as outcomes
use Rattle.osc_text.specs.ClientLines.{forgot_text, response_text, sent_text}
use Rattle.osc_text.specs.EntryLines.{entry_line, fault_text}

-- what the client made of a datagram, as it prints (how the code is seen)
abbrev pub outcome_text : ClientOutcome → List ℕ
outcome_text (outcomes.Malformed e) = codes "malformed " ++ fault_text e.fault e.place
outcome_text outcomes.NotResponse = codes "not-response"
outcome_text outcomes.UnknownToken = codes "unknown-token"
outcome_text outcomes.Unprotected = codes "unprotected"
outcome_text outcomes.Undecodable = codes "undecodable"
outcome_text (outcomes.Notified opened number) = codes "notified " ++ response_text (number_of number) (opened_number opened) (message_of opened)
outcome_text (outcomes.Deliver opened number) = codes "deliver " ++ response_text (number_of number) (opened_number opened) (message_of opened)
outcome_text outcomes.BadTag = codes "bad-tag"
outcome_text outcomes.BadInner = codes "bad-inner"
outcome_text outcomes.Old = codes "old"

-- an entry, as it prints (how the code is seen)
abbrev pub asked_text : ClientEntry → List ℕ
asked_text (entries.Sent number datagram) = sent_text (number_of number) datagram.now
asked_text (entries.NotSent e) = codes "refused: " ++ request_error_text e
asked_text (entries.BadPlain e) = codes "bad-plain " ++ fault_text e.fault e.place
asked_text (entries.Took outcome) = outcome_text outcome
asked_text (entries.Forgot was_pending) = forgot_text was_pending
asked_text entries.Restarted = codes "restarted"

-- the line of an entry (how the code is seen)
abbrev pub asked_line : ClientEntry → List ℕ
asked_line entry = entry_line (asked_text entry)
