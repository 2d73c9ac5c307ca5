-- To be believed: how the entries of a client's log print, one per line (own rule: the words). number is the number of a request, own is
-- the Partial IV of a response, if it has one.
use Rattle.std.specs.Prelude.{ℕ, Bool, true, false, List, ◌++◌, Option, codes}
use Rattle.std.specs.Fmt.{decimal}
use Rattle.osc_coap.specs.Inner.{InnerParts}
use Rattle.osc_client.specs.ClientHistory.{Answer, Malformed, NotResponse, UnknownToken, Unprotected, Undecodable, BadTag, BadInner, Old, Notified, Deliver}
use Rattle.osc_text.specs.EntryLines.{entry_line, fault_text, message_text}
use Rattle.osc_text.specs.Lines.{bytes_text, number_text}

-- what a response says: number, own Partial IV or a dash if there is none, code, options and payload (own rule)
abbrev pub response_text : (number : ℕ) (own : Option ℕ) → InnerParts → List ℕ
response_text number own m = decimal number ++ (codes " " ++ (number_text own ++ (codes " " ++ message_text m)))

-- the text for the answer to a datagram (own rule)
abbrev pub answer_text : Answer → List ℕ
answer_text (Malformed fault place) = codes "malformed " ++ fault_text fault place
answer_text NotResponse = codes "not-response"
answer_text UnknownToken = codes "unknown-token"
answer_text Unprotected = codes "unprotected"
answer_text Undecodable = codes "undecodable"
answer_text (Notified received number) = codes "notified " ++ response_text number received.number received.message
answer_text (Deliver received number) = codes "deliver " ++ response_text number received.number received.message
answer_text BadTag = codes "bad-tag"
answer_text BadInner = codes "bad-inner"
answer_text Old = codes "old"

-- the line for the answer to a datagram (own rule)
abbrev pub answer_line : Answer → List ℕ
answer_line answer = entry_line (answer_text answer)

-- a sealed request: its number and its bytes (own rule)
abbrev pub sent_text : ℕ → List ℕ → List ℕ
sent_text number bytes = codes "sent " ++ (decimal number ++ (codes " " ++ bytes_text bytes))

-- the line for a sealed request (own rule)
abbrev pub sent_line : ℕ → List ℕ → List ℕ
sent_line number bytes = entry_line (sent_text number bytes)

-- whether a token was pending (own rule)
abbrev pub forgot_text : Bool → List ℕ
forgot_text true = codes "forgotten"
forgot_text false = codes "not-pending"

-- the line for a token that the client stops waiting for (own rule)
abbrev pub forgot_line : Bool → List ℕ
forgot_line was_pending = entry_line (forgot_text was_pending)
