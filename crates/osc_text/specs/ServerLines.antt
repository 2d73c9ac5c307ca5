-- To be believed: how the entries of a server's log print, one per line (own rule: the words). context is the index of a context, number is
-- the number of a request.
use Rattle.std.specs.Prelude.{ℕ, Bool, true, false, List, [], ◌∷◌, ◌++◌, codes}
use Rattle.std.specs.Fmt.{decimal}
use Rattle.osc_coap.specs.Inner.{InnerParts}
use Rattle.osc_life.specs.ServerHistory.{Answer, Malformed, NotRequest, Plain, Undecodable, NoContext, Replay, BadTag, BadInner, Challenge, SequenceExhausted, Deliver}
use Rattle.osc_text.specs.EntryLines.{entry_line, fault_text, message_text}
use Rattle.osc_text.specs.Lines.{bytes_text}

-- a reply after its entry: one space and the bytes, or nothing if there is no reply (own rule)
abbrev pub reply_text : List ℕ → List ℕ
reply_text [] = []
reply_text (b ∷ bytes) = codes " " ++ bytes_text (b ∷ bytes)

-- a delivery: context, number, code, options and payload (own rule)
abbrev pub delivery_text : (context number : ℕ) → InnerParts → List ℕ
delivery_text context number m = codes "deliver " ++ (decimal context ++ (codes " " ++ (decimal number ++ (codes " " ++ message_text m))))

-- the text for the answer to a datagram (own rule)
abbrev pub answer_text : Answer → List ℕ
answer_text (Malformed fault place) = codes "malformed " ++ fault_text fault place
answer_text NotRequest = codes "not-request"
answer_text Plain = codes "plain"
answer_text Undecodable = codes "undecodable"
answer_text NoContext = codes "no-context"
answer_text Replay = codes "replay"
answer_text BadTag = codes "bad-tag"
answer_text (BadInner context number) = codes "bad-inner"
answer_text (Challenge context number echo issued) = codes "challenge " ++ bytes_text echo
answer_text SequenceExhausted = codes "exhausted"
answer_text (Deliver received ticket) = delivery_text ticket.context ticket.number received.message

-- the line for the answer to a datagram, and for its reply (own rule)
abbrev pub took_line : Answer → List ℕ → List ℕ
took_line answer reply = entry_line (answer_text answer ++ reply_text reply)

-- the line for a sealed reply or notification (own rule)
abbrev pub replied_line : List ℕ → List ℕ
replied_line bytes = entry_line (codes "replied " ++ bytes_text bytes)

-- the line for a reply or a notification to an event that has no ticket left (own rule)
abbrev pub no_ticket_line : List ℕ
no_ticket_line = entry_line (codes "no-ticket")

-- whether there was a ticket to drop (own rule)
abbrev pub dropped_text : Bool → List ℕ
dropped_text true = codes "dropped"
dropped_text false = codes "no-ticket"

-- the line for a ticket that is dropped (own rule)
abbrev pub dropped_line : Bool → List ℕ
dropped_line there = entry_line (dropped_text there)
