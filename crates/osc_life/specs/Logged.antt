-- To be believed: what the log of a run shows of an answer to a datagram, and the ticket that an answer gives.
use Rattle.std.specs.Prelude.{◌≡◌, Option, Some, None}
use Rattle.osc_context.specs.Views.{number_of}
use Rattle.osc_life.specs.declared.seen.Seen.{Seen}
use Rattle.osc_life.specs.declared.seen.Seen.TheVariants as seen
use Rattle.osc_life.specs.ServerHistory.{Answer, TicketValues, Malformed, NotRequest, Plain, Undecodable, NoContext, Replay, BadTag, BadInner, Challenge, SequenceExhausted, Deliver}
use Rattle.osc_observe.specs.Views.{received_of}

-- what the log shows of an answer: a delivery without its ticket (how the code is seen)
abbrev pub Logs : Seen → Answer → Type 0
Logs (seen.Malformed e) (Malformed fault place) = (e.fault ≡ fault) × (e.place ≡ place)
Logs seen.NotRequest NotRequest = Unit {0}
Logs seen.Plain Plain = Unit {0}
Logs seen.Undecodable Undecodable = Unit {0}
Logs seen.NoContext NoContext = Unit {0}
Logs seen.Replay Replay = Unit {0}
Logs seen.BadTag BadTag = Unit {0}
Logs seen.BadInner (BadInner i n) = Unit {0}
Logs (seen.Challenge echo issued) (Challenge i n given moment) = (echo ≡ given) × (issued ≡ moment)
Logs seen.SequenceExhausted SequenceExhausted = Unit {0}
Logs (seen.Deliver opened context number) (Deliver received ticket) = (received_of opened ≡ received) × (context ≡ ticket.context) × (number_of number ≡ ticket.number)
Logs x answer = ⊥

-- the ticket that an answer gives, if it gives one (own rule)
abbrev pub ticket_of : Answer → Option TicketValues
ticket_of (Deliver received ticket) = Some ticket
ticket_of answer = None
