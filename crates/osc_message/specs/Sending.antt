-- To be believed: when a confirmable message is sent again, and when it is given up (RFC 7252, 4.2 and 4.8). Moments and times are in
-- milliseconds; x is a message on its way, now the present moment.
use Rattle.std.specs.Prelude.{ℕ, ◌+◌, ◌-◌, ◌*◌, ◌^◌, ◌==◌, ◌&&◌, ◌%◌, List, [], ◌∷◌, Bool, true, false, if◌then◌else◌, nat_le, nat_lt, bytes_eq, not, Option, Some, None}
use Rattle.osc_message.specs.declared.exchange.Awaits.{Awaits}
use Rattle.osc_message.specs.declared.exchange.Awaits.TheVariants.{Response, Acknowledgement}
use Rattle.osc_message.specs.declared.exchange.Step.{Step}
use Rattle.osc_message.specs.declared.exchange.Step.TheVariants.{Rest, Resend, GiveUp}

-- a confirmable message on its way: which call sent it, to whom, what ends it, when it was first sent and when last, how long the first wait is, how
-- often it was sent again, and whether an ACK came (RFC 7252, 4.2)
pub record Sending : Type 0 where
  pub call : ℕ
  pub to : List ℕ
  pub message_id : ℕ
  pub token : List ℕ
  pub awaits : Awaits
  pub begun : ℕ
  pub last : ℕ
  pub first_wait : ℕ
  pub resent : ℕ
  pub acked : Bool

-- how long the first wait is: ACK_TIMEOUT, and up to half of it more, by chance (RFC 7252, 4.2 and 4.8: ACK_RANDOM_FACTOR)
abbrev pub first_wait_of : ℕ → ℕ
first_wait_of random = 2000 + random % 1001

-- how long the present wait is: the first one, doubled each time (RFC 7252, 4.2)
abbrev pub wait : Sending → ℕ
wait x = x.first_wait * 2 ^ x.resent

-- a message that no ACK came for is sent again each time its wait is over, MAX_RETRANSMIT (4) times, and given up after the wait behind the last
-- time (RFC 7252, 4.2 and 4.8); own rule: it is given up MAX_TRANSMIT_WAIT after it was first sent in any case, also where nobody asked in time, and
-- also where an ACK came and no response (RFC 7252, 4.2)
abbrev pub step : Sending → ℕ → Step
step x now =
    if nat_le 93000 (now - x.begun) then GiveUp
    else if x.acked then Rest
    else if nat_lt (now - x.last) (wait x) then Rest
    else if nat_lt x.resent 4 then Resend
    else GiveUp

-- the message, sent again at this moment (RFC 7252, 4.2)
abbrev pub again : Sending → ℕ → Sending
again x now = record x { last = now; resent = x.resent + 1 }

-- the message, for which an ACK came (RFC 7252, 4.2)
abbrev pub stopped : Sending → Sending
stopped x = record x { acked = true }

-- an ACK or RST with this Message ID from this address is for the message: it comes from where the message went, and has its Message ID
-- (RFC 7252, 4.2)
abbrev pub is_for : List ℕ → ℕ → Sending → Bool
is_for from message_id x = bytes_eq x.to from && (x.message_id == message_id)

-- a response is what ends the message (RFC 7252, 5.2)
abbrev pub awaits_response : Awaits → Bool
awaits_response Response = true
awaits_response Acknowledgement = false

-- the message went to this address, and no ACK came for it (RFC 7252, 4.7)
abbrev pub is_unacknowledged : List ℕ → Sending → Bool
is_unacknowledged to x = not x.acked && bytes_eq x.to to

-- a response in an ACK has the Message ID of the message, one in a message of its own may have any (RFC 7252, 5.3.2)
abbrev pub fits_ack : Option ℕ → ℕ → Bool
fits_ack None message_id = true
fits_ack (Some acked) message_id = message_id == acked

-- a response with this token from this address is for the message (RFC 7252, 5.3.2)
abbrev pub is_awaited : List ℕ → List ℕ → Option ℕ → Sending → Bool
is_awaited from token acked x = awaits_response x.awaits && fits_ack acked x.message_id && bytes_eq x.to from && bytes_eq x.token token

-- one of three values, by what is to be done (RFC 7252, 4.2)
abbrev pub by_step : {A : Type 0} → Step → A → A → A → A
by_step Rest rest resend give_up = rest
by_step Resend rest resend give_up = resend
by_step GiveUp rest resend give_up = give_up

-- the moments at which the message is sent again, asked about at these moments until it is given up (RFC 7252, 4.2)
abbrev pub resends : Sending → List ℕ → List ℕ
resends x [] = []
resends x (now ∷ later) = by_step (step x now) (resends x later) (now ∷ resends (again x now) later) []

-- whether it is given up, asked about at these moments (RFC 7252, 4.2)
abbrev pub is_given_up : Sending → List ℕ → Bool
is_given_up x [] = false
is_given_up x (now ∷ later) = by_step (step x now) (is_given_up x later) (is_given_up (again x now) later) true
