-- To be believed: what is sent for a message that came, and when (RFC 7252, 4.5, 4.8.2 and 5.2). Moments and times are in milliseconds; x is a
-- message that came, now the present moment.
use Rattle.std.specs.Prelude.{ℕ, ◌-◌, ◌==◌, ◌&&◌, List, Bool, true, false, Option, Some, None, if◌then◌else◌, nat_le, nat_lt, bytes_eq}
use Rattle.osc_message.specs.declared.arrival.Again.{Again}
use Rattle.osc_message.specs.declared.arrival.Again.TheVariants as again
use Rattle.osc_message.specs.declared.arrival.Stage.{Stage}
use Rattle.osc_message.specs.declared.arrival.Stage.TheVariants.{Waiting, Acknowledged, Answered, Done}
use Rattle.osc_message.specs.declared.arrival.Way.{Way}
use Rattle.osc_message.specs.declared.arrival.Way.TheVariants.{InAck, Separate}

-- a message that came: its number among all, from whom, its Message ID, whether it is a CON, when it came, and what was sent for it (RFC 7252, 4.5)
pub record Heard : Type 0 where
  pub number : ℕ
  pub from : List ℕ
  pub message_id : ℕ
  pub confirmable : Bool
  pub moment : ℕ
  pub stage : Stage

-- how long it may come again: EXCHANGE_LIFETIME for a CON, NON_LIFETIME for a NON (RFC 7252, 4.5 and 4.8.2)
abbrev pub lifetime : Heard → ℕ
lifetime x = if x.confirmable then 247000 else 145000

-- a CON or NON with this Message ID from this address is the message, come again (RFC 7252, 4.5)
abbrev pub is_same : List ℕ → ℕ → ℕ → Heard → Bool
is_same from message_id now x = bytes_eq x.from from && (x.message_id == message_id) && nat_lt (now - x.moment) (lifetime x)

-- what a CON gets that comes again: what was sent for it (RFC 7252, 4.5)
abbrev pub again_at : Stage → Again
again_at Waiting = again.Nothing
again_at Acknowledged = again.Acknowledge
again_at Answered = again.Resend
again_at Done = again.Acknowledge

-- what a message gets that comes again; a NON gets nothing (RFC 7252, 4.5)
abbrev pub again_of : Heard → Again
again_of x = if x.confirmable then again_at x.stage else again.Nothing

-- how an answer is sent: in the ACK while none was sent, else in a message of its own; there is one answer (RFC 7252, 5.2)
abbrev pub way_at : Stage → Bool → Option Way
way_at Waiting true = Some InAck
way_at Waiting false = Some Separate
way_at Acknowledged confirmable = Some Separate
way_at Answered confirmable = None
way_at Done confirmable = None

-- how an answer to the message is sent (RFC 7252, 5.2)
abbrev pub way_of : Heard → Option Way
way_of x = way_at x.stage x.confirmable

-- nothing was sent yet (RFC 7252, 5.2)
abbrev pub is_waiting : Stage → Bool
is_waiting Waiting = true
is_waiting stage = false

-- all was sent for the message (RFC 7252, 5.2)
abbrev pub is_done_at : Stage → Bool
is_done_at Answered = true
is_done_at Done = true
is_done_at stage = false

-- all was sent for the message (RFC 7252, 5.2)
abbrev pub is_done : Heard → Bool
is_done x = is_done_at x.stage

-- the ACK of a CON is sent by itself where the answer takes long (RFC 7252, 5.2.2; own rule: 1,500 ms)
abbrev pub is_due : ℕ → Heard → Bool
is_due now x = x.confirmable && is_waiting x.stage && nat_le 1500 (now - x.moment)

-- the message, its ACK sent by itself (RFC 7252, 5.2.2)
abbrev pub acknowledged : Heard → Heard
acknowledged x = record x { stage = Acknowledged }

-- what an answer makes of it (RFC 7252, 5.2)
abbrev pub answered_at : Stage → Bool → Stage
answered_at Waiting true = Answered
answered_at stage confirmable = Done

-- the message, answered (RFC 7252, 5.2)
abbrev pub answered : Heard → Heard
answered x = record x { stage = answered_at x.stage x.confirmable }
