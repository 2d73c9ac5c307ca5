-- How the code is seen: what each call of a table does.
use Rattle.std.specs.Prelude.{◌≡◌, ◌≢◌, ◌^◌, ◌-◌, ℕ, List, Bool, true, false, Option, Some, None, slice_get, codes}
use Rattle.osc_message.specs.Slots.{IsAt, IsFreePlace, NonePasses}
use Rattle.osc_message.specs.Sending.{Sending, again, first_wait_of, is_awaited, is_for, step, stopped}
use Rattle.osc_message.specs.Table.{Begins, Ends, IsIdle, Moves, Rests, Table}
use Rattle.osc_message.specs.declared.exchange.Awaits.TheVariants.{Response, Acknowledgement}
use Rattle.osc_message.specs.declared.exchange.Step.TheVariants as steps
use Rattle.osc_message.specs.declared.exchanges.Acknowledged.{Acknowledged}
use Rattle.osc_message.specs.declared.exchanges.Acknowledged.TheVariants as acknowledged
use Rattle.osc_message.specs.declared.exchanges.BeginError.{BeginError}
use Rattle.osc_message.specs.declared.exchanges.BeginError.TheVariants as errors
use Rattle.osc_message.specs.declared.exchanges.Call.{Call}
use Rattle.osc_message.specs.declared.exchanges.Outgoing.{Outgoing}
use Rattle.osc_message.specs.declared.exchanges.Polled.{Polled}
use Rattle.osc_message.specs.declared.exchanges.Polled.TheVariants as polled

-- how a refusal prints (own rule)
abbrev pub begin_error_text : BeginError → List ℕ
begin_error_text errors.Busy = codes "Busy"
begin_error_text errors.Full = codes "Full"
begin_error_text errors.CallsExhausted = codes "CallsExhausted"

-- a message as it is when it is sent first (how the code is seen)
abbrev pub first : Outgoing → ℕ → ℕ → ℕ → Sending
first m call now random = record { call = call; to = m.to.items; message_id = m.message_id; token = m.token.items; awaits = m.awaits; begun = now; last = now; first_wait = first_wait_of random; resent = 0; acked = false }

-- a message is on its way by this call (how the code is seen)
abbrev pub BeginsBy : Table → Table → Outgoing → ℕ → ℕ → Call → Type 0
BeginsBy old new m now random call = Begins old new call.place (first m call.number now random)

-- no place is free (how the code is seen)
abbrev pub IsFull : Table → Type 0
IsFull t = (i : ℕ) → slice_get t.places i ≡ Some None → ⊥

-- the first reason for which a message to this address can't be sent: its address is busy; no place is free; no number is left (own rule: the order)
abbrev pub IsFirstReason : Table → List ℕ → BeginError → Type 0
IsFirstReason t to errors.Busy = IsIdle t to → ⊥
IsFirstReason t to errors.Full = IsIdle t to × IsFull t
IsFirstReason t to errors.CallsExhausted = IsIdle t to × (IsFull t → ⊥) × (t.next_call ≡ 2 ^ 64 - 1)

-- a message to this address can be sent: its address is idle, this place is free, and a number is left (how the code is seen)
abbrev pub MayBegin : Table → List ℕ → ℕ → Type 0
MayBegin t to place = IsIdle t to × IsFreePlace t.places (Some place) × (t.next_call ≢ 2 ^ 64 - 1)

-- the message of this call, which passes (how the code is seen)
abbrev pub IsOf : Table → (Sending → Bool) → Call → Sending → Type 0
IsOf t passes call x = IsAt t.places call.place x × (passes x ≡ true) × (x.call ≡ call.number)

-- what an empty ACK does: nothing where it is for no message; a message that awaits a response isn't sent again, and any other has arrived
-- (RFC 7252, 4.2)
abbrev pub Acknowledges : Table → Table → List ℕ → ℕ → Acknowledged → Type 0
Acknowledges old new from message_id acknowledged.Nothing = (new ≡ old) × NonePasses (is_for from message_id) old.places
Acknowledges old new from message_id (acknowledged.Stopped call) = (x : Sending) × IsOf old (is_for from message_id) call x × (x.awaits ≡ Response)
    × Moves old new call.place x (stopped x)
Acknowledges old new from message_id (acknowledged.Ended call) = (x : Sending) × IsOf old (is_for from message_id) call x × (x.awaits ≡ Acknowledgement)
    × Ends old new call.place x

-- the call that an ACK or RST is for (RFC 7252, 4.2)
abbrev pub CallsFor : Table → List ℕ → ℕ → Option Call → Type 0
CallsFor t from message_id None = NonePasses (is_for from message_id) t.places
CallsFor t from message_id (Some call) = (x : Sending) × IsOf t (is_for from message_id) call x

-- what an RST does: it ends the message that it is for (RFC 7252, 4.2)
abbrev pub Resets : Table → Table → List ℕ → ℕ → Option Call → Type 0
Resets old new from message_id None = (new ≡ old) × NonePasses (is_for from message_id) old.places
Resets old new from message_id (Some call) = (x : Sending) × IsOf old (is_for from message_id) call x × Ends old new call.place x

-- the call that a response is for (RFC 7252, 5.3.2)
abbrev pub AwaitsBy : Table → List ℕ → List ℕ → Option ℕ → Option Call → Type 0
AwaitsBy t from token acked None = NonePasses (is_awaited from token acked) t.places
AwaitsBy t from token acked (Some call) = (x : Sending) × IsOf t (is_awaited from token acked) call x

-- the message of this call is on its way (how the code is seen)
abbrev pub IsOnItsWay : Table → Call → Type 0
IsOnItsWay t call = (x : Sending) × IsAt t.places call.place x × (x.call ≡ call.number)

-- a call is ended, if its message is on its way (how the code is seen)
abbrev pub EndsCall : Table → Table → Call → Bool → Type 0
EndsCall old new call false = (new ≡ old) × (IsOnItsWay old call → ⊥)
EndsCall old new call true = (x : Sending) × IsAt old.places call.place x × (x.call ≡ call.number) × Ends old new call.place x

-- what a poll does: nothing where nothing is to be done, or one thing, where it is to be done (RFC 7252, 4.2)
abbrev pub Polls : Table → Table → ℕ → Polled → Type 0
Polls old new now polled.Rest = (new ≡ old) × Rests old.places now
Polls old new now (polled.Resend call) = (x : Sending) × (step x now ≡ steps.Resend) × (x.call ≡ call.number) × Moves old new call.place x (again x now)
Polls old new now (polled.Failed call) = (x : Sending) × (step x now ≡ steps.GiveUp) × (x.call ≡ call.number) × Ends old new call.place x
