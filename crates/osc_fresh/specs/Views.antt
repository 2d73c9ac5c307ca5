-- How the code is seen: the last challenge of a server's wishes, the Echo value that a client heard last, what became of its requests, and what a budget counted.
use Rattle.std.specs.Prelude.{◌≡◌, ℕ, List, Option, None, Some, Result, Ok, Err, take}
use Rattle.std.specs.Option.{option_map}
use Rattle.osc_client.specs.ClientHistory as client
use Rattle.osc_fresh.specs.declared.budget.Budget.{Budget}
use Rattle.osc_fresh.specs.declared.budget.Period.{Period}
use Rattle.osc_fresh.specs.declared.echo_request_error.EchoRequestError.{EchoRequestError}
use Rattle.osc_fresh.specs.declared.echo_request_error.EchoRequestError.TheVariants as refusals
use Rattle.osc_fresh.specs.declared.heard_echo.HeardEcho.{HeardEcho}
use Rattle.osc_fresh.specs.declared.wishes.Wishes.{Wishes}
use Rattle.osc_fresh.specs.Budgeting.{Periods, periods}
use Rattle.osc_fresh.specs.Wishing.{Asked}

-- the last challenge, if there was one (how the code is seen)
abbrev pub last_of : Wishes → Option Asked
last_of w = option_map (λ c. record { number = c.number; moment = c.moment }) w.last

-- the Echo value that was heard last, if there was one (how the code is seen)
abbrev pub heard_of : HeardEcho → Option (List ℕ)
heard_of h = option_map (λ v. v.items) h.value

-- the entry of a request whose text stands at the front of the buffer; none if there was no room for the Echo value, since the client wasn't asked then
-- (how the code is seen)
abbrev pub echo_entry : Result ℕ EchoRequestError → List ℕ → Option client.Entry
echo_entry (Ok n) out = Some (client.Sent (take n out))
echo_entry (Err refusals.NoRoomForEcho) out = None
echo_entry (Err (refusals.Refused e)) out = Some (client.NotSent e)

-- the present period is as it is kept (how the code is seen)
abbrev pub IsPeriod : Option Period → Option Periods → Type 0
IsPeriod None None = Unit {0}
IsPeriod (Some x) (Some p) = (x.since ≡ p.since) × (x.used ≡ p.used)
IsPeriod x p = ⊥

-- the budget counted the numbers that were wanted at these moments, newest first (how the code is seen)
abbrev pub Counts : Budget → List ℕ → Type 0
Counts b ts = IsPeriod b.period (periods b.most ts)
