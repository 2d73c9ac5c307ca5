-- How the code is seen: what a step does to one place.
use Rattle.std.specs.Prelude.{◌≡◌, ◌<◌, ℕ, Option, Some, None}
use Rattle.std.specs.Option.{option_map}
use Rattle.osc_message.specs.Sending.{Sending, again, stopped}
use Rattle.osc_message.specs.declared.exchange.Awaits.TheVariants.{Response, Acknowledgement}
use Rattle.osc_message.specs.declared.place.AckedAt.{AckedAt}
use Rattle.osc_message.specs.declared.place.AckedAt.TheVariants as acked

-- the number of the call whose message is at a place (how the code is seen)
abbrev pub call_at : Option Sending → Option ℕ
call_at = option_map (λ x. x.call)

-- the message may be sent again (how the code is seen)
abbrev pub MaySendAgain : Option Sending → Type 0
MaySendAgain None = Unit {0}
MaySendAgain (Some x) = x.resent < 4

-- the place, its message sent again (how the code is seen)
abbrev pub sent_again_at : Option Sending → ℕ → Option Sending
sent_again_at None now = None
sent_again_at (Some x) now = Some (again x now)

-- what an ACK does to a place (how the code is seen)
abbrev pub AcknowledgesAt : Option Sending → Option Sending → AckedAt → Type 0
AcknowledgesAt old new acked.Nothing = (old ≡ None) × (new ≡ None)
AcknowledgesAt old new (acked.Stopped call) = (x : Sending) × (old ≡ Some x) × (x.call ≡ call) × (x.awaits ≡ Response) × (new ≡ Some (stopped x))
AcknowledgesAt old new (acked.Ended call) = (x : Sending) × (old ≡ Some x) × (x.call ≡ call) × (x.awaits ≡ Acknowledgement) × (new ≡ None)
