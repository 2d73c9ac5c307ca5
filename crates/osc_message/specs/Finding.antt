-- How the code is seen: what a search through the places finds.
use Rattle.std.specs.Prelude.{◌≡◌, ◌==◌, ℕ, List, Bool, Option, Some, None}
use Rattle.osc_message.specs.Sending.{Sending, step}
use Rattle.osc_message.specs.Slots.{IsAt}
use Rattle.osc_message.specs.Table.{Rests}
use Rattle.osc_message.specs.declared.exchange.Step.{Step}
use Rattle.osc_message.specs.declared.exchange.Step.TheVariants as steps
use Rattle.osc_message.specs.declared.places.Found.{Found}
use Rattle.osc_message.specs.declared.places.Found.TheVariants as found

-- the message is that of the call with this number (how the code is seen)
abbrev pub is_of_call : ℕ → Sending → Bool
is_of_call number x = x.call == number

-- what is to be done about the message at a place, if there is one (how the code is seen)
abbrev pub step_at_place : Option Sending → ℕ → Step
step_at_place None now = steps.Rest
step_at_place (Some x) now = step x now

-- nothing is to be done, or something about the message at a place (how the code is seen)
abbrev pub Finds : List (Option Sending) → ℕ → Found → Type 0
Finds places now found.Rest = Rests places now
Finds places now (found.Resend place) = (x : Sending) × IsAt places place x × (step x now ≡ steps.Resend)
Finds places now (found.GiveUp place) = (x : Sending) × IsAt places place x × (step x now ≡ steps.GiveUp)
