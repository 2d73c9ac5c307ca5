-- How the code is seen: the numbers of an end, given by its keeper's floor, its Numbers and the number in hand.
use Rattle.std.specs.Prelude.{◌≡◌, ◌⊎◌, ℕ, ◌+◌, List, Option, None, codes}
use Rattle.std.specs.Option.{ForSome, option_map}
use Rattle.osc_context.specs.Views.{limit_of, next_of, number_of}
use Rattle.osc_context.specs.declared.numbers.Numbers.{Numbers}
use Rattle.osc_context.specs.declared.numbers.NumbersError.{NumbersError}
use Rattle.osc_context.specs.declared.numbers.NumbersError.TheVariants as numbers
use Rattle.osc_context.specs.declared.partial_iv.Piv.{Piv}
use Rattle.osc_kept_ends.specs.declared.kept_error.KeptError.{KeptError}
use Rattle.osc_kept_ends.specs.declared.kept_error.KeptError.TheVariants.{KeeperFailed, KeptTooLarge, NumbersExhausted, LivesExhausted}
use Rattle.osc_kept_ends.specs.Numbering.{Own, upcoming}

-- these numbers, with this one in hand or none (how the code is seen)
abbrev pub own_at : ℕ → ℕ → ℕ → Option Piv → Own
own_at floor next limit in_hand = record { floor = floor; next = next; limit = limit; hand = option_map number_of in_hand }

-- the numbers of an end (how the code is seen)
abbrev pub own_of : ℕ → Numbers → Option Piv → Own
own_of floor numbers in_hand = own_at floor (next_of numbers) (limit_of numbers) in_hand

-- the number in hand is the last that was drawn (how the code is seen)
abbrev pub IsLastDrawn : Option Piv → ℕ → Type 0
IsLastDrawn in_hand next = ForSome in_hand (λ p. number_of p + 1 ≡ next)

-- the number in hand is there still, or used (how the code is seen)
abbrev pub IsUsedUp : Option Piv → Option Piv → Type 0
IsUsedUp old new = (new ≡ old) ⊎ (new ≡ None)

-- the number with which the end seals next; it doesn't depend on the floor (how the code is seen)
abbrev pub upcoming_of : Numbers → Option Piv → ℕ
upcoming_of numbers in_hand = upcoming (own_of 0 numbers in_hand)

-- the refusal of a kept end that stands for a refusal of its numbers (own rule)
abbrev pub lifted : NumbersError → KeptError
lifted numbers.KeeperFailed = KeeperFailed
lifted numbers.KeptTooLarge = KeptTooLarge
lifted numbers.NumbersExhausted = NumbersExhausted

-- the name of a refusal (own rule)
abbrev pub kept_error_text : KeptError → List ℕ
kept_error_text KeeperFailed = codes "KeeperFailed"
kept_error_text KeptTooLarge = codes "KeptTooLarge"
kept_error_text NumbersExhausted = codes "NumbersExhausted"
kept_error_text LivesExhausted = codes "LivesExhausted"
