-- What is done at the place of a message that came.
use Rattle.std.proofs.Common.{◌≡◌, ◌⊎◌, ◌∙◌, inl, inr, sym, ap, refl, length, ℕ, List, Some, set}
use Rattle.std.specs.Prelude.{Bool, false, true, Option, None, map}
use Rattle.std.specs.List.{refill}
use Rattle.std.proofs.lemmas.List.{set-get_or}
use Rattle.std.proofs.lemmas.Option.{get_or_from_slice_get}
use Rattle.osc_message.specs.declared.arrival.Arrival.{Arrival}
use Rattle.osc_message.specs.declared.arrival.Stage.TheVariants.{Waiting, Done}
use Rattle.osc_message.specs.declared.arrival.Way.{Way}
use Rattle.osc_message.specs.Arriving.{Came, IsUnused, Stays}
use Rattle.osc_message.specs.Hearing.{Heard, answered, way_of}
use Rattle.osc_message.specs.HearingCalls.{AnswersBy, first_stage_of}
use Rattle.osc_message.specs.HearingFinding.{AnswersAt, IsNextPlace}
use Rattle.osc_message.specs.HearingViews.{seen_of}
use Rattle.osc_message.specs.Slots.{IsAt}
use Rattle.osc_message.proofs.Walking.{one_of, puts}

-- the table behind a change of one place
abbrev pub behind : List (Option Arrival) → List (Option Arrival) → ℕ → Option Arrival → ℕ → Came
behind xs lent k z n = record { places = map seen_of (refill (length xs) xs (set lent k z)); next_number = n }

pub stays : (xs lent : List (Option Arrival)) (k n : ℕ) (z : Option Arrival) (x y : Heard) → lent ≡ xs → IsAt (map seen_of xs) k x → seen_of z ≡ Some y
    → Stays (record { places = map seen_of xs; next_number = n }) (behind xs lent k z n) k x y
stays xs lent k n z x y same there is = record { puts = puts seen_of xs lent k z (Some x) (Some y) same there is; next = refl }

-- a place that is left as it was
unmoved : (xs lent : List (Option Arrival)) (k n : ℕ) (z : Option Arrival) (x : Heard) → lent ≡ xs → IsAt (map seen_of xs) k x → seen_of z ≡ Some x
    → behind xs lent k z n ≡ record { places = map seen_of xs; next_number = n }
unmoved xs lent k n z x same there is =
    let p = puts seen_of xs lent k z (Some x) (Some x) same there is in
    let read = get_or_from_slice_get (map seen_of xs) k (Some x) (Some x) there in
    let back = ap (set (map seen_of xs) k) (sym read) ∙ set-get_or (map seen_of xs) k (Some x) in
    ap (λ (places : List (Option Heard)). record { places = places; next_number = n }) (p.put ∙ back)

-- what an answer does
pub answers : (xs lent : List (Option Arrival)) (k n number : ℕ) (z : Option Arrival) (x : Heard) (way : Option Way) → lent ≡ xs → IsAt (map seen_of xs) k x
    → x.number ≡ number → AnswersAt (Some x) (seen_of z) way
    → AnswersBy (record { places = map seen_of xs; next_number = n }) (behind xs lent k z n) (record { number = number; place = k }) way
answers xs lent k n number z x None same there its a = (
  unmoved xs lent k n z x same there a.0,
  λ y mind. let one = one_of x y (one_of (Some x) (Some y) (sym there ∙ mind.0)) in ap way_of (sym one) ∙ a.1,
)
answers xs lent k n number z x (Some way) same there its a = (x, (there, its), a.1, stays xs lent k n z x (answered x) same there a.0)

-- the next place can be used anew
pub unused : (places : List (Option Heard)) (o : Option Heard) → IsNextPlace places o → IsUnused o
unused places None next = tt
unused places (Some x) next = next.1

pub waits_or_is_done : (b : Bool) → (first_stage_of b ≡ Waiting) ⊎ (first_stage_of b ≡ Done)
waits_or_is_done true = inl refl
waits_or_is_done false = inr refl
