-- What a walk over the messages on their way has seen, and what a change of one leaves.
use Rattle.std.proofs.Common.{◌≡◌, ◌∙◌, sym, ap, subst, refl, arith, length, ℕ, ◌<◌, ◌≤◌, List, Some, set}
use Rattle.std.specs.Prelude.{Option, None, map, slice_get}
use Rattle.std.specs.List.{refill}
use Rattle.std.proofs.lemmas.Slice.Eq.{bytes_eq-Decides}
use Rattle.osc_message.specs.declared.exchange.Exchange.{Exchange}
use Rattle.osc_message.specs.declared.exchange.Step.{Step}
use Rattle.osc_message.specs.declared.exchange.Step.TheVariants as steps
use Rattle.osc_message.specs.Finding.{step_at_place}
use Rattle.osc_message.specs.Places.{call_at}
use Rattle.osc_message.specs.Sending.{Sending, is_unacknowledged, step}
use Rattle.osc_message.specs.Slots.{NonePasses}
use Rattle.osc_message.specs.Table.{Ends, IsIdle, Moves, Rests, Table}
use Rattle.osc_message.specs.Views.{place_of}
use Rattle.osc_message.proofs.Walking.{one_of, puts, whole}

-- a message about which something is to be done is there
pub stepped : (s : Step) (o : Option Sending) (now : ℕ) → step_at_place o now ≡ s → (s ≡ steps.Rest → ⊥) → (x : Sending) × (o ≡ Some x) × (step x now ≡ s)
stepped s None now e other = absurd (other (sym e))
stepped s (Some x) now e other = (x, refl, e)

-- where nothing is to be done, nothing is about what is at a place
pub rests_at : (places : List (Option Sending)) (place now : ℕ) (o : Option Sending) → Rests places now → slice_get places place ≡ Some o → step_at_place o now ≡ steps.Rest
rests_at places place now None rests there = refl
rests_at places place now (Some x) rests there = rests place x there

pub all_rest : (xs : List (Option Exchange)) (now k : ℕ) → length xs ≤ k
    → ((i : ℕ) (o : Option Sending) → i < k → slice_get (map place_of xs) i ≡ Some o → step_at_place o now ≡ steps.Rest) → Rests (map place_of xs) now
all_rest xs now k all before i x there = whole place_of xs (λ (o : Option Sending). step_at_place o now) steps.Rest k all before i (Some x) there

pub ends : (xs lent : List (Option Exchange)) (k n : ℕ) (z : Option Exchange) (x : Sending) → lent ≡ xs → slice_get (map place_of xs) k ≡ Some (Some x) → place_of z ≡ None
    → Ends (record { places = map place_of xs; next_call = n }) (record { places = map place_of (refill (length xs) xs (set lent k z)); next_call = n }) k x
ends xs lent k n z x same there is = record { puts = puts place_of xs lent k z (Some x) None same there is; next = refl }

pub moves : (xs lent : List (Option Exchange)) (k n : ℕ) (z : Option Exchange) (x y : Sending) → lent ≡ xs → slice_get (map place_of xs) k ≡ Some (Some x) → place_of z ≡ Some y
    → Moves (record { places = map place_of xs; next_call = n }) (record { places = map place_of (refill (length xs) xs (set lent k z)); next_call = n }) k x y
moves xs lent k n z x y same there is = record { puts = puts place_of xs lent k z (Some x) (Some y) same there is; next = refl }

-- the number of a call is that of the message that stands there
pub called : (o : Option Sending) (x : Sending) (n : ℕ) → o ≡ Some x → Some n ≡ call_at o → x.call ≡ n
called o x n is number = one_of x.call n (sym (number ∙ ap call_at is))

-- ---- an address that has no message without its ACK

pub idle_of : (t : Table) (to : List ℕ) → NonePasses (is_unacknowledged to) t.places → IsIdle t to
idle_of t to none i x there same = let no = none i x there in let d = bytes_eq-Decides x.to to in grind (arith, no, d, same)

pub passes_of : (t : Table) (to : List ℕ) → IsIdle t to → NonePasses (is_unacknowledged to) t.places
passes_of t to idle i x there = let d = bytes_eq-Decides x.to to in let h = idle i x there in grind (arith, d, h)

-- what is said of a slice of the table is said of the table
pub none_in : (from to : List ℕ) (xs ws : List (Option Exchange)) → from ≡ to → ws ≡ xs → NonePasses (is_unacknowledged from) (map place_of ws)
    → NonePasses (is_unacknowledged to) (map place_of xs)
none_in from to xs ws same e h =
    let P : List ℕ → Type 0 = λ f. NonePasses (is_unacknowledged f) (map place_of ws) in
    let Q : List (Option Exchange) → Type 0 = λ l. NonePasses (is_unacknowledged to) (map place_of l) in
    subst Q e (subst P same h)
