-- What a draw leaves: old and mid are the numbers before and after it.
use Rattle.std.proofs.Common.{◌≡◌, ℕ, ◌+◌, ◌<◌, ◌^◌, inl, inr, ◌∙◌, sym, ap, subst, refl, arith, Bool, true, false, Option, Some, None}
use Rattle.std.specs.Prelude.{unwrap_or}
use Rattle.std.specs.Option.{ForSome, option_map}
use Rattle.osc_context.specs.Views.{number_of}
use Rattle.osc_context.specs.declared.partial_iv.Piv.{Piv}
use Rattle.osc_kept_ends.specs.Views.{IsLastDrawn, IsUsedUp}
use Rattle.osc_kept_ends.specs.Numbering.{Own, Reserve, Load, DrawsFrom, Draws, after, nothing_drawn, upcoming}

-- with none in hand, the next number comes
next_comes : (o : Own) → o.hand ≡ None → upcoming o ≡ o.next
next_comes o none = ap (λ (x : Option ℕ). unwrap_or x o.next) none

upcoming_from : (hand : Option ℕ) (old mid : Own) → old.hand ≡ hand → DrawsFrom hand old mid → upcoming mid ≡ upcoming old
upcoming_from (Some n) old mid is e = ap upcoming e
upcoming_from None old mid is (inl (can, e)) = ap upcoming e ∙ sym (next_comes old is)
upcoming_from None old mid is (inr (inl (can, e))) = ap upcoming e ∙ sym (next_comes old is)
upcoming_from None old mid is (inr (inr (end, e))) = ap upcoming e

-- a draw doesn't change with which number the end seals next
pub upcoming_stays : (asked : Bool) (old mid : Own) → Draws asked old mid → upcoming mid ≡ upcoming old
upcoming_stays true old mid d = upcoming_from old.hand old mid refl d
upcoming_stays false old mid e = ap upcoming e

hand_from : (hand : Option ℕ) (old mid : Own) → old.hand ≡ hand → DrawsFrom hand old mid → upcoming old < 2 ^ 40 → mid.hand ≡ Some (upcoming old)
hand_from (Some n) old mid is e left =
    ap (λ (o : Own). o.hand) e ∙ is ∙ ap Some (sym (ap (λ (x : Option ℕ). unwrap_or x old.next) is))
hand_from None old mid is (inl (can, e)) left = ap (λ (o : Own). o.hand) e ∙ ap Some (sym (next_comes old is))
hand_from None old mid is (inr (inl (can, e))) left = ap (λ (o : Own). o.hand) e ∙ ap Some (sym (next_comes old is))
hand_from None old mid is (inr (inr (end, e))) left =
    let comes : upcoming old ≡ old.next = next_comes old is in
    absurd (omega (arith, end, left, comes))

-- behind a draw that number is in hand, where there is one
pub in_hand : (old mid : Own) → Draws true old mid → upcoming old < 2 ^ 40 → mid.hand ≡ Some (upcoming old)
in_hand old mid d left = hand_from old.hand old mid refl d left

-- the number in hand is the one with which the end seals next
pub number_in_hand : (old mid : Own) (n : ℕ) → Draws true old mid → mid.hand ≡ Some n → n ≡ upcoming old
number_in_hand old mid n drawn hand = sym (ap (λ (o : Option ℕ). unwrap_or o mid.next) hand) ∙ upcoming_stays true old mid drawn

-- the number in hand is the last that was drawn
pub last_drawn : (hand : Option Piv) (next n : ℕ) → ForSome hand (λ p. number_of p + 1 ≡ next) → option_map number_of hand ≡ Some n → n + 1 ≡ next
last_drawn None next n last is = absurd (let e : None ≡ Some n = is in cc)
last_drawn (Some p) next n last is =
    let same : number_of p ≡ n = ap (λ (x : Option ℕ). unwrap_or x n) is in
    ap (λ k. k + 1) (sym same) ∙ last p refl

-- an empty hand holds no number
pub none_in_hand : (hand : Option Piv) (n : ℕ) → None ≡ hand → option_map number_of hand ≡ Some n → ⊥
none_in_hand None n none is = let e : None ≡ Some n = is in cc
none_in_hand (Some p) n none is = let e : None ≡ Some p = none in cc

reserved_first : (old mid : Own) → old.hand ≡ None → old.next ≡ old.limit → old.next < 2 ^ 40 → DrawsFrom None old mid → mid ≡ after Reserve old
reserved_first old mid none whole below (inl (can, e)) = absurd (omega (arith, whole, can.1))
reserved_first old mid none whole below (inr (inl (can, e))) = e
reserved_first old mid none whole below (inr (inr (end, e))) = absurd (omega (arith, below, end))

-- the first draw of a life saves
pub first_draw : (old mid : Own) (floor n : ℕ) → old ≡ after (Load n) (nothing_drawn floor) → n < 2 ^ 40 → Draws true old mid → mid ≡ after Reserve (after (Load n) (nothing_drawn floor))
first_draw old mid floor n is below d =
    reserved_first (after (Load n) (nothing_drawn floor)) mid refl refl below (subst (λ (o : Own). Draws true o mid) is d)

-- a number in hand that is there still, or used, is the last that was drawn, if it was
pub still_last : (old new : Option Piv) (next : ℕ) → IsUsedUp old new → IsLastDrawn old next → IsLastDrawn new next
still_last old new next (inl same) last = subst (λ (h : Option Piv). IsLastDrawn h next) (sym same) last
still_last old new next (inr none) last = λ p is. absurd (let e : None ≡ Some p = sym none ∙ is in cc)
