-- One source that several ends have in turn: what they do is done with one source, and each number that is used is above all that were used before. ns are the
-- numbers that were used.
use Rattle.std.proofs.Common.{◌≡◌, ◌∙◌, ℕ, ◌<◌, ap, subst, refl, List, [], ◌∷◌, inl, inr}
use Rattle.osc_kept_ends.specs.Numbering.{Effect, Stay, Draw, Reserve, Load, Use, Allowed, after, nothing_drawn}
use Rattle.osc_kept.specs.World.{Has}
use Rattle.osc_peers.specs.Turns.{AreAllowed, Does, Ends, Event, Happened, IsAbove, Moves, OneSourceInTurn, Rise, after_all, effects, present, used}
use Rattle.osc_peers.proofs.OneSource.{hand_above, used_by}

used_is : (es : List Effect) → used es ≡ used_by es
used_is [] = refl
used_is (Stay ∷ es) = used_is es
used_is (Draw ∷ es) = used_is es
used_is (Reserve ∷ es) = used_is es
used_is (Load n ∷ es) = used_is es
used_is (Use n ∷ es) = ap (λ ns. n ∷ ns) (used_is es)

all_above : (n : ℕ) (ns : List ℕ) → ((m : ℕ) → Has m ns → m < n) → IsAbove n ns
all_above n [] each = tt
all_above n (m ∷ ns) each = (each m (inl refl), all_above n ns (λ k h. each k (inr h)))

-- a number is used from the hand, where it is above all that were used
rise : (es : List Effect) → AreAllowed es → Rise (used es)
rise [] a = tt
rise (Stay ∷ es) a = rise es a.0
rise (Draw ∷ es) a = rise es a.0
rise (Reserve ∷ es) a = rise es a.0
rise (Load n ∷ es) a = rise es a.0
rise (Use n ∷ es) a = (all_above n (used es) (λ m h. hand_above es n m a.0 a.1 (subst (λ ns. Has m ns) (used_is es) h)), rise es a.0)

-- what the ends do is done with one source
in_turn : (w : List Event) (old new : Ends) → present old ≡ nothing_drawn 0 → Happened w old new → (present new ≡ after_all (effects w)) × AreAllowed (effects w)
in_turn [] old new start same = (ap present same ∙ start, tt)
in_turn (Does e ∷ w) old new start h =
    let all = in_turn w old h.0 start h.1 in
    (h.2.1.1 ∙ ap (after e) all.0, (all.1, subst (Allowed e) all.0 h.2.1.0))
in_turn (Moves to ∷ w) old new start h =
    let all = in_turn w old h.0 start h.1 in
    (h.2.1 ∙ all.0, all.1)

pub one_source_in_turn : OneSourceInTurn
one_source_in_turn w old new start happened =
    let all = in_turn w old new start happened in
    (all.0, all.1, rise (effects w) all.1)
