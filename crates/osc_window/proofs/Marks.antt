-- What the fields of a window leave to be taken, before and after a mark.
use Rattle.std.proofs.Common.{◌≡◌, ℕ, ◌+◌, ◌-◌, ◌<◌, ◌≤◌, refl, true, Some, None, ◌&&◌, ◌||◌, not}
use Rattle.std.specs.Prelude.{nat_lt, ◌==◌, IsTrue}
use Rattle.osc_context.specs.declared.partial_iv.Piv.{Piv}
use Rattle.osc_context.specs.Views.{number_of}
use Rattle.osc_window.specs.declared.window_size.WindowSize.{WindowSize}
use Rattle.osc_window.specs.declared.window.Window.{Window}
use Rattle.osc_window.specs.SpentMask.{unspent_at}
use Rattle.osc_window.specs.Views.{places_of, takes, size_of}
use Rattle.osc_window.specs.Taken.{IsFromFloor, Spends}
use Rattle.osc_window.proofs.Masks.{first_mark, mark_beyond, mark_inside, taken_within, taken_full}
use Rattle.osc_window.proofs.Agreements.{left_is, above_is, places_some, places_most}

-- a full mask
pub from_full : (floor : Piv) (size : WindowSize)
    → IsFromFloor (record { highest = Some floor; spent_mask = 18446744073709551615; size = size }) (number_of floor) size
unfolding takes size_of
from_full floor size = record {
  size_is = refl;
  takes_above = λ n. above_is _ (number_of floor) n (taken_full (number_of floor) (places_of size) n (places_most size));
}

-- the first mark
pub spends_first : (old : Window) (n : Piv) → old.highest ≡ None
    → Spends old (record { highest = Some n; spent_mask = 1; size = old.size }) (number_of n)
unfolding takes size_of
spends_first old n is = record {
  size_stays = refl;
  takes_less = λ m. rw is (left_is _ true (places_of old.size) (number_of n) m
      (first_mark (places_of old.size) (number_of n) m (places_some old.size)));
}

-- a mark beyond the highest number
pub spends_beyond : (old : Window) (highest n : Piv) (moved jump w : ℕ) → old.highest ≡ Some highest
    → number_of highest < number_of n → jump ≡ number_of n - number_of highest → w ≡ places_of old.size
    → ((below : ℕ) → unspent_at moved below w
    ≡ (nat_lt 0 below && nat_lt below w && (nat_lt below jump || unspent_at old.spent_mask (below - jump) w)))
    → Spends old (record { highest = Some n; spent_mask = moved; size = old.size }) (number_of n)
unfolding takes size_of
spends_beyond old highest n moved jump w is lt jump_is w_is h = record {
  size_stays = refl;
  takes_less = λ m. rw is (left_is _ _ (places_of old.size) (number_of n) m
      (mark_beyond (number_of highest) old.spent_mask moved (places_of old.size) (number_of n) m (places_some old.size) lt
      (λ below. rw (← jump_is, ← w_is) (h below))));
}

-- a number that is taken is within the window, where it isn't above the highest
pub within_window : (old : Window) (highest n : Piv) → old.highest ≡ Some highest → number_of n ≤ number_of highest
    → IsTrue (takes old (number_of n)) → number_of highest < number_of n + places_of old.size
unfolding takes
within_window old highest n is le taken =
    taken_within (number_of highest) old.spent_mask (places_of old.size) (number_of n) (rw is at taken) le

-- a mark at or below the highest number
pub spends_inside : (old : Window) (highest n : Piv) (set below : ℕ) → old.highest ≡ Some highest
    → number_of n ≤ number_of highest → IsTrue (takes old (number_of n)) → below ≡ number_of highest - number_of n
    → ((other w : ℕ) → unspent_at set other w ≡ (unspent_at old.spent_mask other w && not (other == below)))
    → Spends old (record { highest = old.highest; spent_mask = set; size = old.size }) (number_of n)
unfolding takes size_of
spends_inside old highest n set below is le taken below_is h = record {
  size_stays = refl;
  takes_less = λ m. rw is (left_is _ _ (places_of old.size) (number_of n) m
      (mark_inside (number_of highest) old.spent_mask set (places_of old.size) (number_of n) m le (within_window old highest n is le taken)
      (λ other. rw (← below_is) (h other (places_of old.size)))));
}
