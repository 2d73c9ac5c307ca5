-- The names of statuses are short.
use Rattle.std.proofs.Common.{◌≡◌, ◌<◌, refl, rules, ℕ, zero, suc, List, [], ◌∷◌, length, nat_lt, true}
use Rattle.std.specs.Prelude.{slice_get}
use Rattle.osc_status.specs.Statuses.{name_or_unknown, status_name, status_names}

-- names of less than 24 bytes
AreShort : List (List ℕ) → Type 0
AreShort [] = Unit {0}
AreShort (name ∷ names) = (nat_lt (length name) 24 ≡ true) × AreShort names

short_at : (names : List (List ℕ)) (n : ℕ) → AreShort names → nat_lt (length (name_or_unknown (slice_get names n))) 24 ≡ true
unfolding AreShort
short_at [] n short = refl
short_at (name ∷ names) zero short = short.0
short_at (name ∷ names) (suc n) short = short_at names n short.1

all_short : AreShort status_names
unfolding AreShort
all_short = search rules

-- each name has less than 24 bytes
pub is_short : (n : ℕ) → length (status_name n) < 24
is_short n = let short = short_at status_names n all_short in search rules
