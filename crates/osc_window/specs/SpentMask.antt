-- How the code is seen: what the fields of a window stand for. Bit i of the mask stands for the number that is i below the
-- highest one, and w is the number of places.
use Rattle.std.specs.Prelude.{ℕ, ◌-◌, ◌==◌, ◌||◌, ◌&&◌, Bool, true, Option, Some, None, nat_lt}
use Rattle.std.specs.Int.{bit_at}

-- whether the number that is this far below the highest one is unspent (how the code is seen)
abbrev pub unspent_at : ℕ → ℕ → ℕ → Bool
unspent_at mask below w = nat_lt below w && (bit_at mask below == 0)

-- whether a window with this highest number, if it has one, and this mask takes a number (how the code is seen)
abbrev pub taken_by : Option ℕ → ℕ → ℕ → ℕ → Bool
taken_by None mask w n = true
taken_by (Some highest) mask w n = nat_lt highest n || unspent_at mask (highest - n) w
