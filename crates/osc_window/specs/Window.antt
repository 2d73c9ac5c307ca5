-- To be believed: the replay window (RFC 8613, 7.4). w is its number of places, floor is the least number that can be new,
-- spent is the list of the numbers that were marked, however many, and n is the number of a request.
use Rattle.std.specs.Prelude.{◌≡◌, ◌≢◌, ◌⊎◌, ℕ, ◌+◌, ◌<◌, ◌≤◌, List}
use Rattle.std.specs.List.{All}

-- a number at or above the floor, not spent, and less than w below each spent number (RFC 8613, 7.4)
pub record IsNew (w floor : ℕ) (spent : List ℕ) (n : ℕ) : Type 0 where
  pub above : floor ≤ n
  pub unspent : All (λ m. m ≢ n) spent
  pub within : All (λ m. m < n + w) spent

-- how many places a window may have (RFC 8613, 3.2.2; own rule: 1 and 64)
abbrev pub HasPlaces : ℕ → Type 0
HasPlaces places = (places ≡ 1) ⊎ ((places ≡ 32) ⊎ (places ≡ 64))
