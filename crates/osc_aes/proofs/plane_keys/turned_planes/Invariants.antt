use Rattle.std.proofs.Common.{◌≡◌, ℕ, ◌+◌, ◌*◌, ◌/◌, ◌%◌, ◌<◌, length, get_or}
use Rattle.osc_aes.proofs.plane_keys.turned_planes.Given as goal

abbrev pub invariant-loop-n : goal.invariant-loop-n
invariant-loop-n l =
    (length l.turned ≡ 16)
    × ((m : ℕ) → m < l.n → get_or l.turned m 0 ≡ get_or l.round_key (m % 4 + 4 * ((m / 4 + 3 * (l.round * (m % 4))) % 4)) 0)
