use Rattle.std.proofs.Common.{◌≡◌, ℕ, ◌<◌, get_or, length, bit_xor}
use Rattle.osc_hkdf.proofs.mac.padded_key.Given as goal

abbrev pub invariant-loop-i : goal.invariant-loop-i
invariant-loop-i l = (length l.padded ≡ 64) × ((k : ℕ) → k < l.i → get_or l.padded k 0 ≡ bit_xor (get_or l.short k 0) l.pad)
