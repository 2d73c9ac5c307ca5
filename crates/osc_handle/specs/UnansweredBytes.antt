-- To be believed: which numbers of requests that are waiting for their answers the bytes hold. u are the bytes, n is a number.
use Rattle.std.specs.Prelude.{ℕ, ◌-◌, ◌==◌, ◌&&◌, Bool, nat_le, nat_lt}
use Rattle.std.specs.Int.{bit_at}
use Rattle.osc_handle.specs.declared.unanswered_handle.UnansweredHandle.{UnansweredHandle}

-- this bit of a mask of 64 bits is set (own rule)
abbrev pub has_bit : ℕ → ℕ → Bool
has_bit mask below = nat_lt below 64 && (bit_at mask below == 1)

-- the number isn't above the highest one, and its bit is set (own rule)
abbrev pub holds : UnansweredHandle → ℕ → Bool
holds u n = nat_le n u.highest && has_bit u.mask (u.highest - n)
