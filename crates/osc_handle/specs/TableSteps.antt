-- For the proofs: what a call does to the bytes of a server's contexts. t are the bytes.
use Rattle.std.specs.Prelude.{◌≡◌, ◌≢◌, ℕ, ◌==◌, List, Bool, false, Option, Some, None, length, slice_get}
use Rattle.osc_endpoint.specs.Agrees.{TableAgrees}
use Rattle.osc_life.specs.Life.{Life}
use Rattle.osc_life.specs.declared.slot.Slot.{Slot}
use Rattle.osc_handle.specs.TableBytes.{IsTableIn}
use Rattle.osc_handle.specs.declared.slot_handle.SlotHandle.{SlotHandle}

-- whether the bytes of a place say this life (how the code is seen)
abbrev pub life_in : Option SlotHandle → ℕ → Bool
life_in None life = false
life_in (Some b) life = b.life == life

-- whether a context is there, and in this life (RFC 8613, B.1)
abbrev pub is_present_in : List SlotHandle → ℕ → ℕ → Bool
is_present_in t i life = life_in (slice_get t i) life

-- one place is of this life now, and all others are as they were (how the code is seen)
pub record ChangesAt (slots : List (Option Slot)) (lives : ℕ → Option Life) (i : ℕ) (l : Life) (t : List SlotHandle) : Type 0 where
  pub new : List (Option Slot)
  pub table : IsTableIn t new
  pub len : length new ≡ length slots
  pub agrees : (after : ℕ → Option Life) → after i ≡ Some l → ((j : ℕ) → j ≢ i → after j ≡ lives j) → TableAgrees new after
