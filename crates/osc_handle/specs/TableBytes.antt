-- To be believed: what the bytes of a server's contexts say. t are the bytes.
use Rattle.std.specs.Prelude.{ℕ, List, Option, Some, None, slice_get}
use Rattle.std.specs.Option.{option_map}
use Rattle.osc_context.specs.SecurityContext.{SecurityContext}
use Rattle.osc_life.specs.declared.slot.Slot.{Slot}
use Rattle.osc_context_handle.specs.ContextBytes.{server_in}
use Rattle.osc_handle.specs.SlotBytes.{IsSlotIn}
use Rattle.osc_handle.specs.declared.slot_handle.SlotHandle.{SlotHandle}

-- a place of a table, and its bytes (own rule)
abbrev pub IsPlaceIn : Option SlotHandle → Option (Option Slot) → Type 0
IsPlaceIn None None = Unit {0}
IsPlaceIn None (Some p) = ⊥
IsPlaceIn (Some b) None = ⊥
IsPlaceIn (Some b) (Some None) = ⊥
IsPlaceIn (Some b) (Some (Some s)) = IsSlotIn b s

-- the bytes hold these places of a table (own rule)
pub record IsTableIn (t : List SlotHandle) (slots : List (Option Slot)) : Type 0 where
  pub at : (i : ℕ) → IsPlaceIn (slice_get t i) (slice_get slots i)

-- the context at an index (own rule)
abbrev pub bytes_at : List SlotHandle → ℕ → Option SecurityContext
bytes_at t i = option_map (λ b. server_in b.context) (slice_get t i)
