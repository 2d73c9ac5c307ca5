-- For the proofs: the contexts that bytes hold are the contexts of what they stand for.
use Rattle.std.specs.Prelude.{◌≡◌, ℕ, List, Option, Some, None, slice_get}
use Rattle.std.specs.Option.{option_map}
use Rattle.std.proofs.Common.{refl, ap, sym}
use Rattle.osc_endpoint.specs.Table.{context_in, context_of_place}
use Rattle.osc_life.specs.declared.slot.Slot.{Slot}
use Rattle.osc_context_handle.specs.ContextBytes.{server_in}
use Rattle.osc_handle.specs.TableBytes.{IsPlaceIn, IsTableIn, bytes_at}
use Rattle.osc_handle.specs.declared.slot_handle.SlotHandle.{SlotHandle}

-- at one place (how the code is seen)
place_same : (b : Option SlotHandle) (p : Option (Option Slot)) → IsPlaceIn b p → option_map (λ (b : SlotHandle). server_in b.context) b ≡ context_of_place p
place_same None None h = refl
place_same None (Some p) h = absurd h
place_same (Some b) None h = absurd h
place_same (Some b) (Some None) h = absurd h
place_same (Some b) (Some (Some s)) h = ap Some (sym h.context)

-- the bytes have the contexts of what they stand for
pub held : (t : List SlotHandle) (slots : List (Option Slot)) (i : ℕ) → IsTableIn t slots → bytes_at t i ≡ context_in slots i
held t slots i h = place_same (slice_get t i) (slice_get slots i) (h.at i)
