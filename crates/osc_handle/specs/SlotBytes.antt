-- To be believed: what the bytes of one context of a server say. b are the bytes.
use Rattle.std.specs.Prelude.{◌≡◌, ℕ, ◌≤◌, ◌<◌, ◌^◌, Option, Some, None}
use Rattle.std.specs.Option.{option_map}
use Rattle.osc_context.specs.Views.{as_server, number_of}
use Rattle.osc_window.specs.Views.{parts_of, places_of}
use Rattle.osc_window.specs.Window.{HasPlaces}
use Rattle.osc_window.specs.declared.gate.Gate.{Gate}
use Rattle.osc_window.specs.declared.gate.Gate.TheVariants as gates
use Rattle.osc_window.specs.declared.window.WindowParts.{WindowParts}
use Rattle.osc_protect.specs.Views.{context_of}
use Rattle.osc_life.specs.Agrees.{SlotAgrees}
use Rattle.osc_life.specs.Life.{Life}
use Rattle.osc_life.specs.declared.slot.Slot.{Slot}
use Rattle.osc_life.specs.declared.start.Start.{Start}
use Rattle.osc_life.specs.declared.start.Start.TheVariants as starts
use Rattle.osc_context_handle.specs.ContextBytes.{IsContext, server_in}
use Rattle.osc_handle.specs.declared.slot_handle.SlotHandle.{SlotHandle}

-- the highest number of an open window, if there is one (own rule)
abbrev pub IsHighestIn : SlotHandle → Option ℕ → Type 0
IsHighestIn b None = b.gate ≡ 2
IsHighestIn b (Some n) = (b.gate ≡ 3) × (b.at ≡ n)

-- an open window (own rule)
pub record IsWindowIn (b : SlotHandle) (parts : WindowParts) : Type 0 where
  pub highest : IsHighestIn b (option_map number_of parts.highest)
  pub mask : b.spent_mask ≡ parts.spent_mask
  pub size : places_of parts.size ≡ b.window_places

-- a gate (own rule)
abbrev pub IsGateIn : SlotHandle → Gate → Type 0
IsGateIn b (gates.Restarted None) = b.gate ≡ 0
IsGateIn b (gates.Restarted (Some challenge)) = (b.gate ≡ 1) × (b.echo ≡ challenge.0) × (b.at ≡ challenge.1)
IsGateIn b (gates.Open window) = IsWindowIn b (parts_of window)

-- a start with no numbers in doubt, which the bytes have no room for (own rule)
abbrev pub HasNoDoubt : Start → Type 0
HasNoDoubt (starts.Reserved next highest ahead) = ⊥
HasNoDoubt start = Unit {0}

-- a context in its life, in which no number is in doubt: the bytes have no room for such (own rule)
pub record IsSlotIn (b : SlotHandle) (s : Slot) : Type 0 where
  pub handle : IsContext b.context
  pub context : as_server (context_of s.context) ≡ server_in b.context
  pub size : places_of s.size ≡ b.places
  pub doubt : s.doubt ≡ None
  pub gate : IsGateIn b s.gate
  pub next : b.next ≡ s.next
  pub life : b.life ≡ s.life

-- the bytes stand for a context that is as this life says (RFC 8613, 3.1)
abbrev pub HoldsIn : SlotHandle → Life → Type 0
HoldsIn b l = (s : Slot) × IsSlotIn b s × SlotAgrees s l

-- everything but the gate stays (how the code is seen)
pub record SameBut (old new : SlotHandle) : Type 0 where
  pub context : new.context ≡ old.context
  pub places : new.places ≡ old.places
  pub next : new.next ≡ old.next
  pub life : new.life ≡ old.life

-- bytes of a window that a call may have written (own rule)
abbrev pub IsWindowBytes : SlotHandle → Type 0
IsWindowBytes b = HasPlaces b.window_places

-- bytes of a gate that a call may have written (own rule)
pub data IsGateBytes (b : SlotHandle) : Type 0 where
  closed : b.gate ≤ 1 → IsGateBytes b
  unmarked : b.gate ≡ 2 → IsWindowBytes b → IsGateBytes b
  marked : b.gate ≡ 3 → IsWindowBytes b → b.at < 2 ^ 40 → IsGateBytes b

-- bytes of a context in its life that a call may have written (own rule)
pub record IsSlotBytes (b : SlotHandle) : Type 0 where
  pub context : IsContext b.context
  pub size : HasPlaces b.places
  pub gate : IsGateBytes b
  pub next : b.next ≤ 2 ^ 40
