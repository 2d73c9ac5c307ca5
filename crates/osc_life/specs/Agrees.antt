-- How the code is seen: when a context of a server is as its present life says.
use Rattle.std.specs.Prelude.{◌≡◌, true, false, Option, Some, None}
use Rattle.osc_context.specs.Views.{as_server}
use Rattle.osc_window.specs.declared.gate.Gate.{Gate}
use Rattle.osc_window.specs.declared.gate.Gate.TheVariants as gates
use Rattle.osc_window.specs.Taken.{AgreesWith}
use Rattle.osc_protect.specs.Views.{context_of}
use Rattle.osc_life.specs.declared.slot.Slot.{Slot}
use Rattle.osc_life.specs.Life.{Life, is_open, next_own, floor, spent, challenge}

-- a closed gate has the life's last challenge; an open one takes exactly the numbers that are new in it (RFC 8613, 7.4)
abbrev pub GateAgrees : Gate → Life → Type 0
GateAgrees (gates.Restarted kept) l = (is_open l ≡ false) × (kept ≡ challenge l.marks)
GateAgrees (gates.Open window) l = (is_open l ≡ true) × AgreesWith window l.size (floor l.least l.open_at_birth l.marks) (spent l.open_at_birth l.marks)

-- there is a gate, and it is as the life says (how the code is seen)
abbrev pub HasGate : Option Gate → Life → Type 0
HasGate None l = ⊥
HasGate (Some gate) l = GateAgrees gate l

-- a context of the server is as its present life says (RFC 8613, 3.1)
pub record SlotAgrees (s : Slot) (l : Life) : Type 0 where
  pub context : as_server (context_of s.context) ≡ l.context
  pub size : s.size ≡ l.size
  pub doubt : s.doubt ≡ l.doubt
  pub gate : GateAgrees s.gate l
  pub next : s.next ≡ next_own l
  pub life : s.life ≡ l.count

-- a place of the table holds a context that is as this life says (how the code is seen)
abbrev pub HoldsLife : Option Slot → Life → Type 0
HoldsLife None l = ⊥
HoldsLife (Some s) l = SlotAgrees s l
