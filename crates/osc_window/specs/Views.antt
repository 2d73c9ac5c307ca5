-- How the code is seen: a window and a gate. No proof of another crate looks into size_of and takes.
use Rattle.std.specs.Prelude.{ℕ, List, Bool, true, false, Option, None}
use Rattle.std.specs.Option.{option_map}
use Rattle.osc_context.specs.Views.{number_of}
use Rattle.osc_window.specs.declared.window_size.WindowSize.{WindowSize}
use Rattle.osc_window.specs.declared.window_size.WindowSize.TheVariants.{Place1, Places32, Places64}
use Rattle.osc_window.specs.declared.window.Window.{Window}
use Rattle.osc_window.specs.declared.window.WindowParts.{WindowParts}
use Rattle.osc_window.specs.declared.gate.Gate.{Gate}
use Rattle.osc_window.specs.declared.gate.Gate.TheVariants.{Restarted, Open}
use Rattle.osc_window.specs.SpentMask.{taken_by}

-- the number of places of a window of this size (how the code is seen)
abbrev pub places_of : WindowSize → ℕ
places_of Place1 = 1
places_of Places32 = 32
places_of Places64 = 64

-- what a window keeps (how the code is seen)
abbrev pub parts_of : Window → WindowParts
parts_of window = record { highest = window.highest; spent_mask = window.spent_mask; size = window.size }

-- the size of a window (how the code is seen)
unfoldable pub size_of : Window → WindowSize
size_of window = window.size

-- whether a window takes a number (how the code is seen)
unfoldable pub takes : Window → ℕ → Bool
takes window n = taken_by (option_map number_of window.highest) window.spent_mask (places_of window.size) n

-- whether a gate is open (how the code is seen)
abbrev pub is_open : Gate → Bool
is_open (Restarted challenge) = false
is_open (Open window) = true

-- the challenge of a closed gate (its value and its moment of issue), if it has one (how the code is seen)
abbrev pub challenge_of : Gate → Option (List ℕ × ℕ)
challenge_of (Restarted challenge) = challenge
challenge_of (Open window) = None

-- the gate is open, and the fact holds of its window (how the code is seen)
abbrev pub IsOpenAnd : Gate → (Window → Type 0) → Type 0
IsOpenAnd (Restarted challenge) P = ⊥
IsOpenAnd (Open window) P = P window
