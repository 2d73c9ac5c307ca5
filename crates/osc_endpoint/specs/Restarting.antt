-- For the proofs: what a restart and a replacement leave of the lives of a server's contexts, and what passing over numbers and a delivery leave in them.
use Rattle.std.specs.Prelude.{◌≡◌, ℕ, ◌<◌, ◌==◌, List, length, slice_get, Option, Some, None, Result, Ok, Err, if◌then◌else◌}
use Rattle.std.specs.Option.{option_map}
use Rattle.osc_life.specs.declared.server_error.RestartError.{RestartError}
use Rattle.osc_life.specs.declared.server_error.SkipError.{SkipError}
use Rattle.osc_context.specs.SecurityContext.{SecurityContext}
use Rattle.osc_window.specs.declared.window_size.WindowSize.{WindowSize}
use Rattle.osc_life.specs.declared.slot.Slot.{Slot}
use Rattle.osc_life.specs.declared.start.Start.{Start}
use Rattle.osc_life.specs.Restarting.{HasLifeLeft}
use Rattle.osc_life.specs.Life.{Life, Mark, Delivered, renewed, succeeding}
use Rattle.osc_life.specs.ServerHistory.{skip_mark_at}

-- the lives after a restart of this context (RFC 8613, B.1)
abbrev pub lives_after : Result Unit RestartError → ℕ → ℕ → (ℕ → Option Life) → ℕ → Option Life
lives_after (Ok x) context next lives i = if i == context then option_map (renewed next) (lives i) else lives i
lives_after (Err e) context next lives i = lives i

-- the lives after this security context took the place of that context (own rule)
abbrev pub lives_with : ℕ → SecurityContext → Start → WindowSize → (ℕ → Option Life) → ℕ → Option Life
lives_with context by start size lives i = if i == context then option_map (succeeding by start size) (lives i) else lives i

-- a context is at this index, and one life more can begin there (own rule: 2 ^ 64 - 1 restarts and replacements)
abbrev pub HasLifeLeftAt : List (Option Slot) → ℕ → Type 0
HasLifeLeftAt slots i = (i < length slots) × ((p : Option Slot) → slice_get slots i ≡ Some p → HasLifeLeft p)

-- what is left in the life of context i where numbers of this context were passed over, if they were (RFC 8613, 7.2.1)
abbrev pub skip_marks : Result Unit SkipError → ℕ → ℕ → ℕ → Option Mark
skip_marks (Ok x) i context count = skip_mark_at i context count
skip_marks (Err e) i context count = None

-- what a delivery of this number in this context leaves in the life of context i (RFC 8613, 7.4)
abbrev pub delivery_mark_at : ℕ → ℕ → ℕ → Option Mark
delivery_mark_at i context number = if i == context then Some (Delivered number) else None
