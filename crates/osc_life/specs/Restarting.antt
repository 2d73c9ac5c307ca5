-- For the proofs: what a restart leaves of the life of a server's context, what passing over numbers leaves in it, and when another context can take its place.
use Rattle.std.specs.Prelude.{ℕ, ◌+◌, ◌<◌, ◌^◌, Option, Some, None, Result, Ok, Err}
use Rattle.osc_life.specs.declared.server_error.RestartError.{RestartError}
use Rattle.osc_life.specs.declared.server_error.SkipError.{SkipError}
use Rattle.osc_life.specs.declared.slot.Slot.{Slot}
use Rattle.osc_life.specs.Life.{Life, Mark, PassedOver, renewed}

-- a life after a restart of its context (RFC 8613, B.1)
abbrev pub life_after : Result Unit RestartError → ℕ → Life → Life
life_after (Ok x) next l = renewed next l
life_after (Err e) next l = l

-- what it leaves in a life that so many numbers were passed over, if they were (RFC 8613, 7.2.1)
abbrev pub skip_mark : Result Unit SkipError → ℕ → Option Mark
skip_mark (Ok x) count = Some (PassedOver count)
skip_mark (Err e) count = None

-- a context is in the place, and one life more can begin there (own rule: 2 ^ 64 - 1 restarts and replacements)
abbrev pub HasLifeLeft : Option Slot → Type 0
HasLifeLeft None = ⊥
HasLifeLeft (Some s) = s.life + 1 < 2 ^ 64
