-- How the code is seen: what a server over contexts in bytes is made of.
use Rattle.std.specs.Prelude.{ℕ, List}
use Rattle.osc_handle.specs.declared.slot_handle.SlotHandle.{SlotHandle}
use Rattle.osc_handle.specs.declared.unanswered_handle.UnansweredHandle.{UnansweredHandle}

-- its clock, its contexts, and the requests of each that wait for their answers (own rule)
pub record ServerParts : Type 0 where
  pub clock : ℕ
  pub contexts : List SlotHandle
  pub unanswered : List UnansweredHandle
