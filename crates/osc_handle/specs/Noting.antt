-- For the proofs: what a server in bytes notes about a decision. us and vs are the numbers of its contexts before and after.
use Rattle.std.specs.Prelude.{◌≡◌, ◌≢◌, ℕ, ◌+◌, ◌<◌, ◌==◌, ◌&&◌, ◌||◌, List, Some, max, nat_le, not, slice_get}
use Rattle.osc_life.specs.ServerHistory.{TicketValues}
use Rattle.osc_life.specs.Views.{values_of}
use Rattle.osc_life.specs.declared.decision.Decision.{Decision}
use Rattle.osc_life.specs.declared.decision.Decision.TheVariants as decisions
use Rattle.osc_handle.specs.UnansweredBytes.{holds}
use Rattle.osc_handle.specs.declared.unanswered_handle.UnansweredHandle.{UnansweredHandle}

-- a number was added, and those 64 or more below it are forgotten (own rule: 64)
pub record AddsNumber (u v : UnansweredHandle) (n : ℕ) : Type 0 where
  pub held : u.highest < n + 64 → (m : ℕ) → holds v m ≡ ((m == n) || (holds u m && not (nat_le (m + 64) n)))
  pub highest : v.highest ≡ max u.highest n

-- the number of a ticket was added to the numbers of its context, if that is there (how the code is seen)
pub record NotesTicket (us vs : List UnansweredHandle) (ticket : TicketValues) : Type 0 where
  pub at : (v : UnansweredHandle) → slice_get vs ticket.context ≡ Some v → (u : UnansweredHandle) × (slice_get us ticket.context ≡ Some u) × AddsNumber u v ticket.number
  pub others : (j : ℕ) → j ≢ ticket.context → slice_get vs j ≡ slice_get us j

-- what a decision leaves: a delivery adds its number, and anything else adds nothing (RFC 8613, 8.3)
abbrev pub Notes : List UnansweredHandle → List UnansweredHandle → Decision → Type 0
Notes us vs (decisions.Deliver x ticket) = NotesTicket us vs (values_of ticket)
Notes us vs decision = vs ≡ us
