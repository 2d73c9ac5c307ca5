-- How the code is seen: when a server is as its history says.
use Rattle.std.specs.Prelude.{◌≡◌, ℕ, List, Option, Some, None, length, slice_get}
use Rattle.osc_life.specs.declared.slot.Slot.{Slot}
use Rattle.osc_endpoint.specs.declared.server.ServerOf.{ServerOf}
use Rattle.osc_life.specs.Life.{Life}
use Rattle.osc_endpoint.specs.ServerAnswer.{HaveSameLookup}
use Rattle.osc_life.specs.ServerHistory.{History, clock, added, life}
use Rattle.osc_life.specs.Agrees.{HoldsLife}

-- a place of the table agrees with the present life of its context, or neither is there (how the code is seen)
abbrev pub PlaceAgrees : Option (Option Slot) → Option Life → Type 0
PlaceAgrees None None = Unit {0}
PlaceAgrees None (Some l) = ⊥
PlaceAgrees (Some p) None = ⊥
PlaceAgrees (Some p) (Some l) = HoldsLife p l

-- each place of the table is as its context's life says (how the code is seen)
pub record TableAgrees (slots : List (Option Slot)) (lives : ℕ → Option Life) : Type 0 where
  pub at : (i : ℕ) → PlaceAgrees (slice_get slots i) (lives i)

-- no request could name two different contexts of these lives (RFC 8613, 3.3)
abbrev pub OneEachIn : (ℕ → Option Life) → Type 0
OneEachIn lives = (i j : ℕ) (of other : Life) → lives i ≡ Some of → lives j ≡ Some other → HaveSameLookup of.context other.context → i ≡ j

-- no request could name two different contexts (RFC 8613, 3.3)
abbrev pub OneEach : History → Type 0
OneEach h = OneEachIn (life h)

-- the server is as its history says (RFC 8613, 3.1)
pub record Agrees {N : ℕ} (s : ServerOf N) (h : History) : Type 0 where
  pub clock_is : s.clock ≡ clock h
  pub contexts : length s.slots.items ≡ added h
  pub places : TableAgrees s.slots.items (life h)
  pub one_each : OneEach h

-- the server with room for so many contexts, with this clock and these places (how the code is seen)
abbrev pub server_of : (room : ℕ) → ℕ → List (Option Slot) → ServerOf room
server_of room clock slots = record { clock = clock; slots = record { items = slots } }
