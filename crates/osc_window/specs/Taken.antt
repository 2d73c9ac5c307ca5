-- To be believed: which numbers a window takes (RFC 8613, 7.4). old and new are a window before and after a mark, n and m
-- are numbers, and floor and spent are as in Window.antt.
use Rattle.std.specs.Prelude.{◌≡◌, ◌≢◌, ℕ, ◌+◌, ◌<◌, ◌↔◌, List, IsTrue}
use Rattle.osc_window.specs.declared.window_size.WindowSize.{WindowSize}
use Rattle.osc_window.specs.declared.window.Window.{Window}
use Rattle.osc_window.specs.Window.{IsNew}
use Rattle.osc_window.specs.Views.{places_of, size_of, takes}

-- a window of this size that takes every number (RFC 8613, 3.2.2)
pub record IsFresh (window : Window) (size : WindowSize) : Type 0 where
  pub size_is : size_of window ≡ size
  pub takes_all : (n : ℕ) → IsTrue (takes window n)

-- a window of this size that takes exactly the numbers above the floor (RFC 8613, B.1.2)
pub record IsFromFloor (window : Window) (floor : ℕ) (size : WindowSize) : Type 0 where
  pub size_is : size_of window ≡ size
  pub takes_above : (n : ℕ) → IsTrue (takes window n) ↔ (floor < n)

-- n was marked: the window now also refuses n, and every number that n puts out of reach (RFC 8613, 7.4)
pub record Spends (old new : Window) (n : ℕ) : Type 0 where
  pub size_stays : size_of new ≡ size_of old
  pub takes_less : (m : ℕ) →
      IsTrue (takes new m) ↔ (IsTrue (takes old m) × (m ≢ n) × (n < m + places_of (size_of old)))

-- a window of this size that takes exactly the numbers that are new over this floor and these spent ones (RFC 8613, 7.4)
pub record AgreesWith (window : Window) (size : WindowSize) (floor : ℕ) (spent : List ℕ) : Type 0 where
  pub size_is : size_of window ≡ size
  pub takes_new : (n : ℕ) → IsTrue (takes window n) ↔ IsNew (places_of size) floor spent n
