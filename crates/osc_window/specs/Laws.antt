-- To be believed: laws about windows after any number of marks (RFC 8613, 7.4). marks are their numbers, newest first.
use Rattle.std.specs.Prelude.{◌≡◌, ℕ, ◌<◌, List, [], ◌∷◌, ◌++◌, IsTrue}
use Rattle.std.specs.List.{All}
use Rattle.osc_window.specs.declared.window_size.WindowSize.{WindowSize}
use Rattle.osc_window.specs.declared.window.Window.{Window}
use Rattle.osc_window.specs.Views.{takes}
use Rattle.osc_window.specs.Taken.{IsFresh, IsFromFloor, Spends, AgreesWith}
use Rattle.osc_window.specs.Window.{IsNew}

-- these marks turn the first window into the last; each marks a number that the window before it takes (RFC 8613, 7.4)
abbrev pub BecomesBy : Window → Window → List ℕ → Type 0
BecomesBy first last [] = last ≡ first
BecomesBy first last (n ∷ earlier) =
    (before : Window) × BecomesBy first before earlier × IsTrue (takes before n) × Spends before last n

-- a window that began fresh takes exactly the numbers that are new over floor 0 and all marks (RFC 8613, 7.4)
abbrev pub FreshTakesNew : Type 0
FreshTakesNew = (first last : Window) (size : WindowSize) (marks : List ℕ)
    → IsFresh first size → BecomesBy first last marks → AgreesWith last size 0 marks

-- a window that began at a floor takes exactly the numbers that are new over it and all marks, the floor among them (RFC 8613, 7.4)
abbrev pub FloorTakesNew : Type 0
FloorTakesNew = (first last : Window) (floor : ℕ) (size : WindowSize) (marks : List ℕ)
    → IsFromFloor first floor size → BecomesBy first last marks → AgreesWith last size floor (marks ++ floor ∷ [])

-- what is new in a window of one place is above all that was marked: numbers come in order alone (RFC 8613, 7.4; own rule: the size)
abbrev pub InOrder : Type 0
InOrder = (floor n : ℕ) (spent : List ℕ) → IsNew 1 floor spent n → All (λ m. m < n) spent
