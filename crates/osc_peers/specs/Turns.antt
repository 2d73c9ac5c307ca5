-- To be believed: one source of Sender Sequence Numbers that several ends of one Sender Key have in turn (RFC 8613, 3.3, 5.2 and 7.2.1). w is what happens, es are
-- effects on numbers, ns are numbers, each with the newest first; old, mid and new are the ends before, in between and after.
use Rattle.std.specs.Prelude.{◌≡◌, ℕ, ◌<◌, List, [], ◌∷◌}
use Rattle.osc_kept_ends.specs.Numbering.{Effect, Use, Own, Allowed, Goes, after, nothing_drawn}

-- what happens: the end that has the source draws or uses a number, or a life begins; or the source goes to this end (own rule)
pub data Event : Type 0 where
  Does : (effect : Effect) → Event
  Moves : (to : ℕ) → Event

-- which end has the source, and the numbers of each end (own rule)
pub record Ends : Type 0 where
  pub turn : ℕ
  pub own : ℕ → Own

-- the numbers of the end that has the source (own rule)
abbrev pub present : Ends → Own
present e = e.own e.turn

-- how it happens: what an end does can be done with its own numbers, and the end to which the source goes has the numbers of the one that had it. Nothing is
-- said of ends that haven't the source (RFC 8613, 7.2.1)
abbrev pub Happens : Event → Ends → Ends → Type 0
Happens (Does effect) old new = (new.turn ≡ old.turn) × Goes effect (present old) (present new)
Happens (Moves to) old new = (new.turn ≡ to) × (present new ≡ present old)

-- it all happens, in this order (own rule)
abbrev pub Happened : List Event → Ends → Ends → Type 0
Happened [] old new = new ≡ old
Happened (event ∷ w) old new = (mid : Ends) × Happened w old mid × Happens event mid new

-- what all ends do, whichever they are (own rule)
abbrev pub effects : List Event → List Effect
effects [] = []
effects (Does effect ∷ w) = effect ∷ effects w
effects (Moves to ∷ w) = effects w

-- the numbers of one source after them (RFC 8613, B.1.1)
abbrev pub after_all : List Effect → Own
after_all [] = nothing_drawn 0
after_all (e ∷ es) = after e (after_all es)

-- each can happen to that one source (RFC 8613, B.1.1)
abbrev pub AreAllowed : List Effect → Type 0
AreAllowed [] = Unit {0}
AreAllowed (e ∷ es) = AreAllowed es × Allowed e (after_all es)

-- the numbers that texts were sealed with (RFC 8613, 7.2.1)
abbrev pub used : List Effect → List ℕ
used [] = []
used (Use n ∷ es) = n ∷ used es
used (e ∷ es) = used es

-- the number is above each of these (own rule)
abbrev pub IsAbove : ℕ → List ℕ → Type 0
IsAbove n [] = Unit {0}
IsAbove n (m ∷ ms) = (m < n) × IsAbove n ms

-- each number is above all that were used before it, so none is used twice (RFC 8613, 5.2 and 7.2.1)
abbrev pub Rise : List ℕ → Type 0
Rise [] = Unit {0}
Rise (n ∷ ns) = IsAbove n ns × Rise ns

-- whichever ends have the source in turn, what they do can be done with one source that never moves, and no number is used twice (RFC 8613, 5.2 and 7.2.1)
abbrev pub OneSourceInTurn : Type 0
OneSourceInTurn = (w : List Event) (old new : Ends) → present old ≡ nothing_drawn 0 → Happened w old new
    → (present new ≡ after_all (effects w)) × AreAllowed (effects w) × Rise (used (effects w))
