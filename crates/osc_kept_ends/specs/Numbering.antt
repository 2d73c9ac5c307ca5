-- To be believed: the numbers of one end over all its lives: what its keeper holds, what is reserved, and the number that was drawn and isn't
-- used yet (RFC 8613, 7.2.1 and B.1.1). old and new are the numbers before and after a call, mid those in between, n is a number.
use Rattle.std.specs.Prelude.{◌≡◌, ◌⊎◌, ℕ, ◌+◌, ◌<◌, ◌≤◌, ◌^◌, Bool, true, false, Option, Some, None, if◌then◌else◌, unwrap_or}
use Rattle.osc_context.specs.Reserving.{next_limit}

-- the keeper's floor, the next number, the first number that isn't reserved, and the number in hand, drawn but not used yet (RFC 8613, B.1.1)
pub record Own : Type 0 where
  pub floor : ℕ
  pub next : ℕ
  pub limit : ℕ
  pub hand : Option ℕ

-- what can happen to them: nothing; a reserved number is drawn; a number is drawn after a save that reserves more; a life begins at the number that was
-- loaded; a text is sealed with a number (RFC 8613, B.1.1)
pub data Effect : Type 0 where
  Stay : Effect
  Draw : Effect
  Reserve : Effect
  Load : (loaded : ℕ) → Effect
  Use : (number : ℕ) → Effect

-- when it can happen: at most one number is in hand, what is drawn is reserved, nothing below the floor is loaded, and what is used is the number in
-- hand (RFC 8613, B.1.1)
abbrev pub Allowed : Effect → Own → Type 0
Allowed Stay o = Unit {0}
Allowed Draw o = (o.hand ≡ None) × (o.next < o.limit)
Allowed Reserve o = (o.hand ≡ None) × (o.next ≡ o.limit) × (o.limit < 2 ^ 40)
Allowed (Load n) o = (o.floor ≤ n) × (n < 2 ^ 40)
Allowed (Use n) o = o.hand ≡ Some n

-- the numbers after it (RFC 8613, B.1.1)
abbrev pub after : Effect → Own → Own
after Stay o = o
after Draw o = record { floor = o.floor; next = o.next + 1; limit = o.limit; hand = Some o.next }
after Reserve o = record { floor = next_limit o.limit; next = o.next + 1; limit = next_limit o.limit; hand = Some o.next }
after (Load n) o = record { floor = o.floor; next = n; limit = n; hand = None }
after (Use n) o = record { floor = o.floor; next = o.next; limit = o.limit; hand = None }

-- nothing was loaded or drawn yet, and the keeper has this floor (own rule)
abbrev pub nothing_drawn : ℕ → Own
nothing_drawn floor = record { floor = floor; next = 0; limit = 0; hand = None }

-- the same numbers, whatever the floors are: the keeper of a later process needn't know what was saved before (own rule)
pub record AreAlike (o p : Own) : Type 0 where
  pub next_is : o.next ≡ p.next
  pub limit_is : o.limit ≡ p.limit
  pub hand_is : o.hand ≡ p.hand

-- it can happen, and did (RFC 8613, B.1.1)
abbrev pub Goes : Effect → Own → Own → Type 0
Goes e old new = Allowed e old × (new ≡ after e old)

-- the number with which the end seals next: the one in hand, or else the next one (RFC 8613, 7.2.1)
abbrev pub upcoming : Own → ℕ
upcoming o = unwrap_or o.hand o.next

-- the number of a response, if it has one of its own (RFC 8613, 8.3)
abbrev pub response_number : Bool → Own → Option ℕ
response_number own o = if own then Some (upcoming o) else None

-- if no number is in hand, the next number is drawn, unless none below 2 ^ 40 is left (own rule: at most one in hand)
abbrev pub DrawsFrom : Option ℕ → Own → Own → Type 0
DrawsFrom (Some n) old new = new ≡ old
DrawsFrom None old new = Goes Draw old new ⊎ (Goes Reserve old new ⊎ ((old.next ≡ 2 ^ 40) × (new ≡ old)))

-- a number is drawn if it is asked for (own rule)
abbrev pub Draws : Bool → Own → Own → Type 0
Draws true old new = DrawsFrom old.hand old new
Draws false old new = new ≡ old

-- the use of a number, if there is one (RFC 8613, 7.2.1)
abbrev pub use_of : Option ℕ → Effect
use_of None = Stay
use_of (Some n) = Use n

-- a draw if it is asked for, and then the use of a number, if there is one (own rule)
abbrev pub Steps : Bool → Option ℕ → Own → Own → Type 0
Steps asked used old new = (mid : Own) × Draws asked old mid × Goes (use_of used) mid new
