-- To be believed: all that is sealed under one Sender Key (RFC 8613, 3.1, 5.2 and 7.2.1): by the client and by the server of a context, and by those of several
-- contexts that have the key in common. x is the sender, w what happened to it, newest first, peer the identifier of another end, n the number of a request of that.
use Rattle.std.specs.Prelude.{◌≢◌, ℕ, ◌≤◌, ◌<◌, ◌^◌, List, [], ◌∷◌, length, Option, Some, None}
use Rattle.osc_context.specs.Nonce.{nonce_of}
use Rattle.osc_kept_ends.specs.Numbering.{Own, Effect, Stay, Draw, Reserve, Load, Use, Allowed, after, nothing_drawn}
use Rattle.osc_kept.specs.Claims.{HaveOwnNonces}
use Rattle.osc_kept.specs.World.{Has}

-- what all these ends share beside the key: the Common IV and the Sender ID (RFC 8613, 3.1)
pub record Sender : Type 0 where
  pub common_iv : List ℕ
  pub id : List ℕ

-- a text: a request to this peer, under a number of its own; a response to request n of this peer, under a number of its own or under the request's (RFC 8613, 5.2)
pub data Seal : Type 0 where
  Asks : (peer : List ℕ) (number : ℕ) → Seal
  Answers : (peer : List ℕ) (n : ℕ) (own : Option ℕ) → Seal

-- the nonce of a text (RFC 8613, 5.2)
abbrev pub seal_nonce : Sender → Seal → List ℕ
seal_nonce x (Asks peer number) = nonce_of x.common_iv x.id number
seal_nonce x (Answers peer n (Some own)) = nonce_of x.common_iv x.id own
seal_nonce x (Answers peer n None) = nonce_of x.common_iv peer n

-- what a text does to the one source of numbers: one of its own is used, in either role, and one under the request's nonce uses none (RFC 8613, 7.2.1)
abbrev pub use_by : Seal → Effect
use_by (Asks peer number) = Use number
use_by (Answers peer n (Some own)) = Use own
use_by (Answers peer n None) = Stay

-- what happens: a number is drawn that is reserved, or drawn after a save; a life of an end begins at the number that was loaded; an end seals a text (RFC 8613, B.1.1)
pub data Step : Type 0 where
  Draws : Step
  Reserves : Step
  Loads : (loaded : ℕ) → Step
  Seals : (seal : Seal) → Step

-- what that does to the one source of numbers (RFC 8613, 7.2.1 and B.1.1)
abbrev pub effect_of : Step → Effect
effect_of Draws = Draw
effect_of Reserves = Reserve
effect_of (Loads n) = Load n
effect_of (Seals seal) = use_by seal

-- the numbers of the one source, over all lives (RFC 8613, B.1.1)
abbrev pub source : List Step → Own
source [] = nothing_drawn 0
source (step ∷ w) = after (effect_of step) (source w)

-- the texts, newest first (RFC 8613, 8.1 and 8.3)
abbrev pub sealed : List Step → List Seal
sealed [] = []
sealed (Seals seal ∷ w) = seal ∷ sealed w
sealed (step ∷ w) = sealed w

-- a response under its request's nonce: the peer's identifier fits in a nonce and isn't the sender's, and no such response to this request of this peer was
-- sealed before, in any life, as a ticket replies once and a request is delivered once (RFC 8613, 3.3, 7.4 and 8.3)
abbrev pub IsOnce : Sender → List Step → Seal → Type 0
IsOnce x w (Answers peer n None) = (length peer ≤ 7) × (peer ≢ x.id) × (n < 2 ^ 40) × (Has (Answers peer n None) (sealed w) → ⊥)
IsOnce x w seal = Unit {0}

-- a text is one that can be sealed once (own rule)
abbrev pub SealsOnce : Sender → List Step → Step → Type 0
SealsOnce x w (Seals seal) = IsOnce x w seal
SealsOnce x w step = Unit {0}

-- the identifier fits in a nonce; at each step what is used is the number in hand of the one source, a number is drawn only if none is in hand, no load gives one below
-- the floor, and the nonce of a request is used at most once (RFC 8613, 5.2, 7.2.1 and B.1.1)
abbrev pub IsKept : Sender → List Step → Type 0
IsKept x [] = length x.id ≤ 7
IsKept x (step ∷ w) = IsKept x w × Allowed (effect_of step) (source w) × SealsOnce x w step

-- then no two texts under one Sender Key have one nonce, over all ends, contexts and lives (RFC 8613, 5.2)
abbrev pub OneSender : Type 0
OneSender = (x : Sender) (w : List Step) → IsKept x w → HaveOwnNonces (seal_nonce x) (sealed w)
