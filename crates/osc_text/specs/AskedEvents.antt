-- To be believed: which lines ask a client for what (own rule). Lines and words are lists of characters. N is what a restart says: the next
-- Sender Sequence Number, or nothing where the numbers are kept.
use Rattle.std.specs.Prelude.{◌≡◌, ℕ, ◌^◌, List, [], ◌∷◌, codes}
use Rattle.osc_text.specs.Inputs.{RestartsAlone, RestartsAt, SaysBelow, SaysBytes, parted}

-- what a line asks of a client: to send a request, to take a datagram, to forget a token, or to begin anew (own rule)
pub data AskedEvent (N : Type 0) : Type 0 where
  Request : (now : ℕ) (plain : List ℕ) → AskedEvent N
  Take : (now : ℕ) (datagram : List ℕ) → AskedEvent N
  Forget : (token : List ℕ) → AskedEvent N
  Restart : (next : N) → AskedEvent N

-- the line spells this event, where restarts says which line is a restart (own rule: moments are below 2 ^ 64)
abbrev pub SpellsAskedForm : {N : Type 0} → (List ℕ → N → Type 0) → List ℕ → AskedEvent N → Type 0
SpellsAskedForm restarts line (Request now plain) =
    (n p : List ℕ) × (line ≡ parted (codes "request" ∷ n ∷ p ∷ [])) × SaysBelow (2 ^ 64) n now × SaysBytes p plain
SpellsAskedForm restarts line (Take now datagram) =
    (n d : List ℕ) × (line ≡ parted (codes "take" ∷ n ∷ d ∷ [])) × SaysBelow (2 ^ 64) n now × SaysBytes d datagram
SpellsAskedForm restarts line (Forget token) = (t : List ℕ) × (line ≡ parted (codes "forget" ∷ t ∷ [])) × SaysBytes t token
SpellsAskedForm restarts line (Restart next) = restarts line next

-- the line spells this event of a client (own rule)
abbrev pub SpellsAsked : List ℕ → AskedEvent ℕ → Type 0
SpellsAsked = SpellsAskedForm RestartsAt

-- the line spells this event of a client whose numbers are kept (own rule)
abbrev pub SpellsKeptAsked : List ℕ → AskedEvent (Unit {0}) → Type 0
SpellsKeptAsked = SpellsAskedForm RestartsAlone
