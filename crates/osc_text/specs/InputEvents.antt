-- To be believed: which lines ask a server for what (own rule). Lines and words are lists of characters. N is what a restart says: the next
-- Sender Sequence Number, or nothing where the numbers are kept.
use Rattle.std.specs.Prelude.{◌≡◌, ℕ, ◌<◌, ◌^◌, Bool, true, false, List, [], ◌∷◌, length, codes}
use Rattle.std.specs.Int.{to_be_bytes, w16}
use Rattle.osc_text.specs.Hex.{SpellsBytes}
use Rattle.osc_text.specs.Inputs.{RestartsAlone, RestartsAt, SaysBelow, SaysBytes, parted}

-- what a line asks of a server: to take a datagram, to answer or to notify the request of an event, to drop the ticket of an event, or to begin a new life of the context (own rule)
pub data InputEvent (N : Type 0) : Type 0 where
  Take : (now : ℕ) (echo : List ℕ) (mid : ℕ) (datagram : List ℕ) → InputEvent N
  Reply : (of : ℕ) (own : Bool) (mid : ℕ) (plain : List ℕ) → InputEvent N
  Notify : (of : ℕ) (plain : List ℕ) → InputEvent N
  Drop : (of : ℕ) → InputEvent N
  Restart : (next : N) → InputEvent N

-- the word says this Message ID: its two bytes in hex, the high one first (own rule)
abbrev pub SaysMessageId : List ℕ → ℕ → Type 0
SaysMessageId word mid = (mid < 2 ^ 16) × SpellsBytes word (to_be_bytes w16 mid)

-- the word says this Echo value of eight bytes, in hex (own rule)
abbrev pub SaysEcho : List ℕ → List ℕ → Type 0
SaysEcho word echo = (length echo ≡ 8) × SpellsBytes word echo

-- the word for a reply with a Partial IV of its own, and for a reply without one (own rule)
abbrev pub own_word : Bool → List ℕ
own_word true = codes "own"
own_word false = codes "shared"

-- the line spells this event, where restarts says which line is a restart (own rule: moments and the indices of answered events are below 2 ^ 64)
abbrev pub SpellsForm : {N : Type 0} → (List ℕ → N → Type 0) → List ℕ → InputEvent N → Type 0
SpellsForm restarts line (Take now echo mid datagram) =
    (n e m d : List ℕ) × (line ≡ parted (codes "take" ∷ n ∷ e ∷ m ∷ d ∷ []))
    × SaysBelow (2 ^ 64) n now × SaysEcho e echo × SaysMessageId m mid × SaysBytes d datagram
SpellsForm restarts line (Reply of own mid plain) =
    (n m p : List ℕ) × (line ≡ parted (codes "reply" ∷ n ∷ own_word own ∷ m ∷ p ∷ []))
    × SaysBelow (2 ^ 64) n of × SaysMessageId m mid × SaysBytes p plain
SpellsForm restarts line (Notify of plain) =
    (n p : List ℕ) × (line ≡ parted (codes "notify" ∷ n ∷ p ∷ [])) × SaysBelow (2 ^ 64) n of × SaysBytes p plain
SpellsForm restarts line (Drop of) =
    (n : List ℕ) × (line ≡ parted (codes "drop" ∷ n ∷ [])) × SaysBelow (2 ^ 64) n of
SpellsForm restarts line (Restart next) = restarts line next

-- the line spells this event of a server (own rule)
abbrev pub SpellsEvent : List ℕ → InputEvent ℕ → Type 0
SpellsEvent = SpellsForm RestartsAt

-- the line spells this event of a server whose numbers are kept (own rule)
abbrev pub SpellsKept : List ℕ → InputEvent (Unit {0}) → Type 0
SpellsKept = SpellsForm RestartsAlone
