-- To be believed: which lines ask a peer for what (own rule). Lines and words are lists of characters.
use Rattle.std.specs.Prelude.{◌≡◌, ℕ, ◌^◌, Bool, List, [], ◌∷◌, codes}
use Rattle.osc_text.specs.AskedEvents.{SpellsKeptAsked}
use Rattle.osc_text.specs.AskedEvents as asked
use Rattle.osc_text.specs.InputEvents.{SaysMessageId, SpellsKept}
use Rattle.osc_text.specs.InputEvents as served
use Rattle.osc_text.specs.Inputs.{SaysBelow, SaysBytes, parted}

-- what a line asks of a peer: to take a datagram that may be a request, or so that none is delivered that isn't known to be so old at most, in milliseconds, to
-- answer, to challenge or to notify the request of an event, to drop the ticket of an event, to send a request, or one with the Echo value that was heard last, to
-- hear a datagram that may be a response, or so that a challenge is told from every other response, to forget a token, or to move its clocks (own rule)
pub data PeerInput : Type 0 where
  Take : (now : ℕ) (mid : ℕ) (datagram : List ℕ) → PeerInput
  Fresh : (ms : ℕ) (now : ℕ) (mid : ℕ) (datagram : List ℕ) → PeerInput
  Reply : (of : ℕ) (own : Bool) (mid : ℕ) (plain : List ℕ) → PeerInput
  Challenge : (of : ℕ) (mid : ℕ) → PeerInput
  Notify : (of : ℕ) (plain : List ℕ) → PeerInput
  Drop : (of : ℕ) → PeerInput
  Request : (now : ℕ) (plain : List ℕ) → PeerInput
  Echo : (now : ℕ) (plain : List ℕ) → PeerInput
  Hear : (now : ℕ) (datagram : List ℕ) → PeerInput
  Follow : (now : ℕ) (datagram : List ℕ) → PeerInput
  Forget : (token : List ℕ) → PeerInput
  Advance : (now : ℕ) → PeerInput

-- the line spells this event; a reply, a notification and a dropped ticket are spelled as for a server, a request and a forgotten token as for a client
-- (own rule: moments and the indices of events are below 2 ^ 64)
abbrev pub SpellsPeer : List ℕ → PeerInput → Type 0
SpellsPeer line (Take now mid datagram) =
    (n m d : List ℕ) × (line ≡ parted (codes "take" ∷ n ∷ m ∷ d ∷ [])) × SaysBelow (2 ^ 64) n now × SaysMessageId m mid × SaysBytes d datagram
SpellsPeer line (Fresh ms now mid datagram) = (s n m d : List ℕ) × (line ≡ parted (codes "fresh" ∷ s ∷ n ∷ m ∷ d ∷ []))
    × SaysBelow (2 ^ 64) s ms × SaysBelow (2 ^ 64) n now × SaysMessageId m mid × SaysBytes d datagram
SpellsPeer line (Reply of own mid plain) = SpellsKept line (served.Reply of own mid plain)
SpellsPeer line (Challenge of mid) =
    (e m : List ℕ) × (line ≡ parted (codes "challenge" ∷ e ∷ m ∷ [])) × SaysBelow (2 ^ 64) e of × SaysMessageId m mid
SpellsPeer line (Notify of plain) = SpellsKept line (served.Notify of plain)
SpellsPeer line (Drop of) = SpellsKept line (served.Drop of)
SpellsPeer line (Request now plain) = SpellsKeptAsked line (asked.Request now plain)
SpellsPeer line (Echo now plain) =
    (n p : List ℕ) × (line ≡ parted (codes "echo" ∷ n ∷ p ∷ [])) × SaysBelow (2 ^ 64) n now × SaysBytes p plain
SpellsPeer line (Hear now datagram) =
    (n d : List ℕ) × (line ≡ parted (codes "hear" ∷ n ∷ d ∷ [])) × SaysBelow (2 ^ 64) n now × SaysBytes d datagram
SpellsPeer line (Follow now datagram) =
    (n d : List ℕ) × (line ≡ parted (codes "follow" ∷ n ∷ d ∷ [])) × SaysBelow (2 ^ 64) n now × SaysBytes d datagram
SpellsPeer line (Forget token) = SpellsKeptAsked line (asked.Forget token)
SpellsPeer line (Advance now) = (n : List ℕ) × (line ≡ parted (codes "advance" ∷ n ∷ [])) × SaysBelow (2 ^ 64) n now
