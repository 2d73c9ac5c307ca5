-- For the proofs: how the events of a peer are read, one function for each reader of the code.
use Rattle.std.specs.Prelude.{◌≡◌, ℕ, ◌^◌, List, codes, bytes_eq, Option, Some, None, if◌then◌else◌}
use Rattle.std.specs.Borrow.{Bor}
use Rattle.std.specs.Option.{option_map, option_and_then}
use Rattle.osc_peer_runs.specs.declared.peer_event.PeerEvent.{PeerEvent}
use Rattle.osc_text.specs.AskedEvents.{AskedEvent}
use Rattle.osc_text.specs.AskedEvents as asked
use Rattle.osc_text.specs.InputEvents.{InputEvent}
use Rattle.osc_text.specs.InputEvents as served
use Rattle.osc_text.specs.InputReading.{SpellsSeen, bytes_read, number_read, numbered_read, split_once}
use Rattle.osc_text.specs.PeerEvents.{Advance, Challenge, Drop, Echo, Follow, Forget, Fresh, Hear, Notify, PeerInput, Reply, Request, SpellsPeer, Take}
use Rattle.osc_text.specs.PeerSeen.{IsRoomyPeer, peer_seen}
use Rattle.osc_text.specs.ServedReading.{four_read, message_id_read}

-- three words separated by one space; the last one may contain more spaces (how the code is seen)
unfoldable pub three_read : List ℕ → Option (List ℕ × List ℕ × List ℕ)
three_read fields = option_and_then (λ p. option_map (λ q. (p.0, q.0, q.1)) (split_once 32 p.1)) (split_once 32 fields)

-- three slices, as lists (how the code is seen)
abbrev pub three_parts : Bor (List ℕ) × Bor (List ℕ) × Bor (List ℕ) → List ℕ × List ℕ × List ℕ
three_parts w = (w.0.now, w.1.now, w.2.now)

-- a datagram that may be a request, from what its words say (how the code is seen)
abbrev pub arrival_of : Option ℕ → Option ℕ → Option (List ℕ) → Option PeerInput
arrival_of (Some now) (Some mid) (Some datagram) = Some (Take now mid datagram)
arrival_of now mid datagram = None

-- the fields of a datagram that may be a request (how the code is seen)
unfoldable pub arrival_read : List ℕ → Option PeerInput
arrival_read fields = option_and_then (λ w. arrival_of (number_read (2 ^ 64) w.0) (message_id_read w.1) (bytes_read w.2)) (three_read fields)

-- the same of which none is delivered that isn't known to be so old at most (how the code is seen)
abbrev pub fresh_of : Option ℕ → Option ℕ → Option ℕ → Option (List ℕ) → Option PeerInput
fresh_of (Some ms) (Some now) (Some mid) (Some datagram) = Some (Fresh ms now mid datagram)
fresh_of ms now mid datagram = None

-- its fields (how the code is seen)
unfoldable pub fresh_read : List ℕ → Option PeerInput
fresh_read fields =
    option_and_then (λ w. fresh_of (number_read (2 ^ 64) w.0) (number_read (2 ^ 64) w.1) (message_id_read w.2) (bytes_read w.3)) (four_read fields)

-- a challenge, from what its words say (how the code is seen)
abbrev pub challenge_of : Option ℕ → Option ℕ → Option PeerInput
challenge_of (Some of) (Some mid) = Some (Challenge of mid)
challenge_of of mid = None

-- the fields of a challenge (how the code is seen)
unfoldable pub challenge_read : List ℕ → Option PeerInput
challenge_read fields = option_and_then (λ w. challenge_of (number_read (2 ^ 64) w.0) (message_id_read w.1)) (split_once 32 fields)

-- the event of a verb and its fields, in a line that only a peer has (how the code is seen)
unfoldable pub own_verb_read : List ℕ → List ℕ → Option PeerInput
own_verb_read verb fields =
    if bytes_eq verb (codes "take") then arrival_read fields
    else if bytes_eq verb (codes "fresh") then fresh_read fields
    else if bytes_eq verb (codes "hear") then option_map (λ t. Hear t.0 t.1) (numbered_read fields)
    else if bytes_eq verb (codes "follow") then option_map (λ t. Follow t.0 t.1) (numbered_read fields)
    else if bytes_eq verb (codes "echo") then option_map (λ t. Echo t.0 t.1) (numbered_read fields)
    else if bytes_eq verb (codes "challenge") then challenge_read fields
    else if bytes_eq verb (codes "advance") then option_map Advance (number_read (2 ^ 64) fields)
    else None

-- the event of a line that only a peer has (how the code is seen)
unfoldable pub own_line_read : List ℕ → Option PeerInput
own_line_read line = option_and_then (λ p. own_verb_read p.0 p.1) (split_once 32 line)

-- the line spells an event that neither a server nor a client has in these words (how the code is seen)
abbrev pub SpellsOwn : List ℕ → PeerInput → Type 0
SpellsOwn line (Take now mid datagram) = SpellsPeer line (Take now mid datagram)
SpellsOwn line (Fresh ms now mid datagram) = SpellsPeer line (Fresh ms now mid datagram)
SpellsOwn line (Hear now datagram) = SpellsPeer line (Hear now datagram)
SpellsOwn line (Follow now datagram) = SpellsPeer line (Follow now datagram)
SpellsOwn line (Echo now plain) = SpellsPeer line (Echo now plain)
SpellsOwn line (Challenge of mid) = SpellsPeer line (Challenge of mid)
SpellsOwn line (Advance now) = SpellsPeer line (Advance now)
SpellsOwn line event = ⊥

-- the same event at a peer, if its line is that of a server; a server's datagram and restart have none (how the code is seen)
abbrev pub served_of : InputEvent ℕ → Option PeerInput
served_of (served.Reply of own mid plain) = Some (Reply of own mid plain)
served_of (served.Notify of plain) = Some (Notify of plain)
served_of (served.Drop of) = Some (Drop of)
served_of event = None

-- the same event at a peer, if its line is that of a client; a client's datagram and restart have none (how the code is seen)
abbrev pub asked_of : AskedEvent ℕ → Option PeerInput
asked_of (asked.Request now plain) = Some (Request now plain)
asked_of (asked.Forget token) = Some (Forget token)
asked_of event = None

-- the line spells an event of another end that is this one at a peer (how the code is seen)
abbrev pub SpellsAs : {E : Type 0} → (List ℕ → E → Type 0) → (E → Option PeerInput) → List ℕ → PeerInput → Type 0
SpellsAs {E} spells as_peer line event = (e : E) × (as_peer e ≡ Some event) × spells line e

-- the line spells the event of the code (how the code is seen)
abbrev pub SpellsPeerEvent : List ℕ → PeerEvent → Type 0
SpellsPeerEvent = SpellsSeen SpellsPeer peer_seen IsRoomyPeer
