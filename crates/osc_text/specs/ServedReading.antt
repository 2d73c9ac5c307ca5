-- For the proofs: how the events of a server are read, one function for each reader of the code, whether its numbers are kept or given.
use Rattle.std.specs.Prelude.{◌≡◌, ℕ, ◌+◌, ◌^◌, Bool, true, false, List, length, codes, bytes_eq, Option, Some, None, if◌then◌else◌}
use Rattle.std.specs.Borrow.{Bor}
use Rattle.std.specs.Option.{option_map, option_and_then}
use Rattle.std.specs.Int.{from_be_bytes, w16}
use Rattle.osc_context.specs.Views.{number_of}
use Rattle.osc_endpoint.specs.declared.server_event.ServerEvent.{ServerEvent}
use Rattle.osc_endpoint.specs.declared.server_event.ServerEvent.TheVariants as events
use Rattle.osc_text.specs.InputEvents.{InputEvent, Take, Reply, Notify, Drop, Restart, SpellsEvent, SpellsKept}
use Rattle.osc_kept_runs.specs.declared.kept_event.KeptServerEvent.{KeptServerEvent}
use Rattle.osc_text.specs.InputReading.{SpellsSeen, bytes_read, fixed_read, number_read, numbered_read, split_once}
use Rattle.osc_text.specs.KeptSeen.{IsRoomy, kept_seen}

-- the Message ID of a word of hex (how the code is seen)
abbrev pub message_id_read : List ℕ → Option ℕ
message_id_read word = option_map (from_be_bytes w16) (fixed_read 2 word)

-- whether a word asks for a Partial IV of its own (how the code is seen)
unfoldable pub own_read : List ℕ → Option Bool
own_read word = if bytes_eq word (codes "own") then Some true else if bytes_eq word (codes "shared") then Some false else None

-- four words separated by one space; the last one may contain more spaces (how the code is seen)
unfoldable pub four_read : List ℕ → Option (List ℕ × List ℕ × List ℕ × List ℕ)
four_read fields = option_and_then (λ p. option_and_then (λ q. option_map (λ r. (p.0, q.0, r.0, r.1)) (split_once 32 q.1)) (split_once 32 p.1)) (split_once 32 fields)

-- a datagram that arrives, from what its words say (how the code is seen)
abbrev pub take_of : Option ℕ → Option (List ℕ) → Option ℕ → Option (List ℕ) → Option (InputEvent ℕ)
take_of (Some now) (Some echo) (Some mid) (Some datagram) = Some (Take now echo mid datagram)
take_of now echo mid datagram = None

-- a reply, from what its words say (how the code is seen)
abbrev pub reply_of : Option ℕ → Option Bool → Option ℕ → Option (List ℕ) → Option (InputEvent ℕ)
reply_of (Some of) (Some own) (Some mid) (Some plain) = Some (Reply of own mid plain)
reply_of of own mid plain = None

-- the fields of a datagram that arrives (how the code is seen)
unfoldable pub take_read : List ℕ → Option (InputEvent ℕ)
take_read fields = option_and_then (λ w. take_of (number_read (2 ^ 64) w.0) (fixed_read 8 w.1) (message_id_read w.2) (bytes_read w.3)) (four_read fields)

-- the fields of a reply (how the code is seen)
unfoldable pub reply_read : List ℕ → Option (InputEvent ℕ)
reply_read fields = option_and_then (λ w. reply_of (number_read (2 ^ 64) w.0) (own_read w.1) (message_id_read w.2) (bytes_read w.3)) (four_read fields)

-- the event of a verb and its fields (how the code is seen)
unfoldable pub verb_read : List ℕ → List ℕ → Option (InputEvent ℕ)
verb_read verb fields =
    if bytes_eq verb (codes "take") then take_read fields
    else if bytes_eq verb (codes "reply") then reply_read fields
    else if bytes_eq verb (codes "notify") then option_map (λ t. Notify t.0 t.1) (numbered_read fields)
    else if bytes_eq verb (codes "drop") then option_map Drop (number_read (2 ^ 64) fields)
    else if bytes_eq verb (codes "restart") then option_map Restart (number_read (2 ^ 40) fields)
    else None

-- the event of a line (how the code is seen)
unfoldable pub event_read : List ℕ → Option (InputEvent ℕ)
event_read line = option_and_then (λ p. verb_read p.0 p.1) (split_once 32 line)

-- four slices, as lists (how the code is seen)
abbrev pub four_parts : Bor (List ℕ) × Bor (List ℕ) × Bor (List ℕ) × Bor (List ℕ) → List ℕ × List ℕ × List ℕ × List ℕ
four_parts w = (w.0.now, w.1.now, w.2.now, w.3.now)

-- an event of the code, as its line says it (how the code is seen)
abbrev pub event_seen : ServerEvent → InputEvent ℕ
event_seen (events.Datagram a) = Take a.now a.fresh.echo a.fresh.mid a.bytes.items
event_seen (events.Reply r) = Reply r.of r.own r.mid r.plain.items
event_seen (events.Notify r) = Notify r.of r.plain.items
event_seen (events.Drop of) = Drop of
event_seen (events.Restart context next) = Restart (number_of next)

-- there is room for the reply or the notification, and the context is the first (how the code is seen)
abbrev pub IsOfRun : ServerEvent → Type 0
IsOfRun (events.Datagram a) = Unit {0}
IsOfRun (events.Reply r) = length r.out.items ≡ length r.plain.items + 128
IsOfRun (events.Notify r) = length r.out.items ≡ length r.plain.items + 128
IsOfRun (events.Drop of) = Unit {0}
IsOfRun (events.Restart context next) = context ≡ 0

-- the line spells the event of the code (how the code is seen)
abbrev pub SpellsServed : List ℕ → ServerEvent → Type 0
SpellsServed = SpellsSeen SpellsEvent event_seen IsOfRun

-- the same event where the numbers are kept; a restart with a number has none (how the code is seen)
abbrev pub kept_of : InputEvent ℕ → Option (InputEvent (Unit {0}))
kept_of (Take now echo mid datagram) = Some (Take now echo mid datagram)
kept_of (Reply of own mid plain) = Some (Reply of own mid plain)
kept_of (Notify of plain) = Some (Notify of plain)
kept_of (Drop of) = Some (Drop of)
kept_of (Restart next) = None

-- the line spells the event of the code where the numbers are kept (how the code is seen)
abbrev pub SpellsKeptServed : List ℕ → KeptServerEvent → Type 0
SpellsKeptServed = SpellsSeen SpellsKept kept_seen IsRoomy
