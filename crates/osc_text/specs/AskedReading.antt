-- For the proofs: how the events of a client are read, one function for each reader of the code, whether its numbers are kept or given.
use Rattle.std.specs.Prelude.{◌≡◌, ℕ, ◌+◌, ◌^◌, List, length, codes, bytes_eq, Option, Some, None, if◌then◌else◌}
use Rattle.std.specs.Option.{option_map, option_and_then}
use Rattle.osc_context.specs.Views.{number_of}
use Rattle.osc_endpoint.specs.declared.client_event.ClientEvent.{ClientEvent}
use Rattle.osc_endpoint.specs.declared.client_event.ClientEvent.TheVariants as events
use Rattle.osc_text.specs.AskedEvents.{AskedEvent, Request, Take, Forget, Restart, SpellsAsked, SpellsKeptAsked}
use Rattle.osc_kept_runs.specs.declared.kept_event.KeptClientEvent.{KeptClientEvent}
use Rattle.osc_text.specs.InputReading.{SpellsSeen, bytes_read, number_read, numbered_read, split_once}
use Rattle.osc_text.specs.KeptSeen.{IsRoomyAsked, kept_asked_seen}

-- the event of a verb and its fields (how the code is seen)
unfoldable pub asked_verb_read : List ℕ → List ℕ → Option (AskedEvent ℕ)
asked_verb_read verb fields =
    if bytes_eq verb (codes "request") then option_map (λ t. Request t.0 t.1) (numbered_read fields)
    else if bytes_eq verb (codes "take") then option_map (λ t. Take t.0 t.1) (numbered_read fields)
    else if bytes_eq verb (codes "forget") then option_map Forget (bytes_read fields)
    else if bytes_eq verb (codes "restart") then option_map Restart (number_read (2 ^ 40) fields)
    else None

-- the event of a line (how the code is seen)
unfoldable pub asked_read : List ℕ → Option (AskedEvent ℕ)
asked_read line = option_and_then (λ p. asked_verb_read p.0 p.1) (split_once 32 line)

-- an event of the code, as its line says it (how the code is seen)
abbrev pub asked_seen : ClientEvent → AskedEvent ℕ
asked_seen (events.Request now plain out) = Request now plain.items
asked_seen (events.Datagram now bytes) = Take now bytes.items
asked_seen (events.Forget token) = Forget token.items
asked_seen (events.Restart next) = Restart (number_of next)

-- there is room for the request (how the code is seen)
abbrev pub HasRoom : ClientEvent → Type 0
HasRoom (events.Request now plain out) = length out.items ≡ length plain.items + 128
HasRoom event = Unit {0}

-- the line spells the event of the code (how the code is seen)
abbrev pub SpellsClient : List ℕ → ClientEvent → Type 0
SpellsClient = SpellsSeen SpellsAsked asked_seen HasRoom

-- the same event where the numbers are kept; a restart with a number has none (how the code is seen)
abbrev pub kept_asked_of : AskedEvent ℕ → Option (AskedEvent (Unit {0}))
kept_asked_of (Request now plain) = Some (Request now plain)
kept_asked_of (Take now datagram) = Some (Take now datagram)
kept_asked_of (Forget token) = Some (Forget token)
kept_asked_of (Restart next) = None

-- the line spells the event of the code where the numbers are kept (how the code is seen)
abbrev pub SpellsKeptClient : List ℕ → KeptClientEvent → Type 0
SpellsKeptClient = SpellsSeen SpellsKeptAsked kept_asked_seen IsRoomyAsked
