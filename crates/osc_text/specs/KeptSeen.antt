-- How the code is seen: the events of the runs of ends whose numbers are kept, as their lines say them, and the room that they have.
use Rattle.std.specs.Prelude.{◌≡◌, ◌+◌, length}
use Rattle.osc_kept_runs.specs.declared.kept_event.KeptClientEvent.{KeptClientEvent}
use Rattle.osc_kept_runs.specs.declared.kept_event.KeptClientEvent.TheVariants as client
use Rattle.osc_kept_runs.specs.declared.kept_event.KeptServerEvent.{KeptServerEvent}
use Rattle.osc_kept_runs.specs.declared.kept_event.KeptServerEvent.TheVariants as server
use Rattle.osc_text.specs.AskedEvents.{AskedEvent}
use Rattle.osc_text.specs.AskedEvents as asked
use Rattle.osc_text.specs.InputEvents.{InputEvent, Take, Reply, Notify, Drop, Restart}

-- an event of a server, as its line says it (how the code is seen)
abbrev pub kept_seen : KeptServerEvent → InputEvent (Unit {0})
kept_seen (server.Datagram a) = Take a.now a.fresh.echo a.fresh.mid a.bytes.items
kept_seen (server.Reply r) = Reply r.of r.own r.mid r.plain.items
kept_seen (server.Notify r) = Notify r.of r.plain.items
kept_seen (server.Drop of) = Drop of
kept_seen server.Restart = Restart tt

-- there is room for the reply or the notification: the length of its plain message plus 128 bytes (own rule)
abbrev pub IsRoomy : KeptServerEvent → Type 0
IsRoomy (server.Reply r) = length r.out.items ≡ length r.plain.items + 128
IsRoomy (server.Notify r) = length r.out.items ≡ length r.plain.items + 128
IsRoomy event = Unit {0}

-- an event of a client, as its line says it (how the code is seen)
abbrev pub kept_asked_seen : KeptClientEvent → AskedEvent (Unit {0})
kept_asked_seen (client.Request now plain out) = asked.Request now plain.items
kept_asked_seen (client.Datagram now bytes) = asked.Take now bytes.items
kept_asked_seen (client.Forget token) = asked.Forget token.items
kept_asked_seen client.Restart = asked.Restart tt

-- there is room for the request: the length of its plain message plus 128 bytes (own rule)
abbrev pub IsRoomyAsked : KeptClientEvent → Type 0
IsRoomyAsked (client.Request now plain out) = length out.items ≡ length plain.items + 128
IsRoomyAsked event = Unit {0}
