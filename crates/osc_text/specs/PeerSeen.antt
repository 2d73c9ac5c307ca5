-- How the code is seen: the events of a peer's run, as their lines say them, and the room that they have.
use Rattle.std.specs.Prelude.{◌≡◌, ◌+◌, length}
use Rattle.osc_peer_runs.specs.declared.peer_event.PeerEvent.{PeerEvent}
use Rattle.osc_peer_runs.specs.declared.peer_event.PeerEvent.TheVariants as events
use Rattle.osc_text.specs.PeerEvents.{Advance, Challenge, Drop, Echo, Follow, Forget, Fresh, Hear, Notify, PeerInput, Reply, Request, Take}

-- an event of a peer, as its line says it (how the code is seen)
abbrev pub peer_seen : PeerEvent → PeerInput
peer_seen (events.Datagram a) = Take a.now a.mid a.bytes.items
peer_seen (events.Fresh ms a) = Fresh ms a.now a.mid a.bytes.items
peer_seen (events.Reply r) = Reply r.of r.own r.mid r.plain.items
peer_seen (events.Challenge c) = Challenge c.of c.mid
peer_seen (events.Notify r) = Notify r.of r.plain.items
peer_seen (events.Drop of) = Drop of
peer_seen (events.Request now plain out) = Request now plain.items
peer_seen (events.Echo now plain room out) = Echo now plain.items
peer_seen (events.Response now bytes) = Hear now bytes.items
peer_seen (events.Follow now bytes) = Follow now bytes.items
peer_seen (events.Forget token) = Forget token.items
peer_seen (events.Advance now) = Advance now

-- there is room for the reply, the challenge, the notification or the request: the length of its plain message plus 128 bytes, and 43 more with an Echo option, for
-- which the plain message has room too (own rule)
abbrev pub IsRoomyPeer : PeerEvent → Type 0
IsRoomyPeer (events.Reply r) = length r.out.items ≡ length r.plain.items + 128
IsRoomyPeer (events.Challenge c) = length c.out.items ≡ 25 + 128
IsRoomyPeer (events.Notify r) = length r.out.items ≡ length r.plain.items + 128
IsRoomyPeer (events.Request now plain out) = length out.items ≡ length plain.items + 128
IsRoomyPeer (events.Echo now plain room out) = (length room.items ≡ length plain.items + 43) × (length out.items ≡ length plain.items + 43 + 128)
IsRoomyPeer event = Unit {0}
