-- How the code is seen: the call that a run makes for an event. old and new are the peer before and after, ts and us the tickets, e and f what is remembered of Echo
-- values before and after.
use Rattle.std.specs.Prelude.{ℕ, [], ◌∷◌, ◌++◌, List, Option}
use Rattle.std.specs.Option.{option_map}
use Rattle.osc_context.specs.declared.record_keeper.RecordKeeper as keeper
use Rattle.osc_client.specs.ClientHistory as client
use Rattle.osc_endpoint.specs.declared.client_event.ClientEntry.TheVariants as asked
use Rattle.osc_fresh.specs.declared.echo_request_error.EchoRequestError.{EchoRequestError}
use Rattle.osc_fresh.specs.declared.echo_request_error.EchoRequestError.TheVariants as refusals
use Rattle.osc_life.specs.declared.ticket.Ticket.{Ticket}
use Rattle.osc_life.specs.ServerHistory as server
use Rattle.osc_life.specs.Views.{values_of}
use Rattle.osc_endpoint.specs.ServerRun.{values_in}
use Rattle.osc_kept_ends.specs.declared.kept_peer.KeptPeer.{KeptPeer}
use Rattle.osc_kept_ends.specs.Numbering.{upcoming}
use Rattle.osc_kept_ends.specs.PeerOwning.{own_in}
use Rattle.osc_peer_runs.specs.declared.peer_event.PeerEvent.{PeerEvent}
use Rattle.osc_peer_runs.specs.declared.peer_event.PeerEntry.{PeerEntry}
use Rattle.osc_peer_runs.specs.declared.peer_event.PeerEntry.TheVariants as entries
use Rattle.osc_fresh.specs.Views.{heard_of, last_of}
use Rattle.osc_peer_runs.specs.declared.echo_memory.EchoMemory.{EchoMemory}
use Rattle.osc_peer_runs.specs.PeerRuns.{AreBehind, Echoes, RunStep, peer_state, with_echoes}

-- the peer is as these histories say, and has used or passed over only numbers below the one with which it seals next (how the code is seen)
abbrev pub IsBehind : {R : Type 0} {r : keeper.Ghosts R} {N : ℕ} → KeptPeer R N r → server.History → client.History → Type 0
IsBehind p h k = AreBehind p.server p.client (upcoming (own_in p.source)) h k

-- the call of an event is a step of the run from whatever histories the peer has; o is the ticket that it gives, if it gives one (how the code is seen)
abbrev pub Calls : {R : Type 0} {r : keeper.Ghosts R} {N : ℕ} → KeptPeer R N r → List (Option Ticket) → PeerEvent → PeerEntry → KeptPeer R N r → List (Option Ticket) → Option Ticket → Type 0
Calls {N = N} old ts event entry new us o = (h : server.History) (k : client.History) → IsBehind old h k → (g : server.History) × (m : client.History)
    × RunStep N (peer_state h k old.source (values_in ts)) event entry (peer_state g m new.source (values_in us ++ option_map values_of o ∷ [])) × IsBehind new g m

-- the same, where this is remembered of Echo values (how the code is seen)
abbrev pub CallsOver : {R : Type 0} {r : keeper.Ghosts R} {N : ℕ} → KeptPeer R N r → Echoes → List (Option Ticket) → PeerEvent → PeerEntry → KeptPeer R N r → Echoes → List (Option Ticket) → Option Ticket → Type 0
CallsOver {N = N} old e ts event entry new f us o = (h : server.History) (k : client.History) → IsBehind old h k → (g : server.History) × (m : client.History)
    × RunStep N (with_echoes e (peer_state h k old.source (values_in ts))) event entry
    (with_echoes f (peer_state g m new.source (values_in us ++ option_map values_of o ∷ []))) × IsBehind new g m

-- the entry of a request with an Echo value that isn't sealed (how the code is seen)
abbrev pub unsealed_entry : EchoRequestError → PeerEntry
unsealed_entry refusals.NoRoomForEcho = entries.NoRoomForEcho
unsealed_entry (refusals.Refused e) = entries.Asked (asked.NotSent e)

-- what the run remembers of Echo values (how the code is seen)
abbrev pub echoes_of : EchoMemory → Echoes
echoes_of memory = record { last = last_of memory.wishes; heard = heard_of memory.heard }
