-- To be believed: the calls of kept ends within the list of what happens at both ends (RFC 8613, 7.4, 8.1 to 8.4 and B.1), each as a step of it. w is the
-- world before, v the world after, s the security context, n is how many pending requests the client has room for, old and new are an end before and after.
use Rattle.std.specs.Prelude.{◌≡◌, ◌≤◌, ℕ, List, [], Option, Some, max}
use Rattle.osc_context.specs.SecurityContext.{SecurityContext}
use Rattle.osc_context.specs.declared.keeper.Keeper as keeper
use Rattle.osc_window.specs.declared.window_size.WindowSize.{WindowSize}
use Rattle.osc_client.specs.declared.client_outcome.ClientOutcome.{ClientOutcome}
use Rattle.osc_client.specs.declared.decision.ClientDecision.{ClientDecision}
use Rattle.osc_life.specs.declared.decision.Decision.{Decision}
use Rattle.osc_life.specs.declared.outcome.Outcome.{Outcome}
use Rattle.osc_life.specs.declared.start.Fresh.{Fresh}
use Rattle.osc_life.specs.declared.start.Start.{Start}
use Rattle.osc_client.specs.ClientDeciding as client_deciding
use Rattle.osc_client.specs.ClientHistory as client
use Rattle.osc_life.specs.Deciding as deciding
use Rattle.osc_life.specs.ServerHistory as server
use Rattle.osc_client.specs.Views.{ClientShows}
use Rattle.osc_life.specs.Views.{Shows}
use Rattle.osc_kept_ends.specs.declared.kept_client.KeptClient.{KeptClient}
use Rattle.osc_kept_runs.specs.declared.kept_event.KeptClientEntry.{KeptClientEntry}
use Rattle.osc_kept_runs.specs.declared.kept_event.KeptClientEvent.{KeptClientEvent}
use Rattle.osc_kept_runs.specs.declared.kept_event.KeptServerEntry.{KeptServerEntry}
use Rattle.osc_kept_runs.specs.declared.kept_event.KeptServerEvent.{KeptServerEvent}
use Rattle.osc_kept_ends.specs.declared.kept_server.KeptServer.{KeptServer}
use Rattle.osc_kept.specs.EchoNumbers.{EchoesAreNumbers}
use Rattle.osc_kept.specs.GoingOn.{ClientRuns, GoesOn, KnowsFloor, ServerRuns, server_started}
use Rattle.osc_kept.specs.InWorld.{ClientStays, IsAsClaimed, IsHeld, ServerStays}
use Rattle.osc_kept_ends.specs.EchoNumber.{echo_of}
use Rattle.osc_kept_ends.specs.KeptAsking as asking
use Rattle.osc_kept_runs.specs.KeptRuns.{ClientRun, ServerRun, client_state, server_state}
use Rattle.osc_kept_ends.specs.KeptServing as serving
use Rattle.osc_kept_ends.specs.Numbering.{upcoming}
use Rattle.osc_kept_ends.specs.Owning.{own_in}
use Rattle.osc_kept.specs.Premises.{NobodyForgesResponses}
use Rattle.osc_kept.specs.RunsInWorld.{ClientRunAdds, ClientRunTrusts, ServerRunAdds, ServerRunTrusts}
use Rattle.osc_kept.specs.World.{World, Then, Client, Server, ClientStarts, AtClient, AtServer, client_history, numbers, server_history}

-- the server is the one that runs in the world (own rule)
abbrev pub RunsIn : {K : Type 0} {k : keeper.Ghosts K} → SecurityContext → World → KeptServer K k → Type 0
RunsIn s w x = (h : server.History) × ServerRuns s w h (own_in x.source) × serving.IsKept x.server (upcoming (own_in x.source)) h

-- the client is the one that runs in the world (own rule)
abbrev pub ClientRunsIn : {K : Type 0} {k : keeper.Ghosts K} {N : ℕ} → SecurityContext → World → KeptClient K N k → Type 0
ClientRunsIn s w c = (h : client.History) × ClientRuns s w h (own_in c.source) × asking.IsKept c.client (upcoming (own_in c.source)) h

-- a delivery of the running server gave the ticket, and no reply of it took the ticket (own rule)
abbrev pub HoldsTicket : SecurityContext → World → server.TicketValues → Type 0
HoldsTicket s w t = (h : server.History) → server_history s w ≡ Some h → IsHeld h t

-- nobody forged what comes to the running client (RFC 8613, 12.3 and 12.6)
abbrev pub NobodyForgesTo : SecurityContext → World → ℕ → List ℕ → Type 0
NobodyForgesTo s w now d = (h : client.History) → client_history s w ≡ Some h → NobodyForgesResponses s w (client.pending_at h (max (client.clock h) now)) d

-- ---- what a call of a server leaves

-- the event extends the world to one that is as claimed; the server still runs in it, and so does the client (RFC 8613, B.1.1)
abbrev pub ServerAfter : {K : Type 0} {k : keeper.Ghosts K} → ℕ → SecurityContext → World → server.Event → server.Entry → KeptServer K k → KeptServer K k → Type 0
ServerAfter n s w event entry old new = (v : World) × GoesOn Server s w (AtServer event entry) v (own_in old.source) (own_in new.source)
    × IsAsClaimed n s w v × RunsIn s v new × ClientStays s w v

-- so does the decision about a datagram (RFC 8613, 8.2)
abbrev pub DecidesInWorld : {K : Type 0} {k : keeper.Ghosts K} → ℕ → SecurityContext → World → ℕ → Fresh → List ℕ → Decision → List ℕ → List ℕ → KeptServer K k → KeptServer K k → Type 0
DecidesInWorld n s w now fresh d decision left reply old new = (answer : server.Answer) × deciding.Decides decision left answer
    × ServerAfter n s w (server.Datagram now fresh.echo fresh.mid d) (server.Took answer reply) old new

-- so does what became of a datagram (RFC 8613, 8.2)
abbrev pub TakesInWorld : {K : Type 0} {k : keeper.Ghosts K} → ℕ → SecurityContext → World → ℕ → Fresh → List ℕ → Outcome → List ℕ → KeptServer K k → KeptServer K k → Type 0
TakesInWorld n s w now fresh d outcome reply old new = (answer : server.Answer) × Shows outcome answer
    × ServerAfter n s w (server.Datagram now fresh.echo fresh.mid d) (server.Took answer reply) old new

-- so does what became of a datagram with an Echo value of the server's next number, and all Echo values are made of numbers still (RFC 9175, A, method 3)
abbrev pub CountsInWorld : {K : Type 0} {k : keeper.Ghosts K} → ℕ → SecurityContext → World → ℕ → ℕ → List ℕ → Outcome → List ℕ → KeptServer K k → KeptServer K k → Type 0
CountsInWorld n s w now mid d outcome reply old new = (answer : server.Answer) × Shows outcome answer
    × (v : World) × GoesOn Server s w (AtServer (server.Datagram now (echo_of (upcoming (own_in old.source))) mid d) (server.Took answer reply)) v (own_in old.source) (own_in new.source)
    × IsAsClaimed n s w v × RunsIn s v new × ClientStays s w v × EchoesAreNumbers s v

-- a life begins at the number that was loaded if that isn't below the floor; a keeper that knows the floor sees to that (RFC 8613, B.1)
abbrev pub RestartsInWorld : {K : Type 0} {k : keeper.Ghosts K} → ℕ → SecurityContext → World → ℕ → KeptServer K k → KeptServer K k → Type 0
RestartsInWorld n s w loaded old new = (KnowsFloor Server s w (own_in old.source) → (numbers Server s w).floor ≤ loaded)
    × ((numbers Server s w).floor ≤ loaded → ServerAfter n s w (server.Restart 0 loaded) server.Restarted old new)

-- a server starts after all that happened before (RFC 8613, B.1)
abbrev pub StartsInWorld : {K : Type 0} {k : keeper.Ghosts K} → ℕ → SecurityContext → World → Start → WindowSize → KeptServer K k → Type 0
StartsInWorld n s w start size new = IsAsClaimed n s w (server_started start size w) × RunsIn s (server_started start size w) new × ClientStays s w (server_started start size w)

-- a run of a server with this very log, and what it adds if others do their part (RFC 8613, B.1.1)
abbrev pub ServesInWorld : {K : Type 0} {k : keeper.Ghosts K} → ℕ → SecurityContext → World → List KeptServerEvent → List KeptServerEntry → KeptServer K k → KeptServer K k → Type 0
ServesInWorld n s w es xs old new = (h : server.History) × (server_history s w ≡ Some h) × (g : server.History) × (us : List (Option server.TicketValues))
    × (run : ServerRun (server_state h old.source []) es xs (server_state g new.source us)) × serving.IsKept new.server (upcoming (own_in new.source)) g
    × (ServerRunTrusts s w (own_in old.source) (server_state h old.source []) es xs (server_state g new.source us) run → ServerRunAdds n s w g (own_in old.source) (own_in new.source))

-- ---- what a call of a client leaves

-- the same for a client (RFC 8613, B.1.1)
abbrev pub ClientAfter : {K : Type 0} {k : keeper.Ghosts K} {N : ℕ} → SecurityContext → World → client.Event → client.Entry → KeptClient K N k → KeptClient K N k → Type 0
ClientAfter {N = N} s w event entry old new = (v : World) × GoesOn Client s w (AtClient event entry) v (own_in old.source) (own_in new.source)
    × IsAsClaimed N s w v × ClientRunsIn s v new × ServerStays s w v

-- so does the decision about a datagram (RFC 8613, 8.4)
abbrev pub ClientDecidesInWorld : {K : Type 0} {k : keeper.Ghosts K} {N : ℕ} → SecurityContext → World → ℕ → List ℕ → ClientDecision → List ℕ → KeptClient K N k → KeptClient K N k → Type 0
ClientDecidesInWorld s w now d result left old new = (answer : client.Answer) × client_deciding.Decides result left answer
    × ClientAfter s w (client.Datagram now d) (client.Took answer) old new

-- so does what became of a datagram (RFC 8613, 8.4)
abbrev pub ClientTakesInWorld : {K : Type 0} {k : keeper.Ghosts K} {N : ℕ} → SecurityContext → World → ℕ → List ℕ → ClientOutcome → KeptClient K N k → KeptClient K N k → Type 0
ClientTakesInWorld s w now d outcome old new = (answer : client.Answer) × ClientShows outcome answer
    × ClientAfter s w (client.Datagram now d) (client.Took answer) old new

-- a life begins at the number that was loaded, as above (RFC 8613, B.1.1)
abbrev pub ClientRestartsInWorld : {K : Type 0} {k : keeper.Ghosts K} {N : ℕ} → SecurityContext → World → ℕ → KeptClient K N k → KeptClient K N k → Type 0
ClientRestartsInWorld s w loaded old new = (KnowsFloor Client s w (own_in old.source) → (numbers Client s w).floor ≤ loaded)
    × ((numbers Client s w).floor ≤ loaded → ClientAfter s w (client.Restart loaded) client.Restarted old new)

-- a client starts after all that happened before (RFC 8613, B.1.1)
abbrev pub ClientStartsInWorld : {K : Type 0} {k : keeper.Ghosts K} {N : ℕ} → SecurityContext → World → ℕ → ℕ → KeptClient K N k → Type 0
ClientStartsInWorld {N = N} s w loaded life_ms new = IsAsClaimed N s w (Then w (ClientStarts loaded life_ms)) × ClientRunsIn s (Then w (ClientStarts loaded life_ms)) new
    × ServerStays s w (Then w (ClientStarts loaded life_ms))

-- a run of a client, as above (RFC 8613, B.1.1)
abbrev pub AsksInWorld : {K : Type 0} {k : keeper.Ghosts K} {N : ℕ} → SecurityContext → World → List KeptClientEvent → List KeptClientEntry → KeptClient K N k → KeptClient K N k → Type 0
AsksInWorld {N = N} s w es xs old new = (h : client.History) × (client_history s w ≡ Some h) × (g : client.History)
    × (run : ClientRun N (client_state h old.source) es xs (client_state g new.source)) × asking.IsKept new.client (upcoming (own_in new.source)) g
    × (ClientRunTrusts N s w (own_in old.source) (client_state h old.source) es xs (client_state g new.source) run → ClientRunAdds N s w g (own_in old.source) (own_in new.source))
