-- To be believed: the runs of kept ends within the list of what happens at both ends (RFC 8613, 7.4, 8.1 to 8.4 and B.1). w is the world before a run, v
-- the world after, s the security context, n is how many pending requests the client has room for; a and b are the states of an end before and after, es and
-- xs its events and their entries, own are its numbers before the run.
use Rattle.std.specs.Prelude.{◌≡◌, ◌⊎◌, ◌∷◌, [], ℕ, ◌≤◌, List, Ok, max}
use Rattle.osc_context.specs.SecurityContext.{SecurityContext}
use Rattle.osc_context.specs.declared.keeper.Keeper as keeper
use Rattle.osc_client.specs.ClientHistory as client
use Rattle.osc_life.specs.ServerHistory as server
use Rattle.osc_kept_runs.specs.declared.kept_event.KeptClientEvent.{KeptClientEvent}
use Rattle.osc_kept_runs.specs.declared.kept_event.KeptClientEvent.TheVariants as client_events
use Rattle.osc_kept_runs.specs.declared.kept_event.KeptClientEntry.{KeptClientEntry}
use Rattle.osc_kept_runs.specs.declared.kept_event.KeptClientEntry.TheVariants as client_entries
use Rattle.osc_kept_runs.specs.declared.kept_event.KeptServerEvent.{KeptServerEvent}
use Rattle.osc_kept_runs.specs.declared.kept_event.KeptServerEvent.TheVariants as server_events
use Rattle.osc_kept_runs.specs.declared.kept_event.KeptServerEntry.{KeptServerEntry}
use Rattle.osc_kept_runs.specs.declared.kept_event.KeptServerEntry.TheVariants as server_entries
use Rattle.osc_kept_ends.specs.declared.source.Source.{Source}
use Rattle.osc_kept.specs.GoingOn.{ClientRuns, KeepsFloor, KnowsFloor, ServerRuns}
use Rattle.osc_kept.specs.InWorld.{ClientStays, IsAsClaimed, IsUnseen, ServerStays}
use Rattle.osc_kept_runs.specs.KeptRuns.{ClientRun, ClientState, ClientStep, ServerRun, ServerState, ServerStep, client_state, server_state}
use Rattle.osc_kept_ends.specs.Numbering.{Own}
use Rattle.osc_kept_ends.specs.Owning.{own_in}
use Rattle.osc_kept.specs.Premises.{IsKept, NobodyForgesRequests, NobodyForgesResponses}
use Rattle.osc_kept.specs.World.{World, Begin, Then, Event, End, Client, Server, Draws, Reserves, AtClient, AtServer, numbers}

-- ---- what a run adds

-- an event of this end: it draws a number, or something happens to it (own rule)
abbrev pub IsOf : Event → End → Type 0
IsOf (Draws other) of = other ≡ of
IsOf (Reserves other) of = other ≡ of
IsOf (AtClient event entry) Client = Unit {0}
IsOf (AtServer event entry) Server = Unit {0}
IsOf event of = ⊥

-- nothing, or only events of this end, after what was there before (own rule)
abbrev pub IsBehind : End → World → World → Type 0
IsBehind of w Begin = Begin ≡ w
IsBehind of w (Then v event) = (Then v event ≡ w) ⊎ (IsOf event of × IsBehind of w v)

-- only events of this end; a keeper that knows the floor still knows it, and another keeper knows what the run saved (RFC 8613, B.1.1)
pub record RunsOn (of : End) (s : SecurityContext) (w v : World) (old new : Own) : Type 0 where
  pub behind : IsBehind of w v
  pub knows : KnowsFloor of s w old → KnowsFloor of s v new
  pub floor : KeepsFloor of s w v new

-- ---- what an end doesn't see to by itself

-- the keeper knew the floor before the run, or the number that it loads isn't below that floor (RFC 8613, B.1)
abbrev pub LoadsAbove : End → SecurityContext → World → Own → ℕ → Type 0
LoadsAbove of s w own loaded = KnowsFloor of s w own ⊎ ((numbers of s w).floor ≤ loaded)

-- for a datagram: nobody forged it, and no request that was sealed before the run carries its fresh Echo value; for a restart: what it loaded is as above
-- (RFC 8613, 7.2.1, 12 and B.1; RFC 9175, 2.3)
abbrev pub ServerStepTrusts : {K : Type 0} {k : keeper.Ghosts K} → SecurityContext → World → Own → (a : ServerState k) (event : KeptServerEvent) (entry : KeptServerEntry) (b : ServerState k) → ServerStep a event entry b → Type 0
ServerStepTrusts s w own a (server_events.Datagram arrival) entry b step = NobodyForgesRequests s w arrival.bytes.items × IsUnseen s w arrival.fresh.echo
ServerStepTrusts s w own a server_events.Restart (server_entries.Restarted (Ok x)) b (us, o, ((loaded, was, goes, on), kept, none), more) = LoadsAbove Server s w own loaded
ServerStepTrusts s w own a event entry b step = Unit {0}

-- the same for each event of a run of a server (own rule)
abbrev pub ServerRunTrusts : {K : Type 0} {k : keeper.Ghosts K} → SecurityContext → World → Own → (a : ServerState k) (es : List KeptServerEvent) (xs : List KeptServerEntry) (b : ServerState k) → ServerRun a es xs b → Type 0
ServerRunTrusts s w own a (e ∷ es) (x ∷ xs) b (mid, step, run) = ServerStepTrusts s w own a e x mid step × ServerRunTrusts s w own mid es xs b run
ServerRunTrusts s w own a es xs b run = Unit {0}

-- for a datagram: nobody forged it as a response to a request that is pending then; for a restart as above (RFC 8613, 7.2.1, 12 and B.1)
abbrev pub ClientStepTrusts : {K : Type 0} {k : keeper.Ghosts K} → (n : ℕ) → SecurityContext → World → Own → (a : ClientState k) (event : KeptClientEvent) (entry : KeptClientEntry) (b : ClientState k) → ClientStep n a event entry b → Type 0
ClientStepTrusts n s w own a (client_events.Datagram now bytes) entry b step = NobodyForgesResponses s w (client.pending_at a.history (max (client.clock a.history) now)) bytes.items
ClientStepTrusts n s w own a client_events.Restart (client_entries.Restarted (Ok x)) b (loaded, was, goes, on) = LoadsAbove Client s w own loaded
ClientStepTrusts n s w own a event entry b step = Unit {0}

-- the same for each event of a run of a client (own rule)
abbrev pub ClientRunTrusts : {K : Type 0} {k : keeper.Ghosts K} → (n : ℕ) → SecurityContext → World → Own → (a : ClientState k) (es : List KeptClientEvent) (xs : List KeptClientEntry) (b : ClientState k) → ClientRun n a es xs b → Type 0
ClientRunTrusts n s w own a (e ∷ es) (x ∷ xs) b (mid, step, run) = ClientStepTrusts n s w own a e x mid step × ClientRunTrusts n s w own mid es xs b run
ClientRunTrusts n s w own a es xs b run = Unit {0}

-- ---- the laws

-- the run extends the world to one that is as claimed; the server still runs in it, and so does the client; h is the server's history after the run, old and
-- new are its numbers before and after (RFC 8613, B.1.1)
abbrev pub ServerRunAdds : ℕ → SecurityContext → World → server.History → Own → Own → Type 0
ServerRunAdds n s w h old new = (v : World) × RunsOn Server s w v old new × IsAsClaimed n s w v × ServerRuns s v h new × ClientStays s w v

-- the same for a client (RFC 8613, B.1.1)
abbrev pub ClientRunAdds : ℕ → SecurityContext → World → client.History → Own → Own → Type 0
ClientRunAdds n s w h old new = (v : World) × RunsOn Client s w v old new × IsAsClaimed n s w v × ClientRuns s v h new × ServerStays s w v

-- each run of a kept server that runs in a world that meets the premises does so, if others do their part (RFC 8613, B.1.1)
abbrev pub ServerRunInWorld : {K : Type 0} → keeper.Ghosts K → Type 0
ServerRunInWorld {K = K} k = (n : ℕ) (s : SecurityContext) (w : World) (h : server.History) (source : Source K k) (b : ServerState k) (es : List KeptServerEvent) (xs : List KeptServerEntry)
    (run : ServerRun (server_state h source []) es xs b) → IsKept n s w → ServerRuns s w h (own_in source)
    → ServerRunTrusts s w (own_in source) (server_state h source []) es xs b run → ServerRunAdds n s w b.history (own_in source) (own_in b.source)

-- the same for a kept client (RFC 8613, B.1.1)
abbrev pub ClientRunInWorld : {K : Type 0} → keeper.Ghosts K → Type 0
ClientRunInWorld {K = K} k = (n : ℕ) (s : SecurityContext) (w : World) (h : client.History) (source : Source K k) (b : ClientState k) (es : List KeptClientEvent) (xs : List KeptClientEntry)
    (run : ClientRun n (client_state h source) es xs b) → IsKept n s w → ClientRuns s w h (own_in source)
    → ClientRunTrusts n s w (own_in source) (client_state h source) es xs b run → ClientRunAdds n s w b.history (own_in source) (own_in b.source)
