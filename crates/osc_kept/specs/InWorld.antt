-- To be believed: the calls of kept ends within the list of what happens at both ends (RFC 8613, 7.4, 8.1 to 8.4 and B.1). w is the world before, v the
-- world after, s the security context, n is how many pending requests the client has room for; h is a history, old and new are an end, or its numbers,
-- before and after.
use Rattle.std.specs.Prelude.{◌≡◌, ℕ, ◌≤◌, List, Some, max}
use Rattle.osc_coap.specs.Interpreted.{interpreted}
use Rattle.osc_coap.specs.OptionNumbers as options
use Rattle.osc_context.specs.SecurityContext.{SecurityContext}
use Rattle.osc_window.specs.declared.window_size.WindowSize.{WindowSize}
use Rattle.osc_life.specs.declared.start.Start.{Start}
use Rattle.osc_client.specs.ClientAnswer.{ClientAnswer}
use Rattle.osc_client.specs.ClientHistory as client
use Rattle.osc_endpoint.specs.Tickets.{AreLeft, IsTakenOut}
use Rattle.osc_endpoint.specs.ServerAnswer.{ServerAnswer}
use Rattle.osc_life.specs.ServerHistory as server
use Rattle.osc_kept.specs.Claims.{BothEnds}
use Rattle.osc_kept.specs.GoingOn.{ClientMoves, ClientRuns, GoesOn, HasSavedFirst, ServerMoves, ServerRuns, server_started}
use Rattle.osc_kept_ends.specs.KeptServing.{IsStart, started}
use Rattle.osc_kept_ends.specs.Numbering.{Own, Allowed, Goes, Load, nothing_drawn}
use Rattle.osc_kept.specs.Premises.{IsKept, BringsNoContext, NobodyForgesRequests, NobodyForgesResponses}
use Rattle.osc_kept.specs.World.{World, Then, Client, Server, ClientStarts, AtClient, AtServer, Has, Request, numbers, sent}

-- ---- what an end doesn't see to by itself

-- no request that was sealed so far carries this Echo value (RFC 9175, 2.3)
abbrev pub IsUnseen : SecurityContext → World → List ℕ → Type 0
IsUnseen s w echo = (r : Request) → Has r (sent s w) → interpreted options.echo r.message.options ≡ Some echo → ⊥

-- a delivery gave the ticket, and no accepted reply took it (own rule)
abbrev pub IsHeld : server.History → server.TicketValues → Type 0
IsHeld h t = (before : List server.TicketValues) × (after : List server.TicketValues) × AreLeft h before × IsTakenOut t before after

-- for a datagram: nobody forged it, and the fresh Echo value is new; for a reply or a notification: a delivery gave its ticket, and no reply took it; for a
-- restart: the number that was loaded isn't below the floor (RFC 8613, 7.2.1, 8.3, 12 and B.1; RFC 9175, 2.3)
abbrev pub ServerTrusts : SecurityContext → World → server.History → server.Event → server.Entry → Type 0
ServerTrusts s w h (server.Datagram now echo mid d) entry = NobodyForgesRequests s w d × IsUnseen s w echo
ServerTrusts s w h (server.Reply t own mid p room) (server.Replied bytes) = IsHeld h t
ServerTrusts s w h (server.Notify t p room) (server.Replied bytes) = IsHeld h t
ServerTrusts s w h (server.Restart c next) server.Restarted = (numbers Server s w).floor ≤ next
ServerTrusts s w h event entry = Unit {0}

-- for a datagram: nobody forged it; for a restart as above (RFC 8613, 7.2.1, 12 and B.1)
abbrev pub ClientTrusts : SecurityContext → World → client.History → client.Event → client.Entry → Type 0
ClientTrusts s w h (client.Datagram now d) entry = NobodyForgesResponses s w (client.pending_at h (max (client.clock h) now)) d
ClientTrusts s w h (client.Restart next) client.Restarted = (numbers Client s w).floor ≤ next
ClientTrusts s w h event entry = Unit {0}

-- ---- steps of the world

-- a server that runs still runs, with the same history and numbers (own rule)
abbrev pub ServerStays : SecurityContext → World → World → Type 0
ServerStays s w v = (h : server.History) (own : Own) → ServerRuns s w h own → ServerRuns s v h own

-- a client that runs still runs, with the same history and numbers (own rule)
abbrev pub ClientStays : SecurityContext → World → World → Type 0
ClientStays s w v = (h : client.History) (own : Own) → ClientRuns s w h own → ClientRuns s v h own

-- the world after it meets the premises, so all is as claimed (RFC 8613, 5.2, 7.4 and 8.4)
pub record IsAsClaimed (n : ℕ) (s : SecurityContext) (w v : World) : Type 0 where
  pub kept : IsKept n s v
  pub claims : BothEnds s v
  pub saved : HasSavedFirst s w → HasSavedFirst s v

-- a kept server's answer to an event extends a world that meets the premises to one that does too, if others do their part (RFC 8613, B.1.1)
abbrev pub ServerInWorld : Type 0
ServerInWorld = (n : ℕ) (s : SecurityContext) (w : World) (h : server.History) (event : server.Event) (entry : server.Entry) (old new : Own) → IsKept n s w
    → ServerRuns s w h old → BringsNoContext event → ServerAnswer h event entry → ServerMoves h event entry old new → ServerTrusts s w h event entry
    → (v : World) × GoesOn Server s w (AtServer event entry) v old new × IsAsClaimed n s w v × ServerRuns s v (server.Then h event entry) new × ClientStays s w v

-- the same for a kept client (RFC 8613, B.1.1)
abbrev pub ClientInWorld : Type 0
ClientInWorld = (n : ℕ) (s : SecurityContext) (w : World) (h : client.History) (event : client.Event) (entry : client.Entry) (old new : Own) → IsKept n s w
    → ClientRuns s w h old → ClientAnswer n h event entry → ClientMoves h event entry old new → ClientTrusts s w h event entry
    → (v : World) × GoesOn Client s w (AtClient event entry) v old new × IsAsClaimed n s w v × ClientRuns s v (client.Then h event entry) new × ServerStays s w v

-- so does a start at a number that isn't below the floor; its keeper may know another floor, as a later process's keeper may (RFC 8613, B.1.1)
abbrev pub ServerStartsInWorld : Type 0
ServerStartsInWorld = (n : ℕ) (s : SecurityContext) (w : World) (start : Start) (size : WindowSize) (loaded floor : ℕ) → IsKept n s w → HasSavedFirst s w
    → IsStart start loaded → Allowed (Load loaded) (nothing_drawn floor) → (numbers Server s w).floor ≤ loaded
    → IsAsClaimed n s w (server_started start size w) × ClientStays s w (server_started start size w)
    × ServerRuns s (server_started start size w) (server.Then server.Begin (server.Add s start size 1) (server.Added 0)) (started start loaded (nothing_drawn floor))

-- the same for a client (RFC 8613, B.1.1)
abbrev pub ClientStartsInWorld : Type 0
ClientStartsInWorld = (n : ℕ) (s : SecurityContext) (w : World) (loaded life_ms floor : ℕ) (own : Own) → IsKept n s w → Goes (Load loaded) (nothing_drawn floor) own
    → (numbers Client s w).floor ≤ loaded → IsAsClaimed n s w (Then w (ClientStarts loaded life_ms)) × ServerStays s w (Then w (ClientStarts loaded life_ms))
    × ClientRuns s (Then w (ClientStarts loaded life_ms)) (client.New s loaded life_ms) own
