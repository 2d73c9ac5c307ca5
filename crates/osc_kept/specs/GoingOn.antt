-- To be believed: how the calls of kept ends extend a world (RFC 8613, 7.2.1 and B.1.1): by zero or one draw of a number, and then by one event. w is the
-- world before, v the world after, s the security context, old and new are the numbers of the end.
use Rattle.std.specs.Prelude.{◌≡◌, ◌⊎◌, ℕ, ◌<◌, ◌≤◌, Bool, true, Option, Some, None}
use Rattle.osc_context.specs.SecurityContext.{SecurityContext}
use Rattle.osc_context.specs.Views.{number_of}
use Rattle.osc_window.specs.declared.window_size.WindowSize.{WindowSize}
use Rattle.osc_life.specs.declared.doubt.Doubt.{Doubt}
use Rattle.osc_life.specs.declared.start.Start.{Start}
use Rattle.osc_life.specs.declared.start.Start.TheVariants as starts
use Rattle.osc_client.specs.ClientHistory as client
use Rattle.osc_life.specs.Life.{Life}
use Rattle.osc_life.specs.ServerHistory as server
use Rattle.osc_kept_ends.specs.KeptAsking as asking
use Rattle.osc_kept_ends.specs.KeptServing as serving
use Rattle.osc_kept_ends.specs.KeptServing.{IsStart, started}
use Rattle.osc_kept_ends.specs.Numbering.{Own, AreAlike, Allowed, Goes, Load, Steps, nothing_drawn}
use Rattle.osc_kept.specs.Premises.{Answers, AtEach, StartsAboveDelivered, LoadsNoneBelow, NumbersAreKept}
use Rattle.osc_kept.specs.World.{World, Event, Then, End, Client, Server, ClientStarts, ServerStarts, Draws, Reserves, AtClient, AtServer, client_history, server_history, server_life, numbers}

-- a running server, by its history and its numbers; the floor that its keeper knows may be another one (own rule)
pub record ServerRuns (s : SecurityContext) (w : World) (h : server.History) (own : Own) : Type 0 where
  pub history_is : server_history s w ≡ Some h
  pub numbers_are : AreAlike (numbers Server s w) own

-- the same for a client (own rule)
pub record ClientRuns (s : SecurityContext) (w : World) (h : client.History) (own : Own) : Type 0 where
  pub history_is : client_history s w ≡ Some h
  pub numbers_are : AreAlike (numbers Client s w) own

-- the keeper of an end knows a floor that isn't below what was saved, as a keeper that is there over all lives does (own rule)
abbrev pub KnowsFloor : End → SecurityContext → World → Own → Type 0
KnowsFloor of s w own = (numbers of s w).floor ≤ own.floor

-- an end draws a number, or doesn't (own rule)
abbrev pub IsDrawn : End → World → World → Type 0
IsDrawn of w v = (v ≡ w) ⊎ ((v ≡ Then w (Draws of)) ⊎ (v ≡ Then w (Reserves of)))

-- the floor stays, or the keeper of the end saved it and knows it (RFC 8613, B.1.1)
abbrev pub KeepsFloor : End → SecurityContext → World → World → Own → Type 0
KeepsFloor of s w v new = ((numbers of s v).floor ≡ (numbers of s w).floor) ⊎ KnowsFloor of s v new

-- zero or one draw, and then this event; the numbers stay kept at each event if no life begins below the floor; a keeper that knows the floor sees to that
-- and still knows it, and another keeper knows what it saved (RFC 8613, B.1.1)
pub record GoesOn (of : End) (s : SecurityContext) (w : World) (event : Event) (v : World) (old new : Own) : Type 0 where
  pub between : World
  pub drawn : IsDrawn of w between
  pub ends : v ≡ Then between event
  pub kept : AtEach (NumbersAreKept s) w → LoadsNoneBelow of s w event → AtEach (NumbersAreKept s) v
  pub knows : KnowsFloor of s w old → LoadsNoneBelow of s w event × KnowsFloor of s v new
  pub floor : KeepsFloor of s w v new

-- what an event does to the numbers of a kept server: a restart loads one; otherwise one is drawn if it is asked for, and then used if the server seals
-- with it (RFC 8613, 7.2.1 and B.1.1)
abbrev pub ServerMoves : server.History → server.Event → server.Entry → Own → Own → Type 0
ServerMoves h (server.Restart context next) server.Restarted old new = Goes (Load next) old new
ServerMoves h event entry old new = Steps (serving.draws h event) (serving.uses h event entry) old new

-- the same for a kept client (RFC 8613, 7.2.1 and B.1.1)
abbrev pub ClientMoves : client.History → client.Event → client.Entry → Own → Own → Type 0
ClientMoves h (client.Restart next) client.Restarted old new = Goes (Load next) old new
ClientMoves h event entry old new = Steps (asking.draws event) (asking.uses h event entry) old new

-- an event of a kept server extends the world, and the server still runs in it (RFC 8613, B.1.1)
abbrev pub ServerGoesOn : Type 0
ServerGoesOn = (s : SecurityContext) (w : World) (h : server.History) (event : server.Event) (entry : server.Entry) (old new : Own) → ServerRuns s w h old
    → ServerMoves h event entry old new → (v : World) × GoesOn Server s w (AtServer event entry) v old new × ServerRuns s v (server.Then h event entry) new

-- an event of a kept client does the same (RFC 8613, B.1.1)
abbrev pub ClientGoesOn : Type 0
ClientGoesOn = (s : SecurityContext) (w : World) (h : client.History) (event : client.Event) (entry : client.Entry) (old new : Own) → ClientRuns s w h old
    → ClientMoves h event entry old new → (v : World) × GoesOn Client s w (AtClient event entry) v old new × ClientRuns s v (client.Then h event entry) new

-- after all that happened before, a kept server starts, and draws its first number if it starts fresh (RFC 8613, B.1.1)
abbrev pub server_started : Start → WindowSize → World → World
server_started (starts.Fresh first) size w = Then (Then w (ServerStarts (starts.Fresh first) size)) (Reserves Server)
server_started (starts.Restarted first) size w = Then w (ServerStarts (starts.Restarted first) size)
server_started (starts.Received first highest) size w = Then w (ServerStarts (starts.Received first highest) size)
server_started (starts.Reserved first highest ahead) size w = Then w (ServerStarts (starts.Reserved first highest ahead) size)

-- an end starts with kept numbers if what was loaded isn't below what was saved before, in whatever process; a keeper that knows the floor sees to that,
-- and still knows it (RFC 8613, B.1.1)
pub record StartsOn (of : End) (s : SecurityContext) (w : World) (loaded : ℕ) (v : World) (floor : ℕ) (new : Own) : Type 0 where
  pub kept : AtEach (NumbersAreKept s) w → (numbers of s w).floor ≤ loaded → AtEach (NumbersAreKept s) v
  pub knows : (numbers of s w).floor ≤ floor → ((numbers of s w).floor ≤ loaded) × KnowsFloor of s v new

-- a kept server starts at the number that was loaded, and runs; its keeper may have any floor that isn't above that number (RFC 8613, B.1.1 and B.1.2)
abbrev pub ServerBegins : Type 0
ServerBegins = (s : SecurityContext) (w : World) (start : Start) (size : WindowSize) (loaded floor : ℕ) → IsStart start loaded → Allowed (Load loaded) (nothing_drawn floor)
    → StartsOn Server s w loaded (server_started start size w) floor (started start loaded (nothing_drawn floor))
    × ServerRuns s (server_started start size w) (server.Then server.Begin (server.Add s start size 1) (server.Added 0)) (started start loaded (nothing_drawn floor))

-- the same for a kept client (RFC 8613, B.1.1)
abbrev pub ClientBegins : Type 0
ClientBegins = (s : SecurityContext) (w : World) (loaded life_ms floor : ℕ) (own : Own) → Goes (Load loaded) (nothing_drawn floor) own
    → StartsOn Client s w loaded (Then w (ClientStarts loaded life_ms)) floor own × ClientRuns s (Then w (ClientStarts loaded life_ms)) (client.New s loaded life_ms) own

-- a life may deliver without a challenge: it was open at its birth, or numbers are in doubt in it, above which all are new (RFC 8613, B.1.2; own rule: the doubt)
abbrev pub needs_no_echo : Option Doubt → Bool → Bool
needs_no_echo None open_at_birth = open_at_birth
needs_no_echo (Some doubt) open_at_birth = true

-- a server starts fresh only at 0, and then, as in each life that may deliver without a challenge, a number is saved before it takes a datagram; KeptServer sees to
-- this, and never starts above a number, open or with numbers in doubt (RFC 8613, B.1.1 and B.1.2)
abbrev pub SavesFirst : SecurityContext → World → Event → Type 0
SavesFirst s w (ServerStarts (starts.Fresh first) size) = number_of first ≡ 0
SavesFirst s w (ServerStarts (starts.Received first highest) size) = StartsAboveDelivered w (ServerStarts (starts.Received first highest) size)
SavesFirst s w (ServerStarts (starts.Reserved first highest ahead) size) = StartsAboveDelivered w (ServerStarts (starts.Reserved first highest ahead) size)
SavesFirst s w (AtServer (server.Datagram now echo mid d) entry) = (of : Life) → server_life s w ≡ Some of → needs_no_echo of.doubt of.open_at_birth ≡ true → 0 < (numbers Server s w).floor
SavesFirst s w event = Unit {0}

-- each server of the list did so, and the running server has saved a number if its life may deliver without a challenge (RFC 8613, B.1.1)
pub record HasSavedFirst (s : SecurityContext) (w : World) : Type 0 where
  pub each : AtEach (SavesFirst s) w
  pub last : (of : Life) → server_life s w ≡ Some of → needs_no_echo of.doubt of.open_at_birth ≡ true → 0 < (numbers Server s w).floor

-- so a server starts fresh only while nothing was delivered (RFC 8613, B.1.2)
abbrev pub FreshBySaving : Type 0
FreshBySaving = (n : ℕ) (s : SecurityContext) (w : World) → AtEach (Answers n s) w → AtEach (NumbersAreKept s) w → AtEach (SavesFirst s) w → AtEach StartsAboveDelivered w
