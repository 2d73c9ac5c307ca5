-- To be believed: what it gives that the number of a request is kept before the request is delivered (RFC 8613, 7.4, 7.5 and B.1.2). kept says what is kept
-- behind what happened so far: a number above all requests that were received. w is the world before an event.
use Rattle.std.specs.Prelude.{◌≡◌, ℕ, ◌+◌, ◌<◌, ◌≤◌}
use Rattle.osc_context.specs.Views.{number_of}
use Rattle.osc_life.specs.declared.start.Start.TheVariants as starts
use Rattle.osc_life.specs.ServerHistory as server
use Rattle.osc_kept.specs.Premises.{AtEach, StartsAboveDelivered}
use Rattle.osc_kept.specs.World.{World, Event, Then, ServerStarts, AtServer}

-- what the event needs of what is kept: a delivery that a greater number is, a fresh start that none is, and a start above a number, open or with numbers in doubt,
-- that it is the greatest that was received (RFC 8613, 7.4, 7.5 and B.1.2)
abbrev pub IsKeptBefore : (World → ℕ) → World → Event → Type 0
IsKeptBefore kept w (AtServer (server.Datagram now echo mid d) (server.Took (server.Deliver received ticket) reply)) =
    ticket.number < kept (Then w (AtServer (server.Datagram now echo mid d) (server.Took (server.Deliver received ticket) reply)))
IsKeptBefore kept w (ServerStarts (starts.Fresh first) size) = kept w ≡ 0
IsKeptBefore kept w (ServerStarts (starts.Received first highest) size) = kept w ≤ number_of highest + 1
IsKeptBefore kept w (ServerStarts (starts.Reserved first highest ahead) size) = kept w ≤ number_of highest + 1
IsKeptBefore kept w event = Unit {0}

-- so it is at each event, and what is kept never sinks (RFC 8613, 7.5)
abbrev pub KeepsReceived : (World → ℕ) → World → Event → Type 0
KeepsReceived kept w event = (kept w ≤ kept (Then w event)) × IsKeptBefore kept w event

-- then a server starts fresh only while nothing was delivered, and open, or with numbers in doubt, only above all that was (RFC 8613, 7.4 and B.1.2)
abbrev pub ReceivedBySaving : Type 0
ReceivedBySaving = (kept : World → ℕ) (w : World) → AtEach (KeepsReceived kept) w → AtEach StartsAboveDelivered w
