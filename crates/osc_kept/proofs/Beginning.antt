-- If the numbers of both ends are kept, each of their lives begins above all numbers that were used before. w is the world so far.
use Rattle.std.proofs.Common.{ℕ, ◌<◌, ◌≤◌, ap, subst, arith}
use Rattle.osc_context.specs.SecurityContext.{SecurityContext, IsUsable}
use Rattle.osc_client.specs.ClientHistory as client
use Rattle.osc_life.specs.ServerHistory as server
use Rattle.osc_kept_ends.specs.Numbering.{Allowed, Load}
use Rattle.osc_kept.specs.Premises.{Answers, AtEach, BeginsAbove, EchoIsNew, StartsAboveDelivered, IsAboveOwn, IsAboveSent, IsKept, KeptBeginAbove, NobodyForges, NumbersAreKept}
use Rattle.osc_kept.specs.World.{World, Begin, Then, Event, Client, Server, ClientStarts, ServerStarts, AtClient, AtServer, Has, client_effect, numbers, server_effect}
use Rattle.osc_kept.proofs.Deeds.{owned}
use Rattle.osc_kept.proofs.Digest.{answered_is, digest, sent_is}
use Rattle.osc_kept.proofs.Owned.{own_used, sent_used}
use Rattle.osc_kept.proofs.Rising.{own_inv}

above_sent : (s : SecurityContext) (w : World) (first : ℕ) → AtEach (NumbersAreKept s) w → Allowed (Load first) (numbers Client s w) → IsAboveSent s w first
above_sent s w first kept allowed r has =
    let below : r.number < (numbers Client s w).floor = (own_inv Client s w kept).below r.number (sent_used s w r (subst (λ rs. Has r rs) (sent_is s w) has)) in
    let least : (numbers Client s w).floor ≤ first = allowed.0 in
    omega (arith, below, least)

above_own : (n : ℕ) (s : SecurityContext) (w : World) (first : ℕ) → AtEach (Answers n s) w → AtEach (NumbersAreKept s) w → Allowed (Load first) (numbers Server s w) → IsAboveOwn s w first
above_own n s w first answers kept allowed r own has is =
    let used = own_used n s w own answers (owned (digest s w) r own (subst (λ rs. Has r rs) (answered_is s w) has) is) in
    let below : own < (numbers Server s w).floor = (own_inv Server s w kept).below own used in
    let least : (numbers Server s w).floor ≤ first = allowed.0 in
    omega (arith, below, least)

begins_at : (n : ℕ) (s : SecurityContext) (w : World) (event : Event) → AtEach (Answers n s) (Then w event) → AtEach (NumbersAreKept s) (Then w event) → BeginsAbove s w event
begins_at n s w (ClientStarts first ms) a k = above_sent s w first k.0 k.1.client
begins_at n s w (ServerStarts start size) a k = above_own n s w _ a.0 k.0 k.1.server
begins_at n s w (AtClient (client.Restart first) client.Restarted) a k =
    above_sent s w first k.0 (subst (λ e. Allowed e (numbers Client s w)) (ap (λ o. client_effect o (client.Restart first) client.Restarted) a.1.1) k.1.client)
begins_at n s w (AtClient (client.Restart first) entry) a k = absurd a.1.2
begins_at n s w (AtServer (server.Restart i first) server.Restarted) a k =
    above_own n s w first a.0 k.0 (subst (λ e. Allowed e (numbers Server s w)) (ap (λ o. server_effect o (server.Restart i first) server.Restarted) a.1.1) k.1.server)
begins_at n s w event a k = tt

pub kept_begin_above : KeptBeginAbove
kept_begin_above n s Begin a k = tt
kept_begin_above n s (Then w event) a k = (kept_begin_above n s w a.0 k.0, begins_at n s w event a k)

pub is_kept : (n : ℕ) (s : SecurityContext) (w : World) → IsUsable s → AtEach (Answers n s) w → AtEach (NobodyForges s) w → AtEach (EchoIsNew s) w → AtEach (NumbersAreKept s) w
    → AtEach StartsAboveDelivered w → IsKept n s w
is_kept n s w usable answers sealed unseen kept fresh = record {
  lawful = record { usable = usable; answers = answers; sealed = sealed; unseen = unseen; above = kept_begin_above n s w answers kept; fresh = fresh };
  kept = kept;
}

-- an event that adds nothing to what the other premises say
pub more_kept : (n : ℕ) (s : SecurityContext) (w : World) (event : Event) → IsKept n s w → Answers n s w event → NobodyForges s w event → EchoIsNew s w event
    → StartsAboveDelivered w event → AtEach (NumbersAreKept s) (Then w event) → IsKept n s (Then w event)
more_kept n s w event i answers sealed unseen fresh kept =
    let l = i.lawful in
    is_kept n s (Then w event) l.usable (l.answers, answers) (l.sealed, sealed) (l.unseen, unseen) kept (l.fresh, fresh)
