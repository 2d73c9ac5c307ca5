-- What the calls of a peer have in common: one of them adds its event to the list, and the peer is its near device still. w is the list before, old and new are
-- the peer before and after.
use Rattle.std.proofs.Common.{◌≡◌, ℕ, ◌+◌, ◌<◌, ◌≤◌, sym, ap, subst, refl, arith, Bool, true, false, List, Option, Some, None, Result, Ok, Err, IfOk, IfErr, inl, inr}
use Rattle.std.proofs.Math.Nat.{le-max_left}
use Rattle.std.specs.Prelude.{max, unwrap_or}
use Rattle.osc_coap.specs.Datagram.{Parts}
use Rattle.osc_context.specs.SecurityContext.{SecurityContext}
use Rattle.osc_context.specs.Views.{next_of}
use Rattle.osc_context.specs.declared.record_keeper.RecordKeeper as keeper
use Rattle.osc_window.specs.declared.window_size.WindowSize.{WindowSize}
use Rattle.osc_client.specs.Agrees.{ClientAgrees}
use Rattle.osc_client.specs.ClientAnswer.{ClientAnswer}
use Rattle.osc_client.specs.ClientHistory as client
use Rattle.osc_client.specs.declared.client.Client.{Client}
use Rattle.osc_endpoint.specs.Agrees.{Agrees}
use Rattle.osc_endpoint.specs.ServerAnswer.{ServerAnswer}
use Rattle.osc_endpoint.specs.Views.{server_entry}
use Rattle.osc_endpoint.specs.declared.server.ServerOf.{ServerOf}
use Rattle.osc_life.specs.Deciding as deciding
use Rattle.osc_life.specs.ServerHistory as server
use Rattle.osc_life.specs.Views.{Shows, reply_entry}
use Rattle.osc_life.specs.declared.decision.Decision.{Decision}
use Rattle.osc_life.specs.declared.decision.Decision.TheVariants as decisions
use Rattle.osc_life.specs.declared.outcome.Outcome.{Outcome}
use Rattle.osc_life.specs.declared.outcome.Outcome.TheVariants as outcomes
use Rattle.osc_life.specs.declared.server_error.ReplyError.{ReplyError}
use Rattle.osc_life.specs.declared.start.Start.{Start}
use Rattle.osc_life.specs.declared.ticket.Ticket.{Ticket}
use Rattle.osc_kept_ends.specs.declared.kept_peer.KeptPeer.{KeptPeer}
use Rattle.osc_kept_ends.specs.KeptAsking as asking
use Rattle.osc_kept_ends.specs.KeptServing as serving
use Rattle.osc_kept_ends.specs.Numbering.{Own, Draws, DrawsFrom, Goes, Steps, nothing_drawn, upcoming, use_of}
use Rattle.osc_kept_ends.specs.PeerOwning.{own_in}
use Rattle.osc_kept_ends.specs.Peering as peering
use Rattle.osc_kept_ends.specs.Peering.{ClientIsBehind, IsKeptOn, MayDraw, ServerIsBehind}
use Rattle.osc_kept_ends.proofs.Drawing.{last_drawn}
use Rattle.osc_kept_ends.proofs.PeerSteps.{client_still, server_still, upcoming_on}
use Rattle.osc_kept.specs.InWorld.{IsHeld}
use Rattle.osc_kept.specs.World.{World, Has, delivered}
use Rattle.osc_peers.specs.Peers.{Peers, back, forth}
use Rattle.osc_peers.specs.Roles.{turned}
use Rattle.osc_peer_calls.specs.Counting.{AreCounted}
use Rattle.osc_peer_calls.specs.GoingOn.{AnswersInList, AsksInList, ClientTrusts, DeliversUnder, HasEchoOf, IsAboveReceived, IsAsClaimed, IsOfClient, IsOfServer, MayPass, MayPassAsking, Moves, PeerRuns, ServerTrusts, peer_started}
use Rattle.osc_peer_calls.specs.PeerCalls.{AdvancesInList, AnswersAfter, AsksAfter, BeginsInList, RunsIn}

-- ---- numbers

-- a number in hand is the last that was drawn
abbrev IsLast : Own → Type 0
IsLast o = (n : ℕ) → o.hand ≡ Some n → n + 1 ≡ o.next

some_is : (a b : ℕ) → Some a ≡ Some b → a ≡ b
some_is a b e = ap (λ (o : Option ℕ). unwrap_or o a) e

-- behind a draw it is so still, and the number with which the peer seals next is the same
record IsSame (old new : Own) : Type 0 where
  pub last : IsLast new
  pub most : upcoming old ≤ upcoming new

same_own : (old new : Own) → IsLast old → new ≡ old → IsSame old new
same_own old new l e = subst (λ o. IsSame old o) (sym e) (record { last = l; most = omega arith })

empty_hand : (o : Own) → o.hand ≡ None → upcoming o ≡ o.next
empty_hand o e = ap (λ (h : Option ℕ). unwrap_or h o.next) e

drawn_from : (hand : Option ℕ) (old new : Own) → old.hand ≡ hand → IsLast old → DrawsFrom hand old new → IsSame old new
drawn_from (Some n) old new is l e = same_own old new l e
drawn_from None old new is l (inl (can, e)) =
    let next : upcoming old ≡ old.next = empty_hand old is in
    subst (λ o. IsSame old o) (sym e) (record { last = λ n f. let same : old.next ≡ n = some_is old.next n f in ap (λ k. k + 1) (sym same); most = omega (arith, next) })
drawn_from None old new is l (inr (inl (can, e))) =
    let next : upcoming old ≡ old.next = empty_hand old is in
    subst (λ o. IsSame old o) (sym e) (record { last = λ n f. let same : old.next ≡ n = some_is old.next n f in ap (λ k. k + 1) (sym same); most = omega (arith, next) })
drawn_from None old new is l (inr (inr (end, e))) = same_own old new l e

may_draw : (old new : Own) → IsLast old → MayDraw old new → IsSame old new
may_draw old new l (inl e) = same_own old new l e
may_draw old new l (inr d) = drawn_from old.hand old new refl l d

used : (u : Option ℕ) (old new : Own) → IsLast old → Goes (use_of u) old new → upcoming old ≤ upcoming new
used None old new l (can, e) = let same : upcoming new ≡ upcoming old = ap upcoming e in omega (arith, same)
used (Some n) old new l (can, e) =
    let here : upcoming old ≡ n = ap (λ (h : Option ℕ). unwrap_or h old.next) can in
    let last : n + 1 ≡ old.next = l n can in
    let there : upcoming new ≡ old.next = ap upcoming e in
    omega (arith, here, last, there)

-- the number with which the peer seals next never sinks
moves_rise : (u : Option ℕ) (old new : Own) → IsLast old → Moves u old new → upcoming old ≤ upcoming new
moves_rise u old new l m =
    let drawn = may_draw old m.drawn l m.draws in
    let draws : upcoming old ≤ upcoming m.drawn = drawn.most in
    let uses : upcoming m.drawn ≤ upcoming m.mid = used u m.drawn m.mid drawn.last m.uses in
    let keeps : upcoming new ≡ upcoming m.mid = upcoming_on m.mid new m.kept_on in
    omega (arith, draws, uses, keeps)

asked_draws : (asked : Bool) (old mid : Own) → Draws asked old mid → MayDraw old mid
asked_draws true old mid d = inr d
asked_draws false old mid e = inl e

moved : (asked : Bool) (u : Option ℕ) (old mid new : Own) → Steps asked u old mid → IsKeptOn mid new → Moves u old new
moved asked u old mid new steps on = record { drawn = steps.0; mid = mid; draws = asked_draws asked old steps.0 steps.1; uses = steps.2; kept_on = on }

-- a step of a kept server, and a record that may be written once more
pub serves_on : (g : server.History) (event : server.Event) (entry : server.Entry) (old mid new : Own) (z : ServerOf 1) → serving.KeptStep g event entry old mid z → IsKeptOn mid new
    → Moves (serving.uses g event entry) old new
serves_on g event entry old mid new z step on = moved (serving.draws g event) (serving.uses g event entry) old mid new step.numbers on

pub serves : (g : server.History) (event : server.Event) (entry : server.Entry) (old new : Own) (z : ServerOf 1) → serving.KeptStep g event entry old new z → Moves (serving.uses g event entry) old new
serves g event entry old new z step = serves_on g event entry old new new z step (inl refl)

pub asks : {N : ℕ} (m : client.History) (event : client.Event) (entry : client.Entry) (old new : Own) (c : Client N) → asking.KeptStep m event entry old new c → Moves (asking.uses m event entry) old new
asks m event entry old new c step = moved (asking.draws event) (asking.uses m event entry) old new new step.numbers (inl refl)

-- nothing is used
pub waited : (old mid new : Own) → MayDraw old mid → IsKeptOn mid new → Moves None old new
waited old mid new d on = record { drawn = mid; mid = mid; draws = d; uses = (tt, refl); kept_on = on }

pub idle : (old new : Own) → new ≡ old → Moves None old new
idle old new e = waited old old new (inl refl) (inl e)

-- ---- deliveries

pub decided_under : (decision : Decision) (left : List ℕ) (answer : server.Answer) (reply : List ℕ) (floor : ℕ) → deciding.Decides decision left answer → peering.DeliversBelow decision floor
    → DeliversUnder (server.Took answer reply) floor
decided_under (decisions.Deliver x t) left (server.Deliver received ticket) reply floor d below = subst (λ (v : server.TicketValues). v.number < floor) d.1 below
decided_under decision left (server.Deliver received ticket) reply floor d below = absurd d
decided_under decision left answer reply floor d below = tt

pub shown_under : (outcome : Outcome) (answer : server.Answer) (reply : List ℕ) (floor : ℕ) → Shows outcome answer → peering.TakesBelow outcome floor → DeliversUnder (server.Took answer reply) floor
shown_under (outcomes.Deliver x t) (server.Deliver received ticket) reply floor s below = subst (λ (v : server.TicketValues). v.number < floor) s.1 below
shown_under outcome (server.Deliver received ticket) reply floor s below = absurd s
shown_under outcome answer reply floor s below = tt

-- ---- a call

pub answers_after : {R : Type 0} {r : keeper.Ghosts R} {N : ℕ} → AnswersInList → (s : SecurityContext) (w : Peers) (old new : KeptPeer R N r) (runs : RunsIn s w old) (g : server.History)
    (event : server.Event) (entry : server.Entry) → AreCounted N s w → MayPass runs.h g → IsOfServer event → HasEchoOf (upcoming (own_in old.source)) event → ServerAnswer g event entry
    → Moves (serving.uses g event entry) (own_in old.source) (own_in new.source) → ServerTrusts (turned s) (back w) runs.h event entry
    → ServerIsBehind new.server (upcoming (own_in new.source)) (server.Then g event entry) → new.client ≡ old.client → DeliversUnder entry (r.received_floor new.source.keeper)
    → AnswersAfter s w event entry new
answers_after {r = r} {N = N} law s w old new runs g event entry i pass plain e row m trusts is client_is below =
    let (v, adds, claimed, ran, above) = law N s w runs.h g runs.k event entry (own_in old.source) (own_in new.source) i runs.runs pass plain e row m trusts in
    let most = moves_rise (serving.uses g event entry) (own_in old.source) (own_in new.source) (λ n f. last_drawn old.source.in_hand (next_of old.source.numbers) n old.source.last_drawn f) m in (
      v,
      adds,
      record {
        claimed = claimed;
        runs = record {
          h = server.Then g event entry;
          k = runs.k;
          runs = ran;
          server = is;
          client = subst (λ (c : Client N). ClientIsBehind c (upcoming (own_in new.source)) runs.k) (sym client_is)
              (client_still old.client runs.k (upcoming (own_in old.source)) (upcoming (own_in new.source)) most runs.client);
        };
        above = λ x f. above x (r.received_floor new.source.keeper) below f;
      },
    )

above_still : (w v : Peers) (x y : ℕ) → delivered (back v) ≡ delivered (back w) → IsAboveReceived w x → IsAboveReceived v (max x y)
above_still w v x y same f n has =
    let less : n < x = f n (subst (λ ms. Has n ms) same has) in
    let most : x ≤ max x y = le-max_left x y in
    omega (arith, less, most)

pub asks_after : {R : Type 0} {r : keeper.Ghosts R} {N : ℕ} → AsksInList → (s : SecurityContext) (w : Peers) (old new : KeptPeer R N r) (runs : RunsIn s w old) (m : client.History)
    (event : client.Event) (entry : client.Entry) → AreCounted N s w → MayPassAsking N runs.k m → IsOfClient event → ClientAnswer N m event entry
    → Moves (asking.uses m event entry) (own_in old.source) (own_in new.source) → ClientTrusts s (forth w) runs.k event entry
    → ClientIsBehind new.client (upcoming (own_in new.source)) (client.Then m event entry) → new.server ≡ old.server → AsksAfter s w event entry new
asks_after {r = r} {N = N} law s w old new runs m event entry i pass plain row x trusts is server_is =
    let (v, adds, claimed, ran, same) = law N s w runs.h runs.k m event entry (own_in old.source) (own_in new.source) i runs.runs pass plain row x trusts in
    let most = moves_rise (asking.uses m event entry) (own_in old.source) (own_in new.source) (λ n f. last_drawn old.source.in_hand (next_of old.source.numbers) n old.source.last_drawn f) x in (
      v,
      adds,
      record {
        claimed = claimed;
        runs = record {
          h = runs.h;
          k = client.Then m event entry;
          runs = ran;
          server = subst (λ (z : ServerOf 1). ServerIsBehind z (upcoming (own_in new.source)) runs.h) (sym server_is)
              (server_still old.server runs.h (upcoming (own_in old.source)) (upcoming (own_in new.source)) most runs.server);
          client = is;
        };
        above = λ y f. above_still w v y (r.received_floor new.source.keeper) same f;
      },
    )

-- a peer whose parts stay runs still
pub runs_still : {R : Type 0} {r : keeper.Ghosts R} {N : ℕ} (s : SecurityContext) (w : Peers) (old new : KeptPeer R N r) → new.server ≡ old.server → new.client ≡ old.client
    → own_in new.source ≡ own_in old.source → RunsIn s w old → RunsIn s w new
runs_still {N = N} s w old new server client own runs = record {
  h = runs.h;
  k = runs.k;
  runs = subst (λ o. PeerRuns s w runs.h runs.k o) (sym own) runs.runs;
  server = subst (λ (z : ServerOf 1). ServerIsBehind z (upcoming (own_in new.source)) runs.h) (sym server) (subst (λ o. ServerIsBehind old.server (upcoming o) runs.h) (sym own) runs.server);
  client = subst (λ (c : Client N). ClientIsBehind c (upcoming (own_in new.source)) runs.k) (sym client) (subst (λ o. ClientIsBehind old.client (upcoming o) runs.k) (sym own) runs.client);
}

-- ---- results

-- what both clauses say of a value gives another thing
pub both_ok : {A E : Type 0} {P Q S : A → Type 0} (r : Result A E) → ((x : A) → P x → Q x → S x) → IfOk r P → IfOk r Q → IfOk r S
both_ok (Ok x) f a b = f x a b
both_ok (Err e) f a b = tt

-- what is said of an error gives another thing
pub one_err : {A E : Type 0} {P Q : E → Type 0} (r : Result A E) → ((e : E) → P e → Q e) → IfErr r P → IfErr r Q
one_err (Ok x) f a = tt
one_err (Err e) f a = f e a

-- ---- replies and notifications

pub reply_trusts : (s : SecurityContext) (w : World) (h : server.History) (t : server.TicketValues) (own : Bool) (mid : ℕ) (p : Parts) (room : ℕ) (entry : server.Entry) → IsHeld h t
    → ServerTrusts s w h (server.Reply t own mid p room) entry
reply_trusts s w h t own mid p room (server.Replied bytes) held = held
reply_trusts s w h t own mid p room entry held = tt

pub notify_trusts : (s : SecurityContext) (w : World) (h : server.History) (t : server.TicketValues) (p : Parts) (room : ℕ) (entry : server.Entry) → IsHeld h t
    → ServerTrusts s w h (server.Notify t p room) entry
notify_trusts s w h t p room (server.Replied bytes) held = held
notify_trusts s w h t p room entry held = tt

pub reply_under : (r : Result ℕ (ReplyError × Ticket)) (out : List ℕ) (floor : ℕ) → DeliversUnder (server_entry r out) floor
reply_under (Ok n) out floor = tt
reply_under (Err e) out floor = tt

pub notify_under : (r : Result ℕ ReplyError) (out : List ℕ) (floor : ℕ) → DeliversUnder (reply_entry r out) floor
notify_under (Ok n) out floor = tt
notify_under (Err e) out floor = tt

-- ---- a call of the client's role that draws and uses no number

-- no number is passed over or used
abbrev pub IsQuiet : client.Event → Type 0
IsQuiet (client.Request now p room) = ⊥
IsQuiet (client.Skip count) = ⊥
IsQuiet (client.Restart next) = ⊥
IsQuiet event = Unit {0}

quiet_next : (k : client.History) (event : client.Event) (entry : client.Entry) → IsQuiet event → client.next (client.Then k event entry) ≡ client.next k
quiet_next k (client.Request now p room) entry q = absurd q
quiet_next k (client.Skip count) entry q = absurd q
quiet_next k (client.Restart next) entry q = absurd q
quiet_next k event entry q = refl

quiet_uses : (k : client.History) (event : client.Event) (entry : client.Entry) → IsQuiet event → asking.uses k event entry ≡ None
quiet_uses k (client.Request now p room) entry q = absurd q
quiet_uses k (client.Skip count) entry q = absurd q
quiet_uses k (client.Restart next) entry q = absurd q
quiet_uses k event entry q = refl

pub listens : {R : Type 0} {r : keeper.Ghosts R} {N : ℕ} → AsksInList → (s : SecurityContext) (w : Peers) (old new : KeptPeer R N r) (runs : RunsIn s w old) (event : client.Event)
    (entry : client.Entry) → AreCounted N s w → IsOfClient event → IsQuiet event → ClientAnswer N runs.k event entry → ClientTrusts s (forth w) runs.k event entry
    → ClientAgrees new.client (client.Then runs.k event entry) → (new.server ≡ old.server) × (new.source ≡ old.source) → AsksAfter s w event entry new
listens law s w old new runs event entry i plain quiet row trusts agrees (server_is, source_is) =
    let least : client.next runs.k ≤ upcoming (own_in old.source) = runs.client.least in
    let same : upcoming (own_in new.source) ≡ upcoming (own_in old.source) = ap (λ x. upcoming (own_in x)) source_is in
    let next : client.next (client.Then runs.k event entry) ≡ client.next runs.k = quiet_next runs.k event entry quiet in
    asks_after law s w old new runs runs.k event entry i (inl refl) plain row
    (subst (λ u. Moves u (own_in old.source) (own_in new.source)) (sym (quiet_uses runs.k event entry quiet)) (idle (own_in old.source) (own_in new.source) (ap (λ x. own_in x) source_is)))
    trusts (record { agrees = agrees; least = omega (arith, next, least, same) }) server_is

-- ---- a start

pub begins : {R : Type 0} {r : keeper.Ghosts R} {N : ℕ} (s : SecurityContext) (w : Peers) (start : Start) (size : WindowSize) (sender received life_ms floor : ℕ) (new : KeptPeer R N r)
    → IsAsClaimed N s (peer_started start size sender life_ms w)
    → PeerRuns s (peer_started start size sender life_ms w) (server.Then server.Begin (server.Add (turned s) start size 1) (server.Added 0)) (client.New s sender life_ms)
    (serving.started start sender (nothing_drawn floor))
    → delivered (back (peer_started start size sender life_ms w)) ≡ delivered (back w) → own_in new.source ≡ serving.started start sender (nothing_drawn floor)
    → ServerIsBehind new.server (upcoming (own_in new.source)) (server.Then server.Begin (server.Add (turned s) start size 1) (server.Added 0))
    → ClientIsBehind new.client (upcoming (own_in new.source)) (client.New s sender life_ms) → IsAboveReceived w received
    → BeginsInList s w start size sender received life_ms new
begins s w start size sender received life_ms floor new claimed runs same own server_is client_is above = (
  claimed,
  record {
    h = server.Then server.Begin (server.Add (turned s) start size 1) (server.Added 0);
    k = client.New s sender life_ms;
    runs = subst (λ o. PeerRuns s (peer_started start size sender life_ms w) (server.Then server.Begin (server.Add (turned s) start size 1) (server.Added 0)) (client.New s sender life_ms) o) (sym own) runs;
    server = server_is;
    client = client_is;
  },
  λ n has. above n (subst (λ ms. Has n ms) same has),
)

-- ---- both clocks

pub advances : {R : Type 0} {r : keeper.Ghosts R} {N : ℕ} → AnswersInList → AsksInList → (s : SecurityContext) (w : Peers) (old new : KeptPeer R N r) (runs : RunsIn s w old) (now : ℕ)
    → AreCounted N s w → Agrees new.server (server.Then runs.h (server.Advance now) server.Advanced) → ClientAgrees new.client (client.Then runs.k (client.Advance now) client.Advanced)
    → new.source ≡ old.source → AdvancesInList s w now new
advances {r = r} {N = N} answers asks s w old new runs now i served asked source_is =
    let own : Own = own_in old.source in
    let h : server.History = server.Then runs.h (server.Advance now) server.Advanced in
    let k : client.History = client.Then runs.k (client.Advance now) client.Advanced in
    let same : own_in new.source ≡ own = ap (λ x. own_in x) source_is in
    let (u, adds, claimed, ran, above) = answers N s w runs.h runs.h runs.k (server.Advance now) server.Advanced own own i runs.runs (inl refl) tt tt tt (idle own own refl) tt in
    let (v, more, all, runs_on, delivers) = asks N s u h runs.k runs.k (client.Advance now) client.Advanced own own claimed.counted ran (inl refl) tt tt (idle own own refl) tt in (
      u,
      v,
      adds,
      more,
      record {
        claimed = all;
        runs = record {
          h = h;
          k = k;
          runs = subst (λ o. PeerRuns s v h k o) (sym same) runs_on;
          server = subst (λ o. ServerIsBehind new.server (upcoming o) h) (sym same)
              (record { agrees = served; one = runs.server.one; reached = runs.server.reached; reached_is = runs.server.reached_is; least = runs.server.least });
          client = subst (λ o. ClientIsBehind new.client (upcoming o) k) (sym same) (record { agrees = asked; least = runs.client.least });
        };
        above = λ x f n has. above x (r.received_floor new.source.keeper) tt f n (subst (λ ms. Has n ms) delivers has);
      },
    )
