-- The calls of a peer in bytes within the list of what happens at two devices. w is the list before, p and q are the bytes before and after, old and new are the
-- peer's numbers, g the history of its server once it passed over numbers.
use Rattle.std.proofs.Common.{◌≡◌, ◌≢◌, ◌∙◌, ◌^◌, ◌<◌, ◌≤◌, ℕ, sym, ap, subst, refl, arith, Bool, true, false, List, [], Option, Some, None, Result, Ok, Err, IfOk, IfSome, IsOk, inl, inr}
use Rattle.std.proofs.Math.Nat.{le-max_left}
use Rattle.std.specs.List.{AllByRecursion}
use Rattle.std.specs.Prelude.{max}
use Rattle.osc_coap.specs.Datagram.{Parts}
use Rattle.osc_context.specs.SecurityContext.{SecurityContext}
use Rattle.osc_window.specs.declared.window_size.WindowSize.{WindowSize}
use Rattle.osc_client.specs.ClientHistory as client
use Rattle.osc_endpoint.specs.ServerAnswer.{ServerAnswer}
use Rattle.osc_laws.specs.Laws.{AreApart, answered}
use Rattle.osc_laws.specs.Laws.{delivered as all_delivered}
use Rattle.osc_laws.proofs.Waiting.{due_parts}
use Rattle.osc_laws.specs.Waiting.{AnsweredOnce, lies_far_back, waits}
use Rattle.osc_life.specs.ServerHistory as server
use Rattle.osc_life.specs.declared.start.Start.{Start}
use Rattle.osc_life.specs.declared.start.Start.TheVariants as starts
use Rattle.osc_handle.specs.ServerBytes.{Serves}
use Rattle.osc_handle.specs.ServerParts.{ServerParts}
use Rattle.osc_kept.proofs.InWorld.{had_tickets}
use Rattle.osc_kept.specs.Premises.{Answers, AtEach}
use Rattle.osc_kept.specs.World.{World, Has, delivered, server_history}
use Rattle.osc_kept_ends.specs.KeptAsking as asking
use Rattle.osc_kept_ends.specs.KeptServing as serving
use Rattle.osc_kept_ends.specs.Numbering.{Own, Draws, DrawsFrom, Load, Reserve, Steps, after, nothing_drawn, upcoming}
use Rattle.osc_kept_ends.specs.Peering.{IsPeerStart, MayDraw, ServerPasses}
use Rattle.osc_peer_bytes.proofs.GivenTickets.{held}
use Rattle.osc_peers.specs.Peers.{Peers, back, forth, near_numbers}
use Rattle.osc_peers.specs.Roles.{turned}
use Rattle.osc_peer_calls.proofs.OneMore.{may_draw}
use Rattle.osc_peer_calls.specs.Counting.{AreCounted, PeersByNumbers}
use Rattle.osc_peer_calls.specs.GoingOn.{AnswersInList, AsksInList, ClientTrusts, DeliversUnder, HasEchoOf, IsAboveReceived, IsOfClient, IsOfServer, Moves, PeerRuns, ServerTrusts, StartsInList, peer_started}
use Rattle.osc_peer_bytes.specs.BytesInList.{AnswersAfter, AsksAfter, BeginsInList, IsUnsaved, RunsIn, SavesInList}
use Rattle.osc_peer_handle.specs.PeerBytes.{AsksBehind, HasNumbers, IsSavedAs, ServesBehind, StepsAnswering, StepsAsking}
use Rattle.osc_peer_handle.specs.declared.peer_handle.PeerHandle.{PeerHandle}

-- ---- numbers

may_draws : (asked : Bool) (old mid : Own) → Draws asked old mid → MayDraw old mid
may_draws true old mid d = inr d
may_draws false old mid d = inl d

moves : (asked : Bool) (used : Option ℕ) (old new : Own) → Steps asked used old new → Moves used old new
moves asked used old new steps = record { drawn = steps.0; mid = new; draws = may_draws asked old steps.0 steps.1; uses = steps.2; kept_on = inl refl }

-- ---- a call of either role

pub answers_after : AnswersInList → (s : SecurityContext) (w : Peers) (p q : PeerHandle) (requests : List client.Asked) (room : ℕ) (runs : RunsIn s w p requests room) (event : server.Event)
    (entry : server.Entry) → AreCounted room s w → IsOfServer event → HasEchoOf (upcoming runs.own) event → StepsAnswering p runs.h event entry runs.own q
    → ServerTrusts (turned s) (back w) runs.h event entry → DeliversUnder entry q.received → AnswersAfter s w event entry q requests room
answers_after law s w p q requests room runs event entry counted plain echo step trusts below =
    let (v, adds, claimed, ran, above) = law room s w runs.h step.g runs.a event entry runs.own step.new counted runs.runs (inr step.passes) plain echo step.row
    (moves (serving.draws step.g event) (serving.uses step.g event entry) runs.own step.new step.numbers) trusts in (
      v,
      adds,
      record {
        claimed = claimed;
        runs = record { h = server.Then step.g event entry; a = runs.a; own = step.new; runs = ran; serves = step.serves; asks = step.asks requests room runs.a runs.asks };
        above = λ x f. above x q.received below f;
      },
    )

above_still : (w v : Peers) (x y : ℕ) → delivered (back v) ≡ delivered (back w) → IsAboveReceived w x → IsAboveReceived v (max x y)
above_still w v x y same f n has =
    let less : n < x = f n (subst (λ ms. Has n ms) same has) in
    let most : x ≤ max x y = le-max_left x y in
    omega (arith, less, most)

pub asks_after : AsksInList → (s : SecurityContext) (w : Peers) (p q : PeerHandle) (requests later : List client.Asked) (room : ℕ) (runs : RunsIn s w p requests room) (event : client.Event)
    (entry : client.Entry) → AreCounted room s w → IsOfClient event → StepsAsking p room runs.a event entry runs.own q later → ClientTrusts s (forth w) runs.a event entry
    → AsksAfter s w event entry q later room
asks_after law s w p q requests later room runs event entry counted plain step trusts =
    let (v, adds, claimed, ran, same) = law room s w runs.h runs.a step.b event entry runs.own step.new counted runs.runs (inr step.passes) plain step.row
    (moves (asking.draws event) (asking.uses step.b event entry) runs.own step.new step.numbers) trusts in (
      v,
      adds,
      record {
        claimed = claimed;
        runs = record { h = runs.h; a = client.Then step.b event entry; own = step.new; runs = ran; serves = step.serves runs.h runs.serves; asks = step.asks };
        above = λ x f. above_still w v x q.received same f;
      },
    )

-- ---- tickets

-- an accepted reply takes a ticket that is left, however often that was copied, unless its request lies far back and another reply took it
pub reply_trusts : AnsweredOnce → (n : ℕ) (s : SecurityContext) (w : World) (h g : server.History) (t : server.TicketValues) (own : Bool) (mid : ℕ) (plain : Parts) (room : ℕ) (entry : server.Entry)
    (z : ServerParts) → AtEach (Answers n s) w → server_history s w ≡ Some h → Has t (all_delivered h)
    → (lies_far_back h t.context t.life t.number ≡ true → AllByRecursion (AreApart t) (answered h)) → ServerPasses h g → Serves z (server.Then g (server.Reply t own mid plain room) entry)
    → ServerTrusts s w h (server.Reply t own mid plain room) entry
reply_trusts once n s w h g t own mid plain room (server.Replied bytes) z answers known has unused passes serves =
    let left = had_tickets n s w h answers known in
    let first = once (server.Then g (server.Reply t own mid plain room) (server.Replied bytes)) serves.answers serves.due in
    let apart : AllByRecursion (AreApart t) (answered h) = elim (due_parts (waits g t.context t.life t.number) own (lies_far_back g t.context t.life t.number) serves.due.1) [
      | inl waiting ↦ subst (λ x. AllByRecursion (AreApart t) (answered x)) passes.is (first.1 waiting)
      | inr late ↦ unused (subst (λ x. lies_far_back x t.context t.life t.number ≡ true) passes.is late.1)
    ] in
    held h left.0 t left.1 has apart
reply_trusts once n s w h g t own mid plain room entry z answers known has unused passes serves = tt

-- neither a reply nor a notification is a delivery
pub reply_under : (g : server.History) (t : server.TicketValues) (own : Bool) (mid : ℕ) (plain : Parts) (room : ℕ) (entry : server.Entry) (floor : ℕ)
    → ServerAnswer g (server.Reply t own mid plain room) entry → DeliversUnder entry floor
reply_under g t own mid plain room (server.Took (server.Deliver received ticket) reply) floor row = absurd row.2
reply_under g t own mid plain room entry floor row = tt

pub notify_under : (g : server.History) (t : server.TicketValues) (plain : Parts) (room : ℕ) (entry : server.Entry) (floor : ℕ) → ServerAnswer g (server.Notify t plain room) entry
    → DeliversUnder entry floor
notify_under g t plain room (server.Took (server.Deliver received ticket) reply) floor row = absurd row.1.2
notify_under g t plain room entry floor row = tt

-- ---- a start

started_here : (start : Start) (sender received floor : ℕ) → IsPeerStart 0 start sender received → sender ≢ 0 → serving.started start sender (nothing_drawn floor) ≡ after (Load sender) (nothing_drawn floor)
started_here (starts.Fresh first) sender received floor is some = absurd (some is.1)
started_here (starts.Restarted first) sender received floor is some = refl
started_here (starts.Received first highest) sender received floor is some = refl
started_here (starts.Reserved first highest kept) sender received floor is some = refl

pub begins : StartsInList → (s : SecurityContext) (w : Peers) (start : Start) (size : WindowSize) (sender received life_ms room : ℕ) (own : Own) (q : PeerHandle) → AreCounted room s w
    → IsPeerStart 0 start sender received → sender < 2 ^ 40 → (near_numbers s w).floor ≤ sender → IsAboveReceived w received → own ≡ serving.started start sender (nothing_drawn 0)
    → ServesBehind q own (server.Then server.Begin (server.Add (turned s) start size 1) (server.Added 0)) → AsksBehind q [] room own (client.New s sender life_ms)
    → BeginsInList s w start size sender received life_ms q room
begins law s w start size sender received life_ms room own q counted is below least above same serves asks =
    let (claimed, runs, delivers) = law room s w 0 start size sender received life_ms 0 counted is below least above in (
      claimed,
      record {
        h = server.Then server.Begin (server.Add (turned s) start size 1) (server.Added 0);
        a = client.New s sender life_ms;
        own = own;
        runs = subst (λ o. PeerRuns s (peer_started start size sender life_ms w) (server.Then server.Begin (server.Add (turned s) start size 1) (server.Added 0)) (client.New s sender life_ms) o)
            (sym same) runs;
        serves = serves;
        asks = asks;
      },
      λ n has. above n (subst (λ ms. Has n ms) delivers has),
    )

-- at a number that was saved
pub begins_loaded : StartsInList → (s : SecurityContext) (w : Peers) (start : Start) (size : WindowSize) (sender received life_ms room : ℕ) (q : PeerHandle) → AreCounted room s w
    → IsPeerStart 0 start sender received → sender ≢ 0 → sender < 2 ^ 40 → (near_numbers s w).floor ≤ sender → IsAboveReceived w received
    → ServesBehind q (after (Load sender) (nothing_drawn 0)) (server.Then server.Begin (server.Add (turned s) start size 1) (server.Added 0))
    → AsksBehind q [] room (after (Load sender) (nothing_drawn 0)) (client.New s sender life_ms) → BeginsInList s w start size sender received life_ms q room
begins_loaded law s w start size sender received life_ms room q counted is some below least above serves asks =
    begins law s w start size sender received life_ms room (after (Load sender) (nothing_drawn 0)) q counted is below least above (sym (started_here start sender received 0 is some)) serves asks

started_first : (start : Start) → IsPeerStart 0 start 0 0 → serving.started start 0 (nothing_drawn 0) ≡ after Reserve (after (Load 0) (nothing_drawn 0))
started_first (starts.Fresh first) is = refl
started_first (starts.Restarted first) is = absurd (is.1 refl)
started_first (starts.Received first highest) is = let none = is.1 in absurd (omega (arith, none))
started_first (starts.Reserved first highest kept) is = absurd (is.3 refl)

-- at 0, once its first number is saved
pub begins_first : StartsInList → (s : SecurityContext) (w : Peers) (start : Start) (size : WindowSize) (life_ms room sender : ℕ) (p q : PeerHandle) → AreCounted room s w
    → IsPeerStart 0 start 0 0 → (near_numbers s w).floor ≤ 0 → IsAboveReceived w 0 → sender ≢ 0 → IsUnsaved s start size life_ms p
    → ((o : Own) → HasNumbers p o → (new : Own) × IsSavedAs sender o new × ((h : server.History) → ServesBehind p o h → ServesBehind q new h)
    × ((requests : List client.Asked) (room : ℕ) (a : client.History) → AsksBehind p requests room o a → AsksBehind q requests room new a))
    → BeginsInList s w start size 0 0 life_ms q room
begins_first law s w start size life_ms room sender p q counted is least above some unsaved saves =
    let o = after (Load 0) (nothing_drawn 0) in
    let (serves, asks) = unsaved 0 room (omega arith) in
    let (new, saved, serves_on, asks_on) = saves o serves.has in
    let same : new ≡ after Reserve o = first new saved in
    begins law s w start size 0 0 life_ms room new q counted is (omega arith) least above (same ∙ sym (started_first start is)) (serves_on _ serves) (asks_on [] room _ asks) where
      first : (new : Own) → IsSavedAs sender (after (Load 0) (nothing_drawn 0)) new → new ≡ after Reserve (after (Load 0) (nothing_drawn 0))
      first new (inl (none, same)) = absurd (some none)
      first new (inr (is, (can, same))) = same

-- ---- a save

pub saves_in_list : PeersByNumbers → (s : SecurityContext) (w : Peers) (p q : PeerHandle) (requests : List client.Asked) (room sender : ℕ) (runs : RunsIn s w p requests room) → AreCounted room s w
    → ((o : Own) → HasNumbers p o → (new : Own) × IsSavedAs sender o new × ((h : server.History) → ServesBehind p o h → ServesBehind q new h)
    × ((requests : List client.Asked) (room : ℕ) (a : client.History) → AsksBehind p requests room o a → AsksBehind q requests room new a))
    → SavesInList s w q requests room
saves_in_list law s w p q requests room sender runs counted saves =
    let (new, saved, serves_on, asks_on) = saves runs.own runs.serves.has in
    let drawn = may_draw room s w runs.h runs.a runs.own new counted runs.runs (draws runs.own new saved) in (
      drawn.v,
      drawn.is,
      record {
        claimed = record { counted = drawn.counted; claims = (law room s drawn.v drawn.counted).1 };
        runs = record { h = runs.h; a = runs.a; own = new; runs = drawn.runs; serves = serves_on runs.h runs.serves; asks = asks_on requests room runs.a runs.asks };
        above = λ x f. above_still w drawn.v x q.received (ap delivered drawn.back_is) f;
      },
    ) where
      draws : (o new : Own) → IsSavedAs sender o new → MayDraw o new
      draws o new (inl (is, same)) = inl same
      draws o new (inr (is, (can, goes))) = inr (subst (λ hand. DrawsFrom hand o new) (sym can.0) (inr (inl (can, goes))))

-- ---- answers

-- where something is there, two facts about it make a third
pub both_some : {A : Type 0} {P Q S : A → Type 0} (r : Option A) → ((x : A) → P x → Q x → S x) → IfSome r P → IfSome r Q → IfSome r S
both_some (Some x) f p q = f x p q
both_some None f p q = tt

-- where something was done, two facts about it and a third one make a fourth
pub three_ok : {A E : Type 0} {P Q S : A → Type 0} {T : Type 0} (r : Result A E) → ((x : A) → P x → Q x → T → S x) → IfOk r P → IfOk r Q → (IsOk r → T) → IfOk r S
three_ok (Ok x) f p q t = f x p q (t refl)
three_ok (Err e) f p q t = tt
