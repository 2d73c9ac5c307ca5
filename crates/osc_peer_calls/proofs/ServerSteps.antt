-- What the near device answers to an event as a server, as a step of the list. w is the list before, b the one right before the event, h and g are the server's
-- histories there.
use Rattle.std.proofs.Common.{◌≡◌, ℕ, ◌<◌, ◌≤◌, ◌∙◌, sym, ap, subst, refl, arith, Bool, true, false, List, Option, Some, inl, inr}
use Rattle.std.proofs.Math.Nat.{le-max_left, le-max_right}
use Rattle.std.specs.Prelude.{max, unwrap_or}
use Rattle.std.specs.Option.{option_and_then, option_map}
use Rattle.osc_coap.specs.Datagram.{Parts}
use Rattle.osc_context.specs.SecurityContext.{SecurityContext}
use Rattle.osc_client.specs.ClientHistory as client
use Rattle.osc_endpoint.specs.ServerAnswer.{ServerAnswer}
use Rattle.osc_endpoint.specs.Tickets.{TakesTickets}
use Rattle.osc_life.specs.Life.{Life, next_own}
use Rattle.osc_life.specs.ServerHistory as server
use Rattle.osc_kept_ends.specs.EchoNumber.{echo_of}
use Rattle.osc_kept_ends.specs.KeptServing as serving
use Rattle.osc_kept_ends.specs.Numbering.{Own, AreAlike, Allowed, Goes, Stay, after, upcoming, use_of}
use Rattle.osc_kept_ends.specs.Peering.{MayDraw}
use Rattle.osc_kept_ends.proofs.Drawing.{upcoming_stays}
use Rattle.osc_kept.specs.EchoNumbers.{EchoesItsNumber, MakesEcho}
use Rattle.osc_kept.specs.InWorld.{IsHeld}
use Rattle.osc_kept.specs.Premises.{BringsNoContext, NobodyForges}
use Rattle.osc_kept.specs.World.{World, Then, AtServer, Has, delivered, sent, server_effect, server_history, server_life}
use Rattle.osc_kept.proofs.EchoNumbers.{counted_makes}
use Rattle.osc_kept.proofs.GoingOn.{after_alike, alike_to, allowed_alike, no_load, IsNoLoad}
use Rattle.osc_kept.proofs.InWorld.{HasTicket, forges_still, had_tickets, tickets_step}
use Rattle.osc_kept.proofs.Lives.{OnlyFirst, stands}
use Rattle.osc_peers.specs.Peers.{Back, Peers, More, back, near_effect, near_numbers}
use Rattle.osc_peers.specs.Roles.{turned}
use Rattle.osc_peer_calls.specs.Counting.{AreCounted, PeersByNumbers}
use Rattle.osc_peer_calls.specs.GoingOn.{AnswersInList, DeliversUnder, HasEchoOf, IsOfServer, IsPassed, MayPass, Moves, PeerRuns, ServerTrusts, StaysAbove, server_skip}
use Rattle.osc_peer_calls.proofs.OneMore.{Drawn, alike_on, back_more, may_draw}

-- ---- the numbers

-- what an event does to the numbers of a server that has no restart in place
used_by : (h : server.History) (event : server.Event) (entry : server.Entry) → IsOfServer event → server_effect (Some h) event entry ≡ use_of (serving.uses h event entry)
used_by h (server.Add context start size places) entry i = absurd i
used_by h (server.Replace context by start size) entry i = absurd i
used_by h (server.Restart context next) entry i = absurd i
used_by h event entry i = refl

pub near_uses : (s : SecurityContext) (w : Peers) (h : server.History) (event : server.Event) (entry : server.Entry) → server_history (turned s) (back w) ≡ Some h → IsOfServer event
    → near_effect s w (Back (AtServer event entry)) ≡ use_of (serving.uses h event entry)
near_uses s w h event entry e i = ap (λ o. server_effect o event entry) e ∙ used_by h event entry i

-- ---- passing over

-- the list behind a passing over or none
record Passed (n : ℕ) (s : SecurityContext) (w : Peers) (g : server.History) (k : client.History) (own : Own) : Type 0 where
  pub v : Peers
  pub is : IsPassed server_skip w v
  pub counted : AreCounted n s v
  pub runs : PeerRuns s v g k own
  pub sent_is : sent (turned s) (back v) ≡ sent (turned s) (back w)
  pub delivered_is : delivered (back v) ≡ delivered (back w)

skipped : (n : ℕ) (s : SecurityContext) (w : Peers) (h : server.History) (k : client.History) (own : Own) (count : ℕ) → AreCounted n s w → PeerRuns s w h k own
    → ServerAnswer h (server.Skip 0 count) server.Skipped → Passed n s w (server.Then h (server.Skip 0 count) server.Skipped) k own
skipped n s w h k own count i r row =
    let stays : near_effect s w (server_skip count) ≡ Stay = near_uses s w h (server.Skip 0 count) server.Skipped r.server_is tt in
    record {
      v = More w (server_skip count);
      is = inr (count, refl);
      counted = back_more n s w (AtServer (server.Skip 0 count) server.Skipped) i
          (h, r.server_is, row, tt, tickets_step h (server.Skip 0 count) server.Skipped tt row (had_tickets n (turned s) (back w) h i.back_is.answers r.server_is)) tt tt tt tt tt
          (subst (λ e. Allowed e (near_numbers s w)) (sym stays) tt) tt;
      runs = record {
        server_is = ap (λ o. option_map (λ x. server.Then x (server.Skip 0 count) server.Skipped) o) r.server_is;
        client_is = r.client_is;
        numbers_are = subst (λ e. AreAlike (after e (near_numbers s w)) own) (sym stays) r.numbers_are;
      };
      sent_is = refl;
      delivered_is = refl;
    }

passed : (n : ℕ) (s : SecurityContext) (w : Peers) (h g : server.History) (k : client.History) (own : Own) → AreCounted n s w → PeerRuns s w h k own → MayPass h g → Passed n s w g k own
passed n s w h g k own i r (inl same) =
    record { v = w; is = inl refl; counted = i; runs = subst (λ x. PeerRuns s w x k own) (sym same) r; sent_is = refl; delivered_is = refl }
passed n s w h g k own i r (inr p) = subst (λ x. Passed n s w x k own) (sym p.is) (skipped n s w h k own p.count i r p.row)

held_still : (h g : server.History) (t : server.TicketValues) → MayPass h g → IsHeld h t → IsHeld g t
held_still h g t (inl same) x = subst (λ y. IsHeld y t) (sym same) x
held_still h g t (inr p) x = subst (λ y. IsHeld y t) (sym p.is) (x.0, x.1, x.2, x.3)

-- ---- what the event needs

has_ticket : (s : SecurityContext) (w : World) (h g : server.History) (event : server.Event) (entry : server.Entry) → MayPass h g → ServerTrusts s w h event entry → HasTicket g event entry
has_ticket s w h g (server.Reply t own mid p room) (server.Replied bytes) m x = held_still h g t m x
has_ticket s w h g (server.Notify t p room) (server.Replied bytes) m x = held_still h g t m x
has_ticket s w h g event entry m x = tt

forges_at : (s : SecurityContext) (w b : World) (h : server.History) (event : server.Event) (entry : server.Entry) → sent s b ≡ sent s w → ServerTrusts s w h event entry
    → NobodyForges s b (AtServer event entry)
forges_at s w b h (server.Datagram now echo mid d) entry e x = forges_still s w b d e x
forges_at s w b h event entry e x = tt

next_in_hand : (old drawn : Own) → MayDraw old drawn → upcoming drawn ≡ upcoming old
next_in_hand old drawn (inl same) = ap upcoming same
next_in_hand old drawn (inr d) = upcoming_stays true old drawn d

used_is : (u : Option ℕ) (n : ℕ) (drawn mid : Own) → u ≡ Some n → Goes (use_of u) drawn mid → drawn.hand ≡ Some n
used_is u n drawn mid e g = let goes : Goes (use_of (Some n)) drawn mid = subst (λ x. Goes (use_of x) drawn mid) e g in goes.0

makes_at : (s : SecurityContext) (b : World) (g : server.History) (event : server.Event) (entry : server.Entry) (old drawn mid : Own) → OnlyFirst g → server_history s b ≡ Some g
    → HasEchoOf (upcoming old) event → ServerAnswer g event entry → MayDraw old drawn → Goes (use_of (serving.uses g event entry)) drawn mid → MakesEcho s b (AtServer event entry)
makes_at s b g (server.Datagram now echo m d) (server.Took (server.Challenge i k given issued) reply) old drawn mid only known e row draw goes =
    let event : server.Event = server.Datagram now echo m d in
    let entry : server.Entry = server.Took (server.Challenge i k given issued) reply in
    let x = row.0 in
    let there : server.life g i ≡ Some x.2 = ap (λ j. server.life g j) x.4.3 ∙ x.3.life_is in
    let first : server.life g 0 ≡ Some x.2 = ap (λ j. server.life g j) (sym (only i x.2 there)) ∙ there in
    let hand : drawn.hand ≡ Some (next_own x.2) = used_is (serving.uses g event entry) (next_own x.2) drawn mid (ap (λ l. option_map next_own l) there) goes in
    let number : next_own x.2 ≡ upcoming old = sym (ap (λ (o : Option ℕ). unwrap_or o drawn.next) hand) ∙ next_in_hand old drawn draw in
    let next_is : option_map next_own (server.life g 0) ≡ Some (upcoming old) = ap (λ l. option_map next_own l) first ∙ ap (λ y. Some y) number in
    subst (λ y. MakesEcho s b (AtServer (server.Datagram now y m d) entry)) (sym e)
    (counted_makes s b g now (upcoming old) m d entry only known next_is (subst (λ y. ServerAnswer g (server.Datagram now y m d) entry) e row))
makes_at s b g event entry old drawn mid only known e row draw goes = tt

-- the number with which a reply of its own is sealed is the upcoming one
number_at : (b : World) (g : server.History) (t : server.TicketValues) (m : ℕ) (p : Parts) (room : ℕ) (bytes : List ℕ) (old drawn mid : Own) (own : Bool) (of l : Life) → OnlyFirst g
    → server.life g t.context ≡ Some of → server.life g 0 ≡ Some l → own ≡ true → MayDraw old drawn
    → Goes (use_of (serving.uses g (server.Reply t own m p room) (server.Replied bytes))) drawn mid → upcoming old ≡ next_own l
number_at b g t m p room bytes old drawn mid true of l only there first e draw goes =
    let same : Some of ≡ Some l = sym there ∙ ap (λ j. server.life g j) (only t.context of there) ∙ first in
    let hand : drawn.hand ≡ Some (next_own l) = used_is (serving.uses g (server.Reply t true m p room) (server.Replied bytes)) (next_own l) drawn mid
    (ap (λ o. option_map next_own o) (there ∙ same)) goes in
    sym (next_in_hand old drawn draw) ∙ ap (λ (o : Option ℕ). unwrap_or o drawn.next) hand
number_at b g t m p room bytes old drawn mid false of l only there first e draw goes = cc

known_life : (s : SecurityContext) (b : World) (g : server.History) (l : Life) → server_history s b ≡ Some g → server_life s b ≡ Some l → server.life g 0 ≡ Some l
known_life s b g l e f = sym (ap (λ o. option_and_then (λ h. server.life h 0) o) e) ∙ f

-- a reply has the Echo value of the number with which it is sealed
echoes_at : (s : SecurityContext) (b : World) (g : server.History) (event : server.Event) (entry : server.Entry) (old drawn mid : Own) → OnlyFirst g → server_history s b ≡ Some g
    → HasEchoOf (upcoming old) event → ServerAnswer g event entry → MayDraw old drawn → Goes (use_of (serving.uses g event entry)) drawn mid → EchoesItsNumber s b (AtServer event entry)
echoes_at s b g (server.Reply t own m p room) (server.Replied bytes) old drawn mid only known (inl none) row draw goes = inl none
echoes_at s b g (server.Reply t own m p room) (server.Replied bytes) old drawn mid only known (inr (asked, made)) row draw goes = inr (
  asked,
  λ of is. made ∙ ap (λ k. Some (echo_of k)) (number_at b g t m p room bytes old drawn mid own row.0 of only row.1.0 (known_life s b g of known is) asked draw goes),
)
echoes_at s b g (server.Notify t p room) (server.Replied bytes) old drawn mid only known e row draw goes = e
echoes_at s b g event entry old drawn mid only known e row draw goes = tt

-- ---- deliveries

above_more : (u : World) (event : server.Event) (entry : server.Entry) (x y n : ℕ) → DeliversUnder entry y → ((m : ℕ) → Has m (delivered u) → m < x)
    → Has n (delivered (Then u (AtServer event entry))) → n < max x y
above_more u (server.Datagram now echo mid d) (server.Took (server.Deliver received t) reply) x y n below f (inl e) =
    let less : t.number < y = below in
    let most : y ≤ max x y = le-max_right x y in
    omega (arith, e, less, most)
above_more u (server.Datagram now echo mid d) (server.Took (server.Deliver received t) reply) x y n below f (inr has) =
    let less : n < x = f n has in
    let most : x ≤ max x y = le-max_left x y in
    omega (arith, less, most)
above_more u event entry x y n below f has =
    let less : n < x = f n has in
    let most : x ≤ max x y = le-max_left x y in
    omega (arith, less, most)

stays_above : (w v : Peers) (u : World) (event : server.Event) (entry : server.Entry) → delivered u ≡ delivered (back w) → back v ≡ Then u (AtServer event entry) → StaysAbove w entry v
stays_above w v u event entry same is x y below f n has =
    above_more u event entry x y n below (λ m k. f m (subst (λ ms. Has m ms) same k)) (subst (λ z. Has n (delivered z)) is has)

no_add : (event : server.Event) → IsOfServer event → BringsNoContext event
no_add (server.Add context start size places) i = absurd i
no_add (server.Replace context by start size) i = absurd i
no_add event i = tt

-- ---- the step

-- the event right behind the draw
behind : (n : ℕ) (s : SecurityContext) (b : Peers) (g : server.History) (k : client.History) (event : server.Event) (entry : server.Entry) (old new : Own)
    → (m : Moves (serving.uses g event entry) old new) → AreCounted n s b → PeerRuns s b g k m.drawn → IsOfServer event → HasEchoOf (upcoming old) event → ServerAnswer g event entry
    → HasTicket g event entry → NobodyForges (turned s) (back b) (AtServer event entry)
    → AreCounted n s (More b (Back (AtServer event entry))) × PeerRuns s (More b (Back (AtServer event entry))) (server.Then g event entry) k new
behind n s b g k event entry old new m i r plain e row held forges =
    let stood = stands n (turned s) (back b) g i.back_is.answers r.server_is in
    let tickets : TakesTickets (server.Then g event entry) = tickets_step g event entry held row (had_tickets n (turned s) (back b) g i.back_is.answers r.server_is) in
    let is : near_effect s b (Back (AtServer event entry)) ≡ use_of (serving.uses g event entry) = near_uses s b g event entry r.server_is plain in
    let alike : AreAlike (after (use_of (serving.uses g event entry)) (near_numbers s b)) m.mid =
    alike_to _ _ m.mid (after_alike (use_of (serving.uses g event entry)) (near_numbers s b) m.drawn r.numbers_are) m.uses.1 in
    let can : Allowed (use_of (serving.uses g event entry)) (near_numbers s b) =
    allowed_alike (use_of (serving.uses g event entry)) (near_numbers s b) m.drawn r.numbers_are (λ x f. absurd (subst IsNoLoad f (no_load (serving.uses g event entry)))) m.uses.0 in (
      back_more n s b (AtServer event entry) i (g, r.server_is, row, no_add event plain, tickets) forges
          (makes_at (turned s) (back b) g event entry old m.drawn m.mid stood.only r.server_is e row m.draws m.uses) tt
          (echoes_at (turned s) (back b) g event entry old m.drawn m.mid stood.only r.server_is e row m.draws m.uses) tt
          (subst (λ x. Allowed x (near_numbers s b)) (sym is) can) tt,
      record {
        server_is = ap (λ o. option_map (λ x. server.Then x event entry) o) r.server_is;
        client_is = r.client_is;
        numbers_are = subst (λ x. AreAlike (after x (near_numbers s b)) new) (sym is) (alike_on _ m.mid new alike m.kept_on);
      },
    )

pub answers_in_list : PeersByNumbers → AnswersInList
answers_in_list claims n s w h g k event entry old new i r pass plain e row m trusts =
    let p : Passed n s w g k old = passed n s w h g k old i r pass in
    let d : Drawn n s p.v g k m.drawn = may_draw n s p.v g k old m.drawn p.counted p.runs m.draws in
    let same_sent : sent (turned s) (back d.v) ≡ sent (turned s) (back w) = ap (λ u. sent (turned s) u) d.back_is ∙ p.sent_is in
    let x = behind n s d.v g k event entry old new m d.counted d.runs plain e row (has_ticket (turned s) (back w) h g event entry pass trusts)
    (forges_at (turned s) (back w) (back d.v) h event entry same_sent trusts) in
    let v : Peers = More d.v (Back (AtServer event entry)) in (
      v,
      record { passed = p.v; passes = p.is; drawn = d.v; draws = d.is; ends = refl },
      record { counted = x.0; claims = (claims n s v x.0).1 },
      x.1,
      stays_above w v (back d.v) event entry (ap delivered d.back_is ∙ p.delivered_is) refl,
    )
