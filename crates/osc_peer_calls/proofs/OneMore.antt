-- One more event of two devices: what it needs, and a draw. w is the list before, old and new are the near device's numbers.
use Rattle.std.proofs.Common.{◌≡◌, ℕ, sym, subst, refl, Option, Some, None, inl, inr}
use Rattle.osc_context.specs.SecurityContext.{SecurityContext}
use Rattle.osc_client.specs.ClientHistory as client
use Rattle.osc_life.specs.ServerHistory as server
use Rattle.osc_kept_ends.specs.Numbering.{Own, AreAlike, Allowed, Draw, DrawsFrom, Goes, Reserve}
use Rattle.osc_kept_ends.specs.Peering.{IsKeptOn, MayDraw}
use Rattle.osc_kept.specs.EchoNumbers.{EchoesHeard, EchoesItsNumber, MakesEcho}
use Rattle.osc_kept.specs.Premises.{Answers, NobodyForges, StartsAboveDelivered}
use Rattle.osc_kept.specs.World.{World, Event, Then, Client, Draws, Reserves, answered, heard}
use Rattle.osc_kept.proofs.GoingOn.{IsNoLoad, after_alike, alike_to, allowed_alike}
use Rattle.osc_peers.specs.Peers.{Forth, Back, Peers, More, back, far_effect, far_numbers, forth, near_effect, near_numbers}
use Rattle.osc_peers.specs.Roles.{turned}
use Rattle.osc_peer_calls.specs.Counting.{AreCounted, IsCounted}
use Rattle.osc_peer_calls.specs.GoingOn.{IsDrawn, PeerRuns}

-- ---- one more event

counted_more : (n : ℕ) (s : SecurityContext) (w : World) (event : Event) → IsCounted n s w → Answers n s w event → NobodyForges s w event → MakesEcho s w event → EchoesHeard w event
    → EchoesItsNumber s w event → StartsAboveDelivered w event → IsCounted n s (Then w event)
counted_more n s w event i a f m h r d = record {
  answers = (i.answers, a);
  sealed = (i.sealed, f);
  numbered = record { makes = (i.numbered.makes, m); echoes = (i.numbered.echoes, h); replies = (i.numbered.replies, r) };
  fresh = (i.fresh, d);
}

pub back_more : (n : ℕ) (s : SecurityContext) (w : Peers) (event : Event) → AreCounted n s w → Answers n (turned s) (back w) event → NobodyForges (turned s) (back w) event
    → MakesEcho (turned s) (back w) event → EchoesHeard (back w) event → EchoesItsNumber (turned s) (back w) event → StartsAboveDelivered (back w) event
    → Allowed (near_effect s w (Back event)) (near_numbers s w) → Allowed (far_effect s w (Back event)) (far_numbers s w) → AreCounted n s (More w (Back event))
back_more n s w event i a f m h r d near far =
    record { usable = i.usable; forth_is = i.forth_is; back_is = counted_more n (turned s) (back w) event i.back_is a f m h r d; kept = (i.kept, near, far) }

pub forth_more : (n : ℕ) (s : SecurityContext) (w : Peers) (event : Event) → AreCounted n s w → Answers n s (forth w) event → NobodyForges s (forth w) event
    → MakesEcho s (forth w) event → EchoesHeard (forth w) event → EchoesItsNumber s (forth w) event → StartsAboveDelivered (forth w) event
    → Allowed (near_effect s w (Forth event)) (near_numbers s w) → Allowed (far_effect s w (Forth event)) (far_numbers s w) → AreCounted n s (More w (Forth event))
forth_more n s w event i a f m h r d near far =
    record { usable = i.usable; forth_is = counted_more n s (forth w) event i.forth_is a f m h r d; back_is = i.back_is; kept = (i.kept, near, far) }

-- ---- numbers

-- what the record keeps changes the floor alone
pub alike_on : (o mid new : Own) → AreAlike o mid → IsKeptOn mid new → AreAlike o new
alike_on o mid new x (inl same) = alike_to o mid new x same
alike_on o mid new x (inr saved) = subst (AreAlike o) (sym saved) (record { next_is = x.next_is; limit_is = x.limit_is; hand_is = x.hand_is })

-- ---- a draw

-- the list behind a draw or none, in which the device runs with its new numbers
pub record Drawn (n : ℕ) (s : SecurityContext) (w : Peers) (h : server.History) (k : client.History) (new : Own) : Type 0 where
  pub v : Peers
  pub is : IsDrawn w v
  pub counted : AreCounted n s v
  pub runs : PeerRuns s v h k new
  pub back_is : back v ≡ back w
  pub answered_is : answered s (forth v) ≡ answered s (forth w)
  pub heard_is : heard (forth v) ≡ heard (forth w)

no_draw : (n : ℕ) (s : SecurityContext) (w : Peers) (h : server.History) (k : client.History) (old new : Own) → AreCounted n s w → PeerRuns s w h k old → new ≡ old → Drawn n s w h k new
no_draw n s w h k old new i r same = record {
  v = w;
  is = inl refl;
  counted = i;
  runs = subst (PeerRuns s w h k) (sym same) r;
  back_is = refl;
  answered_is = refl;
  heard_is = refl;
}

one_draw : (n : ℕ) (s : SecurityContext) (w : Peers) (h : server.History) (k : client.History) (old new : Own) → AreCounted n s w → PeerRuns s w h k old → Goes Draw old new → Drawn n s w h k new
one_draw n s w h k old new i r g = record {
  v = More w (Forth (Draws Client));
  is = inr (inl refl);
  counted = forth_more n s w (Draws Client) i tt tt tt tt tt tt (allowed_alike Draw (near_numbers s w) old r.numbers_are (λ m f. absurd (subst IsNoLoad f tt)) g.0) tt;
  runs = record { server_is = r.server_is; client_is = r.client_is; numbers_are = alike_to _ _ new (after_alike Draw (near_numbers s w) old r.numbers_are) g.1 };
  back_is = refl;
  answered_is = refl;
  heard_is = refl;
}

one_reserve : (n : ℕ) (s : SecurityContext) (w : Peers) (h : server.History) (k : client.History) (old new : Own) → AreCounted n s w → PeerRuns s w h k old → Goes Reserve old new → Drawn n s w h k new
one_reserve n s w h k old new i r g = record {
  v = More w (Forth (Reserves Client));
  is = inr (inr refl);
  counted = forth_more n s w (Reserves Client) i tt tt tt tt tt tt (allowed_alike Reserve (near_numbers s w) old r.numbers_are (λ m f. absurd (subst IsNoLoad f tt)) g.0) tt;
  runs = record { server_is = r.server_is; client_is = r.client_is; numbers_are = alike_to _ _ new (after_alike Reserve (near_numbers s w) old r.numbers_are) g.1 };
  back_is = refl;
  answered_is = refl;
  heard_is = refl;
}

draws_from : (n : ℕ) (s : SecurityContext) (w : Peers) (h : server.History) (k : client.History) (hand : Option ℕ) (old new : Own) → AreCounted n s w → PeerRuns s w h k old
    → DrawsFrom hand old new → Drawn n s w h k new
draws_from n s w h k (Some m) old new i r d = no_draw n s w h k old new i r d
draws_from n s w h k None old new i r (inl d) = one_draw n s w h k old new i r d
draws_from n s w h k None old new i r (inr (inl d)) = one_reserve n s w h k old new i r d
draws_from n s w h k None old new i r (inr (inr d)) = no_draw n s w h k old new i r d.1

pub may_draw : (n : ℕ) (s : SecurityContext) (w : Peers) (h : server.History) (k : client.History) (old new : Own) → AreCounted n s w → PeerRuns s w h k old → MayDraw old new
    → Drawn n s w h k new
may_draw n s w h k old new i r (inl same) = no_draw n s w h k old new i r same
may_draw n s w h k old new i r (inr d) = draws_from n s w h k old.hand old new i r d
