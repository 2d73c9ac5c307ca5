-- What the near device does as a client, as a step of the list. w is the list before, b the one right before the event, k and m are the client's histories there.
use Rattle.std.proofs.Common.{◌≡◌, ℕ, ◌∙◌, sym, ap, subst, refl, List, Some, inl, inr}
use Rattle.std.specs.Prelude.{max}
use Rattle.std.specs.Option.{option_map}
use Rattle.osc_context.specs.SecurityContext.{SecurityContext}
use Rattle.osc_client.specs.ClientAnswer.{ClientAnswer}
use Rattle.osc_client.specs.ClientHistory as client
use Rattle.osc_life.specs.ServerHistory as server
use Rattle.osc_kept_ends.specs.KeptAsking as asking
use Rattle.osc_kept_ends.specs.Numbering.{Own, AreAlike, Allowed, Stay, after, use_of}
use Rattle.osc_kept.specs.EchoNumbers.{EchoesHeard}
use Rattle.osc_kept.specs.Premises.{NobodyForges, NobodyForgesResponses}
use Rattle.osc_kept.specs.World.{World, AtClient, Has, answered, client_effect, client_history, delivered, heard}
use Rattle.osc_kept.proofs.GoingOn.{after_alike, alike_to, allowed_alike, no_load, IsNoLoad}
use Rattle.osc_kept.proofs.InWorld.{responses_still}
use Rattle.osc_kept.proofs.Lives.{some_is}
use Rattle.osc_peers.specs.Peers.{Forth, Peers, More, back, forth, near_effect, near_numbers}
use Rattle.osc_peer_calls.specs.Counting.{AreCounted, PeersByNumbers}
use Rattle.osc_peer_calls.specs.GoingOn.{AsksInList, ClientTrusts, IsOfClient, IsPassed, MayPassAsking, Moves, PeerRuns, client_skip}
use Rattle.osc_peer_calls.proofs.OneMore.{Drawn, alike_on, forth_more, may_draw}

-- ---- the numbers

-- what an event does to the numbers of a client that has no restart in place
used_by : (k : client.History) (event : client.Event) (entry : client.Entry) → IsOfClient event → client_effect (Some k) event entry ≡ use_of (asking.uses k event entry)
used_by k (client.Restart next) entry i = absurd i
used_by k event entry i = refl

near_uses : (s : SecurityContext) (w : Peers) (k : client.History) (event : client.Event) (entry : client.Entry) → client_history s (forth w) ≡ Some k → IsOfClient event
    → near_effect s w (Forth (AtClient event entry)) ≡ use_of (asking.uses k event entry)
near_uses s w k event entry e i = ap (λ o. client_effect o event entry) e ∙ used_by k event entry i

-- ---- passing over

-- the list behind a passing over or none
record Passed (n : ℕ) (s : SecurityContext) (w : Peers) (h : server.History) (m : client.History) (own : Own) : Type 0 where
  pub v : Peers
  pub is : IsPassed client_skip w v
  pub counted : AreCounted n s v
  pub runs : PeerRuns s v h m own
  pub back_is : back v ≡ back w
  pub answered_is : answered s (forth v) ≡ answered s (forth w)
  pub heard_is : heard (forth v) ≡ heard (forth w)

skipped : (n : ℕ) (s : SecurityContext) (w : Peers) (h : server.History) (k : client.History) (own : Own) (count : ℕ) → AreCounted n s w → PeerRuns s w h k own
    → ClientAnswer n k (client.Skip count) client.Skipped → Passed n s w h (client.Then k (client.Skip count) client.Skipped) own
skipped n s w h k own count i r row =
    let stays : near_effect s w (client_skip count) ≡ Stay = near_uses s w k (client.Skip count) client.Skipped r.client_is tt in
    record {
      v = More w (client_skip count);
      is = inr (count, refl);
      counted = forth_more n s w (AtClient (client.Skip count) client.Skipped) i (k, r.client_is, row) tt tt tt tt tt (subst (λ e. Allowed e (near_numbers s w)) (sym stays) tt) tt;
      runs = record {
        server_is = r.server_is;
        client_is = ap (λ o. option_map (λ x. client.Then x (client.Skip count) client.Skipped) o) r.client_is;
        numbers_are = subst (λ e. AreAlike (after e (near_numbers s w)) own) (sym stays) r.numbers_are;
      };
      back_is = refl;
      answered_is = refl;
      heard_is = refl;
    }

passed : (n : ℕ) (s : SecurityContext) (w : Peers) (h : server.History) (k m : client.History) (own : Own) → AreCounted n s w → PeerRuns s w h k own → MayPassAsking n k m
    → Passed n s w h m own
passed n s w h k m own i r (inl same) =
    record { v = w; is = inl refl; counted = i; runs = subst (λ x. PeerRuns s w h x own) (sym same) r; back_is = refl; answered_is = refl; heard_is = refl }
passed n s w h k m own i r (inr p) = subst (λ x. Passed n s w h x own) (sym p.is) (skipped n s w h k own p.count i r p.row)

-- ---- what the event needs

forges_from : (s : SecurityContext) (w b : World) (k : client.History) (now : ℕ) (d : List ℕ) (entry : client.Entry) → client_history s b ≡ Some k → answered s b ≡ answered s w
    → NobodyForgesResponses s w (client.pending_at k (max (client.clock k) now)) d → NobodyForges s b (AtClient (client.Datagram now d) entry)
forges_from s w b k now d entry known e x = λ g f.
    subst (λ y. NobodyForgesResponses s b (client.pending_at y (max (client.clock y) now)) d) (some_is (sym known ∙ f))
    (responses_still s w b (client.pending_at k (max (client.clock k) now)) d e x)

-- numbers that were passed over change no pending request
trusts_still : (n : ℕ) (s : SecurityContext) (w : World) (k m : client.History) (event : client.Event) (entry : client.Entry) → MayPassAsking n k m → ClientTrusts s w k event entry
    → ClientTrusts s w m event entry
trusts_still n s w k m event entry (inl same) x = subst (λ y. ClientTrusts s w y event entry) (sym same) x
trusts_still n s w k m (client.Datagram now d) entry (inr p) x = subst (λ y. NobodyForgesResponses s w (client.pending_at y (max (client.clock y) now)) d) (sym p.is) x
trusts_still n s w k m (client.Request now p room) entry (inr q) x = x
trusts_still n s w k m event entry (inr p) x = tt

forges_at : (s : SecurityContext) (w b : World) (m : client.History) (event : client.Event) (entry : client.Entry) → client_history s b ≡ Some m → answered s b ≡ answered s w
    → ClientTrusts s w m event entry → NobodyForges s b (AtClient event entry)
forges_at s w b m (client.Datagram now d) entry known e x = forges_from s w b m now d entry known e x
forges_at s w b m event entry known e x = tt

heard_at : (s : SecurityContext) (w b : World) (m : client.History) (event : client.Event) (entry : client.Entry) → heard b ≡ heard w → ClientTrusts s w m event entry
    → EchoesHeard b (AtClient event entry)
heard_at s w b m (client.Request now p room) (client.Sent bytes) e x = λ value is.
    let (r, has, reads) = x value is in
    (r, subst (λ rs. Has r rs) (sym e) has, reads)
heard_at s w b m event entry e x = tt

-- ---- the step

-- the event right behind the draw
behind : (n : ℕ) (s : SecurityContext) (b : Peers) (h : server.History) (m : client.History) (event : client.Event) (entry : client.Entry) (old new : Own)
    → (x : Moves (asking.uses m event entry) old new) → AreCounted n s b → PeerRuns s b h m x.drawn → IsOfClient event → ClientAnswer n m event entry
    → NobodyForges s (forth b) (AtClient event entry) → EchoesHeard (forth b) (AtClient event entry)
    → AreCounted n s (More b (Forth (AtClient event entry))) × PeerRuns s (More b (Forth (AtClient event entry))) h (client.Then m event entry) new
behind n s b h m event entry old new x i r plain row forges echoes =
    let is : near_effect s b (Forth (AtClient event entry)) ≡ use_of (asking.uses m event entry) = near_uses s b m event entry r.client_is plain in
    let alike : AreAlike (after (use_of (asking.uses m event entry)) (near_numbers s b)) x.mid =
    alike_to _ _ x.mid (after_alike (use_of (asking.uses m event entry)) (near_numbers s b) x.drawn r.numbers_are) x.uses.1 in
    let can : Allowed (use_of (asking.uses m event entry)) (near_numbers s b) =
    allowed_alike (use_of (asking.uses m event entry)) (near_numbers s b) x.drawn r.numbers_are (λ y f. absurd (subst IsNoLoad f (no_load (asking.uses m event entry)))) x.uses.0 in (
      forth_more n s b (AtClient event entry) i (m, r.client_is, row) forges tt echoes tt tt (subst (λ y. Allowed y (near_numbers s b)) (sym is) can) tt,
      record {
        server_is = r.server_is;
        client_is = ap (λ o. option_map (λ y. client.Then y event entry) o) r.client_is;
        numbers_are = subst (λ y. AreAlike (after y (near_numbers s b)) new) (sym is) (alike_on _ x.mid new alike x.kept_on);
      },
    )

pub asks_in_list : PeersByNumbers → AsksInList
asks_in_list claims n s w h k m event entry old new i r pass plain row x trusts =
    let p : Passed n s w h m old = passed n s w h k m old i r pass in
    let d : Drawn n s p.v h m x.drawn = may_draw n s p.v h m old x.drawn p.counted p.runs x.draws in
    let held : ClientTrusts s (forth w) m event entry = trusts_still n s (forth w) k m event entry pass trusts in
    let y = behind n s d.v h m event entry old new x d.counted d.runs plain row
    (forges_at s (forth w) (forth d.v) m event entry d.runs.client_is (d.answered_is ∙ p.answered_is) held) (heard_at s (forth w) (forth d.v) m event entry (d.heard_is ∙ p.heard_is) held) in
    let v : Peers = More d.v (Forth (AtClient event entry)) in (
      v,
      record { passed = p.v; passes = p.is; drawn = d.v; draws = d.is; ends = refl },
      record { counted = y.0; claims = (claims n s v y.0).1 },
      y.1,
      ap delivered (d.back_is ∙ p.back_is),
    )
