-- Two devices, each with one source of numbers for both its roles. s is the context as the near device asks under it, w what happened so far.
use Rattle.std.proofs.Common.{◌≡◌, ℕ, ◌<◌, ◌^◌, sym, ap, subst, refl, arith, Option, Some, None, List, [], ◌∷◌, ◌⊎◌, inl, inr}
use Rattle.osc_context.specs.Nonce.{nonce_of}
use Rattle.osc_context.specs.SecurityContext.{SecurityContext, IsUsable}
use Rattle.osc_protect.specs.Protection.{response_nonce}
use Rattle.osc_client.specs.ClientHistory as client
use Rattle.osc_life.specs.ServerHistory as server
use Rattle.osc_kept_ends.specs.Numbering.{Effect, Stay, Draw, Reserve, Load, Use, Allowed, after}
use Rattle.osc_kept.specs.Claims.{TwoEnds}
use Rattle.osc_kept.specs.Premises.{Answers, AtEach, BeginsAbove, IsAboveOwn, IsAboveSent, IsLawful, NobodyForges}
use Rattle.osc_kept.specs.World.{World, Event, Client, Server, ClientStarts, ServerStarts, AtClient, AtServer, Then, Has, Request, Response, answered, client_effect, effect, sent, server_effect}
use Rattle.osc_kept.proofs.Above.{owns_below, sends_small}
use Rattle.osc_kept.proofs.Deeds.{IsSent, answered_sent, owned, owns}
use Rattle.osc_kept.proofs.Digest.{answered_is, digest, sent_is}
use Rattle.osc_kept.proofs.Fitting.{LawsBelow, all_fit}
use Rattle.osc_kept.proofs.Owned.{own_used, sent_used}
use Rattle.osc_kept.proofs.Rising.{used, used_after}
use Rattle.osc_peers.specs.Peers.{Forth, Back, Peers, Nothing, More, IsExchange, SourcesAreKept, TwoPeers, back, far_effect, far_numbers, forth, near_effect, near_numbers}
use Rattle.osc_peers.specs.Roles.{turned}
use Rattle.osc_peers.specs.Turns.{AreAllowed, after_all}
use Rattle.osc_peers.proofs.OneSource.{LoadsAbove, hand_above, loads_above, used_by}

-- ---- what happens to the two sources, newest first

abbrev near_effects : SecurityContext → Peers → List Effect
near_effects s Nothing = []
near_effects s (More w event) = near_effect s w event ∷ near_effects s w

abbrev far_effects : SecurityContext → Peers → List Effect
far_effects s Nothing = []
far_effects s (More w event) = far_effect s w event ∷ far_effects s w

near_is : (s : SecurityContext) (w : Peers) → after_all (near_effects s w) ≡ near_numbers s w
near_is s Nothing = refl
near_is s (More w event) = ap (λ o. after (near_effect s w event) o) (near_is s w)

far_is : (s : SecurityContext) (w : Peers) → after_all (far_effects s w) ≡ far_numbers s w
far_is s Nothing = refl
far_is s (More w event) = ap (λ o. after (far_effect s w event) o) (far_is s w)

near_allowed : (s : SecurityContext) (w : Peers) → SourcesAreKept s w → AreAllowed (near_effects s w)
near_allowed s Nothing k = tt
near_allowed s (More w event) k = (near_allowed s w k.0, subst (λ o. Allowed (near_effect s w event) o) (sym (near_is s w)) k.1)

far_allowed : (s : SecurityContext) (w : Peers) → SourcesAreKept s w → AreAllowed (far_effects s w)
far_allowed s Nothing k = tt
far_allowed s (More w event) k = (far_allowed s w k.0, subst (λ o. Allowed (far_effect s w event) o) (sym (far_is s w)) k.2)

-- ---- what one end used is among what its device used

keep : (e : Effect) (ns ms : List ℕ) (n : ℕ) → (Has n ns → Has n ms) → Has n (used_after e ns) → Has n (used_after e ms)
keep (Use k) ns ms n f (inl e) = inl e
keep (Use k) ns ms n f (inr h) = inr (f h)
keep Stay ns ms n f h = f h
keep Draw ns ms n f h = f h
keep Reserve ns ms n f h = f h
keep (Load k) ns ms n f h = f h

pass : (e : Effect) (ms : List ℕ) (n : ℕ) → Has n ms → Has n (used_after e ms)
pass (Use k) ms n h = inr h
pass Stay ms n h = h
pass Draw ms n h = h
pass Reserve ms n h = h
pass (Load k) ms n h = h

near_asked : (s : SecurityContext) (w : Peers) (n : ℕ) → Has n (used Client s (forth w)) → Has n (used_by (near_effects s w))
near_asked s Nothing n h = absurd h
near_asked s (More w (Forth event)) n h = keep (effect Client s (forth w) event) (used Client s (forth w)) (used_by (near_effects s w)) n (near_asked s w n) h
near_asked s (More w (Back event)) n h = pass (effect Server (turned s) (back w) event) (used_by (near_effects s w)) n (near_asked s w n h)

near_answered : (s : SecurityContext) (w : Peers) (n : ℕ) → Has n (used Server (turned s) (back w)) → Has n (used_by (near_effects s w))
near_answered s Nothing n h = absurd h
near_answered s (More w (Back event)) n h = keep (effect Server (turned s) (back w) event) (used Server (turned s) (back w)) (used_by (near_effects s w)) n (near_answered s w n) h
near_answered s (More w (Forth event)) n h = pass (effect Client s (forth w) event) (used_by (near_effects s w)) n (near_answered s w n h)

far_asked : (s : SecurityContext) (w : Peers) (n : ℕ) → Has n (used Client (turned s) (back w)) → Has n (used_by (far_effects s w))
far_asked s Nothing n h = absurd h
far_asked s (More w (Back event)) n h = keep (effect Client (turned s) (back w) event) (used Client (turned s) (back w)) (used_by (far_effects s w)) n (far_asked s w n) h
far_asked s (More w (Forth event)) n h = pass (effect Server s (forth w) event) (used_by (far_effects s w)) n (far_asked s w n h)

far_answered : (s : SecurityContext) (w : Peers) (n : ℕ) → Has n (used Server s (forth w)) → Has n (used_by (far_effects s w))
far_answered s Nothing n h = absurd h
far_answered s (More w (Forth event)) n h = keep (effect Server s (forth w) event) (used Server s (forth w)) (used_by (far_effects s w)) n (far_answered s w n) h
far_answered s (More w (Back event)) n h = pass (effect Client (turned s) (back w) event) (used_by (far_effects s w)) n (far_answered s w n h)

-- ---- so each life of an end begins above all numbers with which it sealed

above_sent : (s : SecurityContext) (w : World) (first : ℕ) → LoadsAbove (Load first) (used Client s w) → IsAboveSent s w first
above_sent s w first above r has = above r.number (sent_used s w r (subst (λ rs. Has r rs) (sent_is s w) has))

above_own : (n : ℕ) (s : SecurityContext) (w : World) (first : ℕ) → AtEach (Answers n s) w → LoadsAbove (Load first) (used Server s w) → IsAboveOwn s w first
above_own n s w first answers above r own has is = above own (own_used n s w own answers (owned (digest s w) r own (subst (λ rs. Has r rs) (answered_is s w) has) is))

begins_at : (n : ℕ) (s : SecurityContext) (w : World) (event : Event) → AtEach (Answers n s) (Then w event) → LoadsAbove (effect Client s w event) (used Client s w)
    → LoadsAbove (effect Server s w event) (used Server s w) → BeginsAbove s w event
begins_at n s w (ClientStarts first ms) a c v = above_sent s w first c
begins_at n s w (ServerStarts start size) a c v = above_own n s w _ a.0 v
begins_at n s w (AtClient (client.Restart first) client.Restarted) a c v =
    above_sent s w first (subst (λ e. LoadsAbove e (used Client s w)) (ap (λ o. client_effect o (client.Restart first) client.Restarted) a.1.1) c)
begins_at n s w (AtClient (client.Restart first) entry) a c v = absurd a.1.2
begins_at n s w (AtServer (server.Restart i first) server.Restarted) a c v =
    above_own n s w first a.0 (subst (λ e. LoadsAbove e (used Server s w)) (ap (λ o. server_effect o (server.Restart i first) server.Restarted) a.1.1) v)
begins_at n s w event a c v = tt

pub forth_begins : (n : ℕ) (s : SecurityContext) (w : Peers) → AtEach (Answers n s) (forth w) → SourcesAreKept s w → AtEach (BeginsAbove s) (forth w)
forth_begins n s Nothing a k = tt
forth_begins n s (More w (Back event)) a k = forth_begins n s w a k.0
forth_begins n s (More w (Forth event)) a k =
    let near = near_allowed s (More w (Forth event)) k in
    let far = far_allowed s (More w (Forth event)) k in (
      forth_begins n s w a.0 k.0,
      begins_at n s (forth w) event a (loads_above (effect Client s (forth w) event) (near_effects s w) (used Client s (forth w)) near.0 near.1 (near_asked s w))
          (loads_above (effect Server s (forth w) event) (far_effects s w) (used Server s (forth w)) far.0 far.1 (far_answered s w)),
    )

pub back_begins : (n : ℕ) (s : SecurityContext) (w : Peers) → AtEach (Answers n (turned s)) (back w) → SourcesAreKept s w → AtEach (BeginsAbove (turned s)) (back w)
back_begins n s Nothing a k = tt
back_begins n s (More w (Forth event)) a k = back_begins n s w a k.0
back_begins n s (More w (Back event)) a k =
    let near = near_allowed s (More w (Back event)) k in
    let far = far_allowed s (More w (Back event)) k in (
      back_begins n s w a.0 k.0,
      begins_at n (turned s) (back w) event a
          (loads_above (effect Client (turned s) (back w) event) (far_effects s w) (used Client (turned s) (back w)) far.0 far.1 (far_asked s w))
          (loads_above (effect Server (turned s) (back w) event) (near_effects s w) (used Server (turned s) (back w)) near.0 near.1 (near_answered s w)),
    )

-- ---- and no number is used in both roles

new_or_old : (e : Effect) (ns : List ℕ) (n : ℕ) → Has n (used_after e ns) → (e ≡ Use n) ⊎ Has n ns
new_or_old (Use k) ns n (inl e) = inl (ap (λ x. Use x) (sym e))
new_or_old (Use k) ns n (inr h) = inr h
new_or_old Stay ns n h = inr h
new_or_old Draw ns n h = inr h
new_or_old Reserve ns n h = inr h
new_or_old (Load k) ns n h = inr h

not_old : (e : Effect) (es : List Effect) (n : ℕ) → AreAllowed es → Allowed e (after_all es) → e ≡ Use n → Has n (used_by es) → ⊥
not_old e es n a b is h =
    let l : n < n = hand_above es n n a (subst (λ x. Allowed x (after_all es)) is b) h in
    omega (arith, l)

near_apart : (s : SecurityContext) (w : Peers) (n : ℕ) → SourcesAreKept s w → Has n (used Client s (forth w)) → Has n (used Server (turned s) (back w)) → ⊥
near_apart s Nothing n k h g = h
near_apart s (More w (Forth event)) n k h g =
    let a = near_allowed s (More w (Forth event)) k in
    elim (new_or_old (effect Client s (forth w) event) (used Client s (forth w)) n h) [
      | inl is ↦ not_old (effect Client s (forth w) event) (near_effects s w) n a.0 a.1 is (near_answered s w n g)
      | inr old ↦ near_apart s w n k.0 old g
    ]
near_apart s (More w (Back event)) n k h g =
    let a = near_allowed s (More w (Back event)) k in
    elim (new_or_old (effect Server (turned s) (back w) event) (used Server (turned s) (back w)) n g) [
      | inl is ↦ not_old (effect Server (turned s) (back w) event) (near_effects s w) n a.0 a.1 is (near_asked s w n h)
      | inr old ↦ near_apart s w n k.0 h old
    ]

far_apart : (s : SecurityContext) (w : Peers) (n : ℕ) → SourcesAreKept s w → Has n (used Client (turned s) (back w)) → Has n (used Server s (forth w)) → ⊥
far_apart s Nothing n k h g = h
far_apart s (More w (Back event)) n k h g =
    let b = far_allowed s (More w (Back event)) k in
    elim (new_or_old (effect Client (turned s) (back w) event) (used Client (turned s) (back w)) n h) [
      | inl is ↦ not_old (effect Client (turned s) (back w) event) (far_effects s w) n b.0 b.1 is (far_answered s w n g)
      | inr old ↦ far_apart s w n k.0 old g
    ]
far_apart s (More w (Forth event)) n k h g =
    let b = far_allowed s (More w (Forth event)) k in
    elim (new_or_old (effect Server s (forth w) event) (used Server s (forth w)) n g) [
      | inl is ↦ not_old (effect Server s (forth w) event) (far_effects s w) n b.0 b.1 is (far_asked s w n h)
      | inr old ↦ far_apart s w n k.0 h old
    ]

-- ---- each exchange meets the premises on two ends

pub usable_turned : (s : SecurityContext) → IsUsable s → IsUsable (turned s)
usable_turned s u =
    record {
      client_fits = u.server_fits;
      server_fits = u.client_fits;
      differ = λ e. u.differ (sym e);
      client_key_length = u.server_key_length;
      server_key_length = u.client_key_length;
      common_iv_length = u.common_iv_length;
    }

pub forth_lawful : (n : ℕ) (s : SecurityContext) (w : Peers) → IsUsable s → IsExchange n s (forth w) → AtEach (NobodyForges s) (forth w) → SourcesAreKept s w → IsLawful n s (forth w)
forth_lawful n s w u i sealed kept =
    record { usable = u; answers = i.answers; sealed = sealed; unseen = i.unseen; above = forth_begins n s w i.answers kept; fresh = i.fresh }

pub back_lawful : (n : ℕ) (s : SecurityContext) (w : Peers) → IsUsable s → IsExchange n (turned s) (back w) → AtEach (NobodyForges (turned s)) (back w) → SourcesAreKept s w
    → IsLawful n (turned s) (back w)
back_lawful n s w u i sealed kept =
    record { usable = usable_turned s u; answers = i.answers; sealed = sealed; unseen = i.unseen; above = back_begins n s w i.answers kept; fresh = i.fresh }

-- ---- nonces

pub sent_small : (n : ℕ) (s : SecurityContext) (w : World) (k : ℕ) → IsLawful n s w → IsSent (digest s w) k → k < 2 ^ 40
sent_small n s w k i x = subst (λ y. y < 2 ^ 40) x.2 (sends_small n s w i.answers x.0 x.1)

pub asked_small : (n : ℕ) (s : SecurityContext) (w : World) (q : Request) → IsLawful n s w → Has q (sent s w) → q.number < 2 ^ 40
asked_small n s w q i h = sends_small n s w i.answers q (subst (λ rs. Has q rs) (sent_is s w) h)

pub answered_small : LawsBelow → (n : ℕ) (s : SecurityContext) (w : World) (r : Response) → IsLawful n s w → Has r (answered s w) → r.number < 2 ^ 40
answered_small laws n s w r i k =
    sent_small n s w r.number i (answered_sent s (digest s w) r (all_fit laws n s w i) (subst (λ rs. Has r rs) (answered_is s w) k))

asked_with : (s : SecurityContext) (w : World) (q : Request) → Has q (sent s w) → Has q.number (used Client s w)
asked_with s w q h = sent_used s w q (subst (λ rs. Has q rs) (sent_is s w) h)

owned_with : (s : SecurityContext) (w : World) (r : Response) (o : ℕ) → Has r (answered s w) → r.own ≡ Some o → Has o (owns (digest s w))
owned_with s w r o h e = owned (digest s w) r o (subst (λ rs. Has r rs) (answered_is s w) h) e

apart_by : LawsBelow → (n : ℕ) (s : SecurityContext) (asking answering : World) (q : Request) (r : Response) (o : Option ℕ) → IsUsable s → IsLawful n s asking
    → IsLawful n (turned s) answering → ((k : ℕ) → Has k (used Client s asking) → Has k (used Server (turned s) answering) → ⊥) → Has q (sent s asking)
    → Has r (answered (turned s) answering) → r.own ≡ o → nonce_of s.common_iv s.client q.number ≡ response_nonce s.common_iv s.server s.client r.number o → ⊥
apart_by laws n s asking answering q r (Some own) u i j apart h g e f =
    let is : Has own (owns (digest (turned s) answering)) = owned_with (turned s) answering r own g e in
    let small : own < 2 ^ 40 = (owns_below n (turned s) answering j.answers j.above).small own is in
    let same : q.number ≡ own = (laws.nonce s.common_iv s.client s.client q.number own u.client_fits u.client_fits (asked_small n s asking q i h) small f).1 in
    apart q.number (asked_with s asking q h) (subst (λ x. Has x (used Server (turned s) answering)) (sym same) (own_used n (turned s) answering own j.answers is))
apart_by laws n s asking answering q r None u i j apart h g e f =
    u.differ (laws.nonce s.common_iv s.client s.server q.number r.number u.client_fits u.server_fits (asked_small n s asking q i h) (answered_small laws n (turned s) answering r j g) f).0

pub two_peers : TwoEnds → LawsBelow → TwoPeers
two_peers two laws n s w p =
    let i : IsLawful n s (forth w) = forth_lawful n s w p.usable p.forth_is p.forth_sealed p.kept in
    let j : IsLawful n (turned s) (back w) = back_lawful n s w p.usable p.back_is p.back_sealed p.kept in
    record {
      forth_is = two n s (forth w) i;
      back_is = two n (turned s) (back w) j;
      near_nonces = λ q r h g f. apart_by laws n s (forth w) (back w) q r r.own p.usable i j (λ k. near_apart s w k p.kept) h g refl f;
      far_nonces = λ q r h g f. apart_by laws n (turned s) (back w) (forth w) q r r.own j.usable j i (λ k. far_apart s w k p.kept) h g refl f;
    }
