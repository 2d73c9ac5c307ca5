-- The numbers of what was sealed are among those that the end used, and a request that is pending was sent.
use Rattle.std.proofs.Common.{◌≡◌, ℕ, ◌∙◌, sym, ap, subst, refl, bytes_eq, Bool, true, false, Option, Some, None, List, ◌∷◌, inl, inr}
use Rattle.std.specs.Prelude.{All, Contains, max}
use Rattle.std.specs.Option.{option_map}
use Rattle.std.proofs.lemmas.List.Elements.{All-contains, All-filter, All-map, All-nil, All-push, All-weaker}
use Rattle.osc_context.specs.SecurityContext.{SecurityContext}
use Rattle.osc_protect.specs.Sealed.{inside}
use Rattle.osc_client.specs.ClientHistory as client
use Rattle.osc_observe.specs.Observing.{place_of}
use Rattle.osc_life.specs.ServerHistory as server
use Rattle.osc_client.proofs.GivingWay.{All-beside}
use Rattle.osc_kept.specs.Premises.{AtEach, Answers}
use Rattle.osc_kept.specs.World.{World, Begin, Then, Client, Server, ClientStarts, Draws, Reserves, AtClient, AtServer, Has, Request, client_effect, client_history, server_effect, server_history, server_life}
use Rattle.osc_kept.proofs.Deeds.{Deed, Sends, Challenges, Replies, Notifies, IsSent, life_in, owns, sends}
use Rattle.osc_kept.proofs.Digest.{client_deed, deed, digest, sends_server, server_deed}
use Rattle.osc_kept.proofs.Lives.{Stands, effect_step, life_known, own_use, some_is, stands}
use Rattle.osc_kept.proofs.Rising.{used, used_after}

-- ---- the client's

client_used : (o : Option client.History) (event : client.Event) (entry : client.Entry) (ds : List Deed) (ns : List ℕ) (r : Request) → (Has r (sends ds) → Has r.number ns)
    → Has r (sends (client_deed o event entry ∷ ds)) → Has r.number (used_after (client_effect o event entry) ns)
client_used (Some h) (client.Request now p room) (client.Sent bytes) ds ns r f (inl e) = inl (ap (λ (x : Request). x.number) e)
client_used (Some h) (client.Request now p room) (client.Sent bytes) ds ns r f (inr k) = inr (f k)
client_used (Some h) (client.Restart next) client.Restarted ds ns r f k = f k
client_used o event entry ds ns r f k = f k

pub sent_used : (s : SecurityContext) (w : World) (r : Request) → Has r (sends (digest s w)) → Has r.number (used Client s w)
sent_used s Begin r k = absurd k
sent_used s (Then w (AtClient event entry)) r k = client_used (client_history s w) event entry (digest s w) (used Client s w) r (sent_used s w r) k
sent_used s (Then w (AtServer event entry)) r k = sent_used s w r (subst (λ rs. Has r rs) (sends_server (server_life s w) event entry (digest s w)) k)
sent_used s (Then w (Draws Client)) r k = sent_used s w r k
sent_used s (Then w (Reserves Client)) r k = sent_used s w r k
sent_used s (Then w event) r k = sent_used s w r k

-- ---- the server's

deed_used : (d : Deed) (ds : List Deed) (ns : List ℕ) (o : ℕ) → (Has o (owns ds) → Has o ns) → Has o (owns (d ∷ ds)) → Has o (used_after (own_use d) ns)
deed_used (Challenges n echo issued own m) ds ns o f (inl e) = inl e
deed_used (Challenges n echo issued own m) ds ns o f (inr k) = inr (f k)
deed_used (Replies t (Some own) m) ds ns o f (inl e) = inl e
deed_used (Replies t (Some own) m) ds ns o f (inr k) = inr (f k)
deed_used (Notifies t own m) ds ns o f (inl e) = inl e
deed_used (Notifies t own m) ds ns o f (inr k) = inr (f k)
deed_used d ds ns o f k = f k

-- what an event does to the server's numbers, its deed does
pub effect_is : (n : ℕ) (s : SecurityContext) (w : World) (event : server.Event) (entry : server.Entry) → AtEach (Answers n s) w → Answers n s w (AtServer event entry)
    → server_effect (server_history s w) event entry ≡ own_use (server_deed (server_life s w) event entry)
effect_is n s w event entry a b =
    let i : Stands s (digest s w) b.0 = stands n s w b.0 a b.1 in
    ap (λ o. server_effect o event entry) b.1
    ∙ effect_step s (digest s w) b.0 event entry i.present i.only b.2
    ∙ sym (ap (λ l. own_use (server_deed l event entry)) (life_known s w b.0 (life_in s (digest s w)) b.1 i.present))

owns_client : (o : Option client.History) (event : client.Event) (entry : client.Entry) (ds : List Deed) → owns (client_deed o event entry ∷ ds) ≡ owns ds
owns_client (Some h) (client.Request now p room) (client.Sent bytes) ds = refl
owns_client o event entry ds = refl

pub own_used : (n : ℕ) (s : SecurityContext) (w : World) (o : ℕ) → AtEach (Answers n s) w → Has o (owns (digest s w)) → Has o (used Server s w)
own_used n s Begin o a k = absurd k
own_used n s (Then w (AtServer event entry)) o a k =
    subst (λ e. Has o (used_after e (used Server s w))) (sym (effect_is n s w event entry a.0 a.1))
    (deed_used (server_deed (server_life s w) event entry) (digest s w) (used Server s w) o (own_used n s w o a.0) k)
own_used n s (Then w (AtClient event entry)) o a k = own_used n s w o a.0 (subst (λ ns. Has o ns) (owns_client (client_history s w) event entry (digest s w)) k)
own_used n s (Then w (Draws Server)) o a k = own_used n s w o a.0 k
own_used n s (Then w (Reserves Server)) o a k = own_used n s w o a.0 k
own_used n s (Then w event) o a k = own_used n s w o a.0 k

-- ---- pending requests

abbrev pub AllSent : List Deed → List client.Asked → Type 0
AllSent ds xs = All (λ (r : client.Asked). IsSent ds r.number) xs

pub still_sent : (d : Deed) (ds : List Deed) (n : ℕ) → IsSent ds n → IsSent (d ∷ ds) n
still_sent (Sends k m) ds n i = (i.0, inr i.1, i.2)
still_sent d ds n i = i

all_still : (d : Deed) (ds : List Deed) (xs : List client.Asked) → AllSent ds xs → AllSent (d ∷ ds) xs
all_still d ds xs a = All-weaker (λ (r : client.Asked). IsSent ds r.number) (λ (r : client.Asked). IsSent (d ∷ ds) r.number) (λ r i. still_sent d ds r.number i) xs a

-- a response leaves a request's number as it is
pub same_number : (token : List ℕ) (place : ℕ) (r : client.Asked) → (client.after_response token place r).number ≡ r.number
same_number token place r = by_test (bytes_eq r.token token) refl
  where
    by_test : (b : Bool) → bytes_eq r.token token ≡ b → (client.after_response token place r).number ≡ r.number
    by_test true e = rw (e) refl
    by_test false e = rw (e) refl

asked_step : (h : client.History) (event : client.Event) (entry : client.Entry) (ds : List Deed) → AllSent ds (client.asked h)
    → AllSent (client_deed (Some h) event entry ∷ ds) (client.asked (client.Then h event entry))
asked_step h (client.Request now p room) (client.Sent bytes) ds a =
    let d : Deed = Sends (client.next h) (inside p) in
    let stay = client.beside (client.context h).features p (client.asked h) in
    All-push (λ (r : client.Asked). IsSent (d ∷ ds) r.number) stay _ (All-beside (λ (r : client.Asked). IsSent (d ∷ ds) r.number) (client.context h).features p (client.asked h) (all_still d ds (client.asked h) a)) (record { number = client.next h; message = inside p }, inl refl, refl)
asked_step h (client.Datagram now d) (client.Took (client.Notified received number)) ds a =
    let place = place_of received.number in
    let alive = client.alive (max (client.clock h) now) (client.life_ms h) (client.asked h) in
    All-map (λ (r : client.Asked). IsSent ds r.number) (client.after_response received.token place) alive
    (All-weaker (λ (r : client.Asked). IsSent ds r.number) (λ (r : client.Asked). IsSent ds (client.after_response received.token place r).number)
    (λ r i. subst (IsSent ds) (sym (same_number received.token place r)) i) alive
    (All-filter _ (λ (r : client.Asked). IsSent ds r.number) (client.asked h) a))
asked_step h (client.Datagram now d) (client.Took (client.Deliver received number)) ds a = All-filter _ (λ (r : client.Asked). IsSent ds r.number) (client.asked h) a
asked_step h (client.Forget token) entry ds a = All-filter _ (λ (r : client.Asked). IsSent ds r.number) (client.asked h) a
asked_step h (client.Restart first) entry ds a = All-nil (λ (r : client.Asked). IsSent ds r.number)
asked_step h event entry ds a = a

pub record Runs (s : SecurityContext) (ds : List Deed) (h : client.History) : Type 0 where
  pub context_is : client.context h ≡ s
  pub all_sent : AllSent ds (client.asked h)

pub runs : (n : ℕ) (s : SecurityContext) (w : World) (h : client.History) → AtEach (Answers n s) w → client_history s w ≡ Some h → Runs s (digest s w) h
runs n s Begin h a e = let f : None ≡ Some h = e in cc
runs n s (Then w (ClientStarts loaded ms)) h a e =
    subst (λ x. Runs s (digest s (Then w (ClientStarts loaded ms))) x) (some_is e) (record { context_is = refl; all_sent = All-nil (λ (r : client.Asked). IsSent (digest s w) r.number) })
runs n s (Then w (AtClient event entry)) h a e =
    let i : Runs s (digest s w) a.1.0 = runs n s w a.1.0 a.0 a.1.1 in
    let same : client.Then a.1.0 event entry ≡ h = some_is (sym (ap (λ x. option_map (λ g. client.Then g event entry) x) a.1.1) ∙ e) in
    subst (λ x. Runs s (digest s (Then w (AtClient event entry))) x) same (record {
      context_is = i.context_is;
      all_sent =
          subst (λ o. AllSent (client_deed o event entry ∷ digest s w) (client.asked (client.Then a.1.0 event entry))) (sym a.1.1)
          (asked_step a.1.0 event entry (digest s w) i.all_sent);
    })
runs n s (Then w event) h a e =
    let i : Runs s (digest s w) h = runs n s w h a.0 e in
    record { context_is = i.context_is; all_sent = all_still (deed s w event) (digest s w) (client.asked h) i.all_sent }

-- a pending request was sent
pub pending_sent : (n : ℕ) (s : SecurityContext) (w : World) (h : client.History) (moment : ℕ) (r : client.Asked) → AtEach (Answers n s) w → client_history s w ≡ Some h
    → Contains (client.pending_at h moment) r → IsSent (digest s w) r.number
pending_sent n s w h moment r a e c =
    All-contains (λ (x : client.Asked). IsSent (digest s w) x.number) (client.pending_at h moment) r
    (All-filter _ (λ (x : client.Asked). IsSent (digest s w) x.number) (client.asked h) (runs n s w h a e).all_sent) c
