-- Each number that an end seals with is below 2 ^ 40, and above all with which it sealed before, over all its lives: each life begins above those. h is the
-- history of the end that runs, ds the deeds so far.
use Rattle.std.proofs.Common.{◌≡◌, ℕ, ◌+◌, ◌<◌, ◌^◌, ◌∙◌, sym, ap, subst, refl, arith, true, false, Option, Some, None, List, [], ◌∷◌, inl, inr}
use Rattle.std.specs.Option.{option_map}
use Rattle.osc_context.specs.SecurityContext.{SecurityContext}
use Rattle.osc_life.specs.declared.start.Start.TheVariants as starts
use Rattle.osc_client.specs.ClientAnswer.{ClientAnswer}
use Rattle.osc_client.specs.ClientHistory as client
use Rattle.osc_life.specs.Life.{Life, next_own}
use Rattle.osc_endpoint.specs.ServerAnswer.{ServerAnswer}
use Rattle.osc_life.specs.ServerHistory as server
use Rattle.osc_kept_ends.specs.Numbering.{Use}
use Rattle.osc_kept.specs.Premises.{AtEach, Answers, BeginsAbove, IsAboveOwn}
use Rattle.osc_kept.specs.World.{World, Begin, Then, ClientStarts, ServerStarts, AtClient, AtServer, Has, Request, Response, client_history, server_life}
use Rattle.osc_kept.proofs.Deeds.{AllBelow, Deed, Challenges, Notifies, Replies, answers, life_in, owns, sends}
use Rattle.osc_kept.proofs.Digest.{answered_is, client_deed, digest, sends_server, sent_is, server_deed}
use Rattle.osc_kept.proofs.Lives.{IsPresentIn, OnlyFirst, Stands, life_known, own_use, some_is, stands}

-- ---- the client's

abbrev AllSentBelow : List Deed → ℕ → Type 0
AllSentBelow ds number = (r : Request) → Has r (sends ds) → r.number < number

abbrev RestartsAbove : List Deed → client.Event → Type 0
RestartsAbove ds (client.Restart first) = AllSentBelow ds first
RestartsAbove ds event = Unit {0}

restarts_above : (s : SecurityContext) (w : World) (event : client.Event) (entry : client.Entry) → BeginsAbove s w (AtClient event entry) → RestartsAbove (digest s w) event
restarts_above s w (client.Restart first) entry above = λ r k. above r (subst (λ rs. Has r rs) (sym (sent_is s w)) k)
restarts_above s w event entry above = tt

client_below : (h : client.History) (event : client.Event) (entry : client.Entry) (ds : List Deed) → RestartsAbove ds event → AllSentBelow ds (client.next h)
    → AllSentBelow (client_deed (Some h) event entry ∷ ds) (client.next (client.Then h event entry))
client_below h (client.Request now p room) (client.Sent bytes) ds restarts below r (inl e) =
    let same : r.number ≡ client.next h = ap (λ (x : Request). x.number) e in
    omega (arith, same)
client_below h (client.Request now p room) (client.Sent bytes) ds restarts below r (inr k) = let less = below r k in omega (arith, less)
client_below h (client.Restart first) entry ds restarts below r k = restarts r k
client_below h (client.Skip count) client.Skipped ds restarts below r k = let less = below r k in omega (arith, less)
client_below h event entry ds restarts below r k = below r k

-- all requests that were sealed have numbers below the next one of the client that runs
pub sends_below : (n : ℕ) (s : SecurityContext) (w : World) (h : client.History) → AtEach (Answers n s) w → AtEach (BeginsAbove s) w → client_history s w ≡ Some h
    → AllSentBelow (digest s w) (client.next h)
sends_below n s Begin h a b e = let f : None ≡ Some h = e in cc
sends_below n s (Then w (ClientStarts first ms)) h a b e = λ r k.
    let less : r.number < first = b.1 r (subst (λ rs. Has r rs) (sym (sent_is s w)) k) in
    subst (λ x. r.number < client.next x) (some_is e) less
sends_below n s (Then w (AtClient event entry)) h a b e =
    let same : client.Then a.1.0 event entry ≡ h = some_is (sym (ap (λ x. option_map (λ g. client.Then g event entry) x) a.1.1) ∙ e) in
    subst (λ x. AllSentBelow (digest s (Then w (AtClient event entry))) (client.next x)) same
    (subst (λ o. AllSentBelow (client_deed o event entry ∷ digest s w) (client.next (client.Then a.1.0 event entry))) (sym a.1.1)
    (client_below a.1.0 event entry (digest s w) (restarts_above s w event entry b.1) (sends_below n s w a.1.0 a.0 b.0 a.1.1)))
sends_below n s (Then w (AtServer event entry)) h a b e = λ r k.
    sends_below n s w h a.0 b.0 e r (subst (λ rs. Has r rs) (sends_server (server_life s w) event entry (digest s w)) k)
sends_below n s (Then w event) h a b e = sends_below n s w h a.0 b.0 e

client_small : (n : ℕ) (o : Option client.History) (event : client.Event) (entry : client.Entry) (ds : List Deed) (h : client.History) → o ≡ Some h → ClientAnswer n h event entry
    → AllSentBelow ds (2 ^ 40) → AllSentBelow (client_deed o event entry ∷ ds) (2 ^ 40)
client_small n (Some g) (client.Request now p room) (client.Sent bytes) ds h e answer small r (inl is) =
    let same : r.number ≡ client.next g = ap (λ (x : Request). x.number) is in
    let less : client.next g < 2 ^ 40 = subst (λ x. client.next x < 2 ^ 40) (sym (some_is e)) answer.0.2 in
    omega (arith, same, less)
client_small n (Some g) (client.Request now p room) (client.Sent bytes) ds h e answer small r (inr k) = small r k
client_small n o event entry ds h e answer small r k = small r k

pub sends_small : (n : ℕ) (s : SecurityContext) (w : World) → AtEach (Answers n s) w → AllSentBelow (digest s w) (2 ^ 40)
sends_small n s Begin a r k = absurd k
sends_small n s (Then w (AtClient event entry)) a r k =
    client_small n (client_history s w) event entry (digest s w) a.1.0 a.1.1 a.1.2 (sends_small n s w a.0) r k
sends_small n s (Then w (AtServer event entry)) a r k = sends_small n s w a.0 r (subst (λ rs. Has r rs) (sends_server (server_life s w) event entry (digest s w)) k)
sends_small n s (Then w event) a r k = sends_small n s w a.0 r k

-- ---- the server's

-- a Partial IV of its own of the server is that of a response
own_answered : (ds : List Deed) (o : ℕ) → Has o (owns ds) → (r : Response) × Has r (answers ds) × (r.own ≡ Some o)
own_answered (Challenges n echo issued own m ∷ ds) o (inl e) = (record { number = n; own = Some own; message = m }, inl refl, ap (λ x. Some x) (sym e))
own_answered (Challenges n echo issued own m ∷ ds) o (inr k) = let (r, has, is) = own_answered ds o k in (r, inr has, is)
own_answered (Replies t None m ∷ ds) o k = let (r, has, is) = own_answered ds o k in (r, inr has, is)
own_answered (Replies t (Some own) m ∷ ds) o (inl e) = (record { number = t.number; own = Some own; message = m }, inl refl, ap (λ x. Some x) (sym e))
own_answered (Replies t (Some own) m ∷ ds) o (inr k) = let (r, has, is) = own_answered ds o k in (r, inr has, is)
own_answered (Notifies t own m ∷ ds) o (inl e) = (record { number = t.number; own = Some own; message = m }, inl refl, ap (λ x. Some x) (sym e))
own_answered (Notifies t own m ∷ ds) o (inr k) = let (r, has, is) = own_answered ds o k in (r, inr has, is)
own_answered (d ∷ ds) o k = own_answered ds o k
own_answered [] o k = absurd k

above_owns : (s : SecurityContext) (w : World) (first : ℕ) → IsAboveOwn s w first → AllBelow (owns (digest s w)) first
above_owns s w first above o k = let (r, has, is) = own_answered (digest s w) o k in above r o (subst (λ rs. Has r rs) (sym (answered_is s w)) has) is

abbrev RenewsAbove : List Deed → server.Event → server.Entry → Type 0
RenewsAbove ds (server.Restart context first) server.Restarted = AllBelow (owns ds) first
RenewsAbove ds event entry = Unit {0}

renews_above : (s : SecurityContext) (w : World) (event : server.Event) (entry : server.Entry) → BeginsAbove s w (AtServer event entry) → RenewsAbove (digest s w) event entry
renews_above s w (server.Restart context first) server.Restarted above = above_owns s w first above
renews_above s w event entry above = tt

same_present : (h : server.History) (i : ℕ) (of l : Life) → OnlyFirst h → server.life h i ≡ Some of → server.life h 0 ≡ Some l → of ≡ l
same_present h i of l only e f = some_is (sym e ∙ ap (λ j. server.life h j) (only i of e) ∙ f)

use_is : (m n : ℕ) → Use m ≡ Use n → m ≡ n
use_is m n e = cc

-- the number that an event of the server uses is the next one of its life, and below 2 ^ 40
pub own_low : (s : SecurityContext) (ds : List Deed) (h : server.History) (event : server.Event) (entry : server.Entry) (own : ℕ) → IsPresentIn s ds h → OnlyFirst h → ServerAnswer h event entry
    → own_use (server_deed (Some (life_in s ds)) event entry) ≡ Use own → own < 2 ^ 40
own_low s ds h (server.Datagram now echo mid d) (server.Took (server.Challenge i k value issued) reply) own p only a e =
    let same : a.0.2 ≡ life_in s ds = same_present h a.0.0 a.0.2 (life_in s ds) only a.0.3.life_is p in
    let less : next_own (life_in s ds) < 2 ^ 40 = subst (λ l. next_own l < 2 ^ 40) same a.0.4.1 in
    subst (λ x. x < 2 ^ 40) (use_is (next_own (life_in s ds)) own e) less
own_low s ds h (server.Reply t true mid q room) (server.Replied bytes) own p only a e =
    let same : a.0 ≡ life_in s ds = same_present h t.context a.0 (life_in s ds) only a.1.0 p in
    let less : next_own (life_in s ds) < 2 ^ 40 = subst (λ l. next_own l < 2 ^ 40) same (a.2.0 refl) in
    subst (λ x. x < 2 ^ 40) (use_is (next_own (life_in s ds)) own e) less
own_low s ds h (server.Notify t q room) (server.Replied bytes) own p only a e =
    let same : a.1.0 ≡ life_in s ds = same_present h t.context a.1.0 (life_in s ds) only a.1.1.0 p in
    let less : next_own (life_in s ds) < 2 ^ 40 = subst (λ l. next_own l < 2 ^ 40) same a.1.2.1 in
    subst (λ x. x < 2 ^ 40) (use_is (next_own (life_in s ds)) own e) less
own_low s ds h (server.Reply t false mid q room) (server.Replied bytes) own p only a e = cc
own_low s ds h (server.Restart c next) server.Restarted own p only a e = cc
own_low s ds h (server.Skip c count) server.Skipped own p only a e = cc
own_low s ds h event entry own p only a e = cc

-- the server's Sender Sequence Numbers are below the next one of its life, and below 2 ^ 40
pub record OwnsBelow (s : SecurityContext) (ds : List Deed) : Type 0 where
  pub below : AllBelow (owns ds) (next_own (life_in s ds))
  pub small : AllBelow (owns ds) (2 ^ 40)

one_more : (ns : List ℕ) (n m : ℕ) → AllBelow ns n → Has m (n ∷ ns) → m < n + 1
one_more ns n m below (inl e) = omega (arith, e)
one_more ns n m below (inr k) = let less = below m k in omega (arith, less)

also_small : (ns : List ℕ) (n m : ℕ) → n < 2 ^ 40 → AllBelow ns (2 ^ 40) → Has m (n ∷ ns) → m < 2 ^ 40
also_small ns n m less small (inl e) = omega (arith, e, less)
also_small ns n m less small (inr k) = small m k

server_below : (s : SecurityContext) (ds : List Deed) (h : server.History) (event : server.Event) (entry : server.Entry) → IsPresentIn s ds h → OnlyFirst h → ServerAnswer h event entry
    → RenewsAbove ds event entry → OwnsBelow s ds → OwnsBelow s (server_deed (Some (life_in s ds)) event entry ∷ ds)
server_below s ds h (server.Datagram now echo mid d) (server.Took (server.BadInner i k) reply) p only a renews x = record { below = x.below; small = x.small }
server_below s ds h (server.Datagram now echo mid d) (server.Took (server.Deliver received t) reply) p only a renews x = record { below = x.below; small = x.small }
server_below s ds h (server.Datagram now echo mid d) (server.Took (server.Challenge i k value issued) reply) p only a renews x =
    let next : ℕ = next_own (life_in s ds) in
    let less : next < 2 ^ 40 = own_low s ds h (server.Datagram now echo mid d) (server.Took (server.Challenge i k value issued) reply) next p only a refl in
    record { below = λ m k. let l = one_more (owns ds) next m x.below k in omega (arith, l); small = λ m k. also_small (owns ds) next m less x.small k }
server_below s ds h (server.Reply t true mid q room) (server.Replied bytes) p only a renews x =
    let next : ℕ = next_own (life_in s ds) in
    let less : next < 2 ^ 40 = own_low s ds h (server.Reply t true mid q room) (server.Replied bytes) next p only a refl in
    record { below = λ m k. let l = one_more (owns ds) next m x.below k in omega (arith, l); small = λ m k. also_small (owns ds) next m less x.small k }
server_below s ds h (server.Notify t q room) (server.Replied bytes) p only a renews x =
    let next : ℕ = next_own (life_in s ds) in
    let less : next < 2 ^ 40 = own_low s ds h (server.Notify t q room) (server.Replied bytes) next p only a refl in
    record { below = λ m k. let l = one_more (owns ds) next m x.below k in omega (arith, l); small = λ m k. also_small (owns ds) next m less x.small k }
server_below s ds h (server.Reply t false mid q room) (server.Replied bytes) p only a renews x = record { below = x.below; small = x.small }
server_below s ds h (server.Restart c next) server.Restarted p only a renews x = record { below = λ m k. let l = renews m k in omega (arith, l); small = x.small }
server_below s ds h (server.Skip c count) server.Skipped p only a renews x = record { below = λ m k. let l = x.below m k in omega (arith, l); small = x.small }
server_below s ds h event entry p only a renews x = record { below = x.below; small = x.small }

client_below_owns : (s : SecurityContext) (o : Option client.History) (event : client.Event) (entry : client.Entry) (ds : List Deed) → OwnsBelow s ds → OwnsBelow s (client_deed o event entry ∷ ds)
client_below_owns s (Some h) (client.Request now p room) (client.Sent bytes) ds x = record { below = x.below; small = x.small }
client_below_owns s o event entry ds x = record { below = x.below; small = x.small }

pub owns_below : (n : ℕ) (s : SecurityContext) (w : World) → AtEach (Answers n s) w → AtEach (BeginsAbove s) w → OwnsBelow s (digest s w)
owns_below n s Begin a b = record { below = λ m k. absurd k; small = λ m k. absurd k }
owns_below n s (Then w (ServerStarts (starts.Fresh first) size)) a b =
    record { below = λ m k. let l = above_owns s w _ b.1 m k in omega (arith, l); small = (owns_below n s w a.0 b.0).small }
owns_below n s (Then w (ServerStarts (starts.Restarted first) size)) a b =
    record { below = λ m k. let l = above_owns s w _ b.1 m k in omega (arith, l); small = (owns_below n s w a.0 b.0).small }
owns_below n s (Then w (ServerStarts (starts.Received first highest) size)) a b =
    record { below = λ m k. let l = above_owns s w _ b.1 m k in omega (arith, l); small = (owns_below n s w a.0 b.0).small }
owns_below n s (Then w (ServerStarts (starts.Reserved first highest ahead) size)) a b =
    record { below = λ m k. let l = above_owns s w _ b.1 m k in omega (arith, l); small = (owns_below n s w a.0 b.0).small }
owns_below n s (Then w (AtServer event entry)) a b =
    let i : Stands s (digest s w) a.1.0 = stands n s w a.1.0 a.0 a.1.1 in
    subst (λ l. OwnsBelow s (server_deed l event entry ∷ digest s w)) (sym (life_known s w a.1.0 (life_in s (digest s w)) a.1.1 i.present))
    (server_below s (digest s w) a.1.0 event entry i.present i.only a.1.2 (renews_above s w event entry b.1) (owns_below n s w a.0 b.0))
owns_below n s (Then w (AtClient event entry)) a b = client_below_owns s (client_history s w) event entry (digest s w) (owns_below n s w a.0 b.0)
owns_below n s (Then w event) a b = let x = owns_below n s w a.0 b.0 in record { below = x.below; small = x.small }
