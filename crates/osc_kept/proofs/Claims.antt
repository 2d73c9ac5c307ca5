-- What holds of two ends: of each delivery, of each response, of each nonce. w is a world that meets the premises.
use Rattle.std.proofs.Common.{◌≡◌, ℕ, ◌<◌, ◌^◌, ◌∙◌, sym, ap, subst, refl, arith, Bool, true, false, Option, Some, None, List, ◌∷◌, ◌++◌}
use Rattle.std.specs.Prelude.{Contains, IfSome, max}
use Rattle.std.specs.List.{cons_option}
use Rattle.std.specs.Option.{option_map}
use Rattle.osc_coap.specs.Datagram.{Parts}
use Rattle.osc_coap.specs.Inner.{InnerParts}
use Rattle.osc_context.specs.Nonce.{nonce_of}
use Rattle.osc_context.specs.SecurityContext.{SecurityContext}
use Rattle.osc_protect.specs.CipherLaws.{response_seal}
use Rattle.osc_protect.specs.Protection.{Protects, as_notified, response_nonce, responses_to}
use Rattle.osc_protect.specs.Sealed.{inside}
use Rattle.osc_client.specs.ClientAnswer.{awaited}
use Rattle.osc_client.specs.ClientHistory as client
use Rattle.osc_life.specs.Life.{Life, next_own}
use Rattle.osc_observe.specs.Received.{Received, Receives}
use Rattle.osc_life.specs.Replies.{challenge_message}
use Rattle.osc_life.specs.LifeAnswer.{own_number}
use Rattle.osc_life.specs.ServerHistory as server
use Rattle.osc_kept_ends.specs.Numbering.{Use}
use Rattle.osc_kept.specs.Claims.{DeliversOnce, HaveOwnNonces, IsForThatRequest, SealsUnderNewNonces}
use Rattle.osc_kept.specs.Premises.{AtEach, IsLawful, SealedByServer}
use Rattle.osc_kept.specs.World.{World, Event, Begin, Then, AtClient, AtServer, Has, Request, Response, answered, client_history, heard_in, response_in, sent, server_life}
use Rattle.osc_kept.proofs.Above.{own_low, owns_below, sends_small}
use Rattle.osc_kept.proofs.Deeds.{AllBelow, AllFit, Delivers, Holds, IsSent, answered_sent, delivered_sent, given_delivered, life_in, not_before, not_shared, one_request, owned, owns, sends}
use Rattle.osc_kept.proofs.Digest.{answered_is, delivered_is, digest, sent_is, server_deed}
use Rattle.osc_kept.proofs.Fitting.{LawsBelow, At, all_fit, at_life, at_server, at_stands, before, fits_client, held}
use Rattle.osc_kept.proofs.Lives.{Stands, own_use, some_is}
use Rattle.osc_kept.proofs.Owned.{pending_sent, runs}

-- ---- deliveries

pub delivers_once : LawsBelow → (n : ℕ) (s : SecurityContext) (w : World) (event : Event) → IsLawful n s (Then w event) → DeliversOnce s w event
delivers_once laws n s w (AtServer (server.Datagram now echo mid d) (server.Took (server.Deliver received t) reply)) i =
    let fits : AllFit s (Delivers t received.message ∷ digest s w) = all_fit laws n s (Then w (AtServer (server.Datagram now echo mid d) (server.Took (server.Deliver received t) reply))) i in (
      subst (λ rs. Has (record { number = t.number; message = received.message }) rs) (sym (sent_is s w)) fits.1.2,
      λ k. not_before s (digest s w) t received.message fits (subst (λ ns. Has t.number ns) (delivered_is s w) k),
    )
delivers_once laws n s w event i = tt

-- ---- responses

-- a response that is notified or delivered for a request was sealed by the server before, for that very request
abbrev pub AnswersThatRequest : SecurityContext → World → Event → Type 0
AnswersThatRequest s w event = IfSome (heard_in event) (IsForThatRequest s w)

sent_small : (n : ℕ) (s : SecurityContext) (w : World) (k : ℕ) → IsLawful n s w → IsSent (digest s w) k → k < 2 ^ 40
sent_small n s w k i x = subst (λ y. y < 2 ^ 40) x.2 (sends_small n s w i.answers x.0 x.1)

answered_small : LawsBelow → (n : ℕ) (s : SecurityContext) (w : World) (r : Response) → IsLawful n s w → Has r (answered s w) → r.number < 2 ^ 40
answered_small laws n s w r i k =
    sent_small n s w r.number i (answered_sent s (digest s w) r (all_fit laws n s w i) (subst (λ rs. Has r rs) (answered_is s w) k))

-- a response to a pending request, which the server sealed
is_for : LawsBelow → (n : ℕ) (s : SecurityContext) (w : World) (k : ℕ) (own : Option ℕ) (m : InnerParts) (d : List ℕ) → IsLawful n s w → IsSent (digest s w) k
    → (b : Bool) (p : Protects (responses_to s b k) own m d) → SealedByServer s w (response_seal s k own) p.outer.payload → IsForThatRequest s w (record { number = k; own = own; message = m })
is_for laws n s w k own m d i asked b p x =
    let same = laws.response.numbers s x.response.number k x.response.own own i.usable (answered_small laws n s w x.response i x.was_answered) (sent_small n s w k i asked)
    (laws.in_range _ _ x.protects.reads) (laws.in_range _ _ p.reads) x.input_is in
    let message : x.response.message ≡ m = laws.response.message s s x.registers b x.response.number k x.response.own own x.response.message m x.bytes d x.protects p x.input_is x.text_is in
    record {
      was_answered =
          subst (λ y. Has (record { number = y; own = own; message = m }) (answered s w)) same.0
          (subst (λ y. Has (record { number = x.response.number; own = y; message = m }) (answered s w)) same.1
          (subst (λ y. Has (record { number = x.response.number; own = x.response.own; message = y }) (answered s w)) message x.was_answered));
      request = asked.0;
      was_sent = subst (λ rs. Has asked.0 rs) (sym (sent_is s w)) asked.1;
      number_is = asked.2;
      one_alone = λ r h e. one_request s (digest s w) r asked.0 (all_fit laws n s w i) (subst (λ rs. Has r rs) (sent_is s w) h) asked.1 (e ∙ sym asked.2);
    }

-- a response to a pending request that is received was sealed for it
received_for : LawsBelow → (n : ℕ) (s : SecurityContext) (w : World) (now : ℕ) (d : List ℕ) (received : Received) (number : ℕ) (answer : client.Answer) (h : client.History) (r : client.Asked)
    (own : Option ℕ) → IsLawful n s (Then w (AtClient (client.Datagram now d) (client.Took answer))) → client_history s w ≡ Some h
    → Contains (client.pending_at h (max (client.clock h) now)) r → number ≡ r.number → Receives (awaited (client.context h) r) own d received
    → IsForThatRequest s w (record { number = number; own = received.number; message = received.message })
received_for laws n s w now d received number answer h r own i f pending is receives =
    let clock : ℕ = max (client.clock h) now in
    let p : Protects (awaited s r) own received.message d = subst (λ c. Protects (awaited c r) own received.message d) (runs n s w h i.answers.0 f).context_is receives.protects in
    let x : SealedByServer s w (response_seal s r.number own) p.outer.payload = i.sealed.1 h f r own received.message pending p in
    subst (λ y. IsForThatRequest s w (record { number = number; own = y; message = received.message })) (sym receives.number)
    (subst (λ y. IsForThatRequest s w (record { number = y; own = own; message = received.message })) (sym is)
    (is_for laws n s w r.number own received.message d (before n s w _ i) (pending_sent n s w h clock r i.answers.0 f pending) (client.observes r.wait) p x))

pub answers_that : LawsBelow → (n : ℕ) (s : SecurityContext) (w : World) (event : Event) → IsLawful n s (Then w event) → AnswersThatRequest s w event
answers_that laws n s w (AtClient (client.Datagram now d) (client.Took (client.Notified received number))) i =
    let (r, answers, (is, own, later, receives, continues)) = i.answers.1.2 in
    received_for laws n s w now d received number (client.Notified received number) i.answers.1.0 r own i i.answers.1.1 answers.1 is receives
answers_that laws n s w (AtClient (client.Datagram now d) (client.Took (client.Deliver received number))) i =
    let (r, answers, (is, own, later, receives, continues)) = i.answers.1.2 in
    received_for laws n s w now d received number (client.Deliver received number) i.answers.1.0 r own i i.answers.1.1 answers.1 is receives
answers_that laws n s w event i = tt

-- ---- nonces

-- the client seals under a nonce that it didn't seal under before
abbrev pub IsNewForClient : SecurityContext → World → ℕ → Type 0
IsNewForClient s w number = (r : Request) → Has r (sent s w) → nonce_of s.common_iv s.client r.number ≡ nonce_of s.common_iv s.client number → ⊥

-- the server seals under a nonce that it didn't seal under before
abbrev pub IsNewForServer : SecurityContext → World → ℕ → Option ℕ → Type 0
IsNewForServer s w n own = (r : Response) → Has r (answered s w)
    → response_nonce s.common_iv s.client s.server r.number r.own ≡ response_nonce s.common_iv s.client s.server n own → ⊥

-- no end seals a request, a challenge, a reply or a notification under a nonce that it sealed under before
abbrev pub SealsUnderNewNonce : SecurityContext → World → Event → Type 0
SealsUnderNewNonce s w (AtClient (client.Request now p room) (client.Sent bytes)) =
    (h : client.History) → client_history s w ≡ Some h → IsNewForClient s w (client.next h)
SealsUnderNewNonce s w (AtServer (server.Datagram now echo mid d) (server.Took (server.Challenge i n given issued) reply)) =
    (of : Life) → server_life s w ≡ Some of → IsNewForServer s w n (own_number true of)
SealsUnderNewNonce s w (AtServer (server.Reply t own mid p room) (server.Replied bytes)) =
    (of : Life) → server_life s w ≡ Some of → IsNewForServer s w t.number (own_number own of)
SealsUnderNewNonce s w (AtServer (server.Notify t p room) (server.Replied bytes)) =
    (of : Life) → server_life s w ≡ Some of → IsNewForServer s w t.number (own_number true of)
SealsUnderNewNonce s w event = Unit {0}

new_for_client : LawsBelow → (n : ℕ) (s : SecurityContext) (w : World) (k : ℕ) → IsLawful n s w → k < 2 ^ 40 → ((r : Request) → Has r (sends (digest s w)) → r.number < k) → IsNewForClient s w k
new_for_client laws n s w k i small above r h e =
    let is : Has r (sends (digest s w)) = subst (λ rs. Has r rs) (sent_is s w) h in
    let same : r.number ≡ k = (laws.nonce s.common_iv s.client s.client r.number k i.usable.client_fits i.usable.client_fits (sent_small n s w r.number i (r, is, refl)) small e).1 in
    let less : r.number < k = above r is in
    omega (arith, same, less)

-- with a Partial IV of its own
own_differs : LawsBelow → (n : ℕ) (s : SecurityContext) (w : World) (k own : ℕ) (r : Response) (o : Option ℕ) → IsLawful n s w → own < 2 ^ 40 → AllBelow (owns (digest s w)) own
    → Has r (answered s w) → r.own ≡ o → response_nonce s.common_iv s.client s.server r.number o ≡ nonce_of s.common_iv s.server own → ⊥
own_differs laws n s w k own r (Some x) i small above h f e =
    let is : Has x (owns (digest s w)) = owned (digest s w) r x (subst (λ rs. Has r rs) (answered_is s w) h) f in
    let less : x < own = above x is in
    let same : x ≡ own = (laws.nonce s.common_iv s.server s.server x own i.usable.server_fits i.usable.server_fits ((owns_below n s w i.answers i.above).small x is) small e).1 in
    omega (arith, less, same)
own_differs laws n s w k own r None i small above h f e =
    i.usable.differ (laws.nonce s.common_iv s.client s.server r.number own i.usable.client_fits i.usable.server_fits (answered_small laws n s w r i h) small e).0

-- with the request's
shared_differs : LawsBelow → (n : ℕ) (s : SecurityContext) (w : World) (t : server.TicketValues) (r : Response) (o : Option ℕ) → IsLawful n s w → Holds (digest s w) t
    → t.number < 2 ^ 40 → Has r (answered s w) → r.own ≡ o → response_nonce s.common_iv s.client s.server r.number o ≡ nonce_of s.common_iv s.client t.number → ⊥
shared_differs laws n s w t r (Some x) i holds small h f e =
    let is : Has x (owns (digest s w)) = owned (digest s w) r x (subst (λ rs. Has r rs) (answered_is s w) h) f in
    i.usable.differ (sym (laws.nonce s.common_iv s.server s.client x t.number i.usable.server_fits i.usable.client_fits ((owns_below n s w i.answers i.above).small x is) small e).0)
shared_differs laws n s w t r None i holds small h f e =
    not_shared s (digest s w) t r (all_fit laws n s w i) holds (subst (λ rs. Has r rs) (answered_is s w) h) f
    (laws.nonce s.common_iv s.client s.client r.number t.number i.usable.client_fits i.usable.client_fits (answered_small laws n s w r i h) small e).1

held_small : LawsBelow → (n : ℕ) (s : SecurityContext) (w : World) (t : server.TicketValues) → IsLawful n s w → Holds (digest s w) t → t.number < 2 ^ 40
held_small laws n s w t i holds = sent_small n s w t.number i (delivered_sent s (digest s w) t.number (all_fit laws n s w i) (given_delivered (digest s w) t holds.0))

-- what a server seals under its next Sender Sequence Number is new
new_own : LawsBelow → (n : ℕ) (s : SecurityContext) (w : World) (k : ℕ) (event : server.Event) (entry : server.Entry) (of : Life) → IsLawful n s (Then w (AtServer event entry))
    → server_life s w ≡ Some of → own_use (server_deed (Some of) event entry) ≡ Use (next_own of) → IsNewForServer s w k (Some (next_own of))
new_own laws n s w k event entry of i f is_used r h e =
    let y : At n s w event entry = at_server n s w event entry i in
    let stood : Stands s (digest s w) y.answer.0 = at_stands n s w event entry y in
    let l : Life = life_in s (digest s w) in
    let same : l ≡ of = some_is (sym (at_life n s w event entry y) ∙ f) in
    let uses : own_use (server_deed (Some l) event entry) ≡ Use (next_own of) = ap (λ z. own_use (server_deed (Some z) event entry)) same ∙ is_used in
    own_differs laws n s w k (next_own of) r r.own (before n s w _ i) (own_low s (digest s w) y.answer.0 event entry (next_own of) stood.present stood.only y.answer.2 uses)
    (subst (λ z. AllBelow (owns (digest s w)) (next_own z)) same (owns_below n s w y.all y.above).below) h refl e

pub seals_new : LawsBelow → (n : ℕ) (s : SecurityContext) (w : World) (event : Event) → IsLawful n s (Then w event) → SealsUnderNewNonce s w event
seals_new laws n s w (AtClient (client.Request now p room) (client.Sent bytes)) i = λ h f.
    let same : i.answers.1.0 ≡ h = some_is (sym i.answers.1.1 ∙ f) in
    new_for_client laws n s w (client.next h) (before n s w _ i) (subst (λ g. client.next g < 2 ^ 40) same i.answers.1.2.0.2)
    (fits_client n s w (Some h) (client.Request now p room) (client.Sent bytes) f i.answers.0 i.above.0)
seals_new laws n s w (AtServer (server.Datagram now echo mid d) (server.Took (server.Challenge c k value issued) reply)) i = λ of f.
    new_own laws n s w k (server.Datagram now echo mid d) (server.Took (server.Challenge c k value issued) reply) of i f refl
seals_new laws n s w (AtServer (server.Reply t true mid p room) (server.Replied bytes)) i = λ of f.
    new_own laws n s w t.number (server.Reply t true mid p room) (server.Replied bytes) of i f refl
seals_new laws n s w (AtServer (server.Reply t false mid p room) (server.Replied bytes)) i = λ of f r h e.
    let y = at_server n s w (server.Reply t false mid p room) (server.Replied bytes) i in
    let holds : Holds (digest s w) t = held laws.tickets s (digest s w) y.answer.0 t false mid room p bytes (at_stands n s w _ _ y) y.answer.4 in
    let earlier = before n s w _ i in
    shared_differs laws n s w t r r.own earlier holds (held_small laws n s w t earlier holds) h refl e
seals_new laws n s w (AtServer (server.Notify t p room) (server.Replied bytes)) i = λ of f.
    new_own laws n s w t.number (server.Notify t p room) (server.Replied bytes) of i f refl
seals_new laws n s w event i = tt

-- the nonces of all that was sealed differ, if each is new
request_apart : (s : SecurityContext) (w : World) (p : Parts) (o : Option client.History) → ((h : client.History) → o ≡ Some h → IsNewForClient s w (client.next h))
    → HaveOwnNonces (λ (r : Request). nonce_of s.common_iv s.client r.number) (sent s w)
    → HaveOwnNonces (λ (r : Request). nonce_of s.common_iv s.client r.number) (cons_option (option_map (λ h. record { number = client.next h; message = inside p }) o) (sent s w))
request_apart s w p None new apart = apart
request_apart s w p (Some h) new apart = (new h refl, apart)

response_apart : (s : SecurityContext) (w : World) (n : ℕ) (own : Bool) (p : Parts) (o : Option Life) → ((of : Life) → o ≡ Some of → IsNewForServer s w n (own_number own of))
    → HaveOwnNonces (λ (r : Response). response_nonce s.common_iv s.client s.server r.number r.own) (answered s w)
    → HaveOwnNonces (λ (r : Response). response_nonce s.common_iv s.client s.server r.number r.own) (response_in o n own p ++ answered s w)
response_apart s w n own p None new apart = apart
response_apart s w n own p (Some of) new apart = (new of refl, apart)

pub nonces_apart : (s : SecurityContext) (w : World) → AtEach (SealsUnderNewNonce s) w → SealsUnderNewNonces s w
nonces_apart s Begin a = (tt, tt)
nonces_apart s (Then w (AtClient (client.Request now p room) (client.Sent bytes))) a =
    let x = nonces_apart s w a.0 in (request_apart s w p (client_history s w) a.1 x.0, x.1)
nonces_apart s (Then w (AtServer (server.Datagram now echo mid d) (server.Took (server.Challenge i n given issued) reply))) a =
    let x = nonces_apart s w a.0 in (x.0, response_apart s w n true (challenge_message given) (server_life s w) a.1 x.1)
nonces_apart s (Then w (AtServer (server.Reply t own mid p room) (server.Replied bytes))) a =
    let x = nonces_apart s w a.0 in (x.0, response_apart s w t.number own p (server_life s w) a.1 x.1)
nonces_apart s (Then w (AtServer (server.Notify t p room) (server.Replied bytes))) a =
    let x = nonces_apart s w a.0 in (x.0, response_apart s w t.number true (as_notified p) (server_life s w) a.1 x.1)
nonces_apart s (Then w event) a = nonces_apart s w a.0
