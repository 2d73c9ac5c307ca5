-- An exchange: what the network brings in time arrives, and both ends stay in step.
use Rattle.std.proofs.Common.{◌≡◌, ◌≢◌, ℕ, ◌+◌, ◌-◌, ◌<◌, ◌≤◌, ◌∙◌, sym, ap, subst, refl, arith, Bool, true, false, Option, Some, None, List, ◌⊎◌, inl, inr, ◌&&◌, ◌/◌, if◌then◌else◌}
use Rattle.std.specs.Prelude.{◌==◌, ◌↔◌, All, Contains, is_some}
use Rattle.std.specs.Option.{option_and_then, option_map}
use Rattle.std.proofs.lemmas.Bool.{cases_lt, eq-eqb, eqb-true}
use Rattle.std.proofs.lemmas.List.Elements.{All-cons, All-contains, All-nil, All-weaker}
use Rattle.osc_coap.specs.Datagram.{Parts, IsDatagram}
use Rattle.osc_coap.specs.Inner.{InnerParts}
use Rattle.osc_coap.specs.Laws.{DatagramIsOneMessage}
use Rattle.osc_coap.specs.Interpreted.{interpreted}
use Rattle.osc_coap.specs.OptionNumbers.{observe}
use Rattle.osc_coap.specs.OptionSpelling.{Entry}
use Rattle.osc_context.specs.SecurityContext.{SecurityContext}
use Rattle.osc_context.specs.declared.partial_iv.Piv.{Piv}
use Rattle.osc_protect.specs.Laws.{OneRequest, RequestsShowHeads, SealedOpens}
use Rattle.osc_protect.specs.Protection.{ProtectsRequest, as_notified, emptied}
use Rattle.osc_protect.proofs.Observes.{emptied_observe}
use Rattle.osc_protect.specs.Sealed.{SealsNotification, SealsRequest, SealsResponse, inside}
use Rattle.osc_protect.specs.declared.unprotect_error.UnprotectError.TheVariants.{Inner}
use Rattle.osc_window.specs.declared.window_size.WindowSize.{WindowSize}
use Rattle.osc_window.specs.Views.{places_of}
use Rattle.osc_life.specs.declared.doubt.Doubt.{Doubt}
use Rattle.osc_life.specs.declared.start.Start.TheVariants as starts
use Rattle.osc_laws.specs.Arriving.{WhatIsSealedArrives}
use Rattle.osc_client.specs.ClientAnswer.{ClientAnswer, Hears, IsInPlace, continues, told}
use Rattle.osc_laws.specs.ClientHeadline.{ClientRowsExclude}
use Rattle.osc_client.specs.ClientHistory as client
use Rattle.osc_laws.specs.ClientLaws.{AllClientAnswers}
use Rattle.osc_laws.specs.Exchange.{Request, Response, AtClient, AtServer, Brings, Exchange, Starts, Then, AdmitsInTime, AreInStep, GoesWell, IsHonest, IsWaitedFor, LeavesNew, Stands, StaysOpen, client_clock, client_of, said, sent, server_clock, server_of, tickets}
use Rattle.osc_laws.specs.Headline as delivery
use Rattle.osc_laws.specs.Laws.{AllAnswers}
use Rattle.osc_life.specs.Doubting.{IsNotBelow, OpensBy, StaysBy}
use Rattle.osc_life.specs.Life.{Life, Admits, Carries, Challenged, Delivered, HasOwn, IsNewIn, Spoiled, born, in_force, is_open, is_open_life, marked}
use Rattle.osc_observe.specs.Observing.{is_notification, registers}
use Rattle.osc_observe.specs.Received.{Received}
use Rattle.osc_life.specs.Replies.{as_reply, challenge_message}
use Rattle.osc_endpoint.specs.ServerAnswer.{IsRequestOf, MeetsRow, TakeAnswer, arrival}
use Rattle.osc_life.specs.LifeAnswer.{as_notification, challenge_given, own_number}
use Rattle.osc_life.specs.ServerHistory as server
use Rattle.osc_client.proofs.Asking.{contains_filter}
use Rattle.osc_laws.proofs.AskedNumbers.{Knows, known_after, known_new}
use Rattle.osc_laws.proofs.DeliveredNumbers.{none_beyond}
use Rattle.osc_laws.proofs.ExchangeLives.{some_is, Allowed, allowed_if, in_step, fits, marked_fits, at_server, first_of_all, numbers_from, IsWide, still_wide, wide_by_one, wide_at_server}
use Rattle.osc_laws.proofs.InForce.{challenge_serves}
use Rattle.osc_laws.proofs.Inside.{registers_inside, valid_in, values_inside}
use Rattle.osc_laws.proofs.LifeAnswers.{shut_passes}
use Rattle.osc_life.proofs.Judgments.{opens_carried}

pub record ExchangeLaws : Type 0 where
  pub arrive : WhatIsSealedArrives
  pub server : delivery.ServerRowsExclude
  pub client : ClientRowsExclude
  pub opens : SealedOpens
  pub heads : RequestsShowHeads
  pub one : OneRequest
  pub datagram : DatagramIsOneMessage

-- ---- what was sealed

-- the request was sealed by this client
record IsSealedBy (h : client.History) (s : Request) : Type 0 where
  seals : SealsRequest (client.context h) s.number s.plain s.bytes
  known : Knows h s.number s.plain.token (registers (client.context h).features s.plain.code s.plain.options)

-- the response was sealed as one to such a request
record IsReply (h : client.History) (y : Response) : Type 0 where
  plain : Parts
  observing : Bool
  known : Knows h y.to plain.token observing
  flag : y.notifies ≡ false
  says : y.message ≡ inside plain
  seals : SealsResponse (client.context h) y.to y.own plain y.bytes

-- or as a notification
record IsNotice (h : client.History) (y : Response) : Type 0 where
  plain : Parts
  known : Knows h y.to plain.token true
  flag : y.notifies ≡ true
  says : y.message ≡ inside (as_notified plain)
  continuing : is_notification plain.code (inside (as_notified plain)).options ≡ true
  seals : SealsNotification (client.context h) y.to y.own plain y.bytes

abbrev IsSaid : client.History → Response → Type 0
IsSaid h y = IsReply h y ⊎ IsNotice h y

abbrev IsGiven : ℕ → client.History → server.TicketValues → Type 0
IsGiven i h t = t.context ≡ i → Knows h t.number t.token t.observes

-- an event of the client leaves that so
module _ (h : client.History) (event : client.Event) (entry : client.Entry) (less : client.next h ≤ client.next (client.Then h event entry)) where
  still_sealed : (s : Request) → IsSealedBy h s → IsSealedBy (client.Then h event entry) s
  still_sealed s b = record { seals = b.seals; known = known_after h event entry s.number s.plain.token (registers (client.context h).features s.plain.code s.plain.options) less b.known }

  still_said : (i : ℕ) (y : Response) → (y.context ≡ i → IsSaid h y) → y.context ≡ i → IsSaid (client.Then h event entry) y
  still_said i y b e = elim (b e) [
    | inl r ↦ inl (record {
      plain = r.plain;
      observing = r.observing;
      known = known_after h event entry y.to r.plain.token r.observing less r.known;
      flag = r.flag;
      says = r.says;
      seals = r.seals;
    })
    | inr r ↦ inr (record {
      plain = r.plain;
      known = known_after h event entry y.to r.plain.token true less r.known;
      flag = r.flag;
      says = r.says;
      continuing = r.continuing;
      seals = r.seals;
    })
  ]

  still_given : (i : ℕ) (t : server.TicketValues) → IsGiven i h t → IsGiven i (client.Then h event entry) t
  still_given i t b e = known_after h event entry t.number t.token t.observes less (b e)

sent_more : (n : ℕ) (x : Exchange) (event : client.Event) (entry : client.Entry) → ClientAnswer n (client_of x) event entry
    → client.next (client_of x) ≤ client.next (client.Then (client_of x) event entry) → All (IsSealedBy (client_of x)) (sent x)
    → All (IsSealedBy (client.Then (client_of x) event entry)) (sent (Then x (AtClient event entry)))
sent_more n x (client.Request now plain room) (client.Sent d) row less b =
    let h = client_of x in
    let g : client.History = client.Then h (client.Request now plain room) (client.Sent d) in
    All-cons (IsSealedBy g) (record { number = client.next h; plain = plain; bytes = d }) (sent x) (record { seals = row.1; known = known_new h now plain room d })
    (All-weaker (IsSealedBy h) (IsSealedBy g) (still_sealed h (client.Request now plain room) (client.Sent d) less) (sent x) b)
sent_more n x event entry row less b =
    All-weaker (IsSealedBy (client_of x)) (IsSealedBy (client.Then (client_of x) event entry)) (still_sealed (client_of x) event entry less) (sent x) b

-- ---- what a notification says

both_true : (a b : Bool) → (a && b) ≡ true → (a ≡ true) × (b ≡ true)
both_true true b h = (refl, h)
both_true false b h = absurd (cc)

and_both : (a b : Bool) → a ≡ true → b ≡ true → (a && b) ≡ true
and_both true b e h = h
and_both false b e h = absurd (cc)

-- a valid Observe is there, and so it is once its value is empty
observe_stays : (entries : List Entry) → is_some (interpreted observe entries) ≡ true → is_some (interpreted observe (emptied true entries)) ≡ true
observe_stays entries = go (interpreted observe entries) refl
  where
    go : (o : Option (List ℕ)) → interpreted observe entries ≡ o → is_some o ≡ true → is_some (interpreted observe (emptied true entries)) ≡ true
    go None e is = absurd (cc)
    go (Some value) e is = rw (emptied_observe entries value e) refl

still_notifies : (p : Parts) → is_notification p.code p.options ≡ true → is_notification p.code (inside (as_notified p)).options ≡ true
still_notifies p h =
    let (two, valid) = both_true (p.code / 32 == 2) _ h in
    subst (λ (vs : List (List ℕ)). ((p.code / 32 == 2) && is_some (valid_in vs)) ≡ true) (sym (values_inside observe refl (emptied true p.options)))
    (and_both (p.code / 32 == 2) _ two (observe_stays p.options valid))

-- ---- numbers in doubt

-- what doesn't open a life leaves it closed
stays_unless : (doubt : Option Doubt) (n : ℕ) (carried : Type 0) → (OpensBy doubt n carried → ⊥) → StaysBy doubt n carried
stays_unless None n carried never = never
stays_unless (Some doubt) n carried never = elim (cases_lt n doubt.limit) [
  | inl below ↦ (below, λ carries. never (inr carries))
  | inr beyond ↦ absurd (never (inl beyond))
]

-- ---- the state of an exchange

record Goes (n i : ℕ) (x : Exchange) : Type 0 where
  asks : AllClientAnswers n (client_of x)
  serves : AllAnswers (server_of x)
  step : AreInStep i (client_of x) (server_of x)
  sealed : All (IsSealedBy (client_of x)) (sent x)
  given : All (IsGiven i (client_of x)) (tickets x)
  says : All (λ y. y.context ≡ i → IsSaid (client_of x) y) (said x)

-- the life is the one that is in step
same_context : (n i : ℕ) (x : Exchange) (b : Goes n i x) (of : Life) (j : ℕ) → j ≡ i → server.life (server_of x) j ≡ Some of → of.context ≡ client.context (client_of x)
same_context n i x b of j e life = ap (λ (l : Life). l.context) (some_is (sym life ∙ ap (server.life (server_of x)) e ∙ b.step.life_is)) ∙ b.step.same

at_client : (n i : ℕ) (x : Exchange) (event : client.Event) (entry : client.Entry) → Goes n i x → GoesWell n i x (AtClient event entry) → Goes n i (Then x (AtClient event entry))
at_client n i x event entry b (row, less) =
    let h = client_of x in
    let g = client.Then h event entry in
    record {
      asks = (b.asks, row);
      serves = b.serves;
      step = in_step i g (server_of x) b.step.of b.step.life_is (record { same = b.step.same; new = λ is k above. b.step.new is k (omega (arith, less, above)) });
      sealed = sent_more n x event entry row less b.sealed;
      given = All-weaker (IsGiven i h) (IsGiven i g) (still_given h event entry less i) (tickets x) b.given;
      says = All-weaker (λ y. y.context ≡ i → IsSaid h y) (λ y. y.context ≡ i → IsSaid g y) (still_said h event entry less i) (said x) b.says;
    }

-- what the server says by a ticket
replied : (n i : ℕ) (x : Exchange) (event : server.Event) (entry : server.Entry) → Goes n i x → GoesWell n i x (AtServer event entry)
    → All (λ y. y.context ≡ i → IsSaid (client_of x) y) (said (Then x (AtServer event entry)))
replied n i x (server.Reply t own mid p room) (server.Replied d) b ((of, present, (asked, seals, short)), given) =
    let h = client_of x in
    let g = server_of x in
    let y : Response = record { context = t.context; to = t.number; own = option_and_then (own_number own) (server.life g t.context); notifies = false; message = inside p; bytes = d } in
    All-cons (λ z. z.context ≡ i → IsSaid h z) y (said x)
    (λ e.
    let q : Parts = as_reply t.kind t.message_id t.token mid p in
    let same = same_context n i x b of t.context e present.0 in
    let own_is : option_and_then (own_number own) (server.life g t.context) ≡ own_number own of = ap (λ o. option_and_then (own_number own) o) present.0 in
    inl (record {
      plain = q;
      observing = t.observes;
      known = All-contains (IsGiven i h) (tickets x) t b.given (given e) e;
      flag = refl;
      says = refl;
      seals = subst (λ k. SealsResponse (client.context h) t.number k q d) (sym own_is) (subst (λ c. SealsResponse c t.number (own_number own of) q d) same seals);
    }))
    b.says
replied n i x (server.Notify t p room) (server.Replied d) b ((registered, (of, present, (is, has, seals, short))), given) =
    let h = client_of x in
    let g = server_of x in
    let y : Response = record { context = t.context; to = t.number; own = option_and_then (own_number true) (server.life g t.context); notifies = true; message = inside (as_notified p); bytes = d } in
    All-cons (λ z. z.context ≡ i → IsSaid h z) y (said x)
    (λ e.
    let q : Parts = as_notification t.token p in
    let same = same_context n i x b of t.context e present.0 in
    let own_is : option_and_then (own_number true) (server.life g t.context) ≡ own_number true of = ap (λ o. option_and_then (own_number true) o) present.0 in
    inr (record {
      plain = q;
      known = subst (Knows h t.number t.token) registered (All-contains (IsGiven i h) (tickets x) t b.given (given e) e);
      flag = refl;
      says = refl;
      continuing = still_notifies q is;
      seals = subst (λ k. SealsNotification (client.context h) t.number k q d) (sym own_is) (subst (λ c. SealsNotification c t.number (own_number true of) q d) same seals);
    }))
    b.says
replied n i x event entry b w = b.says

serving : (n i : ℕ) (x : Exchange) (event : server.Event) (entry : server.Entry) → Goes n i x → GoesWell n i x (AtServer event entry) → Goes n i (Then x (AtServer event entry))
serving n i x event entry b (row, of_these) =
    let h = client_of x in
    let (of, life, f) = at_server i (client.context h) (client.next h) (server_of x) (tickets x) event entry (none_beyond (server_of x) b.serves) row of_these
    (b.step.of, b.step.life_is, fits i h (server_of x) b.step) in
    record {
      asks = b.asks;
      serves = (b.serves, row);
      step = in_step i h (server.Then (server_of x) event entry) of life f;
      sealed = b.sealed;
      given = b.given;
      says = replied n i x event entry b (row, of_these);
    }

module _ (laws : ExchangeLaws) where
  -- ---- a request that the network brings

  -- the context and the number that a datagram of the client's is for
  is_that : (h : client.History) (s : Request) (c : SecurityContext) (k : ℕ) (m : InnerParts) → IsSealedBy h s → c ≡ client.context h → ProtectsRequest c k m s.bytes
      → (k ≡ s.number) × (m ≡ inside s.plain)
  is_that h s c k m b same protects =
      (laws.opens.request (client.context h) s.number s.plain s.bytes b.seals).nothing_else k m (subst (λ z. ProtectsRequest z k m s.bytes) same protects)

  -- its token is what the client said
  token_is : (h : client.History) (s : Request) (p : Parts) → IsSealedBy h s → IsDatagram p s.bytes → p.token ≡ s.plain.token
  token_is h s p b datagram = ap (λ (q : Parts). q.token) (laws.datagram p _ s.bytes datagram b.seals.holds.2)

  opens : (h : client.History) (s : Request) (c : SecurityContext) → IsSealedBy h s → c ≡ client.context h → ProtectsRequest c s.number (inside s.plain) s.bytes
  opens h s c b same =
      subst (λ z. ProtectsRequest z s.number (inside s.plain) s.bytes) (sym same) (laws.opens.request (client.context h) s.number s.plain s.bytes b.seals).opens

  module _ (n i : ℕ) (x : Exchange) (b : Goes n i x) (s : Request) (now : ℕ) (echo : List ℕ) (mid : ℕ) (known : IsSealedBy (client_of x) s) where
    -- the ticket that its delivery gives
    gives : (received : Received) (t : server.TicketValues) → MeetsRow (server_of x) (arrival (server_of x) now echo mid s.bytes) (server.Deliver received t) → t.context ≡ i
        → (t.number ≡ s.number) × Knows (client_of x) t.number t.token t.observes
    gives received t (j, k, of, request, (receives, admits, values)) e =
        let h = client_of x in
        let index : t.context ≡ j = ap (λ (v : server.TicketValues). v.context) values in
        let number : t.number ≡ k = ap (λ (v : server.TicketValues). v.number) values in
        let token : t.token ≡ received.token = ap (λ (v : server.TicketValues). v.token) values in
        let same = same_context n i x b of j (sym index ∙ e) request.life_is in
        let is = is_that h s of.context k received.message known same receives.protects in
        let number_is : t.number ≡ s.number = number ∙ is.0 in
        let token_is : t.token ≡ s.plain.token = token ∙ receives.token ∙ token_is h s receives.outer known receives.datagram in
        let observes : t.observes ≡ registers of.context.features received.message.code received.message.options = ap (λ (v : server.TicketValues). v.observes) values in
        let observes_is : t.observes ≡ registers (client.context h).features s.plain.code s.plain.options = observes
        ∙ ap (λ (c : SecurityContext). registers c.features received.message.code received.message.options) same
        ∙ ap (λ (m : InnerParts). registers (client.context h).features m.code m.options) is.1
        ∙ registers_inside (client.context h).features s.plain in (
          number_is,
          subst (λ k. Knows h k t.token t.observes) (sym number_is)
              (subst (λ z. Knows h s.number z t.observes) (sym token_is) (subst (Knows h s.number s.plain.token) (sym observes_is) known.known)),
        )

    -- it isn't a plaintext that is refused
    never_bad : (j k : ℕ) → MeetsRow (server_of x) (arrival (server_of x) now echo mid s.bytes) (server.BadInner j k) → j ≡ i → ⊥
    never_bad j k (l, m, of, request, (passes, refuses, index, number)) e =
        let same = same_context n i x b of l (sym index ∙ e) request.life_is in
        (laws.one of.context).never_both s.bytes s.number (inside s.plain) Inner (opens (client_of x) s of.context known same) refuses

    allowed : (answer : server.Answer) → MeetsRow (server_of x) (arrival (server_of x) now echo mid s.bytes) answer → Allowed (client.next (client_of x)) (server.mark_at i answer)
    allowed (server.Deliver received t) row =
        allowed_if (i == t.context) (client.next (client_of x)) (Delivered t.number) (λ e. (gives received t row (sym (eqb-true i t.context e))).1.0)
    allowed (server.BadInner j k) row = allowed_if (i == j) (client.next (client_of x)) (Spoiled k) (λ e. absurd (never_bad j k row (sym (eqb-true i j e))))
    allowed (server.Challenge j k value issued) row = allowed_if (i == j) (client.next (client_of x)) (Challenged value issued) (λ e. tt)
    allowed answer row = tt

    tickets_more : (answer : server.Answer) (reply : List ℕ) → MeetsRow (server_of x) (arrival (server_of x) now echo mid s.bytes) answer
        → All (IsGiven i (client_of x)) (tickets (Then x (Brings s now echo mid answer reply)))
    tickets_more (server.Deliver received t) reply row = All-cons (IsGiven i (client_of x)) t (tickets x) (λ e. (gives received t row e).1) b.given
    tickets_more answer reply row = b.given

    -- a challenge of it
    challenges : (answer : server.Answer) (reply : List ℕ) → TakeAnswer (server_of x) (arrival (server_of x) now echo mid s.bytes) answer reply
        → All (λ y. y.context ≡ i → IsSaid (client_of x) y) (said (Then x (Brings s now echo mid answer reply)))
    challenges (server.Challenge j k value issued) reply ((l, m, of, request, (wants, has, given, index, number)), (of_it, life, (p, datagram, seals))) =
        let h = client_of x in
        let g = server_of x in
        let y : Response = record { context = j; to = k; own = option_and_then (own_number true) (server.life g j); notifies = false; message = inside (challenge_message value); bytes = reply } in
        All-cons (λ z. z.context ≡ i → IsSaid h z) y (said x)
        (λ e.
        let q : Parts = as_reply p.kind p.message_id p.token mid (challenge_message value) in
        let same = same_context n i x b of_it j e life in
        let there = same_context n i x b of l (sym index ∙ e) request.life_is in
        let (shut, from, inner, protects, stays) = wants in
        let number_is : k ≡ s.number = number ∙ (is_that h s of.context m inner known there protects).0 in
        let own_is : option_and_then (own_number true) (server.life g j) ≡ own_number true of_it = ap (λ o. option_and_then (own_number true) o) life in
        let observing = registers (client.context h).features s.plain.code s.plain.options in
        inl (record {
          plain = q;
          observing = observing;
          known = subst (λ z. Knows h z q.token observing) (sym number_is) (subst (λ z. Knows h s.number z observing) (sym (token_is h s p known datagram)) known.known);
          flag = refl;
          says = refl;
          seals = subst (λ z. SealsResponse (client.context h) k z q reply) (sym own_is) (subst (λ c. SealsResponse c k (own_number true of_it) q reply) same seals);
        }))
        b.says
    challenges answer reply took = b.says

    brought : (answer : server.Answer) (reply : List ℕ) → TakeAnswer (server_of x) (arrival (server_of x) now echo mid s.bytes) answer reply → Goes n i (Then x (Brings s now echo mid answer reply))
    brought answer reply took =
        let h = client_of x in
        let (of, life, f) = marked_fits (client.context h) (client.next h) (server.life (server_of x) i) (server.mark_at i answer) (allowed answer took.0)
        (b.step.of, b.step.life_is, fits i h (server_of x) b.step) in
        record {
          asks = b.asks;
          serves = (b.serves, took);
          step = in_step i h (server.Then (server_of x) (server.Datagram now echo mid s.bytes) (server.Took answer reply)) of life f;
          sealed = b.sealed;
          given = tickets_more answer reply took.0;
          says = challenges answer reply took;
        }

    wide_brought : (first : ℕ) (answer : server.Answer) (reply : List ℕ) → MeetsRow (server_of x) (arrival (server_of x) now echo mid s.bytes) answer
        → IsWide i first (tickets x) (server.life (server_of x) i)
        → IsWide i first (tickets (Then x (Brings s now echo mid answer reply))) (option_map (marked (server.mark_at i answer)) (server.life (server_of x) i))
    wide_brought first (server.Deliver received t) reply row w = wide_by_one (i == t.context) i first t (tickets x) (server.life (server_of x) i) refl w
    wide_brought first (server.BadInner j k) reply row w =
        still_wide (if i == j then Some (Spoiled k) else None) i first (tickets x) (server.life (server_of x) i)
        (allowed_if (i == j) 0 (Spoiled k) (λ e. absurd (never_bad j k row (sym (eqb-true i j e))))) w
    wide_brought first (server.Challenge j k value issued) reply row w =
        still_wide (if i == j then Some (Challenged value issued) else None) i first (tickets x) (server.life (server_of x) i) (allowed_if (i == j) 0 (Challenged value issued) (λ e. tt)) w
    wide_brought first answer reply row w = still_wide None i first (tickets x) (server.life (server_of x) i) tt w

    -- it is delivered exactly if it is admitted
    request_arrives : (answer : server.Answer) (reply : List ℕ) → TakeAnswer (server_of x) (arrival (server_of x) now echo mid s.bytes) answer reply
        → (delivery.told answer ≡ Some (i, s.number, inside s.plain)) ↔ Admits b.step.of (server_clock x now) s.number (inside s.plain)
    request_arrives answer reply took =
        let g = server_of x in
        let exactly = (laws.server g b.serves).delivery now mid echo s.bytes reply answer i s.number (inside s.plain) took in (
          (λ told.
              let is = exactly.0 told in
              subst (λ of. Admits of (server_clock x now) s.number (inside s.plain)) (some_is (sym is.life_is ∙ b.step.life_is)) is.admits),
          (λ admits.
              exactly.1 (record { of = b.step.of; life_is = b.step.life_is; protects = opens (client_of x) s b.step.of.context known b.step.same; admits = admits })),
        )

    -- a closed life that doesn't admit it challenges it
    is_challenged : (answer : server.Answer) (reply : List ℕ) → TakeAnswer (server_of x) (arrival (server_of x) now echo mid s.bytes) answer reply
        → is_open b.step.of ≡ false → IsNotBelow b.step.of.doubt s.number → HasOwn b.step.of → (Admits b.step.of (server_clock x now) s.number (inside s.plain) → ⊥)
        → (c : List ℕ × ℕ) × (challenge_given b.step.of (server_clock x now) echo ≡ c) × (answer ≡ server.Challenge i s.number c.0 c.1)
    is_challenged answer reply took shut from has refused =
        let g = server_of x in
        let of = b.step.of in
        let c = challenge_given of (server_clock x now) echo in
        let seals : SealsRequest of.context s.number s.plain s.bytes = subst (λ z. SealsRequest z s.number s.plain s.bytes) (sym b.step.same) known.seals in
        let shown = (laws.heads of.context).sealed s.bytes s.number s.plain seals in
        let request : IsRequestOf g s.bytes i s.number of = record { head = shown.0; has_head = shown.1; life_is = b.step.life_is; names = shown.2 } in
        let stays : StaysBy of.doubt s.number (Carries (in_force of (server_clock x now)) (inside s.plain)) = stays_unless of.doubt s.number _ (λ opens.
        refused (shut_passes of s.number shut from, (λ _. opens))) in
        let row : MeetsRow g (arrival g now echo mid s.bytes) (server.Challenge i s.number c.0 c.1) =
        (i, s.number, of, request, ((shut, from, inside s.plain, opens (client_of x) s of.context known b.step.same, stays), has, refl, refl, refl)) in
        (c, refl, ((laws.server g b.serves).exactly (arrival g now echo mid s.bytes) answer (server.Challenge i s.number c.0 c.1) reply took).1 row)

  -- ---- a response that the network brings

  response_arrives : (n i : ℕ) (x : Exchange) (y : Response) (now : ℕ) (answer : client.Answer) → Goes n i x → Contains (said x) y → y.context ≡ i
      → ClientAnswer n (client_of x) (client.Datagram now y.bytes) (client.Took answer)
      → (told answer ≡ Some (y.notifies, y.to, y.own, y.message)) ↔ IsWaitedFor (client_of x) (client_clock x now) y
  response_arrives n i x y now answer b among e took =
      let h = client_of x in
      let exactly = (laws.client n h b.asks).hearing now y.to y.bytes answer y.notifies y.own y.message took in (
        (λ told.
            let is = exactly.0 told in
            record { request = is.to; is_pending = is.answers.1; number_is = is.number_is; is_next = is.awaited_is }),
        (λ w.
            let r = w.request in
            let asked : Contains (client.asked h) r = contains_filter (client.is_alive (client_clock x now) (client.life_ms h)) (client.asked h) r w.is_pending in
            exactly.1 (elim (All-contains (λ z. z.context ≡ i → IsSaid h z) (said x) y b.says among e) [
              | inl a ↦
                  let same = All-contains (λ (q : client.Asked). q.number ≡ y.to → (q.token ≡ a.plain.token) × (client.observes q.wait ≡ a.observing)) (client.asked h) r a.known.1 asked w.number_is in
                  let seals = subst (λ k. SealsResponse (client.context h) k y.own a.plain y.bytes) (sym w.number_is) a.seals in
                  let heard : Hears h now y.bytes false r.number y.own (inside a.plain) = laws.arrive.response h now r y.own a.plain y.bytes (subst (IsInPlace r y.own) a.says w.is_next) w.is_pending (sym same.0) seals in
                  subst (λ k. Hears h now y.bytes y.notifies k y.own y.message) w.number_is
                  (subst (λ m. Hears h now y.bytes y.notifies r.number y.own m) (sym a.says) (subst (λ f. Hears h now y.bytes f r.number y.own (inside a.plain)) (sym a.flag) heard))
              | inr a ↦
                  let same = All-contains (λ (q : client.Asked). q.number ≡ y.to → (q.token ≡ a.plain.token) × (client.observes q.wait ≡ true)) (client.asked h) r a.known.1 asked w.number_is in
                  let seals = subst (λ k. SealsNotification (client.context h) k y.own a.plain y.bytes) (sym w.number_is) a.seals in
                  let m = inside (as_notified a.plain) in
                  let heard : Hears h now y.bytes (continues r.wait m) r.number y.own m = laws.arrive.notification h now r y.own a.plain y.bytes same.1 (subst (IsInPlace r y.own) a.says w.is_next) w.is_pending (sym same.0) seals in
                  let goes_on : continues r.wait m ≡ y.notifies = ap (λ c. c && is_notification m.code m.options) same.1 ∙ a.continuing ∙ sym a.flag in
                  subst (λ k. Hears h now y.bytes y.notifies k y.own y.message) w.number_is
                  (subst (λ z. Hears h now y.bytes y.notifies r.number y.own z) (sym a.says) (subst (λ f. Hears h now y.bytes f r.number y.own m) goes_on heard))
            ])),
      )

  -- ---- all of it

  goes : (n i : ℕ) (x : Exchange) → IsHonest n i x → Goes n i x
  goes n i (Starts h g held) (asks, serves, t, given) = record {
    asks = asks;
    serves = serves;
    step = t;
    sealed = All-nil (IsSealedBy h);
    given = given;
    says = All-nil (λ y. y.context ≡ i → IsSaid h y);
  }
  goes n i (Then x (AtClient event entry)) (honest, well) = at_client n i x event entry (goes n i x honest) well
  goes n i (Then x (AtServer event entry)) (honest, well) = serving n i x event entry (goes n i x honest) well
  goes n i (Then x (Brings s now echo mid answer reply)) (honest, (among, took)) =
      let b = goes n i x honest in
      brought n i x b s now echo mid (All-contains (IsSealedBy (client_of x)) (sent x) s b.sealed among) answer reply took

  wide : (n i : ℕ) (x : Exchange) → IsHonest n i x → StaysOpen i x → IsWide i (first_of_all x) (tickets x) (server.life (server_of x) i)
  wide n i (Starts h g held) (asks, serves, t, given) stays =
      let is : is_open t.of ≡ true = sym (ap is_open_life t.life_is) ∙ stays in
      record { life = t.of; is = t.life_is; open_is = is; new = λ k above all. t.new is k above }
  wide n i (Then x (AtClient event entry)) honest stays = wide n i x honest.0 stays
  wide n i (Then x (AtServer event entry)) honest stays =
      wide_at_server i (first_of_all x) x event entry (none_beyond (server_of x) (goes n i x honest.0).serves) honest.1.0 honest.1.1 (wide n i x honest.0) stays
  wide n i (Then x (Brings s now echo mid answer reply)) (honest, (among, took)) stays =
      let b = goes n i x honest in
      wide_brought n i x b s now echo mid (All-contains (IsSealedBy (client_of x)) (sent x) s b.sealed among) (first_of_all x) answer reply took.0 (wide n i x honest stays)

  new_in_time : (n i : ℕ) (x : Exchange) (honest : IsHonest n i x) (of : Life) → server.life (server_of x) i ≡ Some of → (s : Request) → Contains (sent x) s → StaysOpen i x
      → All (LeavesNew i (places_of of.size) s.number) (tickets x) → IsNewIn of s.number
  new_in_time n i x honest of life s among stays =
      let w = wide n i x honest stays in
      let number = All-contains (λ (r : Request). first_of_all x ≤ r.number) (sent x) s (numbers_from n i x honest) among in
      subst (λ (l : Life). All (LeavesNew i (places_of l.size) s.number) (tickets x) → IsNewIn l s.number) (some_is (sym w.is ∙ life)) (w.new s.number number)

  serves_in_time : (n i : ℕ) (x : Exchange) (b : Goes n i x) (value : List ℕ) (issued now k : ℕ) (m : InnerParts) → is_open b.step.of ≡ false → IsNotBelow b.step.of.doubt k
      → Contains b.step.of.marks (Challenged value issued) → server_clock x now - issued ≤ 30000 → Carries (Some (value, issued)) m → Admits b.step.of (server_clock x now) k m
  serves_in_time n i x b value issued now k m shut from among within carries =
      let is = challenge_serves (server_of x) i b.step.of value issued (server_clock x now) b.serves b.step.life_is shut among (omega arith) within in
      (shut_passes b.step.of k shut from, (λ _. opens_carried b.step.of.doubt k _ (subst (λ o. Carries o m) (sym is) carries)))

  pub stands : (n i : ℕ) (x : Exchange) → IsHonest n i x → Stands n i x
  stands n i x honest =
      let b = goes n i x honest in
      let sealed : (s : Request) → Contains (sent x) s → IsSealedBy (client_of x) s = λ s among. All-contains (IsSealedBy (client_of x)) (sent x) s b.sealed among in
      record {
        in_step = b.step;
        request = λ s now echo mid answer reply brings. request_arrives n i x b s now echo mid (sealed s brings.0) answer reply brings.1;
        response = λ y now answer among e took. response_arrives n i x y now answer b among e took;
      }

  in_time_at : (n i : ℕ) (x : Exchange) (honest : IsHonest n i x) → AdmitsInTime i x (goes n i x honest).step.of
  in_time_at n i x honest =
      let b = goes n i x honest in
      let sealed : (s : Request) → Contains (sent x) s → IsSealedBy (client_of x) s = λ s among. All-contains (IsSealedBy (client_of x)) (sent x) s b.sealed among in
      record {
        challenge = λ s now echo mid answer reply brings. is_challenged n i x b s now echo mid (sealed s brings.0) answer reply brings.1;
        echo = serves_in_time n i x b;
        new = new_in_time n i x honest b.step.of b.step.life_is;
      }

  pub admits_in_time : (n i : ℕ) (x : Exchange) (of : Life) → IsHonest n i x → server.life (server_of x) i ≡ Some of → AdmitsInTime i x of
  admits_in_time n i x of honest life = subst (AdmitsInTime i x) (some_is (sym (goes n i x honest).step.life_is ∙ life)) (in_time_at n i x honest)

pub starts_in_step : (s : SecurityContext) (first ms i : ℕ) (own : Piv) (size : WindowSize) (places : ℕ) (g : server.History)
    → AreInStep i (client.New s first ms) (server.Then g (server.Add s (starts.Fresh own) size places) (server.Added i))
starts_in_step s first ms i own size places g =
    let of : Life = born s (starts.Fresh own) size in
    in_step i _ _ of (ap (λ b. if b then Some of else server.life g i) (eq-eqb i i refl)) (record {
      same = refl;
      new = λ is k above. record { above = omega arith; unspent = All-nil (λ m. m ≢ k); within = All-nil (λ m. m < k + places_of size) };
    })

-- each entry of the server is an answer
pub serves_all : (n i : ℕ) (x : Exchange) → IsHonest n i x → AllAnswers (server_of x)
serves_all n i (Starts h g held) honest = honest.1
serves_all n i (Then x (AtClient event entry)) honest = serves_all n i x honest.0
serves_all n i (Then x (AtServer event entry)) honest = (serves_all n i x honest.0, honest.1.0)
serves_all n i (Then x (Brings s now echo mid answer reply)) honest = (serves_all n i x honest.0, honest.1.1)

-- the window stays open
pub all_open : ExchangeLaws → (n i : ℕ) (x : Exchange) → IsHonest n i x → StaysOpen i x → is_open_life (server.life (server_of x) i) ≡ true
all_open laws n i x honest stays = let w = wide laws n i x honest stays in ap is_open_life w.is ∙ w.open_is
