-- The runs of a client and a server go on with an exchange, turn by turn.
use Rattle.std.proofs.Common.{◌≡◌, ℕ, zero, suc, ◌≤◌, ◌∙◌, sym, ap, subst, refl, arith, Bool, Option, Some, None, Ok, Err, List, [], ◌∷◌, ◌++◌, slice_set, inl, inr}
use Rattle.std.specs.Prelude.{◌↔◌, All, Contains, length, map}
use Rattle.std.proofs.lemmas.List.Elements.{All-contains, All-contains_itself, All-map, All-weaker}
use Rattle.osc_coap.specs.Inner.{InnerParts}
use Rattle.osc_context.specs.Views.{number_of}
use Rattle.osc_endpoint.specs.declared.client_event.ClientEvent.{ClientEvent}
use Rattle.osc_endpoint.specs.declared.client_event.ClientEvent.TheVariants as asks
use Rattle.osc_endpoint.specs.declared.client_event.ClientEntry.{ClientEntry}
use Rattle.osc_endpoint.specs.declared.client_event.ClientEntry.TheVariants as heard
use Rattle.osc_client.specs.declared.client_outcome.ClientOutcome.{ClientOutcome}
use Rattle.osc_life.specs.declared.seen.Seen.{Seen}
use Rattle.osc_life.specs.declared.seen.Seen.TheVariants as seen
use Rattle.osc_endpoint.specs.declared.server_event.ServerEvent.{ServerEvent}
use Rattle.osc_endpoint.specs.declared.server_event.ServerEvent.TheVariants as events
use Rattle.osc_endpoint.specs.declared.server_event.ServerEntry.{ServerEntry}
use Rattle.osc_endpoint.specs.declared.server_event.ServerEntry.TheVariants as entries
use Rattle.osc_client.specs.ClientAnswer.{ClientAnswer}
use Rattle.osc_client.specs.ClientHistory as client
use Rattle.osc_endpoint.specs.ClientRun.{ClientRunStep, Run as ClientRun}
use Rattle.osc_protect.specs.Sealed.{inside}
use Rattle.osc_laws.specs.Exchange.{Exchange, ExchangeInTime, HonestExchange, Request, Response, Then, AtClient, AtServer, Brings, IsElsewhere, IsHonest, IsOfThese, IsWaitedFor, client_clock, client_of, said, sent, server_clock, server_of, tickets}
use Rattle.osc_laws.specs.ExchangeRuns.{RunsAreHonest, AreFair, AreGiven, GoesOn, IsFair, NotifyShows, OfClient, OfServer, Places, Plays, ReplyShows, Shows, ShowsElsewhere, Turn, client_events, client_log, next_after, sealed_after, server_events, server_log}
use Rattle.osc_laws.specs.Headline.{EntryStands, ServerHeadline}
use Rattle.osc_life.specs.Life.{Life, Admits}
use Rattle.osc_endpoint.specs.ServerAnswer.{Delivers, ServerAnswer}
use Rattle.osc_life.specs.LifeAnswer.{asks_own}
use Rattle.osc_life.specs.ServerHistory as server
use Rattle.osc_life.specs.Logged.{Logs, ticket_of}
use Rattle.osc_endpoint.specs.ServerRun.{NotifyStep, ReplyStep, Run, ServerRunStep, ticket_at}
use Rattle.osc_client.specs.Views.{ClientShows, client_hearing_of}
use Rattle.osc_life.specs.Views.{seen_delivery}
use Rattle.osc_client.proofs.ClientDeliveries.{shown_hearing}
use Rattle.osc_laws.proofs.ExchangeLives.{some_is}
use Rattle.osc_laws.proofs.Exchange.{admits_in_time, ExchangeLaws, all_open, serves_all, stands, starts_in_step}

none_is : {A : Type 0} {a : A} → None ≡ Some a → ⊥
none_is e = cc

-- ---- tickets at places

-- each ticket of this context at one of the places is among these
abbrev AreIn : ℕ → Places → List server.TicketValues → Type 0
AreIn i ts given = (of : ℕ) (t : server.TicketValues) → ticket_at ts of ≡ Some t → t.context ≡ i → Contains given t

in_more : (i : ℕ) (ts : Places) (o : Option server.TicketValues) (given : List server.TicketValues) → AreIn i ts given
    → ((t : server.TicketValues) → o ≡ Some t → t.context ≡ i → Contains given t) → AreIn i (ts ++ o ∷ []) given
in_more i [] o given h new zero t is e = new t is e
in_more i [] o given h new (suc of) t is e = absurd (none_is is)
in_more i (x ∷ ts) o given h new zero t is e = h 0 t is e
in_more i (x ∷ ts) o given h new (suc of) t is e = in_more i ts o given (λ k. h (suc k)) new of t is e

in_rest : (i : ℕ) (ts : Places) (of : ℕ) (given : List server.TicketValues) → AreIn i ts given → AreIn i (slice_set ts of None) given
in_rest i [] of given h k t is e = h k t is e
in_rest i (x ∷ ts) zero given h zero t is e = absurd (none_is is)
in_rest i (x ∷ ts) zero given h (suc k) t is e = h (suc k) t is e
in_rest i (x ∷ ts) (suc of) given h zero t is e = h 0 t is e
in_rest i (x ∷ ts) (suc of) given h (suc k) t is e = in_rest i ts of given (λ j. h (suc j)) k t is e

-- no ticket comes at this place
in_none : (i : ℕ) (ts vs left : Places) (given : List server.TicketValues) → vs ≡ left ++ None ∷ [] → AreIn i left given → AreIn i vs given
in_none i ts vs left given is h = subst (λ z. AreIn i z given) (sym is) (in_more i left None given h (λ t e _. absurd (none_is e)))

same_places : (i : ℕ) (ts left : Places) (given : List server.TicketValues) → left ≡ ts → AreIn i ts given → AreIn i left given
same_places i ts left given is h = subst (λ z. AreIn i z given) (sym is) h

-- ---- datagrams

-- a request has the datagram
has_bytes : (xs : List Request) (d : List ℕ) → Contains (map (λ (s : Request). s.bytes) xs) d → (s : Request) × Contains xs s × (s.bytes ≡ d)
has_bytes xs d among =
    let P : List ℕ → Type 0 = λ b. (s : Request) × Contains xs s × (s.bytes ≡ b) in
    let each : All (λ (s : Request). P s.bytes) xs = All-weaker (Contains xs) (λ (s : Request). P s.bytes) (λ s c. (s, c, refl)) xs (All-contains_itself xs) in
    All-contains P (map (λ (s : Request). s.bytes) xs) d (All-map P (λ (s : Request). s.bytes) xs each) among

elsewhere : (i : ℕ) (x : Seen) (answer : server.Answer) → Logs x answer → ShowsElsewhere i x → IsElsewhere i answer
elsewhere i (seen.Malformed e) (server.Malformed fault place) s h = tt
elsewhere i seen.NotRequest server.NotRequest s h = tt
elsewhere i seen.Plain server.Plain s h = tt
elsewhere i seen.Undecodable server.Undecodable s h = tt
elsewhere i seen.NoContext server.NoContext s h = tt
elsewhere i seen.Replay server.Replay s h = tt
elsewhere i seen.BadTag server.BadTag s h = tt
elsewhere i seen.BadInner (server.BadInner j n) s h = absurd h
elsewhere i (seen.Challenge echo issued) (server.Challenge j n given moment) s h = tt
elsewhere i seen.SequenceExhausted server.SequenceExhausted s h = tt
elsewhere i (seen.Deliver opened context number) (server.Deliver received t) s h = λ e. h (e ∙ sym s.1)
elsewhere i x answer s h = absurd s

none_here : (i : ℕ) (answer : server.Answer) → IsElsewhere i answer → (t : server.TicketValues) → ticket_of answer ≡ Some t → t.context ≡ i → ⊥
none_here i (server.Deliver received u) apart t is e = apart (sym e ∙ ap (λ (v : server.TicketValues). v.context) (sym (some_is is)))
none_here i answer apart t is e = none_is is

module _ (x : Exchange) (s : Request) (now : ℕ) (echo : List ℕ) (mid : ℕ) where
  still_in : (answer : server.Answer) (reply : List ℕ) (t : server.TicketValues) → Contains (tickets x) t → Contains (tickets (Then x (Brings s now echo mid answer reply))) t
  still_in (server.Deliver received u) reply t (k, less, is) = (suc k, omega (arith, less), is)
  still_in answer reply t c = c

  now_in : (answer : server.Answer) (reply : List ℕ) (t : server.TicketValues) → ticket_of answer ≡ Some t → Contains (tickets (Then x (Brings s now echo mid answer reply))) t
  now_in (server.Deliver received u) reply t is = (0, omega arith, some_is is)
  now_in answer reply t is = absurd (none_is is)

-- ---- one turn

record Next (n i : ℕ) (x : Exchange) (ts : Places) (turn : Turn) (h : client.History) (g : server.History) (vs : Places) : Type 0 where
  y : Exchange
  goes : GoesOn n i x ts turn y vs
  client_is : client_of y ≡ h
  server_is : server_of y ≡ g
  given : AreGiven i vs y
  next : client.next (client_of y) ≡ next_after (client.next (client_of x)) turn
  bytes : map (λ (s : Request). s.bytes) (sent y) ≡ sealed_after (map (λ (s : Request). s.bytes) (sent x)) turn

module _ (laws : ExchangeLaws) (headline : ServerHeadline) (n i : ℕ) (x : Exchange) (ts : Places) (honest : IsHonest n i x) (given : AreGiven i ts x) where
  -- what the client does is a step
  asks_on : (e : ClientEvent) (entry : ClientEntry) (h : client.History) (event : client.Event) (made : client.Entry) → ClientRunStep n (client_of x) e entry h
      → h ≡ client.Then (client_of x) event made → ClientAnswer n (client_of x) event made → client.next (client_of x) ≤ client.next (client.Then (client_of x) event made)
      → Shows i x ts (OfClient e entry) (Then x (AtClient event made))
      → client.next (client.Then (client_of x) event made) ≡ next_after (client.next (client_of x)) (OfClient e entry)
      → map (λ (s : Request). s.bytes) (sent (Then x (AtClient event made))) ≡ sealed_after (map (λ (s : Request). s.bytes) (sent x)) (OfClient e entry)
      → Next n i x ts (OfClient e entry) h (server_of x) ts
  asks_on e entry h event made step is row less shows next bytes = record {
    y = Then x (AtClient event made);
    goes = record { honest = (honest, (row, less)); next = (subst (ClientRunStep n (client_of x) e entry) is step, refl, refl); shows = shows };
    client_is = sym is;
    server_is = refl;
    given = given;
    next = next;
    bytes = bytes;
  }

  hears : (now : ℕ) (d : List ℕ) (outcome : ClientOutcome) (answer : client.Answer) → ClientShows outcome answer
      → ClientAnswer n (client_of x) (client.Datagram now d) (client.Took answer) → (r : Response) → Contains (said x) r → r.context ≡ i → r.bytes ≡ d
      → (client_hearing_of outcome ≡ Some (r.notifies, r.to, r.own, r.message)) ↔ IsWaitedFor (client_of x) (client_clock x now) r
  hears now d outcome answer shown row r among e is =
      let exact = (stands laws n i x honest).response r now answer among e (subst (λ b. ClientAnswer n (client_of x) (client.Datagram now b) (client.Took answer)) (sym is) row) in
      let same = shown_hearing outcome answer shown in
      ((λ f. exact.0 (sym same ∙ f)), (λ w. same ∙ exact.1 w))

  client_turn : (e : ClientEvent) (entry : ClientEntry) (h : client.History) → ClientRunStep n (client_of x) e entry h
      → IsFair i (client.next (client_of x)) (map (λ (s : Request). s.bytes) (sent x)) (OfClient e entry) → Next n i x ts (OfClient e entry) h (server_of x) ts
  client_turn (asks.Request now plain out) (heard.Sent number datagram) h (number_is, p, message, (row, is)) fair =
      asks_on (asks.Request now plain out) (heard.Sent number datagram) h (client.Request now p (length out.items)) (client.Sent datagram.now) (number_is, p, message, (row, is)) is row
      (omega arith)
      (p, message, (0, omega arith, ap (λ k. record { number = k; plain = p; bytes = datagram.now }) (sym number_is))) refl refl
  client_turn (asks.Request now plain out) (heard.NotSent e) h (p, message, (row, is)) fair =
      asks_on (asks.Request now plain out) (heard.NotSent e) h (client.Request now p (length out.items)) (client.NotSent e) (p, message, (row, is)) is row (omega arith) tt refl refl
  client_turn (asks.Request now plain out) (heard.BadPlain e) h (fault, (row, is)) fair =
      asks_on (asks.Request now plain out) (heard.BadPlain e) h (client.Advance now) client.Advanced (fault, (row, is)) is row (omega arith) tt refl refl
  client_turn (asks.Datagram now bytes) (heard.Took outcome) h (answer, shown, (row, is)) fair =
      asks_on (asks.Datagram now bytes) (heard.Took outcome) h (client.Datagram now bytes.items) (client.Took answer) (answer, shown, (row, is)) is row (omega arith)
      (λ r among e d_is. hears now bytes.items outcome answer shown row r among e d_is) refl refl
  client_turn (asks.Forget token) (heard.Forgot was_pending) h (row, is) fair =
      asks_on (asks.Forget token) (heard.Forgot was_pending) h (client.Forget token.items) (client.Forgot was_pending) (row, is) is row (omega arith) tt refl refl
  client_turn (asks.Restart first) heard.Restarted h (row, is) fair =
      asks_on (asks.Restart first) heard.Restarted h (client.Restart (number_of first)) client.Restarted (row, is) is row fair tt refl refl
  client_turn e entry h step fair = absurd step

  -- what the server does is a step
  serves_on : (e : ServerEvent) (entry : ServerEntry) (g : server.History) (vs : Places) (event : server.Event) (made : server.Entry)
      → ServerRunStep (server_of x) ts e entry g vs → g ≡ server.Then (server_of x) event made → ServerAnswer (server_of x) event made → IsOfThese i (tickets x) event made
      → AreIn i vs (tickets x) → Shows i x ts (OfServer e entry) (Then x (AtServer event made)) → Next n i x ts (OfServer e entry) (client_of x) g vs
  serves_on e entry g vs event made step is row of_these left shows = record {
    y = Then x (AtServer event made);
    goes = record { honest = (honest, (row, of_these)); next = (subst (λ z. ServerRunStep (server_of x) ts e entry z vs) is step, refl); shows = shows };
    client_is = refl;
    server_is = sym is;
    given = left;
    next = refl;
    bytes = refl;
  }

  -- or none
  waits : (e : ServerEvent) (entry : ServerEntry) (g : server.History) (vs : Places) → ServerRunStep (server_of x) ts e entry g vs → g ≡ server_of x → AreIn i vs (tickets x)
      → Shows i x ts (OfServer e entry) x → Next n i x ts (OfServer e entry) (client_of x) g vs
  waits e entry g vs step is left shows = record {
    y = x;
    goes = record { honest = honest; next = (subst (λ z. ServerRunStep (server_of x) ts e entry z vs) is step, refl); shows = shows };
    client_is = refl;
    server_is = sym is;
    given = left;
    next = refl;
    bytes = refl;
  }

  stood : (e : ServerEvent) (entry : ServerEntry) (g : server.History) (vs : Places) → ServerRunStep (server_of x) ts e entry g vs → EntryStands (server_of x) e entry
  stood e entry g vs step =
      let all = serves_all n i x honest in
      let r = (headline (server_of x) g ts vs (e ∷ []) (entry ∷ []) all (g, vs, step, (refl, refl))).1 0 e entry refl refl in
      subst (λ z. EntryStands z e entry) r.run.0 r.stands

  delivers : (now : ℕ) (echo : List ℕ) (mid : ℕ) (d : List ℕ) (shown : Seen) (answer : server.Answer) (reply : List ℕ)
      → ((k : ℕ) (m : InnerParts) → (seen_delivery shown ≡ Some (i, k, m)) ↔ Delivers (server_of x) now d i k m)
      → ServerAnswer (server_of x) (server.Datagram now echo mid d) (server.Took answer reply) → (s : Request) (of : Life) → Contains (sent x) s → s.bytes ≡ d
      → server.life (server_of x) i ≡ Some of → (seen_delivery shown ≡ Some (i, s.number, inside s.plain)) ↔ Admits of (server_clock x now) s.number (inside s.plain)
  delivers now echo mid d shown answer reply shows row s of among is life =
      let all = stands laws n i x honest in
      let same : all.in_step.of ≡ of = some_is (sym all.in_step.life_is ∙ life) in
      let told = (laws.server (server_of x) (serves_all n i x honest)).delivery now mid echo d reply answer i s.number (inside s.plain) row in
      let exact = all.request s now echo mid answer reply (among, subst (λ b. ServerAnswer (server_of x) (server.Datagram now echo mid b) (server.Took answer reply)) (sym is) row) in
      let shown_so = shows s.number (inside s.plain) in (
        (λ f. subst (λ z. Admits z (server_clock x now) s.number (inside s.plain)) same (exact.0 (told.1 (shown_so.0 f)))),
        (λ a. shown_so.1 (told.0 (exact.1 (subst (λ z. Admits z (server_clock x now) s.number (inside s.plain)) (sym same) a)))),
      )

  reply_turn : (e : ServerEvent) (of : ℕ) (own : Bool) (mid : ℕ) (plain : List ℕ) (room : ℕ) (entry : ServerEntry) (g : server.History) (left vs : Places)
      → ReplyStep (server_of x) ts of own mid plain room entry g left → vs ≡ left ++ None ∷ [] → ServerRunStep (server_of x) ts e entry g vs
      → ((y : Exchange) → ReplyShows x ts of own plain entry y → Shows i x ts (OfServer e entry) y) → Next n i x ts (OfServer e entry) (client_of x) g vs
  reply_turn e of own mid plain room entries.NoTicket g left vs (none, is, left_is) vs_is step shows =
      waits e entries.NoTicket g vs step is (in_none i ts vs left (tickets x) vs_is (same_places i ts left (tickets x) left_is given)) (shows x tt)
  reply_turn e of own mid plain room (entries.BadPlain f) g left vs (t, here, fault, is, left_is) vs_is step shows =
      waits e (entries.BadPlain f) g vs step is (in_none i ts vs left (tickets x) vs_is (same_places i ts left (tickets x) left_is given)) (shows x tt)
  reply_turn e of own mid plain room (entries.Replied (Ok sealed)) g left vs (t, here, p, message, (row, is), left_is, number) vs_is step shows =
      serves_on e (entries.Replied (Ok sealed)) g vs (server.Reply t (asks_own t own) mid p room) (server.Replied sealed.datagram.now) step is row (given of t here)
      (in_none i ts vs left (tickets x) vs_is (same_places i (slice_set ts of None) left (tickets x) left_is (in_rest i ts of (tickets x) given)))
      (shows (Then x (AtServer (server.Reply t (asks_own t own) mid p room) (server.Replied sealed.datagram.now))) (t, here, p, message, (0, omega arith, refl)))
  reply_turn e of own mid plain room (entries.Replied (Err f)) g left vs (t, here, p, message, (row, is), left_is) vs_is step shows =
      serves_on e (entries.Replied (Err f)) g vs (server.Reply t (asks_own t own) mid p room) (server.NotReplied f) step is row tt
      (in_none i ts vs left (tickets x) vs_is (same_places i ts left (tickets x) left_is given))
      (shows (Then x (AtServer (server.Reply t (asks_own t own) mid p room) (server.NotReplied f))) tt)
  reply_turn e of own mid plain room entry g left vs row vs_is step shows = absurd row

  notify_turn : (e : ServerEvent) (of : ℕ) (plain : List ℕ) (room : ℕ) (entry : ServerEntry) (g : server.History) (vs : Places)
      → NotifyStep (server_of x) ts of plain room entry g → vs ≡ ts ++ None ∷ [] → ServerRunStep (server_of x) ts e entry g vs
      → ((y : Exchange) → NotifyShows x ts of plain entry y → Shows i x ts (OfServer e entry) y) → Next n i x ts (OfServer e entry) (client_of x) g vs
  notify_turn e of plain room entries.NoTicket g vs (none, is) vs_is step shows = waits e entries.NoTicket g vs step is (in_none i ts vs ts (tickets x) vs_is given) (shows x tt)
  notify_turn e of plain room (entries.BadPlain f) g vs (t, here, fault, is) vs_is step shows =
      waits e (entries.BadPlain f) g vs step is (in_none i ts vs ts (tickets x) vs_is given) (shows x tt)
  notify_turn e of plain room (entries.Replied (Ok sealed)) g vs (t, here, p, message, (row, is), number) vs_is step shows =
      serves_on e (entries.Replied (Ok sealed)) g vs (server.Notify t p room) (server.Replied sealed.datagram.now) step is row (given of t here) (in_none i ts vs ts (tickets x) vs_is given)
      (shows (Then x (AtServer (server.Notify t p room) (server.Replied sealed.datagram.now))) (t, here, p, message, (0, omega arith, refl)))
  notify_turn e of plain room (entries.Replied (Err f)) g vs (t, here, p, message, (row, is)) vs_is step shows =
      serves_on e (entries.Replied (Err f)) g vs (server.Notify t p room) (server.NotReplied f) step is row tt (in_none i ts vs ts (tickets x) vs_is given)
      (shows (Then x (AtServer (server.Notify t p room) (server.NotReplied f))) tt)
  notify_turn e of plain room entry g vs row vs_is step shows = absurd row

  server_turn : (e : ServerEvent) (entry : ServerEntry) (g : server.History) (vs : Places) → ServerRunStep (server_of x) ts e entry g vs
      → IsFair i (client.next (client_of x)) (map (λ (s : Request). s.bytes) (sent x)) (OfServer e entry) → Next n i x ts (OfServer e entry) (client_of x) g vs
  server_turn (events.Datagram a) (entries.Took shown reply) g vs (answer, logs, (row, is), vs_is) (inl other) =
      let apart = elsewhere i shown answer logs other in
      serves_on (events.Datagram a) (entries.Took shown reply) g vs (server.Datagram a.now a.fresh.echo a.fresh.mid a.bytes.items) (server.Took answer reply.now)
      (answer, logs, (row, is), vs_is) is row apart
      (subst (λ z. AreIn i z (tickets x)) (sym vs_is) (in_more i ts (ticket_of answer) (tickets x) given (λ t t_is e. absurd (none_here i answer apart t t_is e))))
      (λ s of among d_is life.
      delivers a.now a.fresh.echo a.fresh.mid a.bytes.items shown answer reply.now
      ((stood (events.Datagram a) (entries.Took shown reply) g vs (answer, logs, (row, is), vs_is)).delivery i) row s of among d_is life)
  server_turn (events.Datagram a) (entries.Took shown reply) g vs (answer, logs, (row, is), vs_is) (inr among) =
      let (s, here, s_is) = has_bytes (sent x) a.bytes.items among in
      let now = a.now in
      let echo = a.fresh.echo in
      let mid = a.fresh.mid in
      let y : Exchange = Then x (Brings s now echo mid answer reply.now) in
      let brought = subst (λ b. ServerAnswer (server_of x) (server.Datagram now echo mid b) (server.Took answer reply.now)) (sym s_is) row in
      let y_is : g ≡ server_of y = is ∙ ap (λ b. server.Then (server_of x) (server.Datagram now echo mid b) (server.Took answer reply.now)) (sym s_is) in
      record {
        y = y;
        goes = record {
          honest = (honest, (here, brought));
          next = (subst (λ z. ServerRunStep (server_of x) ts (events.Datagram a) (entries.Took shown reply) z vs) y_is (answer, logs, (row, is), vs_is), refl);
          shows = λ r of also d_is life.
              delivers now echo mid a.bytes.items shown answer reply.now ((stood (events.Datagram a) (entries.Took shown reply) g vs (answer, logs, (row, is), vs_is)).delivery i) row r of also d_is
              life;
        };
        client_is = refl;
        server_is = sym y_is;
        given = subst (λ z. AreIn i z (tickets y)) (sym vs_is)
            (in_more i ts (ticket_of answer) (tickets y) (λ of t at e. still_in x s now echo mid answer reply.now t (given of t at e))
            (λ t t_is e. now_in x s now echo mid answer reply.now t t_is));
        next = refl;
        bytes = refl;
      }
  server_turn (events.Reply r) entry g vs (left, row, vs_is) fair =
      reply_turn (events.Reply r) r.of r.own r.mid r.plain.items (length r.out.items) entry g left vs row vs_is (left, row, vs_is) (λ y h. h)
  server_turn (events.Notify r) entry g vs (row, vs_is) fair = notify_turn (events.Notify r) r.of r.plain.items (length r.out.items) entry g vs row vs_is (row, vs_is) (λ y h. h)
  server_turn (events.Drop of) (entries.Dropped there) g vs (left, (there_is, is, left_is), vs_is) fair =
      waits (events.Drop of) (entries.Dropped there) g vs (left, (there_is, is, left_is), vs_is) is
      (in_none i ts vs left (tickets x) vs_is (same_places i (slice_set ts of None) left (tickets x) left_is (in_rest i ts of (tickets x) given))) tt
  server_turn (events.Drop of) entry g vs (left, row, vs_is) fair = absurd row
  server_turn (events.Restart context next) (entries.Restarted (Ok y)) g vs ((row, is), vs_is) fair =
      serves_on (events.Restart context next) (entries.Restarted (Ok y)) g vs (server.Restart context (number_of next)) server.Restarted ((row, is), vs_is) is row tt
      (in_none i ts vs ts (tickets x) vs_is given) tt
  server_turn (events.Restart context next) (entries.Restarted (Err e)) g vs ((row, is), vs_is) fair =
      serves_on (events.Restart context next) (entries.Restarted (Err e)) g vs (server.Restart context (number_of next)) (server.NotRestarted e) ((row, is), vs_is) is row tt
      (in_none i ts vs ts (tickets x) vs_is given) tt
  server_turn e entry g vs step fair = absurd step

-- ---- turns

fair_after : (i a b : ℕ) (bs cs : List (List ℕ)) (turns : List Turn) → a ≡ b → bs ≡ cs → AreFair i b cs turns → AreFair i a bs turns
fair_after i a b bs cs turns e f fair = subst (λ k. AreFair i k bs turns) (sym e) (subst (λ z. AreFair i b z turns) (sym f) fair)

plays : (laws : ExchangeLaws) (headline : ServerHeadline) (n i : ℕ) (x : Exchange) (ts us : Places) (turns : List Turn) (h : client.History) (g : server.History) → IsHonest n i x → AreGiven i ts x
    → ClientRun n (client_of x) (client_events turns) (client_log turns) h → Run (server_of x) ts (server_events turns) (server_log turns) g us
    → AreFair i (client.next (client_of x)) (map (λ (s : Request). s.bytes) (sent x)) turns → Plays n i x ts turns h g
plays laws headline n i x ts us [] h g honest given asked (served, kept) fair = (sym asked, sym served)
plays laws headline n i x ts us (OfClient e entry ∷ turns) h g honest given (mid, step, run) served fair =
    let t = client_turn laws headline n i x ts honest given e entry mid step fair.0 in (
      t.y,
      ts,
      t.goes,
      plays laws headline n i t.y ts us turns h g t.goes.honest t.given (subst (λ z. ClientRun n z (client_events turns) (client_log turns) h) (sym t.client_is) run)
          (subst (λ z. Run z ts (server_events turns) (server_log turns) g us) (sym t.server_is) served) (fair_after i (client.next (client_of t.y)) _ _ _ turns t.next t.bytes fair.1),
    )
plays laws headline n i x ts us (OfServer e entry ∷ turns) h g honest given asked (mid, vs, step, run) fair =
    let t = server_turn laws headline n i x ts honest given e entry mid vs step fair.0 in (
      t.y,
      vs,
      t.goes,
      plays laws headline n i t.y vs us turns h g t.goes.honest t.given (subst (λ z. ClientRun n z (client_events turns) (client_log turns) h) (sym t.client_is) asked)
          (subst (λ z. Run z vs (server_events turns) (server_log turns) g us) (sym t.server_is) run) (fair_after i (client.next (client_of t.y)) _ _ _ turns t.next t.bytes fair.1),
    )

pub honest_exchange : ExchangeLaws → HonestExchange
honest_exchange laws = stands laws

pub exchange_in_time : ExchangeLaws → ExchangeInTime
exchange_in_time laws = record {
  starts = starts_in_step;
  stays_open = all_open laws;
  admits = admits_in_time laws;
}

pub honest_runs : ExchangeLaws → ServerHeadline → RunsAreHonest
honest_runs laws headline = plays laws headline
