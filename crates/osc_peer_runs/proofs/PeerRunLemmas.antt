-- Runs of a peer, one event after another. s, mid and t are states, q is what is remembered of Echo values, next and more are numbers with which the peer seals next.
use Rattle.std.proofs.Common.{Bor, ◌≡◌, ◌≢◌, ◌≤◌, ◌<◌, ◌+◌, ℕ, ◌∙◌, ap, sym, subst, refl, arith, inl, inr, List, Bool, true, false, ◌||◌, [], ◌∷◌, ◌++◌, take, Option, Some, None, Err}
use Rattle.std.proofs.lemmas.List.{length-drop}
use Rattle.std.specs.Prelude.{◌-◌, drop, length, slice_get}
use Rattle.std.specs.Option.{ForSome, option_map}
use Rattle.std.proofs.lemmas.Bool.{cases_lt}
use Rattle.std.proofs.lemmas.Grind.{not_there}
use Rattle.osc_coap.specs.Datagram.{Parts, IsDatagram}
use Rattle.osc_context.specs.declared.record_keeper.RecordKeeper as keeper
use Rattle.osc_client.specs.declared.client.Client.{Client}
use Rattle.osc_client.specs.declared.client_outcome.RequestError.{RequestError}
use Rattle.osc_client.specs.declared.client_outcome.RequestError.TheVariants as requests
use Rattle.osc_client.specs.Agrees.{ClientAgrees}
use Rattle.osc_client.specs.ClientHistory as client
use Rattle.osc_endpoint.specs.declared.client_event.ClientEntry.TheVariants as asked
use Rattle.osc_endpoint.specs.declared.server.ServerOf.{ServerOf}
use Rattle.osc_endpoint.specs.declared.server_event.ServerEntry.TheVariants as served
use Rattle.osc_endpoint.specs.Agrees.{Agrees, PlaceAgrees}
use Rattle.osc_endpoint.specs.ServerRun.{ticket_at}
use Rattle.osc_life.specs.declared.outcome.Outcome.{Outcome}
use Rattle.osc_life.specs.declared.outcome.Outcome.TheVariants as outcomes
use Rattle.osc_life.specs.declared.seen.Seen.{Seen}
use Rattle.osc_life.specs.declared.seen.Seen.TheVariants as seen
use Rattle.osc_life.specs.declared.server_error.ReplyError.{ReplyError}
use Rattle.osc_life.specs.declared.server_error.ReplyError.TheVariants as replies
use Rattle.osc_life.specs.declared.slot.Slot.{Slot}
use Rattle.osc_life.specs.Life.{Life, next_own}
use Rattle.osc_life.specs.LifeAnswer.{asks_own}
use Rattle.osc_life.specs.Logged.{Logs, ticket_of}
use Rattle.osc_life.specs.ServerHistory as server
use Rattle.osc_life.specs.Views.{Shows}
use Rattle.osc_kept_ends.specs.declared.peer_source.PeerSource.{PeerSource}
use Rattle.osc_kept_ends.specs.EchoNumber.{echo_of}
use Rattle.osc_kept_ends.specs.Numbering.{upcoming}
use Rattle.osc_kept_ends.specs.Peering.{AskStep, ClientIsBehind, PeerStep, ServerIsBehind, TakesBelow}
use Rattle.osc_kept_ends.specs.PeerOwning.{own_in}
use Rattle.osc_fresh.specs.Wishing.{unobeyed_message}
use Rattle.osc_kept_ends.proofs.PeerSteps.{asked_behind, client_at, kept_behind, server_at, some_is}
use Rattle.osc_peer_runs.specs.declared.peer_event.PeerArrival.{PeerArrival}
use Rattle.osc_peer_runs.specs.declared.peer_event.PeerEvent.{PeerEvent}
use Rattle.osc_peer_runs.specs.declared.peer_event.PeerEntry.{PeerEntry}
use Rattle.osc_peer_runs.specs.PeerRuns.{AreBehind, ArrivalStep, Asks, ChallengeStep, Echoes, NotifyStep, PeerRun, PeerState, ReplyStep, RunStep, SealStep, SealsAbove, Serves, Takes, Worked, peer_state, with_echoes}

-- ---- a role that a call leaves as it is

-- a client has one next number, whatever history it is read from
pub client_carried : {N : ℕ} (c d : Client N) (k : client.History) (next more : ℕ) → ClientIsBehind c next k → d ≡ c → ∥ ((m : client.History) × ClientIsBehind d more m) ∥₁ → ClientIsBehind d more k
client_carried {N = N} c d k next more b same there = record {
  agrees = subst (λ (z : Client N). ClientAgrees z k) (sym same) b.agrees;
  least = elim (cases_lt more (client.next k)) [
    | inl less ↦ absurd (not_there there (λ x.
        let least = x.1.least in
        let is : client.next x.0 ≡ client.next k = sym x.1.agrees.says.next_is ∙ ap (λ (z : Client N). z.state.next) same ∙ b.agrees.says.next_is in
        omega (arith, less, least, is)))
    | inr least ↦ least
  ];
}

same_next : (p : Option (Option Slot)) (o q : Option Life) (n m : ℕ) → PlaceAgrees p o → PlaceAgrees p q → option_map next_own o ≡ Some n → option_map next_own q ≡ Some m → n ≡ m
same_next (Some (Some s)) (Some l) (Some k) n m a b is also = sym (some_is is) ∙ sym a.next ∙ b.next ∙ some_is also
same_next (Some None) (Some l) q n m a b is also = absurd a
same_next (Some (Some s)) (Some l) None n m a b is also = absurd b
same_next None (Some l) q n m a b is also = absurd a
same_next p None q n m a b is also = absurd (let e : None ≡ Some n = is in cc)

-- a server has one next number, whatever history it is read from
pub server_carried : (s d : ServerOf 1) (h : server.History) (next more : ℕ) → ServerIsBehind s next h → d ≡ s → ∥ ((g : server.History) × ServerIsBehind d more g) ∥₁ → ServerIsBehind d more h
server_carried s d h next more b same there =
    let agrees : Agrees d h = subst (λ (z : ServerOf 1). Agrees z h) (sym same) b.agrees in
    record {
      agrees = agrees;
      one = b.one;
      reached = b.reached;
      reached_is = b.reached_is;
      least = elim (cases_lt more b.reached) [
        | inl less ↦ absurd (not_there there (λ x.
            let least = x.1.least in
            let is : x.1.reached ≡ b.reached = same_next (slice_get d.slots.items 0) (server.life x.0 0) (server.life h 0) x.1.reached b.reached (x.1.agrees.places.at 0) (agrees.places.at 0) x.1.reached_is b.reached_is in
            omega (arith, less, least, is)))
        | inr least ↦ least
      ];
    }

-- if both roles are behind, the peer seals above them
pub above : {R : Type 0} {r : keeper.Ghosts R} {N : ℕ} (s : ServerOf 1) (c : Client N) (source : PeerSource R r) (g : server.History) (m : client.History) (us : List (Option server.TicketValues))
    → AreBehind s c (upcoming (own_in source)) g m → SealsAbove (peer_state g m source us)
above s c source g m us b = record { reached = b.server.reached; reached_is = b.server.reached_is; served_least = b.server.least; asked_least = b.client.least }

-- both roles are behind
pub both_behind : {N : ℕ} (s : ServerOf 1) (c : Client N) (next : ℕ) (h : server.History) (k : client.History) → ServerIsBehind s next h → ClientIsBehind c next k → AreBehind s c next h k
both_behind s c next h k b a = record { server = b; client = a }

-- ---- what the server does

-- a peer's answer is a step, behind which the server is
pub serves_step : {R : Type 0} {r : keeper.Ghosts R} (h : server.History) (event : server.Event) (entry : server.Entry) (old new : PeerSource R r) (after : ServerOf 1)
    → PeerStep h event entry (own_in old) (own_in new) after → Worked old new → (g : server.History) × Serves h event entry old g new × ServerIsBehind after (upcoming (own_in new)) g
serves_step h event entry old new after (passed, passes, step) worked =
    let g = server.Then passed event entry in
    (g, (passed, passes, (step.row, refl), step.numbers, worked), kept_behind after g (upcoming (own_in new)) step.kept)

-- the ticket of an outcome is below what the record holds
pub ticket_below : (outcome : Outcome) (answer : server.Answer) (floor : ℕ) → Shows outcome answer → TakesBelow outcome floor → ForSome (ticket_of answer) (λ t. t.number < floor)
ticket_below (outcomes.Deliver o t) (server.Deliver received ticket) floor shows below =
    λ v is. subst (λ (x : server.TicketValues). x.number < floor) (shows.1 ∙ some_is is) below
ticket_below outcome (server.Deliver received ticket) floor shows below = absurd shows
ticket_below outcome answer floor shows below = λ v is. absurd (let e : None ≡ Some v = is in cc)

-- an entry that tells an answer isn't that of a record that failed
pub took_step : {R : Type 0} {r : keeper.Ghosts R} (h : server.History) (old : PeerSource R r) (a : PeerArrival) (x : Seen) (reply : Bor (List ℕ)) (g : server.History) (new : PeerSource R r) (o : Option server.TicketValues)
    (answer : server.Answer) → Logs x answer
    → Takes h (server.Datagram a.now (echo_of (upcoming (own_in old))) a.mid a.bytes.items) (server.Took answer reply.now) old g new → o ≡ ticket_of answer
    → ForSome (ticket_of answer) (λ t. t.number < r.received_floor new.keeper) → ArrivalStep h old a (served.Took x reply) g new o
took_step h old a seen.KeeperFailed reply g new o answer logs takes is below = absurd logs
took_step {r = r} h old a x reply g new o answer logs takes is below =
    (answer, logs, takes, is, subst (λ (z : Option server.TicketValues). ForSome z (λ t. t.number < r.received_floor new.keeper)) (sym is) below)

-- a refused reply: by the record, which changes nothing else, or as the server answers
pub refused_step : {R : Type 0} {r : keeper.Ghosts R} (h : server.History) (old : PeerSource R r) (ts : List (Option server.TicketValues)) (of : ℕ) (own : Bool) (mid : ℕ) (plain : List ℕ) (room : ℕ) (e : ReplyError)
    (new : PeerSource R r) (us : List (Option server.TicketValues)) (t : server.TicketValues) (p : Parts) (before after : ServerOf 1)
    → ticket_at ts of ≡ Some t → IsDatagram p plain → us ≡ ts → ServerIsBehind before (upcoming (own_in old)) h
    → (e ≡ replies.KeeperFailed → (after ≡ before) × (own_in new ≡ own_in old) × (r.failures new.keeper ≡ r.failures old.keeper + 1))
    → (e ≢ replies.KeeperFailed → r.failures new.keeper ≡ r.failures old.keeper) → r.received_floor old.keeper ≤ r.received_floor new.keeper
    → (e ≢ replies.KeeperFailed → PeerStep h (server.Reply t (asks_own t own) mid p room) (server.NotReplied e) (own_in old) (own_in new) after)
    → (g : server.History) × ReplyStep h old ts of own mid plain room (served.Replied (Err e)) g new us × ServerIsBehind after (upcoming (own_in new)) g
refused_step h old ts of own mid plain room replies.KeeperFailed new us t p before after seen is back b failed worked rises answered =
    let f = failed refl in
    (h, (t, seen, p, is, refl, f.1, (f.2, rises), back), server_at after h (upcoming (own_in old)) (upcoming (own_in new)) (ap upcoming f.1) (subst (λ (s : ServerOf 1). ServerIsBehind s (upcoming (own_in old)) h) (sym f.0) b))
refused_step h old ts of own mid plain room e new us t p before after seen is back b failed worked rises answered =
    let (g, serves, behind) = serves_step h (server.Reply t (asks_own t own) mid p room) (server.NotReplied e) old new after (answered (λ is. cc)) (worked (λ is. cc), rises) in
    (g, (t, seen, p, is, serves, back), behind)

-- a reply that asks for a Partial IV of its own has one
pub asks_all : (t : server.TicketValues) → asks_own t true ≡ true
asks_all t = or_true t.observes
  where
    or_true : (b : Bool) → (b || true) ≡ true
    or_true true = refl
    or_true false = refl

-- a refused challenge, in the same way
pub unchallenged_step : {R : Type 0} {r : keeper.Ghosts R} (h : server.History) (old : PeerSource R r) (ts : List (Option server.TicketValues)) (of : ℕ) (mid : ℕ) (room : ℕ) (e : ReplyError)
    (new : PeerSource R r) (us : List (Option server.TicketValues)) (t : server.TicketValues) (before after : ServerOf 1)
    → ticket_at ts of ≡ Some t → us ≡ ts → ServerIsBehind before (upcoming (own_in old)) h
    → (e ≡ replies.KeeperFailed → (after ≡ before) × (own_in new ≡ own_in old) × (r.failures new.keeper ≡ r.failures old.keeper + 1))
    → (e ≢ replies.KeeperFailed → r.failures new.keeper ≡ r.failures old.keeper) → r.received_floor old.keeper ≤ r.received_floor new.keeper
    → (e ≢ replies.KeeperFailed → PeerStep h (server.Reply t (asks_own t true) mid (unobeyed_message (echo_of (upcoming (own_in old)))) room) (server.NotReplied e) (own_in old) (own_in new) after)
    → (g : server.History) × ChallengeStep h old ts of mid room (served.Replied (Err e)) g new us × ServerIsBehind after (upcoming (own_in new)) g
unchallenged_step h old ts of mid room replies.KeeperFailed new us t before after seen back b failed worked rises answered =
    let f = failed refl in
    (h, (t, seen, refl, f.1, (f.2, rises), back), server_at after h (upcoming (own_in old)) (upcoming (own_in new)) (ap upcoming f.1) (subst (λ (s : ServerOf 1). ServerIsBehind s (upcoming (own_in old)) h) (sym f.0) b))
unchallenged_step h old ts of mid room e new us t before after seen back b failed worked rises answered =
    let message = unobeyed_message (echo_of (upcoming (own_in old))) in
    let (g, serves, behind) = serves_step h (server.Reply t (asks_own t true) mid message room) (server.NotReplied e) old new after (answered (λ is. cc)) (worked (λ is. cc), rises) in
    (g, (t, seen, serves, back), behind)

-- a refused notification, in the same way
pub unnotified_step : {R : Type 0} {r : keeper.Ghosts R} (h : server.History) (old : PeerSource R r) (ts : List (Option server.TicketValues)) (of : ℕ) (plain : List ℕ) (room : ℕ) (e : ReplyError)
    (new : PeerSource R r) (t : server.TicketValues) (p : Parts) (before after : ServerOf 1)
    → ticket_at ts of ≡ Some t → IsDatagram p plain → ServerIsBehind before (upcoming (own_in old)) h
    → (e ≡ replies.KeeperFailed → (after ≡ before) × (own_in new ≡ own_in old) × (r.failures new.keeper ≡ r.failures old.keeper + 1))
    → (e ≢ replies.KeeperFailed → r.failures new.keeper ≡ r.failures old.keeper) → r.received_floor old.keeper ≤ r.received_floor new.keeper
    → (e ≢ replies.KeeperFailed → PeerStep h (server.Notify t p room) (server.NotReplied e) (own_in old) (own_in new) after)
    → (g : server.History) × NotifyStep h old ts of plain room (served.Replied (Err e)) g new × ServerIsBehind after (upcoming (own_in new)) g
unnotified_step h old ts of plain room replies.KeeperFailed new t p before after seen is b failed worked rises answered =
    let f = failed refl in
    (h, (t, seen, p, is, refl, f.1, (f.2, rises)), server_at after h (upcoming (own_in old)) (upcoming (own_in new)) (ap upcoming f.1) (subst (λ (s : ServerOf 1). ServerIsBehind s (upcoming (own_in old)) h) (sym f.0) b))
unnotified_step h old ts of plain room e new t p before after seen is b failed worked rises answered =
    let (g, serves, behind) = serves_step h (server.Notify t p room) (server.NotReplied e) old new after (answered (λ is. cc)) (worked (λ is. cc), rises) in
    (g, (t, seen, p, is, serves), behind)

-- ---- what the client does

-- a client's answer is a step, behind which the client is
pub asks_step : {R : Type 0} {r : keeper.Ghosts R} {N : ℕ} (k : client.History) (event : client.Event) (entry : client.Entry) (old new : PeerSource R r) (after : Client N)
    → AskStep k event entry (own_in old) (own_in new) after → Worked old new → (m : client.History) × Asks N k event entry old m new × ClientIsBehind after (upcoming (own_in new)) m
asks_step k event entry old new after (passed, passes, step) worked =
    let m = client.Then passed event entry in
    (m, (passed, passes, (step.row, refl), step.numbers, worked), asked_behind after m (upcoming (own_in new)) step.kept)

-- a refused request: by the record, which moves the client's clock alone, or as the client answers
pub unsent_step : {R : Type 0} {r : keeper.Ghosts R} {N : ℕ} (h : server.History) (k : client.History) (ts us : List (Option server.TicketValues)) (q : Echoes) (old new : PeerSource R r) (now room : ℕ)
    (e : RequestError) (p : Parts) (s d : ServerOf 1) (before after : Client N) → AreBehind s before (upcoming (own_in old)) h k
    → d ≡ s → ∥ ((g : server.History) × ServerIsBehind d (upcoming (own_in new)) g) ∥₁
    → (e ≡ requests.KeeperFailed → (own_in new ≡ own_in old)
    × ((k : client.History) → ClientIsBehind before (upcoming (own_in old)) k → ClientIsBehind after (upcoming (own_in new)) (client.Then k (client.Advance now) client.Advanced))
    × (r.failures new.keeper ≡ r.failures old.keeper + 1))
    → (e ≢ requests.KeeperFailed → r.failures new.keeper ≡ r.failures old.keeper) → r.received_floor old.keeper ≤ r.received_floor new.keeper
    → (e ≢ requests.KeeperFailed → (k : client.History) → ClientIsBehind before (upcoming (own_in old)) k → AskStep k (client.Request now p room) (client.NotSent e) (own_in old) (own_in new) after)
    → (g : server.History) × (m : client.History) × SealStep N (with_echoes q (peer_state h k old ts)) now p room (asked.NotSent e) (with_echoes q (peer_state g m new us)) × AreBehind d after (upcoming (own_in new)) g m
unsent_step h k ts us q old new now room requests.KeeperFailed p s d before after b same there failed worked rises answered =
    let f = failed refl in
    (h, _, (refl, f.0, (f.2, rises), refl), record { server = server_carried s d h (upcoming (own_in old)) (upcoming (own_in new)) b.server same there; client = f.1 k b.client })
unsent_step h k ts us q old new now room e p s d before after b same there failed worked rises answered =
    let (m, asks, behind) = asks_step k (client.Request now p room) (client.NotSent e) old new after (answered (λ is. cc) k b.client) (worked (λ is. cc), rises) in
    (h, m, (asks, refl), record { server = server_carried s d h (upcoming (own_in old)) (upcoming (own_in new)) b.server same there; client = behind })

-- an event of which only the client hears
pub asked_alone : {R : Type 0} {r : keeper.Ghosts R} {N : ℕ} (s d : ServerOf 1) (c : Client N) (old new : PeerSource R r) (h : server.History) (m : client.History)
    → ServerIsBehind s (upcoming (own_in old)) h → ClientIsBehind c (upcoming (own_in old)) m → (d ≡ s) × (new ≡ old) → AreBehind d c (upcoming (own_in new)) h m
asked_alone {R = R} {r = r} s d c old new h m b a same =
    let next = ap (λ (x : PeerSource R r). upcoming (own_in x)) same.1 in
    record {
      server = server_at d h (upcoming (own_in old)) (upcoming (own_in new)) next (subst (λ (z : ServerOf 1). ServerIsBehind z (upcoming (own_in old)) h) (sym same.0) b);
      client = client_at c m (upcoming (own_in old)) (upcoming (own_in new)) next a;
    }

-- both clocks move
pub both_advance : {R : Type 0} {r : keeper.Ghosts R} {N : ℕ} (s d : ServerOf 1) (before after : Client N) (old new : PeerSource R r) (h : server.History) (k : client.History) (now : ℕ)
    → AreBehind s before (upcoming (own_in old)) h k → Agrees d (server.Then h (server.Advance now) server.Advanced) → ClientAgrees after (client.Then k (client.Advance now) client.Advanced)
    → new ≡ old → AreBehind d after (upcoming (own_in new)) (server.Then h (server.Advance now) server.Advanced) (client.Then k (client.Advance now) client.Advanced)
both_advance {R = R} {r = r} s d before after old new h k now b serves asks same =
    let next = ap (λ (x : PeerSource R r). upcoming (own_in x)) same in
    record {
      server = server_at d _ (upcoming (own_in old)) (upcoming (own_in new)) next
          (record { agrees = serves; one = b.server.one; reached = b.server.reached; reached_is = b.server.reached_is; least = b.server.least });
      client = client_at after _ (upcoming (own_in old)) (upcoming (own_in new)) next (record { agrees = asks; least = b.client.least });
    }

-- ---- runs

-- a run goes on by one event
run_more : {R : Type 0} {r : keeper.Ghosts R} (n : ℕ) (s mid t : PeerState r) (es : List PeerEvent) (xs : List PeerEntry) (e : PeerEvent) (x : PeerEntry)
    → PeerRun n s es xs mid → RunStep n mid e x t → PeerRun n s (es ++ e ∷ []) (xs ++ x ∷ []) t
run_more {r = r} n s mid t [] [] e x run step = (t, subst (λ (z : PeerState r). RunStep n z e x t) run step, refl)
run_more n s mid t [] (y ∷ ys) e x run step = absurd run
run_more n s mid t (d ∷ ds) [] e x run step = absurd run
run_more n s mid t (d ∷ ds) (y ∷ ys) e x run step = (run.0, run.1, run_more n run.0 mid t ds ys e x run.2 step)

-- one event more, over the front of all events
pub run_on : {R : Type 0} {r : keeper.Ghosts R} (n : ℕ) (s mid t : PeerState r) (all : List PeerEvent) (i j : ℕ) (log reserved after : List PeerEntry) (e : PeerEvent) (x : PeerEntry)
    → PeerRun n s (take i all) log mid → RunStep n mid e x t → take i all ++ e ∷ [] ≡ take j all → after ≡ reserved ++ x ∷ [] → reserved ≡ log → PeerRun n s (take j all) after t
run_on n s mid t all i j log reserved after e x run step events_are entries_are same =
    subst (λ es. PeerRun n s es after t) events_are
    (subst (λ xs. PeerRun n s (take i all ++ e ∷ []) xs t) (sym entries_are)
    (subst (λ xs. PeerRun n s (take i all ++ e ∷ []) (xs ++ x ∷ []) t) (sym same) (run_more n s mid t (take i all) log e x run step)))

-- the same run, over lists that are equal
pub run_same : {R : Type 0} {r : keeper.Ghosts R} (n : ℕ) (s t : PeerState r) (all : List PeerEvent) (i j : ℕ) (log after : List PeerEntry)
    → PeerRun n s (take i all) log t → j ≡ i → after ≡ log → PeerRun n s (take j all) after t
run_same n s t all i j log after run same is = subst (λ z. PeerRun n s (take z all) after t) (sym same) (subst (λ xs. PeerRun n s (take i all) xs t) (sym is) run)

-- where nothing is left behind the first ones, they are all
pub all_done : {A : Type 0} (xs left : List A) (n : ℕ) → left ≡ drop n xs → n ≤ length xs → length left ≡ 0 → n ≡ length xs
all_done xs left n is within none =
    let long : length left ≡ length xs - n = ap length is ∙ length-drop n xs in
    omega (arith, long, within, none)
