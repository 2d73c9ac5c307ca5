-- What the record holds over a run: it never sinks, and the number of each delivery is below it. s and t are states.
use Rattle.std.proofs.Common.{◌≡◌, ◌≤◌, ◌<◌, ℕ, ap, sym, subst, arith, get_or, inl, inr, All, List, Bool, [], ◌∷◌, Option, Some, None, Ok, Err}
use Rattle.std.specs.Option.{ForSome}
use Rattle.std.proofs.lemmas.List.Elements.{All-cons, All-nil}
use Rattle.std.proofs.lemmas.Bool.{cases_lt}
use Rattle.std.proofs.lemmas.Grind.{not_there}
use Rattle.osc_coap.specs.Datagram.{Parts}
use Rattle.osc_context.specs.Views.{number_of}
use Rattle.osc_context.specs.declared.partial_iv.Piv.{Piv}
use Rattle.osc_context.specs.declared.record_keeper.RecordKeeper as keeper
use Rattle.osc_client.specs.declared.client_outcome.RequestError.TheVariants as requests
use Rattle.osc_client.specs.ClientHistory as client
use Rattle.osc_endpoint.specs.declared.client_event.ClientEntry.{ClientEntry}
use Rattle.osc_endpoint.specs.declared.client_event.ClientEntry.TheVariants as asked
use Rattle.osc_endpoint.specs.declared.server_event.ServerEntry.{ServerEntry}
use Rattle.osc_endpoint.specs.declared.server_event.ServerEntry.TheVariants as served
use Rattle.osc_life.specs.declared.seen.Seen.TheVariants as seen
use Rattle.osc_life.specs.declared.server_error.ReplyError.TheVariants as replies
use Rattle.osc_life.specs.Logged.{Logs, ticket_of}
use Rattle.osc_life.specs.ServerHistory as server
use Rattle.osc_kept_ends.specs.declared.kept_peer.KeptPeer.{KeptPeer}
use Rattle.osc_kept_ends.specs.declared.peer_source.PeerSource.{PeerSource}
use Rattle.osc_peer_runs.specs.declared.peer_event.PeerEvent.{PeerEvent}
use Rattle.osc_peer_runs.specs.declared.peer_event.PeerEvent.TheVariants as events
use Rattle.osc_peer_runs.specs.declared.peer_event.PeerEntry.{PeerEntry}
use Rattle.osc_peer_runs.specs.declared.peer_event.PeerEntry.TheVariants as entries
use Rattle.osc_fresh.specs.Echoing.{echo_in}
use Rattle.osc_fresh.specs.WithEcho.{echoing}
use Rattle.osc_peer_runs.specs.PeerCalls.{IsBehind}
use Rattle.osc_peer_runs.specs.PeerRuns.{ChallengeStep, DeliversBelow, EchoSealStep, EchoStep, Echoes, EventStep, NotifyStep, PeerRun, PeerState, ReplyStep, RequestStep, SealStep, peer_state, with_echoes}

-- ---- it never sinks

unchanged : {R : Type 0} {r : keeper.Ghosts R} (old new : PeerSource R r) → new ≡ old → r.received_floor old.keeper ≤ r.received_floor new.keeper
unchanged {R = R} {r = r} old new same =
    let is : r.received_floor new.keeper ≡ r.received_floor old.keeper = ap (λ (x : PeerSource R r). r.received_floor x.keeper) same in
    omega (arith, is)

reply_rises : {R : Type 0} {r : keeper.Ghosts R} (h : server.History) (old : PeerSource R r) (ts : List (Option server.TicketValues)) (of : ℕ) (own : Bool) (mid : ℕ) (plain : List ℕ) (room : ℕ) (x : ServerEntry)
    (g : server.History) (new : PeerSource R r) (us : List (Option server.TicketValues)) → ReplyStep h old ts of own mid plain room x g new us → r.received_floor old.keeper ≤ r.received_floor new.keeper
reply_rises h old ts of own mid plain room (served.Replied (Ok sealed)) g new us step = step.4.4.1
reply_rises h old ts of own mid plain room (served.Replied (Err replies.KeeperFailed)) g new us step = step.6.1
reply_rises h old ts of own mid plain room (served.Replied (Err e)) g new us step = step.4.4.1
reply_rises h old ts of own mid plain room x g new us step = unchanged old new step.1

challenge_rises : {R : Type 0} {r : keeper.Ghosts R} (h : server.History) (old : PeerSource R r) (ts : List (Option server.TicketValues)) (of : ℕ) (mid : ℕ) (room : ℕ) (x : ServerEntry)
    (g : server.History) (new : PeerSource R r) (us : List (Option server.TicketValues)) → ChallengeStep h old ts of mid room x g new us → r.received_floor old.keeper ≤ r.received_floor new.keeper
challenge_rises h old ts of mid room served.NoTicket g new us step = unchanged old new step.3
challenge_rises h old ts of mid room (served.Replied (Ok sealed)) g new us step = step.2.4.1
challenge_rises h old ts of mid room (served.Replied (Err replies.KeeperFailed)) g new us step = step.4.1
challenge_rises h old ts of mid room (served.Replied (Err e)) g new us step = step.2.4.1
challenge_rises h old ts of mid room x g new us step = absurd step

notify_rises : {R : Type 0} {r : keeper.Ghosts R} (h : server.History) (old : PeerSource R r) (ts : List (Option server.TicketValues)) (of : ℕ) (plain : List ℕ) (room : ℕ) (x : ServerEntry)
    (g : server.History) (new : PeerSource R r) → NotifyStep h old ts of plain room x g new → r.received_floor old.keeper ≤ r.received_floor new.keeper
notify_rises h old ts of plain room (served.Replied (Ok sealed)) g new step = step.4.4.1
notify_rises h old ts of plain room (served.Replied (Err replies.KeeperFailed)) g new step = step.6.1
notify_rises h old ts of plain room (served.Replied (Err e)) g new step = step.4.4.1
notify_rises h old ts of plain room x g new step = unchanged old new step.1

seal_rises : {R : Type 0} {r : keeper.Ghosts R} (n : ℕ) (s t : PeerState r) (now : ℕ) (p : Parts) (room : ℕ) (x : ClientEntry)
    → SealStep n s now p room x t → r.received_floor s.source.keeper ≤ r.received_floor t.source.keeper
seal_rises n s t now p room (asked.Sent number text) step = step.1.4.1
seal_rises n s t now p room (asked.NotSent requests.KeeperFailed) step = step.2.1
seal_rises n s t now p room (asked.NotSent e) step = step.0.4.1
seal_rises n s t now p room x step = absurd step

request_rises : {R : Type 0} {r : keeper.Ghosts R} (n : ℕ) (s t : PeerState r) (now : ℕ) (plain : List ℕ) (room : ℕ) (x : ClientEntry)
    → RequestStep n s now plain room x t → r.received_floor s.source.keeper ≤ r.received_floor t.source.keeper
request_rises n s t now plain room (asked.BadPlain e) step = unchanged s.source t.source step.3
request_rises n s t now plain room x step = seal_rises n s t now step.0 room x step.2

echo_seal_rises : {R : Type 0} {r : keeper.Ghosts R} (o : Option (List ℕ)) (n : ℕ) (heard : Option (List ℕ)) (s t : PeerState r) (now : ℕ) (p : Parts) (room out : ℕ) (x : ClientEntry)
    → EchoSealStep o n heard s now p room out x t → r.received_floor s.source.keeper ≤ r.received_floor t.source.keeper
echo_seal_rises (Some value) n heard s t now p room out x step = unchanged s.source t.source step.1.2
echo_seal_rises None n heard s t now p room out x step = seal_rises n s t now (echoing heard p) out x step.1

echo_rises : {R : Type 0} {r : keeper.Ghosts R} (n : ℕ) (heard : Option (List ℕ)) (s t : PeerState r) (now : ℕ) (plain : List ℕ) (room out : ℕ) (x : PeerEntry)
    → EchoStep n heard s now plain room out x t → r.received_floor s.source.keeper ≤ r.received_floor t.source.keeper
echo_rises n heard s t now plain room out (entries.Asked (asked.BadPlain e)) step = unchanged s.source t.source step.3
echo_rises n heard s t now plain room out (entries.Asked x) step = echo_seal_rises (echo_in step.0) n heard s t now step.0 room out x step.2
echo_rises n heard s t now plain room out entries.NoRoomForEcho step = unchanged s.source t.source step.3.2
echo_rises n heard s t now plain room out x step = absurd step

both_rise : (low mid high : ℕ) → low ≤ mid → mid ≤ high → low ≤ high
both_rise low mid high first second = omega (arith, first, second)

event_rises : {R : Type 0} {r : keeper.Ghosts R} (n : ℕ) (s t : PeerState r) (e : PeerEvent) (x : PeerEntry) → EventStep n s e x t → r.received_floor s.source.keeper ≤ r.received_floor t.source.keeper
event_rises n s t (events.Datagram a) (entries.Served (served.Took seen.KeeperFailed reply)) step = step.1.6.1
event_rises n s t (events.Datagram a) (entries.Served (served.Took x reply)) step = step.1.2.6.1
event_rises n s t (events.Datagram a) (entries.Served x) step = absurd step.1
event_rises n s t (events.Fresh ms a) (entries.Served (served.Took seen.KeeperFailed reply)) step = step.1.0.6.1
event_rises n s t (events.Fresh ms a) (entries.Served (served.Took x reply)) step = step.1.0.2.6.1
event_rises n s t (events.Fresh ms a) (entries.Served x) step = absurd step.1.0
event_rises n s t (events.Fresh ms a) (entries.Challenged (Ok text)) step = both_rise _ _ _ step.1.3.1.6.1 step.1.4.4.1
event_rises n s t (events.Fresh ms a) (entries.Challenged (Err replies.KeeperFailed)) step = both_rise _ _ _ step.1.3.1.6.1 step.1.6.1
event_rises n s t (events.Fresh ms a) (entries.Challenged (Err e)) step = both_rise _ _ _ step.1.3.1.6.1 step.1.4.4.1
event_rises n s t (events.Fresh ms a) x step = absurd step.1
event_rises n s t (events.Reply a) (entries.Served x) step = reply_rises s.served s.source s.tickets _ _ _ _ _ x t.served t.source step.0 step.1
event_rises n s t (events.Challenge a) (entries.Served x) step = challenge_rises s.served s.source s.tickets _ _ _ x t.served t.source step.0 step.1
event_rises n s t (events.Notify a) (entries.Served x) step = notify_rises s.served s.source s.tickets _ _ _ x t.served t.source step.0
event_rises n s t (events.Drop of) (entries.Served x) step = unchanged s.source t.source step.2
event_rises n s t (events.Request now plain out) (entries.Asked x) step = request_rises n s t now _ _ x step.0
event_rises n s t (events.Echo now plain room out) x step = echo_rises n s.echoes.heard s t now _ _ _ x step.0
event_rises n s t (events.Response now bytes) (entries.Asked (asked.Took outcome)) step = unchanged s.source t.source step.0.4
event_rises n s t (events.Follow now bytes) (entries.Followed x) step = unchanged s.source t.source step.2.4
event_rises n s t (events.Forget token) (entries.Asked (asked.Forgot was_pending)) step = unchanged s.source t.source step.2
event_rises n s t (events.Advance now) entries.Advanced step = unchanged s.source t.source step.2
event_rises n s t e x step = absurd step

pub run_rises : {R : Type 0} {r : keeper.Ghosts R} (n : ℕ) (s t : PeerState r) (es : List PeerEvent) (xs : List PeerEntry) → PeerRun n s es xs t → r.received_floor s.source.keeper ≤ r.received_floor t.source.keeper
run_rises {r = r} n s t [] [] run = unchanged s.source t.source (ap (λ (x : PeerState r). x.source) run)
run_rises n s t [] (x ∷ xs) run = absurd run
run_rises n s t (e ∷ es) [] run = absurd run
run_rises {r = r} n s t (e ∷ es) (x ∷ xs) run =
    let mid = run.0 in
    let one : r.received_floor s.source.keeper ≤ r.received_floor mid.source.keeper = event_rises n s mid e x run.1.0 in
    let rest : r.received_floor mid.source.keeper ≤ r.received_floor t.source.keeper = run_rises n mid t es xs run.2 in
    omega (arith, one, rest)

-- ---- each delivery is below it

-- a delivery that is logged has the number of its ticket
below_logged : (opened : _) (context : ℕ) (number : Piv) (answer : server.Answer) (o : Option server.TicketValues) (floor : ℕ) → Logs (seen.Deliver opened context number) answer → o ≡ ticket_of answer
    → ForSome o (λ ticket. ticket.number < floor) → number_of number < floor
below_logged opened context number (server.Deliver received ticket) o floor logs is below = subst (λ n. n < floor) (sym logs.2) (below ticket is)
below_logged opened context number answer o floor logs is below = absurd logs

event_kept : {R : Type 0} {r : keeper.Ghosts R} (n : ℕ) (s t : PeerState r) (e : PeerEvent) (x : PeerEntry) → EventStep n s e x t → DeliversBelow (r.received_floor t.source.keeper) x
event_kept {r = r} n s t (events.Datagram a) (entries.Served (served.Took (seen.Deliver opened context number) reply)) step =
    below_logged opened context number step.1.0 step.0 (r.received_floor t.source.keeper) step.1.1 step.1.3 step.1.4
event_kept {r = r} n s t (events.Fresh ms a) (entries.Served (served.Took (seen.Deliver opened context number) reply)) step =
    below_logged opened context number step.1.0.0 step.0 (r.received_floor t.source.keeper) step.1.0.1 step.1.0.3 step.1.0.4
event_kept n s t (events.Reply a) (entries.Served (served.Took (seen.Deliver opened context number) reply)) step = absurd step.1.0
event_kept n s t (events.Challenge a) (entries.Served (served.Took (seen.Deliver opened context number) reply)) step = absurd step.1
event_kept n s t (events.Notify a) (entries.Served (served.Took (seen.Deliver opened context number) reply)) step = absurd step.0.0
event_kept n s t (events.Drop of) (entries.Served (served.Took (seen.Deliver opened context number) reply)) step = absurd step.1
event_kept n s t (events.Echo now plain room out) (entries.Served (served.Took (seen.Deliver opened context number) reply)) step = absurd step.0
event_kept n s t e (entries.Served (served.Took (seen.Deliver opened context number) reply)) step = absurd step
event_kept n s t e x step = tt

raised : (floor more : ℕ) (x : PeerEntry) → floor ≤ more → DeliversBelow floor x → DeliversBelow more x
raised floor more (entries.Served (served.Took (seen.Deliver opened context number) reply)) least below = omega (arith, least, below)
raised floor more x least below = tt

pub run_kept : {R : Type 0} {r : keeper.Ghosts R} (n : ℕ) (s t : PeerState r) (es : List PeerEvent) (xs : List PeerEntry) → PeerRun n s es xs t → All (DeliversBelow (r.received_floor t.source.keeper)) xs
run_kept {r = r} n s t [] [] run = All-nil (DeliversBelow (r.received_floor t.source.keeper))
run_kept n s t [] (x ∷ xs) run = absurd run
run_kept n s t (e ∷ es) [] run = absurd run
run_kept {r = r} n s t (e ∷ es) (x ∷ xs) run =
    let mid = run.0 in
    let floor = r.received_floor t.source.keeper in
    All-cons (DeliversBelow floor) x xs (raised (r.received_floor mid.source.keeper) floor x (run_rises n mid t es xs run.2) (event_kept n s mid e x run.1.0)) (run_kept n mid t es xs run.2)

-- ---- whatever the histories are

one_anyway : (floor : ℕ) (x : PeerEntry) → ((DeliversBelow floor x → ⊥) → ⊥) → DeliversBelow floor x
one_anyway floor (entries.Served (served.Took (seen.Deliver opened context number) reply)) twice = elim (cases_lt (number_of number) floor) [
  | inl less ↦ less
  | inr most ↦ absurd (twice (λ less. omega (arith, less, most)))
]
one_anyway floor x twice = tt

all_anyway : (floor : ℕ) (xs : List PeerEntry) → ((All (DeliversBelow floor) xs → ⊥) → ⊥) → All (DeliversBelow floor) xs
all_anyway floor xs twice = λ k d less. one_anyway floor (get_or xs k d) (λ f. twice (λ all. f (all k d less)))

-- the peer has histories, so what is said of a run from each of them is so
abbrev pub RunsFrom : {R : Type 0} {r : keeper.Ghosts R} {N : ℕ} → KeptPeer R N r → List PeerEvent → List PeerEntry → KeptPeer R N r → Type 0
RunsFrom {N = N} old es xs new = (h : server.History) (k : client.History) → IsBehind old h k → (g : server.History) × (m : client.History) × (us : List (Option server.TicketValues)) × (q : Echoes)
    × PeerRun N (peer_state h k old.source []) es xs (with_echoes q (peer_state g m new.source us)) × IsBehind new g m

pub deliveries_kept : {R : Type 0} {r : keeper.Ghosts R} {N : ℕ} (old new : KeptPeer R N r) (es : List PeerEvent) (xs : List PeerEntry) → RunsFrom old es xs new
    → All (DeliversBelow (r.received_floor new.source.keeper)) xs
deliveries_kept {r = r} {N = N} old new es xs runs = all_anyway (r.received_floor new.source.keeper) xs (λ never. not_there old.served (λ a. not_there old.asked (λ b.
    let (g, m, us, q, run, behind) = runs a.0 b.0 (record { server = a.1; client = b.1 }) in
    never (run_kept N (peer_state a.0 b.0 old.source []) (with_echoes q (peer_state g m new.source us)) es xs run))))

pub floor_rises : {R : Type 0} {r : keeper.Ghosts R} {N : ℕ} (old new : KeptPeer R N r) (es : List PeerEvent) (xs : List PeerEntry) → RunsFrom old es xs new
    → r.received_floor old.source.keeper ≤ r.received_floor new.source.keeper
floor_rises {r = r} {N = N} old new es xs runs = elim (cases_lt (r.received_floor new.source.keeper) (r.received_floor old.source.keeper)) [
  | inl less ↦ absurd (not_there old.served (λ a. not_there old.asked (λ b.
      let (g, m, us, q, run, behind) = runs a.0 b.0 (record { server = a.1; client = b.1 }) in
      let least : r.received_floor old.source.keeper ≤ r.received_floor new.source.keeper = run_rises N (peer_state a.0 b.0 old.source []) (with_echoes q (peer_state g m new.source us)) es xs run in
      omega (arith, less, least))))
  | inr least ↦ least
]
