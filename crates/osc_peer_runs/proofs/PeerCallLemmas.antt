-- The calls of a run: what the answer to a call says, as a step of the run. old and new are the peer before and after, ts and us the
-- tickets, e is the event, p and q what is remembered of Echo values before and after.
use Rattle.std.proofs.Common.{◌≡◌, ℕ, sym, subst, refl, List, [], ◌∷◌, ◌++◌, length, Option, None}
use Rattle.std.specs.Option.{option_map}
use Rattle.osc_context.specs.declared.record_keeper.RecordKeeper as keeper
use Rattle.osc_client.specs.ClientDeciding.{ClientTakes}
use Rattle.osc_client.specs.ClientHistory as client
use Rattle.osc_client.specs.declared.client_outcome.ClientOutcome.{ClientOutcome}
use Rattle.osc_client.specs.declared.client_outcome.RequestError.TheVariants as requests
use Rattle.osc_endpoint.specs.declared.client_event.ClientEntry.TheVariants as asked
use Rattle.osc_endpoint.specs.declared.server_event.Answering.{Answering}
use Rattle.osc_endpoint.specs.declared.server_event.Notifying.{Notifying}
use Rattle.osc_endpoint.specs.declared.server_event.ServerEntry.{ServerEntry}
use Rattle.osc_endpoint.specs.ServerRun.{values_in}
use Rattle.osc_life.specs.declared.ticket.Ticket.{Ticket}
use Rattle.osc_life.specs.ServerHistory as server
use Rattle.osc_life.specs.Views.{values_of}
use Rattle.osc_kept_ends.specs.declared.kept_peer.KeptPeer.{KeptPeer}
use Rattle.osc_kept_ends.specs.Numbering.{upcoming}
use Rattle.osc_kept_ends.specs.Peering.{ServerIsBehind}
use Rattle.osc_kept_ends.specs.PeerOwning.{own_in}
use Rattle.osc_peer_runs.specs.declared.peer_event.Challenging.{Challenging}
use Rattle.osc_peer_runs.specs.declared.peer_event.PeerArrival.{PeerArrival}
use Rattle.osc_peer_runs.specs.declared.peer_event.PeerEvent.{PeerEvent}
use Rattle.osc_peer_runs.specs.declared.peer_event.PeerEvent.TheVariants as events
use Rattle.osc_peer_runs.specs.declared.peer_event.PeerEntry.{PeerEntry}
use Rattle.osc_peer_runs.specs.declared.peer_event.PeerEntry.TheVariants as entries
use Rattle.osc_fresh.specs.Echoing.{heard_after}
use Rattle.osc_fresh.specs.Wishing.{Asked}
use Rattle.osc_peer_runs.specs.PeerCalls.{Calls, CallsOver, IsBehind}
use Rattle.osc_peer_runs.specs.PeerRuns.{ArrivalStep, ChallengeStep, Echoes, FreshStep, HearStep, NotifyStep, PeerState, ReplyStep, RunStep, SealsAbove, peer_state, with_echoes}
use Rattle.osc_peer_runs.proofs.PeerRunLemmas.{above, asked_alone, client_carried}

-- the peer stays behind if its server is behind, and its client is as it was
served_alone : {R : Type 0} {r : keeper.Ghosts R} {N : ℕ} (old new : KeptPeer R N r) (h g : server.History) (k : client.History) → IsBehind old h k
    → ServerIsBehind new.server (upcoming (own_in new.source)) g → new.client ≡ old.client → IsBehind new g k
served_alone old new h g k b behind same =
    record { server = behind; client = client_carried old.client new.client k (upcoming (own_in old.source)) (upcoming (own_in new.source)) b.client same new.asked }

-- a datagram that may be a request
pub datagram_called : {R : Type 0} {r : keeper.Ghosts R} {N : ℕ} (old new : KeptPeer R N r) (ts : List (Option Ticket)) (a : PeerArrival) (x : ServerEntry) (o : Option Ticket)
    → ((h : server.History) → ServerIsBehind old.server (upcoming (own_in old.source)) h
    → (g : server.History) × ArrivalStep h old.source a x g new.source (option_map values_of o) × ServerIsBehind new.server (upcoming (own_in new.source)) g)
    → new.client ≡ old.client → Calls old ts (events.Datagram a) (entries.Served x) new ts o
datagram_called old new ts a x o answered same = λ h k b.
    let (g, step, behind) = answered h b.server in
    let both = served_alone old new h g k b behind same in
    (g, k, ((option_map values_of o, step, refl, refl), refl, above new.server new.client new.source g k (values_in ts ++ option_map values_of o ∷ []) both), both)

-- a reply
pub reply_called : {R : Type 0} {r : keeper.Ghosts R} {N : ℕ} (old new : KeptPeer R N r) (ts us : List (Option Ticket)) (a : Answering) (plain out : List ℕ) (x : ServerEntry)
    → plain ≡ a.plain.items → out ≡ a.out.items
    → ((h : server.History) → ServerIsBehind old.server (upcoming (own_in old.source)) h
    → (g : server.History) × ReplyStep h old.source (values_in ts) a.of a.own a.mid plain (length out) x g new.source (values_in us) × ServerIsBehind new.server (upcoming (own_in new.source)) g)
    → new.client ≡ old.client → Calls old ts (events.Reply a) (entries.Served x) new us None
reply_called old new ts us a plain out x plain_is out_is answered same = λ h k b.
    let (g, step, behind) = answered h b.server in
    let both = served_alone old new h g k b behind same in
    let given = subst (λ (d : List ℕ). ReplyStep h old.source (values_in ts) a.of a.own a.mid d (length out) x g new.source (values_in us)) plain_is step in
    let whole = subst (λ (d : List ℕ). ReplyStep h old.source (values_in ts) a.of a.own a.mid a.plain.items (length d) x g new.source (values_in us)) out_is given in
    (g, k, ((values_in us, whole, refl, refl), refl, above new.server new.client new.source g k (values_in us ++ None ∷ []) both), both)

-- a challenge
pub challenge_called : {R : Type 0} {r : keeper.Ghosts R} {N : ℕ} (old new : KeptPeer R N r) (ts us : List (Option Ticket)) (a : Challenging) (out : List ℕ) (x : ServerEntry)
    → out ≡ a.out.items
    → ((h : server.History) → ServerIsBehind old.server (upcoming (own_in old.source)) h
    → (g : server.History) × ChallengeStep h old.source (values_in ts) a.of a.mid (length out) x g new.source (values_in us) × ServerIsBehind new.server (upcoming (own_in new.source)) g)
    → new.client ≡ old.client → Calls old ts (events.Challenge a) (entries.Served x) new us None
challenge_called old new ts us a out x out_is answered same = λ h k b.
    let (g, step, behind) = answered h b.server in
    let both = served_alone old new h g k b behind same in
    let whole = subst (λ (d : List ℕ). ChallengeStep h old.source (values_in ts) a.of a.mid (length d) x g new.source (values_in us)) out_is step in
    (g, k, ((values_in us, whole, refl, refl), refl, above new.server new.client new.source g k (values_in us ++ None ∷ []) both), both)

-- a notification
pub notify_called : {R : Type 0} {r : keeper.Ghosts R} {N : ℕ} (old new : KeptPeer R N r) (ts : List (Option Ticket)) (a : Notifying) (plain out : List ℕ) (x : ServerEntry)
    → plain ≡ a.plain.items → out ≡ a.out.items
    → ((h : server.History) → ServerIsBehind old.server (upcoming (own_in old.source)) h
    → (g : server.History) × NotifyStep h old.source (values_in ts) a.of plain (length out) x g new.source × ServerIsBehind new.server (upcoming (own_in new.source)) g)
    → new.client ≡ old.client → Calls old ts (events.Notify a) (entries.Served x) new ts None
notify_called old new ts a plain out x plain_is out_is answered same = λ h k b.
    let (g, step, behind) = answered h b.server in
    let both = served_alone old new h g k b behind same in
    let given = subst (λ (d : List ℕ). NotifyStep h old.source (values_in ts) a.of d (length out) x g new.source) plain_is step in
    let whole = subst (λ (d : List ℕ). NotifyStep h old.source (values_in ts) a.of a.plain.items (length d) x g new.source) out_is given in
    (g, k, ((whole, refl, refl), refl, above new.server new.client new.source g k (values_in ts ++ None ∷ []) both), both)

-- ---- where the run remembers Echo values

-- an event that neither asks for a fresh request nor sends or brings an Echo value to the client
abbrev IsOther : PeerEvent → Type 0
IsOther (events.Fresh ms a) = ⊥
IsOther (events.Echo now plain room out) = ⊥
IsOther (events.Response now bytes) = ⊥
IsOther (events.Follow now bytes) = ⊥
IsOther event = Unit {0}

pub above_still : {R : Type 0} {r : keeper.Ghosts R} (t : PeerState r) (p : Echoes) → SealsAbove t → SealsAbove (with_echoes p t)
above_still t p a = record { reached = a.reached; reached_is = a.reached_is; served_least = a.served_least; asked_least = a.asked_least }

-- a step of such an event is one whatever is remembered
carried : {R : Type 0} {r : keeper.Ghosts R} (n : ℕ) (s t : PeerState r) (p : Echoes) (e : PeerEvent) (x : PeerEntry) → IsOther e → RunStep n s e x t
    → RunStep n (with_echoes p s) e x (with_echoes p t)
carried n s t p (events.Datagram a) (entries.Served x) other step = (step.0, refl, above_still t p step.2)
carried n s t p (events.Reply a) (entries.Served x) other step = (step.0, refl, above_still t p step.2)
carried n s t p (events.Challenge a) (entries.Served x) other step = (step.0, refl, above_still t p step.2)
carried n s t p (events.Notify a) (entries.Served x) other step = (step.0, refl, above_still t p step.2)
carried n s t p (events.Drop of) (entries.Served x) other step = (step.0, refl, above_still t p step.2)
carried n s t p (events.Request now plain out) (entries.Asked (asked.Sent number text)) other step = (step.0, refl, above_still t p step.2)
carried n s t p (events.Request now plain out) (entries.Asked (asked.NotSent requests.KeeperFailed)) other step = (step.0, refl, above_still t p step.2)
carried n s t p (events.Request now plain out) (entries.Asked (asked.NotSent e)) other step = (step.0, refl, above_still t p step.2)
carried n s t p (events.Request now plain out) (entries.Asked (asked.BadPlain e)) other step = (step.0, refl, above_still t p step.2)
carried n s t p (events.Request now plain out) (entries.Asked x) other step = absurd step.0.0.2
carried n s t p (events.Forget token) (entries.Asked (asked.Forgot was_pending)) other step = (step.0, refl, above_still t p step.2)
carried n s t p (events.Advance now) entries.Advanced other step = (step.0, refl, above_still t p step.2)
carried n s t p (events.Fresh ms a) x other step = absurd other
carried n s t p (events.Echo now plain room out) x other step = absurd other
carried n s t p (events.Response now bytes) x other step = absurd other
carried n s t p (events.Follow now bytes) x other step = absurd other
carried n s t p e x other step = absurd step.0

-- the call of such an event, which is equal to this one
pub other_called : {R : Type 0} {r : keeper.Ghosts R} {N : ℕ} (old new : KeptPeer R N r) (p : Echoes) (ts us : List (Option Ticket)) (o : Option Ticket) (e d : PeerEvent) (x : PeerEntry)
    → IsOther d → e ≡ d → Calls old ts d x new us o → CallsOver old p ts e x new p us o
other_called {N = N} old new p ts us o e d x other is calls = λ h k b.
    let (g, m, step, behind) = calls h k b in
    let s = peer_state h k old.source (values_in ts) in
    let t = peer_state g m new.source (values_in us ++ option_map values_of o ∷ []) in
    (g, m, subst (λ (z : PeerEvent). RunStep N (with_echoes p s) z x (with_echoes p t)) (sym is) (carried N s t p d x other step), behind)

-- a datagram that may be a response, of whose message this Echo value is remembered
pub hear_step : {R : Type 0} {r : keeper.Ghosts R} {N : ℕ} (old new : KeptPeer R N r) (p : Echoes) (heard : Option (List ℕ)) (now : ℕ) (bytes : List ℕ) (outcome : ClientOutcome) (h : server.History) (k : client.History)
    (ts us : List (Option server.TicketValues)) → IsBehind old h k → ClientTakes k now bytes outcome new.client → (new.server ≡ old.server) × (new.source ≡ old.source) → heard ≡ heard_after outcome p.heard
    → (m : client.History) × HearStep N (with_echoes p (peer_state h k old.source ts)) now bytes outcome (with_echoes (record { last = p.last; heard = heard }) (peer_state h m new.source us)) × IsBehind new h m
hear_step old new p heard now bytes outcome h k ts us b t same is =
    let m = client.Then k (client.Datagram now bytes) (client.Took t.answer) in
    (m, (t.answer, t.shows, (t.row, refl), refl, same.1, is), asked_alone old.server new.server new.client old.source new.source h m b.server (record { agrees = t.agrees; least = b.client.least }) same)

-- a datagram of which no request is delivered that isn't known to be fresh
pub fresh_called : {R : Type 0} {r : keeper.Ghosts R} {N : ℕ} (old new : KeptPeer R N r) (last next : Option Asked) (heard : Option (List ℕ)) (ts : List (Option Ticket)) (ms : ℕ) (a : PeerArrival) (x : PeerEntry) (o : Option Ticket)
    → ((h : server.History) → ServerIsBehind old.server (upcoming (own_in old.source)) h
    → (g : server.History) × FreshStep h old.source last ms a x g new.source next (option_map values_of o) × ServerIsBehind new.server (upcoming (own_in new.source)) g)
    → new.client ≡ old.client → CallsOver old (record { last = last; heard = heard }) ts (events.Fresh ms a) x new (record { last = next; heard = heard }) ts o
fresh_called old new last next heard ts ms a x o answered same = λ h k b.
    let (g, step, behind) = answered h b.server in
    let both = served_alone old new h g k b behind same in
    let us = values_in ts ++ option_map values_of o ∷ [] in
    (g, k, ((option_map values_of o, step, refl, refl), refl, above_still (peer_state g k new.source us) _ (above new.server new.client new.source g k us both)), both)

-- the call of an event that is equal to this one
pub called_same : {R : Type 0} {r : keeper.Ghosts R} {N : ℕ} (old new : KeptPeer R N r) (p q : Echoes) (ts us : List (Option Ticket)) (o : Option Ticket) (e d : PeerEvent) (x : PeerEntry)
    → e ≡ d → CallsOver old p ts d x new q us o → CallsOver old p ts e x new q us o
called_same old new p q ts us o e d x is calls = subst (λ (z : PeerEvent). CallsOver old p ts z x new q us o) (sym is) calls
