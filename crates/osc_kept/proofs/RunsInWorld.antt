-- A run of a kept end leaves a world that meets the premises, step by step. w is the world before the run, own the numbers then; v and u are worlds in it, a
-- and b the states there.
use Rattle.std.proofs.Common.{◌≡◌, ℕ, ◌≤◌, ◌∙◌, sym, ap, subst, refl, arith, Bool, Option, None, Ok, Err, List, [], ◌∷◌, ◌++◌, inl, inr, length, max}
use Rattle.osc_context.specs.SecurityContext.{SecurityContext}
use Rattle.osc_context.specs.declared.keeper.Keeper as keeper
use Rattle.osc_endpoint.specs.declared.client_event.ClientEntry.{ClientEntry}
use Rattle.osc_endpoint.specs.declared.client_event.ClientEntry.TheVariants as asked
use Rattle.osc_client.specs.declared.client_outcome.RequestError.TheVariants as requests
use Rattle.osc_life.specs.declared.server_error.ReplyError.TheVariants as replies
use Rattle.osc_endpoint.specs.declared.server_event.Arrival.{Arrival}
use Rattle.osc_life.specs.declared.seen.Seen.TheVariants as seen
use Rattle.osc_endpoint.specs.declared.server_event.ServerEntry.{ServerEntry}
use Rattle.osc_endpoint.specs.declared.server_event.ServerEntry.TheVariants as served
use Rattle.osc_client.specs.ClientHistory as client
use Rattle.osc_endpoint.specs.ClientRun as client_run
use Rattle.osc_life.specs.LifeAnswer.{asks_own}
use Rattle.osc_life.specs.ServerHistory as server
use Rattle.osc_endpoint.specs.ServerRun as server_run
use Rattle.osc_kept_runs.specs.declared.kept_event.KeptClientEvent.{KeptClientEvent}
use Rattle.osc_kept_runs.specs.declared.kept_event.KeptClientEvent.TheVariants as client_events
use Rattle.osc_kept_runs.specs.declared.kept_event.KeptClientEntry.{KeptClientEntry}
use Rattle.osc_kept_runs.specs.declared.kept_event.KeptClientEntry.TheVariants as client_entries
use Rattle.osc_kept_runs.specs.declared.kept_event.KeptServerEvent.{KeptServerEvent}
use Rattle.osc_kept_runs.specs.declared.kept_event.KeptServerEvent.TheVariants as server_events
use Rattle.osc_kept_runs.specs.declared.kept_event.KeptServerEntry.{KeptServerEntry}
use Rattle.osc_kept_runs.specs.declared.kept_event.KeptServerEntry.TheVariants as server_entries
use Rattle.osc_kept.specs.Claims.{BothEnds, TwoEnds}
use Rattle.osc_kept.specs.GoingOn.{ClientMoves, ClientRuns, GoesOn, IsDrawn, KeepsFloor, KnowsFloor, ServerMoves, ServerRuns}
use Rattle.osc_kept.specs.InWorld.{ClientStays, ClientTrusts, IsAsClaimed, IsUnseen, ServerStays, ServerTrusts}
use Rattle.osc_kept_ends.specs.KeptAsking as asking
use Rattle.osc_kept_runs.specs.KeptRuns.{ArrivalStep, ClientNumbers, ClientRun, ClientState, ClientStep, NotifyStep, ReplyStep, RequestStep, ServerRun, ServerState, ServerStep, client_state, server_state}
use Rattle.osc_kept_ends.specs.Numbering.{Own, Steps}
use Rattle.osc_kept_ends.specs.Owning.{own_in}
use Rattle.osc_kept.specs.Premises.{IsKept, BringsNoContext, NobodyForgesRequests}
use Rattle.osc_kept.specs.RunsInWorld.{ClientRunInWorld, ClientRunTrusts, ClientStepTrusts, IsBehind, IsOf, LoadsAbove, RunsOn, ServerRunInWorld, ServerRunTrusts, ServerStepTrusts}
use Rattle.osc_kept.specs.World.{World, Begin, Then, Event, End, Client, Server, AtClient, AtServer, answered, numbers, sent}
use Rattle.osc_kept.proofs.InWorld.{client_in_world, forges_still, had_tickets, responses_still, same_answered, same_sent, server_in_world, unseen_still}
use Rattle.osc_endpoint.proofs.RunTickets as places
use Rattle.osc_endpoint.proofs.RunTickets.{IsLeftTo}
use Rattle.osc_kept.proofs.RunTickets.{none_more, notified_more, replied_more, took_more}

-- ---- the list behind a step

nothing_more : (of : End) (w : World) → IsBehind of w w
nothing_more of Begin = refl
nothing_more of (Then w event) = inl refl

drawn_behind : (of : End) (w v b : World) → IsDrawn of v b → IsBehind of w v → IsBehind of w b
drawn_behind of w v b (inl e) is = subst (IsBehind of w) (sym e) is
drawn_behind of w v b (inr (inl e)) is = subst (IsBehind of w) (sym e) (inr (refl, is))
drawn_behind of w v b (inr (inr e)) is = subst (IsBehind of w) (sym e) (inr (refl, is))

keeps_floor : (of : End) (s : SecurityContext) (w v u : World) (old new : Own) → KeepsFloor of s w v old → (KnowsFloor of s v old → KnowsFloor of s u new) → KeepsFloor of s v u new
    → KeepsFloor of s w u new
keeps_floor of s w v u old new before knows (inr known) = inr known
keeps_floor of s w v u old new (inl same) knows (inl stays) = inl (stays ∙ same)
keeps_floor of s w v u old new (inr known) knows (inl stays) = inr (knows known)

one_more : (of : End) (s : SecurityContext) (w v u : World) (event : Event) (own old new : Own) → IsOf event of → RunsOn of s w v own old → GoesOn of s v event u old new
    → RunsOn of s w u own new
one_more of s w v u event own old new is r on =
    record {
      behind = subst (IsBehind of w) (sym on.ends) (inr (is, drawn_behind of w v on.between on.drawn r.behind));
      knows = λ k. (on.knows (r.knows k)).1;
      floor = keeps_floor of s w v u old new r.floor (λ k. (on.knows k).1) on.floor;
    }

nothing_on : (of : End) (s : SecurityContext) (w : World) (own : Own) → RunsOn of s w w own own
nothing_on of s w own = record { behind = nothing_more of w; knows = λ k. k; floor = inl refl }

above_known : (of : End) (s : SecurityContext) (v : World) (old : Own) (loaded : ℕ) → KnowsFloor of s v old → old.floor ≤ loaded → (numbers of s v).floor ≤ loaded
above_known of s v old loaded known least = let k : (numbers of s v).floor ≤ old.floor = known in omega (arith, k, least)

above_kept : (of : End) (s : SecurityContext) (w v : World) (old : Own) (loaded : ℕ) → KeepsFloor of s w v old → (numbers of s w).floor ≤ loaded → old.floor ≤ loaded
    → (numbers of s v).floor ≤ loaded
above_kept of s w v old loaded (inl same) above least = let e : (numbers of s v).floor ≡ (numbers of s w).floor = same in omega (arith, e, above)
above_kept of s w v old loaded (inr known) above least = above_known of s v old loaded known least

-- what is loaded isn't below the floor of the list, as it is then
above : (of : End) (s : SecurityContext) (w v : World) (own old : Own) (loaded : ℕ) → RunsOn of s w v own old → LoadsAbove of s w own loaded → old.floor ≤ loaded
    → (numbers of s v).floor ≤ loaded
above of s w v own old loaded r (inl known) least = above_known of s v old loaded (r.knows known) least
above of s w v own old loaded r (inr l) least = above_kept of s w v old loaded r.floor l least

first_claimed : (n : ℕ) (s : SecurityContext) (w : World) → IsKept n s w → BothEnds s w → IsAsClaimed n s w w
first_claimed n s w kept claims = record { kept = kept; claims = claims; saved = λ x. x }

more_claimed : (n : ℕ) (s : SecurityContext) (w v u : World) → IsAsClaimed n s w v → IsAsClaimed n s v u → IsAsClaimed n s w u
more_claimed n s w v u x y = record { kept = y.kept; claims = y.claims; saved = λ z. y.saved (x.saved z) }

-- ---- servers

-- where a run has come
record Served {K : Type 0} {k : keeper.Ghosts K} (n : ℕ) (s : SecurityContext) (w : World) (own : Own) (v : World) (a : ServerState k) : Type 0 where
  pub on : RunsOn Server s w v own (own_in a.source)
  pub claimed : IsAsClaimed n s w v
  pub runs : ServerRuns s v a.history (own_in a.source)
  pub stays : ClientStays s w v
  pub same : sent s v ≡ sent s w
  pub left : IsLeftTo a.history a.tickets

module _ {K : Type 0} {k : keeper.Ghosts K} (claims : TwoEnds) (n : ℕ) (s : SecurityContext) (w : World) (own : Own) where
  -- an event that is answered
  served_on : (v : World) (a b : ServerState k) (event : server.Event) (entry : server.Entry) → Served n s w own v a → BringsNoContext event → server_run.GoesOn a.history event entry b.history
      → ServerMoves a.history event entry (own_in a.source) (own_in b.source) → ServerTrusts s v a.history event entry
      → IsLeftTo (server.Then a.history event entry) b.tickets → (u : World) × Served n s w own u b
  served_on v a b event entry r plain (row, is) moves trusts left =
      let x = server_in_world claims n s v a.history event entry (own_in a.source) (own_in b.source) r.claimed.kept r.runs plain row moves trusts in (
        x.0,
        record {
          on = one_more Server s w v x.0 (AtServer event entry) own (own_in a.source) (own_in b.source) tt r.on x.1;
          claimed = more_claimed n s w v x.0 r.claimed x.2;
          runs = subst (λ h. ServerRuns s x.0 h (own_in b.source)) (sym is) x.3;
          stays = λ h o y. x.4 h o (r.stays h o y);
          same = ap (sent s) x.1.ends ∙ same_sent Server s v x.1.between x.1.drawn ∙ r.same;
          left = subst (λ h. IsLeftTo h b.tickets) (sym is) left;
        },
      )

  -- an event that changes nothing but the tickets
  served_so : (v : World) (a b : ServerState k) → Served n s w own v a → b.history ≡ a.history → own_in b.source ≡ own_in a.source → IsLeftTo a.history b.tickets → (u : World) × Served n s w own u b
  served_so v a b r is own_is left = (
    v,
    record {
      on = subst (RunsOn Server s w v own) (sym own_is) r.on;
      claimed = r.claimed;
      runs = subst (λ h. ServerRuns s v h (own_in b.source)) (sym is) (subst (ServerRuns s v a.history) (sym own_is) r.runs);
      stays = r.stays;
      same = r.same;
      left = subst (λ h. IsLeftTo h b.tickets) (sym is) left;
    },
  )

  arrived : (v : World) (a b : ServerState k) (x : Arrival) (entry : ServerEntry) (us : List (Option server.TicketValues)) (o : Option server.TicketValues)
      → ArrivalStep a.history a.source x entry b.history b.source o → us ≡ a.tickets → b.tickets ≡ us ++ o ∷ []
      → NobodyForgesRequests s w x.bytes.items × IsUnseen s w x.fresh.echo → Served n s w own v a → (u : World) × Served n s w own u b
  arrived v a b x (served.Took seen.KeeperFailed reply) us o (is, (count, own_is), empty, none) same more trusts r =
      served_on v a b (server.Advance x.now) server.Advanced r tt (tt, is) (own_in a.source, refl, (tt, own_is)) tt (none_more a.history a.tickets us b.tickets o same none more r.left)
  arrived v a b x (served.Took shown reply) us o step same more trusts r =
      served_on v a b (server.Datagram x.now x.fresh.echo x.fresh.mid x.bytes.items) (server.Took step.0 reply.now) r tt step.2 step.3.0
      (forges_still s w v x.bytes.items r.same trusts.0, unseen_still s w v x.fresh.echo r.same trusts.1)
      (took_more a.history x.now x.fresh.mid x.fresh.echo x.bytes.items step.0 reply.now a.tickets us b.tickets o same step.4 more r.left)
  arrived v a b x entry us o step same more trusts r = absurd step

  replied : (v : World) (a b : ServerState k) (of : ℕ) (own' : Bool) (mid : ℕ) (plain : List ℕ) (room : ℕ) (entry : ServerEntry) (us : List (Option server.TicketValues)) (o : Option server.TicketValues)
      → ReplyStep a.history a.source a.tickets of own' mid plain room entry b.history b.source us → o ≡ None → b.tickets ≡ us ++ o ∷ []
      → Served n s w own v a → (u : World) × Served n s w own u b
  replied v a b of own' mid plain room (served.Replied (Ok sealed)) us o (t, at, p, datagram, goes, (steps, worked), out, number) none more r =
      let (held, left) = replied_more a.history of mid room own' sealed.datagram.now t p a.tickets us b.tickets o at out none more r.left in
      served_on v a b (server.Reply t (asks_own t own') mid p room) (server.Replied sealed.datagram.now) r tt goes steps held left
  replied v a b of own' mid plain room (served.Replied (Err replies.KeeperFailed)) us o (t, at, p, datagram, is, (count, own_is), same) none more r =
      served_so v a b r is own_is (none_more a.history a.tickets us b.tickets o same none more r.left)
  replied v a b of own' mid plain room (served.Replied (Err e)) us o (t, at, p, datagram, goes, (steps, worked), same) none more r =
      served_on v a b (server.Reply t (asks_own t own') mid p room) (server.NotReplied e) r tt goes steps tt (none_more a.history a.tickets us b.tickets o same none more r.left)
  replied v a b of own' mid plain room served.NoTicket us o ((at, is, same), source) none more r =
      served_so v a b r is (ap (λ x. own_in x) source) (none_more a.history a.tickets us b.tickets o same none more r.left)
  replied v a b of own' mid plain room (served.BadPlain e) us o ((t, at, fault, is, same), source) none more r =
      served_so v a b r is (ap (λ x. own_in x) source) (none_more a.history a.tickets us b.tickets o same none more r.left)
  replied v a b of own' mid plain room entry us o step none more r = absurd step.0

  notified : (v : World) (a b : ServerState k) (of : ℕ) (plain : List ℕ) (room : ℕ) (entry : ServerEntry) (us : List (Option server.TicketValues)) (o : Option server.TicketValues)
      → NotifyStep a.history a.source a.tickets of plain room entry b.history b.source → us ≡ a.tickets → o ≡ None → b.tickets ≡ us ++ o ∷ []
      → Served n s w own v a → (u : World) × Served n s w own u b
  notified v a b of plain room (served.Replied (Ok sealed)) us o (t, at, p, datagram, goes, (steps, worked), number) same none more r =
      let (held, left) = notified_more a.history of room sealed.datagram.now t p a.tickets us b.tickets o at same none more r.left in
      served_on v a b (server.Notify t p room) (server.Replied sealed.datagram.now) r tt goes steps held left
  notified v a b of plain room (served.Replied (Err replies.KeeperFailed)) us o (t, at, p, datagram, is, (count, own_is)) same none more r =
      served_so v a b r is own_is (none_more a.history a.tickets us b.tickets o same none more r.left)
  notified v a b of plain room (served.Replied (Err e)) us o (t, at, p, datagram, goes, (steps, worked)) same none more r =
      served_on v a b (server.Notify t p room) (server.NotReplied e) r tt goes steps tt (none_more a.history a.tickets us b.tickets o same none more r.left)
  notified v a b of plain room served.NoTicket us o ((at, is), source) same none more r =
      served_so v a b r is (ap (λ x. own_in x) source) (none_more a.history a.tickets us b.tickets o same none more r.left)
  notified v a b of plain room (served.BadPlain e) us o ((t, at, fault, is), source) same none more r =
      served_so v a b r is (ap (λ x. own_in x) source) (none_more a.history a.tickets us b.tickets o same none more r.left)
  notified v a b of plain room entry us o step same none more r = absurd step.0

  dropped : (v : World) (a b : ServerState k) (of : ℕ) (entry : ServerEntry) (us : List (Option server.TicketValues)) (o : Option server.TicketValues)
      → server_run.DropStep a.history a.tickets of entry b.history us → b.source ≡ a.source → o ≡ None → b.tickets ≡ us ++ o ∷ [] → Served n s w own v a → (u : World) × Served n s w own u b
  dropped v a b of (served.Dropped there) us o (was, is, out) source none more r =
      let left = places.dropped a.history a.history a.tickets us of (served.Dropped there) (was, refl, out) r.left in
      served_so v a b r is (ap (λ x. own_in x) source) (none_more a.history us us b.tickets o refl none more left)
  dropped v a b of entry us o step source none more r = absurd step

  serves : (v : World) (a b : ServerState k) (e : KeptServerEvent) (x : KeptServerEntry) (step : ServerStep a e x b) → ServerStepTrusts s w own a e x b step → Served n s w own v a
      → (u : World) × Served n s w own u b
  serves v a b (server_events.Datagram arrival) (server_entries.Served entry) (us, o, (step, same), more) trusts r = arrived v a b arrival entry us o step same more trusts r
  serves v a b (server_events.Reply reply) (server_entries.Served entry) (us, o, (step, none), more) trusts r =
      replied v a b reply.of reply.own reply.mid reply.plain.items (length reply.out.items) entry us o step none more r
  serves v a b (server_events.Notify notice) (server_entries.Served entry) (us, o, (step, same, none), more) trusts r =
      notified v a b notice.of notice.plain.items (length notice.out.items) entry us o step same none more r
  serves v a b (server_events.Drop of) (server_entries.Served entry) (us, o, (step, source, none), more) trusts r = dropped v a b of entry us o step source none more r
  serves v a b server_events.Restart (server_entries.Restarted (Ok x)) (us, o, ((loaded, was, moves, goes), same, none), more) trusts r =
      served_on v a b (server.Restart 0 loaded) server.Restarted r tt goes moves (above Server s w v own (own_in a.source) loaded r.on trusts moves.0.0)
      (none_more a.history a.tickets us b.tickets o same none more r.left)
  serves v a b server_events.Restart (server_entries.Restarted (Err e)) (us, o, ((why, is, own_is, lives), same, none), more) trusts r =
      served_so v a b r is own_is (none_more a.history a.tickets us b.tickets o same none more r.left)
  serves v a b server_events.Restart (server_entries.Served entry) (us, o, (step, same, none), more) trusts r = absurd step
  serves v a b e x (us, o, step, more) trusts r = absurd step

  server_ran : (v : World) (a b : ServerState k) (es : List KeptServerEvent) (xs : List KeptServerEntry) (run : ServerRun a es xs b) → ServerRunTrusts s w own a es xs b run
      → Served n s w own v a → (u : World) × Served n s w own u b
  server_ran v a b [] [] run trusts r = (v, subst (λ (c : ServerState k). Served n s w own v c) (sym run) r)
  server_ran v a b [] (x ∷ xs) run trusts r = absurd run
  server_ran v a b (e ∷ es) [] run trusts r = absurd run
  server_ran v a b (e ∷ es) (x ∷ xs) (mid, step, run) (here, more) r = let q = serves v a mid e x step here r in server_ran q.0 mid b es xs run more q.1

pub server_run_in_world : TwoEnds → {K : Type 0} (k : keeper.Ghosts K) → ServerRunInWorld k
server_run_in_world claims k n s w h source b es xs run kept runs trusts =
    let (ws, left) = had_tickets n s w h kept.lawful.answers runs.history_is in
    let r = server_ran claims n s w (own_in source) w (server_state h source []) b es xs run trusts
    (record { on = nothing_on Server s w (own_in source); claimed = first_claimed n s w kept (claims n s w kept.lawful); runs = runs; stays = λ g o x. x; same = refl; left = (ws, left, tt) }) in
    (r.0, r.1.on, r.1.claimed, r.1.runs, r.1.stays)

-- ---- clients

-- where a run has come
record Asking {K : Type 0} {k : keeper.Ghosts K} (n : ℕ) (s : SecurityContext) (w : World) (own : Own) (v : World) (a : ClientState k) : Type 0 where
  pub on : RunsOn Client s w v own (own_in a.source)
  pub claimed : IsAsClaimed n s w v
  pub runs : ClientRuns s v a.history (own_in a.source)
  pub stays : ServerStays s w v
  pub same : answered s v ≡ answered s w

event_is : {h : client.History} {e f : client.Event} {x y : client.Entry} → client.Then h e x ≡ client.Then h f y → e ≡ f
event_is is = cc

entry_is : {h : client.History} {e f : client.Event} {x y : client.Entry} → client.Then h e x ≡ client.Then h f y → x ≡ y
entry_is is = cc

-- the numbers moved by the very event that was answered
moves_of : {K : Type 0} {k : keeper.Ghosts K} (a b : ClientState k) (event : client.Event) (entry : client.Entry) → ClientNumbers a b → b.history ≡ client.Then a.history event entry
    → Steps (asking.draws event) (asking.uses a.history event entry) (own_in a.source) (own_in b.source)
moves_of a b event entry (e, x, is, steps, worked) goes =
    let same = sym is ∙ goes in
    subst (λ y. Steps (asking.draws y) (asking.uses a.history y entry) (own_in a.source) (own_in b.source)) (event_is same)
    (subst (λ y. Steps (asking.draws e) (asking.uses a.history e y) (own_in a.source) (own_in b.source)) (entry_is same) steps)

module _ {K : Type 0} {k : keeper.Ghosts K} (claims : TwoEnds) (n : ℕ) (s : SecurityContext) (w : World) (own : Own) where
  -- an event that is answered
  asked_on : (v : World) (a b : ClientState k) (event : client.Event) (entry : client.Entry) → Asking n s w own v a → client_run.GoesOn n a.history event entry b.history
      → ClientMoves a.history event entry (own_in a.source) (own_in b.source) → ClientTrusts s v a.history event entry → (u : World) × Asking n s w own u b
  asked_on v a b event entry r (row, is) moves trusts =
      let x = client_in_world claims n s v a.history event entry (own_in a.source) (own_in b.source) r.claimed.kept r.runs row moves trusts in (
        x.0,
        record {
          on = one_more Client s w v x.0 (AtClient event entry) own (own_in a.source) (own_in b.source) tt r.on x.1;
          claimed = more_claimed n s w v x.0 r.claimed x.2;
          runs = subst (λ h. ClientRuns s x.0 h (own_in b.source)) (sym is) x.3;
          stays = λ h o y. x.4 h o (r.stays h o y);
          same = ap (answered s) x.1.ends ∙ same_answered Client s v x.1.between x.1.drawn ∙ r.same;
        },
      )

  -- an event that changes nothing
  asked_so : (v : World) (a b : ClientState k) → Asking n s w own v a → b.history ≡ a.history → own_in b.source ≡ own_in a.source → (u : World) × Asking n s w own u b
  asked_so v a b r is own_is = (
    v,
    record {
      on = subst (RunsOn Client s w v own) (sym own_is) r.on;
      claimed = r.claimed;
      runs = subst (λ h. ClientRuns s v h (own_in b.source)) (sym is) (subst (ClientRuns s v a.history) (sym own_is) r.runs);
      stays = r.stays;
      same = r.same;
    },
  )

  requested : (v : World) (a b : ClientState k) (now : ℕ) (plain : List ℕ) (room : ℕ) (entry : ClientEntry) → RequestStep n a now plain room entry b → Asking n s w own v a
      → (u : World) × Asking n s w own u b
  requested v a b now plain room (asked.NotSent requests.KeeperFailed) (p, datagram, is, (count, own_is)) r =
      asked_on v a b (client.Advance now) client.Advanced r (tt, is) (own_in a.source, refl, (tt, own_is)) tt
  requested v a b now plain room (asked.NotSent e) step r =
      asked_on v a b (client.Request now step.0.0 room) (client.NotSent e) r step.0.2 (moves_of a b (client.Request now step.0.0 room) (client.NotSent e) step.1 step.0.2.1) tt
  requested v a b now plain room (asked.Sent number bytes) ((next, p, datagram, goes), moves) r =
      asked_on v a b (client.Request now p room) (client.Sent bytes.now) r goes (moves_of a b (client.Request now p room) (client.Sent bytes.now) moves goes.1) tt
  requested v a b now plain room (asked.BadPlain e) ((fault, goes), moves) r =
      asked_on v a b (client.Advance now) client.Advanced r goes (moves_of a b (client.Advance now) client.Advanced moves goes.1) tt
  requested v a b now plain room entry step r = absurd step.0

  asks_so : (v : World) (a b : ClientState k) (e : KeptClientEvent) (x : KeptClientEntry) (step : ClientStep n a e x b) → ClientStepTrusts n s w own a e x b step → Asking n s w own v a
      → (u : World) × Asking n s w own u b
  asks_so v a b (client_events.Request now plain out) (client_entries.Asked entry) step trusts r = requested v a b now plain.items (length out.items) entry step r
  asks_so v a b (client_events.Datagram now bytes) (client_entries.Asked (asked.Took outcome)) ((answer, shows, goes), moves) trusts r =
      asked_on v a b (client.Datagram now bytes.items) (client.Took answer) r goes (moves_of a b (client.Datagram now bytes.items) (client.Took answer) moves goes.1)
      (responses_still s w v (client.pending_at a.history (max (client.clock a.history) now)) bytes.items r.same trusts)
  asks_so v a b (client_events.Datagram now bytes) (client_entries.Asked entry) step trusts r = absurd step.0
  asks_so v a b (client_events.Forget token) (client_entries.Asked (asked.Forgot was_pending)) (goes, moves) trusts r =
      asked_on v a b (client.Forget token.items) (client.Forgot was_pending) r goes (moves_of a b (client.Forget token.items) (client.Forgot was_pending) moves goes.1) tt
  asks_so v a b (client_events.Forget token) (client_entries.Asked entry) step trusts r = absurd step.0
  asks_so v a b client_events.Restart (client_entries.Restarted (Ok x)) (loaded, was, moves, goes) trusts r =
      asked_on v a b (client.Restart loaded) client.Restarted r goes moves (above Client s w v own (own_in a.source) loaded r.on trusts moves.0.0)
  asks_so v a b client_events.Restart (client_entries.Restarted (Err e)) (why, is, own_is) trusts r = asked_so v a b r is own_is
  asks_so v a b e x step trusts r = absurd step

  client_ran : (v : World) (a b : ClientState k) (es : List KeptClientEvent) (xs : List KeptClientEntry) (run : ClientRun n a es xs b) → ClientRunTrusts n s w own a es xs b run
      → Asking n s w own v a → (u : World) × Asking n s w own u b
  client_ran v a b [] [] run trusts r = (v, subst (λ (c : ClientState k). Asking n s w own v c) (sym run) r)
  client_ran v a b [] (x ∷ xs) run trusts r = absurd run
  client_ran v a b (e ∷ es) [] run trusts r = absurd run
  client_ran v a b (e ∷ es) (x ∷ xs) (mid, step, run) (here, more) r = let q = asks_so v a mid e x step here r in client_ran q.0 mid b es xs run more q.1

pub client_run_in_world : TwoEnds → {K : Type 0} (k : keeper.Ghosts K) → ClientRunInWorld k
client_run_in_world claims k n s w h source b es xs run kept runs trusts =
    let r = client_ran claims n s w (own_in source) w (client_state h source) b es xs run trusts
    (record { on = nothing_on Client s w (own_in source); claimed = first_claimed n s w kept (claims n s w kept.lawful); runs = runs; stays = λ g o x. x; same = refl }) in
    (r.0, r.1.on, r.1.claimed, r.1.runs, r.1.stays)
