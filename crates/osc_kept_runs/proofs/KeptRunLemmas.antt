-- Runs of kept ends, one event after another. s, mid and t are states.
use Rattle.std.proofs.Common.{Bor, ◌≡◌, ◌≢◌, ◌+◌, ℕ, ap, sym, subst, refl, List, Bool, [], ◌∷◌, ◌++◌, take, Option, Some, Result, Ok, Err, IsOk, IsErrOf, IfErr, OnErr}
use Rattle.osc_coap.specs.Datagram.{Parts, IsDatagram}
use Rattle.osc_context.specs.declared.keeper.Keeper as keeper
use Rattle.osc_client.specs.declared.client.Client.{Client}
use Rattle.osc_endpoint.specs.declared.client_event.ClientEntry.TheVariants as asked
use Rattle.osc_client.specs.declared.client_outcome.RequestError.{RequestError}
use Rattle.osc_client.specs.declared.client_outcome.RequestError.TheVariants as requests
use Rattle.osc_endpoint.specs.declared.server.ServerOf.{ServerOf}
use Rattle.osc_life.specs.declared.server_error.ReplyError.{ReplyError}
use Rattle.osc_life.specs.declared.server_error.ReplyError.TheVariants as replies
use Rattle.osc_life.specs.declared.server_error.RestartError.TheVariants as restarts
use Rattle.osc_endpoint.specs.declared.server_event.Arrival.{Arrival}
use Rattle.osc_life.specs.declared.seen.Seen.{Seen}
use Rattle.osc_life.specs.declared.seen.Seen.TheVariants as seen
use Rattle.osc_endpoint.specs.declared.server_event.ServerEntry.TheVariants as served
use Rattle.osc_client.specs.ClientHistory as client
use Rattle.osc_endpoint.specs.ServerAnswer.{ServerAnswer}
use Rattle.osc_life.specs.LifeAnswer.{asks_own}
use Rattle.osc_life.specs.ServerHistory.{History, Then, Answer, TicketValues, Datagram, Took, Notify, Reply, NotReplied, Restart, Restarted, NotRestarted}
use Rattle.osc_endpoint.specs.ServerRun.{GoesOn, ticket_at}
use Rattle.osc_life.specs.Logged.{Logs, ticket_of}
use Rattle.osc_kept_ends.specs.declared.kept_error.KeptError.{KeptError}
use Rattle.osc_kept_ends.specs.declared.kept_error.KeptError.TheVariants.{LivesExhausted}
use Rattle.osc_kept_runs.specs.declared.kept_event.KeptServerEntry.TheVariants as entries
use Rattle.osc_kept_ends.specs.declared.source.Source.{Source}
use Rattle.osc_kept_ends.specs.KeptAsking as asking
use Rattle.osc_kept_runs.specs.KeptRuns.{RunOf, ArrivalStep, ClientNumbers, NotifyStep, ReplyStep, RequestStep, RestartStep, ServerNumbers, Worked, client_state}
use Rattle.osc_kept_ends.specs.KeptServing.{IsKept, KeptStep}
use Rattle.osc_kept_ends.specs.Numbering.{Own, Goes, Load, upcoming}
use Rattle.osc_kept_ends.specs.Owning.{own_in}
use Rattle.osc_kept_ends.specs.Refusals.{Loaded, RefusesAt}

-- a run goes on by one event
run_more : {S E X : Type 0} (Step : S → E → X → S → Type 0) (s mid t : S) (es : List E) (xs : List X) (e : E) (x : X)
    → RunOf Step s es xs mid → Step mid e x t → RunOf Step s (es ++ e ∷ []) (xs ++ x ∷ []) t
run_more Step s mid t [] [] e x r step = (t, subst (λ k. Step k e x t) r step, refl)
run_more Step s mid t [] (y ∷ ys) e x r step = absurd r
run_more Step s mid t (d ∷ ds) [] e x r step = absurd r
run_more Step s mid t (d ∷ ds) (y ∷ ys) e x r step = (r.0, r.1, run_more Step r.0 mid t ds ys e x r.2 step)

-- one event more, over the front of all events
pub run_on : {S E X : Type 0} (Step : S → E → X → S → Type 0) (s mid t : S) (all : List E) (i j : ℕ) (log reserved after : List X) (e : E) (x : X)
    → RunOf Step s (take i all) log mid → Step mid e x t → take i all ++ e ∷ [] ≡ take j all → after ≡ reserved ++ x ∷ [] → reserved ≡ log → RunOf Step s (take j all) after t
run_on Step s mid t all i j log reserved after e x run step events_are entries_are same =
    subst (λ es. RunOf Step s es after t) events_are
    (subst (λ xs. RunOf Step s (take i all ++ e ∷ []) xs t) (sym entries_are)
    (subst (λ xs. RunOf Step s (take i all ++ e ∷ []) (xs ++ x ∷ []) t) (sym same) (run_more Step s mid t (take i all) log e x run step)))

-- an entry that tells an answer isn't that of a keeper that failed
pub took_step : {K : Type 0} {k : keeper.Ghosts K} (h : History) (old : Source K k) (a : Arrival) (x : Seen) (reply : Bor (List ℕ)) (g : History) (new : Source K k) (o : Option TicketValues) (answer : Answer)
    → Logs x answer → GoesOn h (Datagram a.now a.fresh.echo a.fresh.mid a.bytes.items) (Took answer reply.now) g
    → ServerNumbers h (Datagram a.now a.fresh.echo a.fresh.mid a.bytes.items) (Took answer reply.now) old new → o ≡ ticket_of answer
    → ArrivalStep h old a (served.Took x reply) g new o
took_step h old a seen.KeeperFailed reply g new o answer logs goes numbers is = absurd logs
took_step h old a x reply g new o answer logs goes numbers is = (answer, logs, goes, numbers, is)

-- a refused reply: by the keeper, which changes nothing else, or as the server answers
pub refused_step : {K : Type 0} {k : keeper.Ghosts K} (h : History) (old : Source K k) (ts : List (Option TicketValues)) (of : ℕ) (own : Bool) (mid : ℕ) (plain : List ℕ) (room : ℕ) (e : ReplyError)
    (new : Source K k) (us : List (Option TicketValues)) (t : TicketValues) (p : Parts) (before after : ServerOf 1)
    → ticket_at ts of ≡ Some t → IsDatagram p plain → us ≡ ts → IsKept before (upcoming (own_in old)) h
    → (e ≡ replies.KeeperFailed → (own_in new ≡ own_in old) × (k.failures new.keeper ≡ k.failures old.keeper + 1)) → (e ≢ replies.KeeperFailed → Worked old new)
    → (e ≢ replies.KeeperFailed → KeptStep h (Reply t (asks_own t own) mid p room) (NotReplied e) (own_in old) (own_in new) after) → after ≡ before
    → (g : History) × ReplyStep h old ts of own mid plain room (served.Replied (Err e)) g new us × IsKept after (upcoming (own_in new)) g
refused_step h old ts of own mid plain room replies.KeeperFailed new us t p before after seen is back kept failed worked answered same =
    let f = failed refl in
    (h, (t, seen, p, is, refl, (f.1, f.0), back), subst (λ (o : Own). IsKept after (upcoming o) h) (sym f.0) (subst (λ (s : ServerOf 1). IsKept s (upcoming (own_in old)) h) (sym same) kept))
refused_step h old ts of own mid plain room e new us t p before after seen is back kept failed worked answered same =
    let step = answered (λ is. cc) in
    (_, (t, seen, p, is, (step.row, refl), (step.numbers, worked (λ is. cc)), back), step.kept)

-- a refused notification, in the same way
pub unnotified_step : {K : Type 0} {k : keeper.Ghosts K} (h : History) (old : Source K k) (ts : List (Option TicketValues)) (of : ℕ) (plain : List ℕ) (room : ℕ) (e : ReplyError)
    (new : Source K k) (t : TicketValues) (p : Parts) (before after : ServerOf 1) → ticket_at ts of ≡ Some t → IsDatagram p plain → IsKept before (upcoming (own_in old)) h
    → (e ≡ replies.KeeperFailed → (own_in new ≡ own_in old) × (k.failures new.keeper ≡ k.failures old.keeper + 1)) → (e ≢ replies.KeeperFailed → Worked old new)
    → (e ≢ replies.KeeperFailed → KeptStep h (Notify t p room) (NotReplied e) (own_in old) (own_in new) after) → after ≡ before
    → (g : History) × NotifyStep h old ts of plain room (served.Replied (Err e)) g new × IsKept after (upcoming (own_in new)) g
unnotified_step h old ts of plain room replies.KeeperFailed new t p before after seen is kept failed worked answered same =
    let f = failed refl in
    (h, (t, seen, p, is, refl, (f.1, f.0)), subst (λ (o : Own). IsKept after (upcoming o) h) (sym f.0) (subst (λ (s : ServerOf 1). IsKept s (upcoming (own_in old)) h) (sym same) kept))
unnotified_step h old ts of plain room e new t p before after seen is kept failed worked answered same =
    let step = answered (λ is. cc) in
    (_, (t, seen, p, is, (step.row, refl), (step.numbers, worked (λ is. cc))), step.kept)

-- a restart: at what was loaded, or refused
pub restart_step : {K : Type 0} {k : keeper.Ghosts K} (h : History) (old : Source K k) (r : Result (Unit {0}) KeptError) (new : Source K k) (before after : ServerOf 1)
    → IsKept before (upcoming (own_in old)) h
    → (IsOk r → (loaded : ℕ) × Loaded k.loads k.failures old.keeper loaded new.keeper × Goes (Load loaded) (own_in old) (own_in new)
    × ((h : History) → IsKept before (upcoming (own_in old)) h → ServerAnswer h (Restart 0 loaded) Restarted × IsKept after (upcoming (own_in new)) (Then h (Restart 0 loaded) Restarted)))
    → IfErr r (λ e. RefusesAt k.loads k.failures old.keeper e new.keeper)
    → (r ≡ Err LivesExhausted → (loaded : ℕ) (h : History) → IsKept before (upcoming (own_in old)) h → ServerAnswer h (Restart 0 loaded) (NotRestarted restarts.LivesExhausted))
    → OnErr r ((after ≡ before) × (own_in new ≡ own_in old))
    → (g : History) × RestartStep h old (entries.Restarted r) g new × IsKept after (upcoming (own_in new)) g
restart_step h old (Ok x) new before after kept begins refused lives unchanged =
    let (loaded, was, goes, answers) = begins refl in
    let (row, next) = answers h kept in
    (Then h (Restart 0 loaded) Restarted, (loaded, was, goes, (row, refl)), next)
restart_step h old (Err e) new before after kept begins refused lives unchanged = (
  h,
  (refused, refl, unchanged.1, λ is loaded. lives (ap Err is) loaded h kept),
  subst (λ (o : Own). IsKept after (upcoming o) h) (sym unchanged.1) (subst (λ (s : ServerOf 1). IsKept s (upcoming (own_in old)) h) (sym unchanged.0) kept),
)

-- ---- clients

-- an event for which no number is drawn, and none used
pub still : {K : Type 0} {k : keeper.Ghosts K} {N : ℕ} (h : client.History) (event : client.Event) (entry : client.Entry) (old new : Source K k) (c : Client N)
    → new ≡ old → asking.KeptStep h event entry (own_in old) (own_in old) c
    → ClientNumbers (client_state h old) (client_state (client.Then h event entry) new) × asking.IsKept c (upcoming (own_in new)) (client.Then h event entry)
still {K = K} {k = k} h event entry old new c same step =
    subst (λ (s : Source K k). ClientNumbers (client_state h old) (client_state (client.Then h event entry) s) × asking.IsKept c (upcoming (own_in s)) (client.Then h event entry)) (sym same)
    ((event, entry, refl, step.numbers, refl), step.kept)

-- a refused request: by the keeper, which moves the clock alone, or as the client answers
pub unsent_step : {K T : Type 0} {k : keeper.Ghosts K} {N : ℕ} (h : client.History) (old : Source K k) (now : ℕ) (plain : List ℕ) (room : ℕ) (e : RequestError) (new : Source K k)
    (p : Parts) (after : Client N) → IsDatagram p plain
    → (IsErrOf {T = T} (Err e) requests.KeeperFailed → (own_in new ≡ own_in old) × (k.failures new.keeper ≡ k.failures old.keeper + 1) × asking.IsKept after (upcoming (own_in new)) (client.Then h (client.Advance now) client.Advanced))
    → ((IsErrOf {T = T} (Err e) requests.KeeperFailed → ⊥) → Worked old new)
    → ((IsErrOf {T = T} (Err e) requests.KeeperFailed → ⊥) → asking.KeptStep h (client.Request now p room) (client.NotSent e) (own_in old) (own_in new) after)
    → (g : client.History) × RequestStep N (client_state h old) now plain room (asked.NotSent e) (client_state g new) × asking.IsKept after (upcoming (own_in new)) g
unsent_step h old now plain room requests.KeeperFailed new p after is failed worked answered =
    let f = failed refl in
    (_, (p, is, refl, (f.1, f.0)), f.2)
unsent_step h old now plain room e new p after is failed worked answered =
    let step = answered (λ is. cc) in
    (_, ((p, is, (step.row, refl)), (_, _, refl, step.numbers, worked (λ is. cc))), step.kept)
