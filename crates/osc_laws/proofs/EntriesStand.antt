-- What each entry of a server's run is.
use Rattle.std.proofs.Common.{◌≡◌, ℕ, zero, suc, ◌∙◌, sym, ap, subst, refl, Bool, Option, Some, Ok, Err, List, [], ◌∷◌, inl, inr}
use Rattle.std.specs.Prelude.{slice_get, unwrap_or}
use Rattle.osc_context.specs.Views.{number_of}
use Rattle.osc_protect.specs.Laws.{OneRequestReading}
use Rattle.osc_life.specs.declared.seen.Seen.{Seen}
use Rattle.osc_life.specs.declared.seen.Seen.TheVariants as seen
use Rattle.osc_endpoint.specs.declared.server_event.ServerEvent.{ServerEvent}
use Rattle.osc_endpoint.specs.declared.server_event.ServerEvent.TheVariants as events
use Rattle.osc_endpoint.specs.declared.server_event.ServerEntry.{ServerEntry}
use Rattle.osc_endpoint.specs.declared.server_event.ServerEntry.TheVariants as entries
use Rattle.osc_laws.specs.AnswerLaws.{AnswerLaws}
use Rattle.osc_laws.specs.Headline.{EntryStands, GoesOnAlone, ServerHeadline, ServerRowsExclude, StandsAt, told}
use Rattle.osc_laws.specs.Laws.{AllAnswers, OneServerAnswer}
use Rattle.osc_observe.specs.Received.{Received}
use Rattle.osc_endpoint.specs.ServerAnswer.{MeetsRow, ServerAnswer}
use Rattle.osc_life.specs.ServerHistory as server
use Rattle.osc_life.specs.ServerHistory.{Entry, Event, History, TicketValues}
use Rattle.osc_endpoint.specs.ServerRun.{DropStep, GoesOn, NotifyStep, ReplyStep, Run, ServerRunStep}
use Rattle.osc_life.specs.Logged.{Logs}
use Rattle.osc_life.specs.Views.{seen_delivery}
use Rattle.osc_endpoint.proofs.Deliveries.{delivered, delivers_row, row_delivers}
use Rattle.osc_laws.proofs.ContextsApart.{contexts_differ}
use Rattle.osc_laws.proofs.OneAnswers.{one_row}

-- ---- rows

told_is : (answer : server.Answer) → told answer ≡ delivered answer
told_is (server.Deliver received ticket) = refl
told_is answer = refl

pub rows_exclude : AnswerLaws → OneRequestReading → OneServerAnswer → ServerRowsExclude
rows_exclude laws reading one h all =
    let each = contexts_differ h all in
    record {
      one = λ a x y row other. one_row laws h a x y each row other;
      exactly = λ a x y reply row. ((λ e. subst (MeetsRow h a) e row.0), (λ other. one_row laws h a x y each row.0 other));
      delivery = λ now mid echo d reply x i n m row. (
        (λ e. row_delivers h now mid echo d x i n m row.0 (sym (told_is x) ∙ e)),
        (λ is. told_is x ∙ delivers_row h now mid echo d x i n m reading laws.request each row.0 is),
      );
      entry = λ event x y row. ((λ e. subst (ServerAnswer h event) e row), (λ other. one h event x y all row other));
    }

-- ---- one event of a run

-- what a log shows of an answer says the delivery that it is
seen_told : (x : Seen) (answer : server.Answer) → Logs x answer → seen_delivery x ≡ told answer
seen_told (seen.Malformed e) (server.Malformed fault place) s = refl
seen_told seen.NotRequest server.NotRequest s = refl
seen_told seen.Plain server.Plain s = refl
seen_told seen.Undecodable server.Undecodable s = refl
seen_told seen.NoContext server.NoContext s = refl
seen_told seen.Replay server.Replay s = refl
seen_told seen.BadTag server.BadTag s = refl
seen_told seen.BadInner (server.BadInner i n) s = refl
seen_told (seen.Challenge echo issued) (server.Challenge i n given moment) s = refl
seen_told seen.SequenceExhausted server.SequenceExhausted s = refl
seen_told (seen.Deliver opened context number) (server.Deliver received ticket) s =
    ap (λ (r : Received). Some (context, number_of number, r.message)) s.0
    ∙ ap (λ i. Some (i, number_of number, received.message)) s.1 ∙ ap (λ n. Some (ticket.context, n, received.message)) s.2
seen_told x answer s = absurd s

goes_on : (h g : History) (event : Event) (entry : Entry) → GoesOn h event entry g → AllAnswers h → AllAnswers g
goes_on h g event entry (row, is) all = subst AllAnswers (sym is) (all, row)

module _ (rows : ServerRowsExclude) where
  alone : (h g : History) (event : Event) (entry : Entry) → GoesOn h event entry g → AllAnswers h → AllAnswers g × GoesOnAlone h g
  alone h g event entry goes all = (goes_on h g event entry goes all, inr (event, entry, goes.1, λ other. (rows h all).entry event entry other goes.0))

  stays : (h g : History) → g ≡ h → AllAnswers h → AllAnswers g × GoesOnAlone h g
  stays h g same all = (subst AllAnswers (sym same) all, inl same)

  replied : (h g : History) (ts us : List (Option TicketValues)) (of mid : ℕ) (own : Bool) (plain : List ℕ) (room : ℕ) (x : ServerEntry)
      → ReplyStep h ts of own mid plain room x g us → AllAnswers h → AllAnswers g × GoesOnAlone h g
  replied h g ts us of mid own plain room entries.NoTicket (none, same, kept) all = stays h g same all
  replied h g ts us of mid own plain room (entries.BadPlain e) (t, at, fault, same, kept) all = stays h g same all
  replied h g ts us of mid own plain room (entries.Replied (Ok sealed)) (t, at, p, datagram, goes, out, number) all = alone h g _ _ goes all
  replied h g ts us of mid own plain room (entries.Replied (Err e)) (t, at, p, datagram, goes, kept) all = alone h g _ _ goes all
  replied h g ts us of mid own plain room x step all = absurd step

  notified : (h g : History) (ts : List (Option TicketValues)) (of : ℕ) (plain : List ℕ) (room : ℕ) (x : ServerEntry) → NotifyStep h ts of plain room x g → AllAnswers h
      → AllAnswers g × GoesOnAlone h g
  notified h g ts of plain room entries.NoTicket (none, same) all = stays h g same all
  notified h g ts of plain room (entries.BadPlain e) (t, at, fault, same) all = stays h g same all
  notified h g ts of plain room (entries.Replied (Ok sealed)) (t, at, p, datagram, goes, number) all = alone h g _ _ goes all
  notified h g ts of plain room (entries.Replied (Err e)) (t, at, p, datagram, goes) all = alone h g _ _ goes all
  notified h g ts of plain room x step all = absurd step

  dropped : (h g : History) (ts us : List (Option TicketValues)) (of : ℕ) (x : ServerEntry) → DropStep h ts of x g us → AllAnswers h → AllAnswers g × GoesOnAlone h g
  dropped h g ts us of (entries.Dropped there) (is, same, out) all = stays h g same all
  dropped h g ts us of x step all = absurd step

  served : (h g : History) (ts us : List (Option TicketValues)) (e : ServerEvent) (x : ServerEntry) → ServerRunStep h ts e x g us → AllAnswers h
      → AllAnswers g × GoesOnAlone h g
  served h g ts us (events.Datagram a) (entries.Took seen reply) (answer, logs, goes, is) all = alone h g _ _ goes all
  served h g ts us (events.Reply r) x (left, step, is) all = replied h g ts left r.of r.mid r.own r.plain.items _ x step all
  served h g ts us (events.Notify r) x (step, is) all = notified h g ts r.of r.plain.items _ x step all
  served h g ts us (events.Drop of) x (left, step, is) all = dropped h g ts left of x step all
  served h g ts us (events.Restart context next) (entries.Restarted (Ok y)) (goes, is) all = alone h g _ _ goes all
  served h g ts us (events.Restart context next) (entries.Restarted (Err e)) (goes, is) all = alone h g _ _ goes all
  served h g ts us e x step all = absurd step

  stands : (h g : History) (ts us : List (Option TicketValues)) (e : ServerEvent) (x : ServerEntry) → ServerRunStep h ts e x g us → AllAnswers h → EntryStands h e x
  stands h g ts us (events.Datagram a) (entries.Took x reply) (answer, logs, goes, is) all =
      let r = rows h all in
      let same = seen_told x answer logs in
      record {
        delivery = λ i n m.
            let exact = r.delivery a.now a.fresh.mid a.fresh.echo a.bytes.items reply.now answer i n m goes.0 in
            ((λ e. exact.0 (sym same ∙ e)), (λ d. same ∙ exact.1 d));
        answer = answer;
        logs = logs;
        row = λ y. r.exactly _ answer y reply.now goes.0;
        replies = goes.0.1;
      }
  stands h g ts us (events.Datagram a) (entries.Replied r) step all = tt
  stands h g ts us (events.Datagram a) entries.NoTicket step all = tt
  stands h g ts us (events.Datagram a) (entries.BadPlain e) step all = tt
  stands h g ts us (events.Datagram a) (entries.Dropped there) step all = tt
  stands h g ts us (events.Datagram a) (entries.Restarted r) step all = tt
  stands h g ts us (events.Reply r) x step all = tt
  stands h g ts us (events.Notify r) x step all = tt
  stands h g ts us (events.Drop of) x step all = tt
  stands h g ts us (events.Restart context next) x step all = tt

  -- ---- runs

  all_after : (h g : History) (ts us : List (Option TicketValues)) (es : List ServerEvent) (xs : List ServerEntry) → Run h ts es xs g us → AllAnswers h → AllAnswers g
  all_after h g ts us [] [] (same, kept) all = subst AllAnswers (sym same) all
  all_after h g ts us [] (x ∷ xs) run all = absurd run
  all_after h g ts us (e ∷ es) [] run all = absurd run
  all_after h g ts us (e ∷ es) (x ∷ xs) (mid, vs, step, run) all = all_after mid g vs us es xs run (served h mid ts vs e x step all).0

  at_place : (h g : History) (ts us : List (Option TicketValues)) (es : List ServerEvent) (xs : List ServerEntry) → AllAnswers h → Run h ts es xs g us
      → (k : ℕ) (e : ServerEvent) (x : ServerEntry) → slice_get es k ≡ Some e → slice_get xs k ≡ Some x → StandsAt h ts es xs k e x
  at_place h g ts us [] xs all run k e x e_is x_is = cc
  at_place h g ts us (d ∷ ds) [] all run k e x e_is x_is = absurd run
  at_place h g ts us (d ∷ ds) (y ∷ ys) all (mid, vs, step, run) zero e x e_is x_is =
      let first : d ≡ e = ap (λ o. unwrap_or o d) e_is in
      let shown : y ≡ x = ap (λ o. unwrap_or o y) x_is in
      let (after, goes) = served h mid ts vs d y step all in
      subst (λ q. StandsAt h ts (d ∷ ds) (y ∷ ys) zero q x) first (subst (λ q. StandsAt h ts (d ∷ ds) (y ∷ ys) zero d q) shown (record {
        before = h;
        left = ts;
        run = (refl, refl);
        all = all;
        after = mid;
        given = vs;
        step = step;
        alone = goes;
        stands = stands h mid ts vs d y step all;
      }))
  at_place h g ts us (d ∷ ds) (y ∷ ys) all (mid, vs, step, run) (suc k) e x e_is x_is =
      let r = at_place mid g vs us ds ys (served h mid ts vs d y step all).0 run k e x e_is x_is in
      record {
        before = r.before;
        left = r.left;
        run = (mid, vs, step, r.run);
        all = r.all;
        after = r.after;
        given = r.given;
        step = r.step;
        alone = r.alone;
        stands = r.stands;
      }

  pub entries_stand : ServerHeadline
  entries_stand h g ts us es xs all run = (all_after h g ts us es xs run all, λ k e x e_is x_is. at_place h g ts us es xs all run k e x e_is x_is)
