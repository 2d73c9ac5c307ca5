-- What each entry of a client's run is.
use Rattle.std.proofs.Common.{◌≡◌, ℕ, zero, suc, ◌∙◌, sym, ap, subst, refl, Some, List, [], ◌∷◌}
use Rattle.std.specs.Prelude.{max, slice_get, unwrap_or}
use Rattle.osc_coap.specs.Laws.{DatagramIsOneMessage}
use Rattle.osc_protect.specs.Laws.{OneResponseHead}
use Rattle.osc_endpoint.specs.declared.client_event.ClientEvent.{ClientEvent}
use Rattle.osc_endpoint.specs.declared.client_event.ClientEvent.TheVariants as events
use Rattle.osc_endpoint.specs.declared.client_event.ClientEntry.{ClientEntry}
use Rattle.osc_endpoint.specs.declared.client_event.ClientEntry.TheVariants as entries
use Rattle.osc_client.specs.Awaited.{AwaitedShowHeads, OneAwaited}
use Rattle.osc_client.specs.ClientAnswer.{ClientAnswer, ResponseAnswer}
use Rattle.osc_laws.specs.ClientHeadline.{ClientHeadline, ClientRowsExclude, EntryStands, GoesOnAlone, StandsAt}
use Rattle.osc_client.specs.ClientHistory as client
use Rattle.osc_client.specs.ClientHistory.{Datagram, Entry, Event, History, Took, clock}
use Rattle.osc_laws.specs.ClientLaws.{AllClientAnswers, OneClientAnswer}
use Rattle.osc_endpoint.specs.ClientRun.{ClientRunStep, GoesOn, RequestStep, Run}
use Rattle.osc_client.proofs.ClientDeliveries.{hears_row, row_hears, shown_hearing}
use Rattle.osc_laws.proofs.OneClientAnswers.{tokens_differ}

-- ---- rows

-- one entry, so one answer
same_answer : (x y : client.Answer) → Took x ≡ Took y → x ≡ y
same_answer x y e = cc

pub rows_exclude : DatagramIsOneMessage → OneResponseHead → OneAwaited → AwaitedShowHeads → OneClientAnswer → ClientRowsExclude
rows_exclude message head laws shows one c h all =
    let differ = tokens_differ c h all in
    record {
      one = λ now d x y row other. same_answer x y (one c h (Datagram now d) (Took x) (Took y) all row other);
      hearing = λ now n d x continuing own m row. (
        (λ e. row_hears h now n d x continuing own m row e),
        (λ is. hears_row message head laws shows h now n d continuing own m differ is x row),
      );
      entry = λ event x y row. ((λ e. subst (ClientAnswer c h event) e row), (λ other. one c h event x y all row other));
    }

-- ---- one event of a run

module _ (rows : ClientRowsExclude) (c : ℕ) where
  alone : (h g : History) (event : Event) (entry : Entry) → GoesOn c h event entry g → AllClientAnswers c h → AllClientAnswers c g × GoesOnAlone c h g
  alone h g event entry (row, is) all = (subst (AllClientAnswers c) (sym is) (all, row), (event, entry, is, λ other. (rows c h all).entry event entry other row))

  requested : (h g : History) (now : ℕ) (plain : List ℕ) (room : ℕ) (x : ClientEntry) → RequestStep c h now plain room x g → AllClientAnswers c h
      → AllClientAnswers c g × GoesOnAlone c h g
  requested h g now plain room (entries.Sent number datagram) (number_is, p, message, goes) all = alone h g _ _ goes all
  requested h g now plain room (entries.NotSent e) (p, message, goes) all = alone h g _ _ goes all
  requested h g now plain room (entries.BadPlain e) (fault, goes) all = alone h g _ _ goes all
  requested h g now plain room x step all = absurd step

  asked : (h g : History) (e : ClientEvent) (x : ClientEntry) → ClientRunStep c h e x g → AllClientAnswers c h → AllClientAnswers c g × GoesOnAlone c h g
  asked h g (events.Request now plain out) x step all = requested h g now plain.items _ x step all
  asked h g (events.Datagram now bytes) (entries.Took outcome) (answer, shows, goes) all = alone h g _ _ goes all
  asked h g (events.Forget token) (entries.Forgot was_pending) goes all = alone h g _ _ goes all
  asked h g (events.Restart first) entries.Restarted goes all = alone h g _ _ goes all
  asked h g e x step all = absurd step

  stands : (h g : History) (e : ClientEvent) (x : ClientEntry) → ClientRunStep c h e x g → AllClientAnswers c h → EntryStands h e x
  stands h g (events.Datagram now bytes) (entries.Took outcome) (answer, shows, goes) all =
      let r = rows c h all in
      let same = shown_hearing outcome answer shows in
      record {
        hearing = λ continuing n own m.
            let exact = r.hearing now n bytes.items answer continuing own m goes.0 in
            ((λ e. exact.0 (sym same ∙ e)), (λ d. same ∙ exact.1 d));
        answer = answer;
        shows = shows;
        row = λ y. ((λ e. subst (ResponseAnswer h (max (clock h) now) bytes.items) e goes.0), (λ other. r.one now bytes.items answer y goes.0 other));
      }
  stands h g (events.Datagram now bytes) (entries.Sent number datagram) step all = tt
  stands h g (events.Datagram now bytes) (entries.NotSent e) step all = tt
  stands h g (events.Datagram now bytes) (entries.BadPlain e) step all = tt
  stands h g (events.Datagram now bytes) (entries.Forgot was_pending) step all = tt
  stands h g (events.Datagram now bytes) entries.Restarted step all = tt
  stands h g (events.Request now plain out) x step all = tt
  stands h g (events.Forget token) x step all = tt
  stands h g (events.Restart first) x step all = tt

  -- ---- runs

  all_after : (h g : History) (es : List ClientEvent) (xs : List ClientEntry) → Run c h es xs g → AllClientAnswers c h → AllClientAnswers c g
  all_after h g [] [] same all = subst (AllClientAnswers c) (sym same) all
  all_after h g [] (x ∷ xs) run all = absurd run
  all_after h g (e ∷ es) [] run all = absurd run
  all_after h g (e ∷ es) (x ∷ xs) (mid, step, run) all = all_after mid g es xs run (asked h mid e x step all).0

  at_place : (h g : History) (es : List ClientEvent) (xs : List ClientEntry) → AllClientAnswers c h → Run c h es xs g
      → (k : ℕ) (e : ClientEvent) (x : ClientEntry) → slice_get es k ≡ Some e → slice_get xs k ≡ Some x → StandsAt c h es xs k e x
  at_place h g [] xs all run k e x e_is x_is = cc
  at_place h g (d ∷ ds) [] all run k e x e_is x_is = absurd run
  at_place h g (d ∷ ds) (y ∷ ys) all (mid, step, run) zero e x e_is x_is =
      let first : d ≡ e = ap (λ o. unwrap_or o d) e_is in
      let shown : y ≡ x = ap (λ o. unwrap_or o y) x_is in
      let (after, goes) = asked h mid d y step all in
      subst (λ q. StandsAt c h (d ∷ ds) (y ∷ ys) zero q x) first (subst (λ q. StandsAt c h (d ∷ ds) (y ∷ ys) zero d q) shown (record {
        before = h;
        run = refl;
        all = all;
        after = mid;
        step = step;
        alone = goes;
        stands = stands h mid d y step all;
      }))
  at_place h g (d ∷ ds) (y ∷ ys) all (mid, step, run) (suc k) e x e_is x_is =
      let r = at_place mid g ds ys (asked h mid d y step all).0 run k e x e_is x_is in
      record {
        before = r.before;
        run = (mid, step, r.run);
        all = r.all;
        after = r.after;
        step = r.step;
        alone = r.alone;
        stands = r.stands;
      }

pub client_entries_stand : ClientRowsExclude → ClientHeadline
client_entries_stand rows c h g es xs all run = (all_after rows c h g es xs run all, λ k e x e_is x_is. at_place rows c h g es xs all run k e x e_is x_is)
