-- Two ends without Observe, over all their lives. ends is what holds of each history of such an end.
use Rattle.std.proofs.Common.{◌≡◌, ℕ, ◌∙◌, sym, ap, subst, false, Some, None, List}
use Rattle.std.specs.List.{AllByRecursion}
use Rattle.std.specs.Prelude.{max}
use Rattle.std.specs.Option.{option_map}
use Rattle.osc_context.specs.SecurityContext.{SecurityContext}
use Rattle.osc_client.specs.ClientHistory as client
use Rattle.osc_laws.specs.ClientLaws.{AllClientAnswers}
use Rattle.osc_laws.specs.Laws.{delivered}
use Rattle.osc_life.specs.Life.{Life}
use Rattle.osc_laws.specs.Plainness.{ClientIsPlain, EndsArePlain, ServerIsPlain, WithoutObserve}
use Rattle.osc_endpoint.specs.ServerAnswer.{ServerAnswer, arrival}
use Rattle.osc_life.specs.ServerHistory as server
use Rattle.osc_kept.specs.KeptPlainness.{IsPlain, KeptEndsArePlain}
use Rattle.osc_kept.specs.Premises.{AtEach, Answers}
use Rattle.osc_kept.specs.World.{World, Begin, Then, ClientStarts, ServerStarts, AtClient, AtServer, Has, client_history, server_history}
use Rattle.osc_kept.proofs.Digest.{digest}
use Rattle.osc_kept.proofs.Fitting.{all_at, context_in, has_middle, left_given, same_life}
use Rattle.osc_kept.proofs.Lives.{Stands, no_skip, no_took, some_is, stands}
use Rattle.osc_kept.proofs.Owned.{runs}
use Rattle.osc_laws.proofs.DeliveredNumbers.{no_other}

abbrev AllPlain : List server.TicketValues → Type 0
AllPlain ts = AllByRecursion (λ (t : server.TicketValues). t.observes ≡ false) ts

-- ---- the client

client_answers : (n : ℕ) (s : SecurityContext) (w : World) (h : client.History) → AtEach (Answers n s) w → client_history s w ≡ Some h → AllClientAnswers n h
client_answers n s Begin h a e = absurd (let f : None ≡ Some h = e in cc)
client_answers n s (Then w (ClientStarts loaded ms)) h a e = subst (AllClientAnswers n) (some_is e) tt
client_answers n s (Then w (AtClient event entry)) h a e =
    let same : client.Then a.1.0 event entry ≡ h = some_is (sym (ap (λ x. option_map (λ g. client.Then g event entry) x) a.1.1) ∙ e) in
    subst (AllClientAnswers n) same (client_answers n s w a.1.0 a.0 a.1.1, a.1.2)
client_answers n s (Then w event) h a e = client_answers n s w h a.0 e

module _ (ends : EndsArePlain) (n : ℕ) (s : SecurityContext) (off : s.features.observe ≡ false) where
  client_plain : (w : World) (h : client.History) → AtEach (Answers n s) w → client_history s w ≡ Some h → ClientIsPlain h
  client_plain w h a e = ends.client n h (client_answers n s w h a e) (ap (λ (x : SecurityContext). x.features.observe) (runs n s w h a e).context_is ∙ off)

  -- ---- the server

  server_plain : (w : World) (h : server.History) → AtEach (Answers n s) w → server_history s w ≡ Some h → ServerIsPlain h
  server_plain w h a e =
      let i : Stands s (digest s w) h = stands n s w h a e in
      let without : WithoutObserve h = λ j of l. ap (λ (x : Life). x.context.features.observe) (same_life s (digest s w) h j of i l) ∙ ap (λ (x : SecurityContext). x.features.observe) (context_in s (digest s w)) ∙ off in
      ends.server h without

  given_step : (g : server.History) (event : server.Event) (entry : server.Entry) → ServerIsPlain g → ServerAnswer g event entry → AllPlain (delivered g) → AllPlain (delivered (server.Then g event entry))
  given_step g (server.Datagram now echo mid d) (server.Took (server.Deliver received t) reply) plain row all = (plain.delivered (arrival g now echo mid d) received t row.0, all)
  given_step g (server.Add context start size places) (server.Took (server.Deliver received t) reply) plain row all = absurd row.1
  given_step g (server.Reply t own mid p room) (server.Took (server.Deliver received u) reply) plain row all = absurd row.2
  given_step g (server.Notify t p room) (server.Took (server.Deliver received u) reply) plain row all = absurd row.1.2
  given_step g (server.Restart c next) (server.Took (server.Deliver received t) reply) plain row all = absurd (no_took (server.life g c) (server.Deliver received t) reply row)
  given_step g (server.Replace c by start size) (server.Took (server.Deliver received t) reply) plain row all = absurd (no_other (server.life g c) (server.Took (server.Deliver received t) reply) tt row.1)
  given_step g (server.Skip c count) (server.Took (server.Deliver received t) reply) plain row all = absurd (no_skip (server.life g c) count (server.Deliver received t) reply row)
  given_step g (server.Advance now) (server.Took (server.Deliver received t) reply) plain row all = absurd row
  given_step g event entry plain row all = all

  -- no ticket that a delivery gave observes
  given_plain : (w : World) (h : server.History) → AtEach (Answers n s) w → server_history s w ≡ Some h → AllPlain (delivered h)
  given_plain Begin h a e = absurd (let f : None ≡ Some h = e in cc)
  given_plain (Then w (ServerStarts start size)) h a e = subst (λ x. AllPlain (delivered x)) (some_is e) tt
  given_plain (Then w (AtServer event entry)) h a e =
      let same : server.Then a.1.0 event entry ≡ h = some_is (sym (ap (λ x. option_map (λ g. server.Then g event entry) x) a.1.1) ∙ e) in
      subst (λ x. AllPlain (delivered x)) same
      (given_step a.1.0 event entry (server_plain w a.1.0 a.0 a.1.1) a.1.2 (given_plain w a.1.0 a.0 a.1.1))
  given_plain (Then w event) h a e = given_plain w h a.0 e

  -- ---- each event

  server_event : (w : World) (event : server.Event) (entry : server.Entry) → AtEach (Answers n s) w → Answers n s w (AtServer event entry) → IsPlain w (AtServer event entry)
  server_event w (server.Datagram now echo mid d) (server.Took (server.Deliver received t) reply) a x =
      (server_plain w x.0 a x.1).delivered (arrival x.0 now echo mid d) received t x.2.0
  server_event w (server.Notify t p room) (server.Replied bytes) a x =
      let (ts, (left, (front, back, is))) = x.4 in
      let given = left_given x.0 ts t left (subst (λ us. Has t us) (sym is) (has_middle front back t)) in
      let plain = all_at (λ (u : server.TicketValues). u.observes ≡ false) (delivered x.0) t (given_plain w x.0 a x.1) given in
      (server_plain w x.0 a x.1).notified t p room bytes plain x.2
  server_event w (server.Reply t own mid p room) (server.Replied bytes) a x = λ asked.
      let (ts, (before, left, (front, back, was, is))) = x.4 in
      let given = left_given x.0 before t left (subst (λ us. Has t us) (sym was) (has_middle front back t)) in
      let plain = all_at (λ (u : server.TicketValues). u.observes ≡ false) (delivered x.0) t (given_plain w x.0 a x.1) given in
      (server_plain w x.0 a x.1).replied t asked plain
  server_event w event entry a x = tt

  client_event : (w : World) (event : client.Event) (entry : client.Entry) → AtEach (Answers n s) w → Answers n s w (AtClient event entry) → IsPlain w (AtClient event entry)
  client_event w (client.Datagram now d) (client.Took client.Old) a x = (client_plain w x.0 a x.1).never_old (max (client.clock x.0) now) d x.2
  client_event w (client.Datagram now d) (client.Took (client.Notified received number)) a x = (client_plain w x.0 a x.1).never_notified (max (client.clock x.0) now) d received number x.2
  client_event w event entry a x = tt

  each_plain : (w : World) → AtEach (Answers n s) w → AtEach IsPlain w
  each_plain Begin a = tt
  each_plain (Then w (AtServer event entry)) a = (each_plain w a.0, server_event w event entry a.0 a.1)
  each_plain (Then w (AtClient event entry)) a = (each_plain w a.0, client_event w event entry a.0 a.1)
  each_plain (Then w event) a = (each_plain w a.0, tt)

pub kept_plain : EndsArePlain → KeptEndsArePlain
kept_plain ends n s w off a = record { events = each_plain ends n s off w a; once = λ h e. (client_plain ends n s off w h a e).once }
