-- What a line asks of an end of a run is what its event or its other context does.
use Rattle.std.proofs.Common.{◌≡◌, ℕ, List, [], ◌∷◌, ◌++◌, Option, None, Result, refl, subst}
use Rattle.osc_client.specs.Agrees.{ClientAgrees}
use Rattle.osc_client.specs.ClientHistory as client
use Rattle.osc_client.specs.declared.client.Client.{Client}
use Rattle.osc_context.specs.SecurityContext.{SecurityContext}
use Rattle.osc_context.specs.Views.{as_client, as_server, number_of}
use Rattle.osc_context.specs.declared.context.Context.{Context}
use Rattle.osc_context.specs.declared.partial_iv.Piv.{Piv}
use Rattle.osc_endpoint.specs.Agrees.{Agrees}
use Rattle.osc_endpoint.specs.declared.client_event.ClientEvent.{ClientEvent}
use Rattle.osc_endpoint.specs.declared.server.ServerOf.{ServerOf}
use Rattle.osc_endpoint.specs.declared.server_event.ServerEvent.{ServerEvent}
use Rattle.osc_life.specs.ServerHistory.{History, TicketValues}
use Rattle.osc_life.specs.declared.start.Start.{Start}
use Rattle.osc_text.specs.AskedReading.{HasRoom, asked_seen}
use Rattle.osc_text.specs.Asking.{ClientLine, EventLine as AskedEventLine, ReplaceLine as AskedReplaceLine}
use Rattle.osc_text.specs.Feeding.{RunsEvent}
use Rattle.osc_text.specs.ReplaceReading.{IsAsked, IsServed, asking_seen, served_seen}
use Rattle.osc_text.specs.RunEnds.{asking_state, serving_state}
use Rattle.osc_text.specs.ServedReading.{IsOfRun, event_seen}
use Rattle.osc_text.specs.Serving.{EventLine, ReplaceLine, ServerLine}
use Rattle.osc_text.specs.declared.asking.AskingEnd.{AskingEnd}
use Rattle.osc_text.specs.declared.fault.Fault.{Fault}
use Rattle.osc_text.specs.declared.replacing.AskedLine.{AskedLine}
use Rattle.osc_text.specs.declared.replacing.AskedLine.TheVariants as asked
use Rattle.osc_text.specs.declared.replacing.ServedLine.{ServedLine}
use Rattle.osc_text.specs.declared.replacing.ServedLine.TheVariants as served
use Rattle.osc_text.specs.declared.serving.ServingEnd.{ServingEnd}
use Rattle.osc_text.proofs.EachLines.{runs_as}

-- ---- a client

module _ (end : AskingEnd) (left : Client 16) (l : AskedLine) (old new : Option (List ℕ)) (r : Result (Unit {0}) Fault) where
  -- what is said of the line
  abbrev Asks : AskedLine → List ℕ → Type 0
  Asks line text = (h : client.History) → ClientAgrees end.client h → IsAsked line → (k : client.History) × ClientLine (asking_state end h) (asking_seen line) text (asking_state (record { client = left; common = end.common }) k) × ClientAgrees left k

  -- what an event does
  abbrev AsksEvent : ClientEvent → List ℕ → Type 0
  AsksEvent event line = (h : client.History) → ClientAgrees end.client h → HasRoom event → (k : client.History) × AskedEventLine h (asked_seen event) line k × ClientAgrees left k

  event_as : (event : ClientEvent) (line : List ℕ) → AsksEvent event line → Asks (asked.Event event) line
  event_as event line does h agrees room = let (k, goes, next) = does h agrees room in (k, (goes, refl), next)

  pub asks_event : (event : ClientEvent) → asked.Event event ≡ l → RunsEvent (AsksEvent event) old new r → RunsEvent (Asks l) old new r
  asks_event event is runs = subst (λ (x : AskedLine). RunsEvent (Asks x) old new r) is (runs_as (AsksEvent event) (Asks (asked.Event event)) old new r (event_as event) runs)

  -- what another context does
  abbrev AsksReplace : Context → Piv → List ℕ → Type 0
  AsksReplace given next line = (h : client.History) → ClientAgrees end.client h → (k : client.History) × AskedReplaceLine h (as_client given) (number_of next) line k × ClientAgrees left k

  replace_as : (context given : Context) (next : Piv) → as_client given ≡ record (as_client context) { features = end.common.features } → (line : List ℕ) → AsksReplace given next line → Asks (asked.Replace context next) line
  replace_as context given next with_these line does h agrees room =
      let (k, goes, next_agrees) = does h agrees in
      (k, (subst (λ (s : SecurityContext). AskedReplaceLine h s (number_of next) line k) with_these goes, refl), next_agrees)

  pub asks_replace : (context given : Context) (next : Piv) → asked.Replace context next ≡ l → as_client given ≡ record (as_client context) { features = end.common.features } → RunsEvent (AsksReplace given next) old new r
      → RunsEvent (Asks l) old new r
  asks_replace context given next is with_these runs =
      subst (λ (x : AskedLine). RunsEvent (Asks x) old new r) is (runs_as (AsksReplace given next) (Asks (asked.Replace context next)) old new r (replace_as context given next with_these) runs)

-- ---- a server

module _ (end : ServingEnd) (left : ServerOf 1) (ts us : List (Option TicketValues)) (l : ServedLine) (old new : Option (List ℕ)) (r : Result (Unit {0}) Fault) where
  -- what is said of the line
  abbrev Serves : ServedLine → List ℕ → Type 0
  Serves line text = (h : History) → Agrees end.server h → IsServed line
      → (k : History) × ServerLine (serving_state end ts h) (served_seen line) text (serving_state (record { server = left; window = end.window; common = end.common }) us k) × Agrees left k

  -- what an event does
  abbrev ServesEvent : ServerEvent → List ℕ → Type 0
  ServesEvent event line = (h : History) → Agrees end.server h → IsOfRun event → (k : History) × EventLine h ts (event_seen event) line k us × Agrees left k

  served_as : (event : ServerEvent) (line : List ℕ) → ServesEvent event line → Serves (served.Event event) line
  served_as event line does h agrees room = let (k, goes, next) = does h agrees room in (k, (goes, (refl, refl)), next)

  pub serves_event : (event : ServerEvent) → served.Event event ≡ l → RunsEvent (ServesEvent event) old new r → RunsEvent (Serves l) old new r
  serves_event event is runs = subst (λ (x : ServedLine). RunsEvent (Serves x) old new r) is (runs_as (ServesEvent event) (Serves (served.Event event)) old new r (served_as event) runs)

  -- what another context does
  abbrev ServesReplace : Context → Start → List ℕ → Type 0
  ServesReplace given start line = (h : History) → Agrees end.server h → (k : History) × ReplaceLine h (as_server given) start end.window line k × Agrees left k × (us ≡ ts ++ None ∷ [])

  replaced_as : (context given : Context) (start : Start) → as_server given ≡ record (as_server context) { features = end.common.features } → (line : List ℕ) → ServesReplace given start line → Serves (served.Replace context start) line
  replaced_as context given start with_these line does h agrees room =
      let (k, goes, next_agrees, tickets) = does h agrees in
      (k, (subst (λ (s : SecurityContext). ReplaceLine h s start end.window line k) with_these goes, tickets, (refl, refl)), next_agrees)

  pub serves_replace : (context given : Context) (start : Start) → served.Replace context start ≡ l → as_server given ≡ record (as_server context) { features = end.common.features } → RunsEvent (ServesReplace given start) old new r
      → RunsEvent (Serves l) old new r
  serves_replace context given start is with_these runs =
      subst (λ (x : ServedLine). RunsEvent (Serves x) old new r) is (runs_as (ServesReplace given start) (Serves (served.Replace context start)) old new r (replaced_as context given start with_these) runs)
