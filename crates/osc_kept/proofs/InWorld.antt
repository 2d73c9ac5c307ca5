-- An answer of a kept end leaves a world that meets the premises.
use Rattle.std.proofs.Common.{◌≡◌, ℕ, ◌<◌, ◌≤◌, ◌^◌, ◌∙◌, sym, ap, subst, refl, arith, Bool, true, false, Option, Some, None, List, [], ◌∷◌, inl, inr, ◌==◌, if◌then◌else◌}
use Rattle.std.specs.Prelude.{max, unwrap_or}
use Rattle.std.specs.Option.{option_map, option_and_then}
use Rattle.osc_context.specs.Reserving.{next_limit}
use Rattle.osc_context.specs.SecurityContext.{SecurityContext, IsUsable}
use Rattle.osc_context.specs.Views.{number_of}
use Rattle.osc_context.specs.declared.partial_iv.Piv.{Piv}
use Rattle.osc_coap.specs.Datagram.{Parts}
use Rattle.osc_protect.specs.CipherLaws.{request_seal, response_seal}
use Rattle.osc_window.specs.declared.window_size.WindowSize.{WindowSize}
use Rattle.osc_life.specs.declared.start.Start.{Start}
use Rattle.osc_life.specs.declared.start.Start.TheVariants as starts
use Rattle.osc_client.specs.ClientAnswer.{ClientAnswer}
use Rattle.osc_client.specs.ClientHistory as client
use Rattle.osc_endpoint.specs.Tickets.{TakesTickets}
use Rattle.osc_life.specs.Life.{Life, Mark, in_force, marked, renewed}
use Rattle.osc_endpoint.specs.ServerAnswer.{ServerAnswer, IsTaken}
use Rattle.osc_life.specs.ServerHistory as server
use Rattle.osc_kept.specs.GoingOn.{ClientRuns, GoesOn, HasSavedFirst, IsDrawn, SavesFirst, ServerRuns, needs_no_echo, server_started}
use Rattle.osc_kept.specs.InWorld.{ClientInWorld, ClientStartsInWorld, ClientStays, ClientTrusts, IsAsClaimed, IsHeld, IsUnseen, ServerInWorld, ServerStartsInWorld, ServerStays, ServerTrusts}
use Rattle.osc_kept_ends.specs.KeptAsking as asking
use Rattle.osc_kept_ends.specs.KeptServing as serving
use Rattle.osc_kept.specs.Claims.{TwoEnds}
use Rattle.osc_kept_ends.specs.Numbering.{Own, AreAlike}
use Rattle.osc_kept.specs.Premises.{Answers, AtEach, EchoIsNew, IsKept, BringsNoContext, LoadsNoneBelow, NobodyForges, NobodyForgesRequests, NobodyForgesResponses, NumbersAreKept, SealedByClient, SealedByServer}
use Rattle.osc_kept.specs.World.{World, Begin, Then, End, Client, Server, ClientStarts, ServerStarts, Draws, Reserves, AtClient, AtServer, Has, answered, client_history, numbers, sent, server_history}
use Rattle.osc_kept.proofs.Beginning.{more_kept}
use Rattle.osc_kept.proofs.GoingOn.{client_begins, client_goes_on, client_is, client_none, load_is, no_load, server_begins, server_goes_on, server_is, server_none}
use Rattle.osc_kept.proofs.Lives.{Stands, no_skip, no_took, some_is, stands}
use Rattle.osc_kept.proofs.Rising.{limit_above}
use Rattle.osc_kept.proofs.Saving.{fresh_by_saving, saved_still}
use Rattle.osc_laws.proofs.DeliveredNumbers.{no_other}

-- ---- tickets

pub had_tickets : (n : ℕ) (s : SecurityContext) (w : World) (h : server.History) → AtEach (Answers n s) w → server_history s w ≡ Some h → TakesTickets h
had_tickets n s Begin h a e = let f : None ≡ Some h = e in cc
had_tickets n s (Then w (ServerStarts start size)) h a e = subst TakesTickets (some_is e) ([], refl)
had_tickets n s (Then w (AtServer event entry)) h a e =
    subst TakesTickets (some_is (sym (ap (λ x. option_map (λ g. server.Then g event entry) x) a.1.1) ∙ e)) a.1.4
had_tickets n s (Then w event) h a e = had_tickets n s w h a.0 e

-- a reply or a notification that is sealed has a ticket that is held
abbrev pub HasTicket : server.History → server.Event → server.Entry → Type 0
HasTicket h (server.Reply t own mid p room) (server.Replied bytes) = IsHeld h t
HasTicket h (server.Notify t p room) (server.Replied bytes) = IsHeld h t
HasTicket h event entry = Unit {0}

has_ticket : (s : SecurityContext) (w : World) (h : server.History) (event : server.Event) (entry : server.Entry) → ServerTrusts s w h event entry → HasTicket h event entry
has_ticket s w h (server.Reply t own mid p room) (server.Replied bytes) x = x
has_ticket s w h (server.Notify t p room) (server.Replied bytes) x = x
has_ticket s w h event entry x = tt

pub tickets_step : (h : server.History) (event : server.Event) (entry : server.Entry) → HasTicket h event entry → ServerAnswer h event entry → TakesTickets h
    → TakesTickets (server.Then h event entry)
tickets_step h (server.Datagram now echo mid d) (server.Took (server.Deliver received t) reply) p a x = (t ∷ x.0, (x.0, x.1, refl))
tickets_step h (server.Add context start size places) (server.Took (server.Deliver received t) reply) p a x = absurd a.1
tickets_step h (server.Reply t own mid q room) (server.Took (server.Deliver received u) reply) p a x = absurd a.2
tickets_step h (server.Notify t q room) (server.Took (server.Deliver received u) reply) p a x = absurd a.1.2
tickets_step h (server.Restart c next) (server.Took (server.Deliver received t) reply) p a x = absurd (no_took (server.life h c) (server.Deliver received t) reply a)
tickets_step h (server.Replace c by start size) (server.Took (server.Deliver received t) reply) p a x = absurd (no_other (server.life h c) (server.Took (server.Deliver received t) reply) tt a.1)
tickets_step h (server.Skip c count) (server.Took (server.Deliver received t) reply) p a x = absurd (no_skip (server.life h c) count (server.Deliver received t) reply a)
tickets_step h (server.Advance now) (server.Took (server.Deliver received t) reply) p a x = absurd a
tickets_step h (server.Reply t own mid q room) (server.Replied bytes) p a x = (p.1, (p.0, p.2, p.3))
tickets_step h (server.Notify t q room) (server.Replied bytes) p a x = (p.0, (p.2, (p.3.0, p.3.1, p.3.2)))
tickets_step h event entry p a x = x

-- ---- a draw changes no premise

pub forges_still : (s : SecurityContext) (w v : World) (d : List ℕ) → sent s v ≡ sent s w → NobodyForgesRequests s w d → NobodyForgesRequests s v d
forges_still s w v d e f n m p =
    let x : SealedByClient s w (request_seal s n) p.outer.payload = f n m p in
    record {
      request = x.request;
      was_sent = subst (λ rs. Has x.request rs) (sym e) x.was_sent;
      input_is = x.input_is;
      bytes = x.bytes;
      protects = x.protects;
      text_is = x.text_is;
    }

pub same_sent : (of : End) (s : SecurityContext) (w v : World) → IsDrawn of w v → sent s v ≡ sent s w
same_sent of s w v (inl e) = ap (sent s) e
same_sent of s w v (inr (inl e)) = ap (sent s) e
same_sent of s w v (inr (inr e)) = ap (sent s) e

pub same_answered : (of : End) (s : SecurityContext) (w v : World) → IsDrawn of w v → answered s v ≡ answered s w
same_answered of s w v (inl e) = ap (answered s) e
same_answered of s w v (inr (inl e)) = ap (answered s) e
same_answered of s w v (inr (inr e)) = ap (answered s) e

same_client : (of : End) (s : SecurityContext) (w v : World) → IsDrawn of w v → client_history s v ≡ client_history s w
same_client of s w v (inl e) = ap (client_history s) e
same_client of s w v (inr (inl e)) = ap (client_history s) e
same_client of s w v (inr (inr e)) = ap (client_history s) e

same_client_numbers : (s : SecurityContext) (w v : World) → IsDrawn Server w v → numbers Client s v ≡ numbers Client s w
same_client_numbers s w v (inl e) = ap (numbers Client s) e
same_client_numbers s w v (inr (inl e)) = ap (numbers Client s) e
same_client_numbers s w v (inr (inr e)) = ap (numbers Client s) e

same_server_numbers : (s : SecurityContext) (w v : World) → IsDrawn Client w v → numbers Server s v ≡ numbers Server s w
same_server_numbers s w v (inl e) = ap (numbers Server s) e
same_server_numbers s w v (inr (inl e)) = ap (numbers Server s) e
same_server_numbers s w v (inr (inr e)) = ap (numbers Server s) e

same_history : (of : End) (s : SecurityContext) (w v : World) → IsDrawn of w v → server_history s v ≡ server_history s w
same_history of s w v (inl e) = ap (server_history s) e
same_history of s w v (inr (inl e)) = ap (server_history s) e
same_history of s w v (inr (inr e)) = ap (server_history s) e

draw_lawful : (n : ℕ) (s : SecurityContext) (w : World) (of : End) → IsKept n s w → AtEach (NumbersAreKept s) (Then w (Draws of)) → IsKept n s (Then w (Draws of))
draw_lawful n s w of i k = more_kept n s w (Draws of) i tt tt tt tt k

reserve_lawful : (n : ℕ) (s : SecurityContext) (w : World) (of : End) → IsKept n s w → AtEach (NumbersAreKept s) (Then w (Reserves of)) → IsKept n s (Then w (Reserves of))
reserve_lawful n s w of i k = more_kept n s w (Reserves of) i tt tt tt tt k

still_lawful : (n : ℕ) (s : SecurityContext) (w v : World) (of : End) → IsDrawn of w v → IsKept n s w → AtEach (NumbersAreKept s) v → IsKept n s v
still_lawful n s w v of (inl e) i k = subst (IsKept n s) (sym e) i
still_lawful n s w v of (inr (inl e)) i k = subst (IsKept n s) (sym e) (draw_lawful n s w of i (subst (AtEach (NumbersAreKept s)) e k))
still_lawful n s w v of (inr (inr e)) i k = subst (IsKept n s) (sym e) (reserve_lawful n s w of i (subst (AtEach (NumbersAreKept s)) e k))

-- ---- the datagram

fresh_value : (o : Option (List ℕ × ℕ)) (echo given : List ℕ) (clock issued : ℕ) → o ≡ None → (given, issued) ≡ unwrap_or o (echo, clock) → given ≡ echo
fresh_value None echo given clock issued e f = ap (λ (x : List ℕ × ℕ). x.0) f
fresh_value (Some x) echo given clock issued e f = cc

value_is : (s : SecurityContext) (w : World) (h : server.History) (now mid i k issued : ℕ) (echo d given reply : List ℕ) (g : server.History) (of : Life) → server_history s w ≡ Some h
    → ((j : ℕ) (l : Life) → server.life h j ≡ Some l → j ≡ 0) → ServerAnswer h (server.Datagram now echo mid d) (server.Took (server.Challenge i k given issued) reply) → server_history s w ≡ Some g
    → server.life g i ≡ Some of → in_force of (max (server.clock g) now) ≡ None → given ≡ echo
value_is s w h now mid i k issued echo d given reply g of e only (a, says) f life none =
    let same : h ≡ g = some_is (sym e ∙ f) in
    let there : server.life h i ≡ Some of = subst (λ x. server.life x i ≡ Some of) (sym same) life in
    let place : a.0 ≡ i = only a.0 a.2 a.3.life_is ∙ sym (only i of there) in
    let lives : a.2 ≡ of = some_is (sym a.3.life_is ∙ ap (λ j. server.life h j) place ∙ there) in
    let out : in_force a.2 (max (server.clock h) now) ≡ None = subst (λ x. in_force x (max (server.clock h) now) ≡ None) (sym lives) (subst (λ x. in_force of (max (server.clock x) now) ≡ None) (sym same) none) in
    fresh_value (in_force a.2 (max (server.clock h) now)) echo given (max (server.clock h) now) issued out a.4.2

unseen_at : (s : SecurityContext) (w : World) (h : server.History) (now mid : ℕ) (echo d reply : List ℕ) (answer : server.Answer) → server_history s w ≡ Some h
    → ((j : ℕ) (l : Life) → server.life h j ≡ Some l → j ≡ 0) → ServerAnswer h (server.Datagram now echo mid d) (server.Took answer reply) → IsUnseen s w echo
    → EchoIsNew s w (AtServer (server.Datagram now echo mid d) (server.Took answer reply))
unseen_at s w h now mid echo d reply (server.Challenge i k given issued) e only a u = λ g of f life none r has carries.
    u r has (carries ∙ ap (λ x. Some x) (value_is s w h now mid i k issued echo d given reply g of e only a f life none))
unseen_at s w h now mid echo d reply answer e only a u = tt

pub unseen_still : (s : SecurityContext) (w v : World) (echo : List ℕ) → sent s v ≡ sent s w → IsUnseen s w echo → IsUnseen s v echo
unseen_still s w v echo e u r has = u r (subst (λ rs. Has r rs) e has)

-- ---- a response

pub responses_still : (s : SecurityContext) (w v : World) (pending : List client.Asked) (d : List ℕ) → answered s v ≡ answered s w → NobodyForgesResponses s w pending d
    → NobodyForgesResponses s v pending d
responses_still s w v pending d e f r own m is p =
    let x : SealedByServer s w (response_seal s r.number own) p.outer.payload = f r own m is p in
    record {
      registers = x.registers;
      response = x.response;
      was_answered = subst (λ rs. Has x.response rs) (sym e) x.was_answered;
      input_is = x.input_is;
      bytes = x.bytes;
      protects = x.protects;
      text_is = x.text_is;
    }

-- ---- a number was saved before

-- the life may deliver without a challenge
abbrev IsReady : Life → Type 0
IsReady l = needs_no_echo l.doubt l.open_at_birth ≡ true

fresh_marked : (m : Option Mark) (o : Option Life) (y : Life) → option_map (marked m) o ≡ Some y → IsReady y → (x : Life) × (o ≡ Some x) × IsReady x
fresh_marked m None y e f = let g : None ≡ Some y = e in cc
fresh_marked None (Some x) y e f = (x, refl, ap (λ (l : Life). needs_no_echo l.doubt l.open_at_birth) (some_is e) ∙ f)
fresh_marked (Some k) (Some x) y e f = (x, refl, ap (λ (l : Life). needs_no_echo l.doubt l.open_at_birth) (some_is e) ∙ f)

fresh_renewed : (b : Bool) (next : ℕ) (o : Option Life) (y : Life) → (if b then option_map (renewed next) o else o) ≡ Some y → IsReady y
    → (x : Life) × (o ≡ Some x) × IsReady x
fresh_renewed true next None y e f = let g : None ≡ Some y = e in cc
fresh_renewed true next (Some x) y e f = let g : false ≡ true = ap (λ (l : Life). needs_no_echo l.doubt l.open_at_birth) (some_is e) ∙ f in cc
fresh_renewed false next o y e f = (y, e, f)

fresh_before : (h : server.History) (event : server.Event) (entry : server.Entry) (i : ℕ) (of : Life) → BringsNoContext event → server.life (server.Then h event entry) i ≡ Some of
    → IsReady of → (x : Life) × (server.life h i ≡ Some x) × IsReady x
fresh_before h (server.Add context start size places) entry i of a e f = absurd a
fresh_before h (server.Replace context by start size) entry i of a e f = absurd a
fresh_before h (server.Datagram now echo mid d) (server.Took answer reply) i of a e f = fresh_marked (server.mark_at i answer) (server.life h i) of e f
fresh_before h (server.Reply t own mid p room) (server.Replied bytes) i of a e f = fresh_marked (server.reply_mark_at i t own) (server.life h i) of e f
fresh_before h (server.Notify t p room) (server.Replied bytes) i of a e f = fresh_marked (server.reply_mark_at i t true) (server.life h i) of e f
fresh_before h (server.Restart context next) server.Restarted i of a e f = fresh_renewed (i == context) next (server.life h i) of e f
fresh_before h (server.Skip context count) server.Skipped i of a e f = fresh_marked (server.skip_mark_at i context count) (server.life h i) of e f
fresh_before h event entry i of a e f = (of, e, f)

saved_by_draw : (of : End) (s : SecurityContext) (w v : World) → IsDrawn of w v → AtEach (NumbersAreKept s) v → HasSavedFirst s w → HasSavedFirst s v
saved_by_draw of s w v (inl e) k x = subst (HasSavedFirst s) (sym e) x
saved_by_draw of s w v (inr (inl e)) k x =
    let kept : AtEach (NumbersAreKept s) (Then w (Draws of)) = subst (AtEach (NumbersAreKept s)) e k in
    subst (HasSavedFirst s) (sym e) (record { each = (x.each, tt); last = λ l is f. saved_still s w (Draws of) kept (x.last l is f) })
saved_by_draw of s w v (inr (inr e)) k x =
    let kept : AtEach (NumbersAreKept s) (Then w (Reserves of)) = subst (AtEach (NumbersAreKept s)) e k in
    subst (HasSavedFirst s) (sym e) (record { each = (x.each, tt); last = λ l is f. saved_still s w (Reserves of) kept (x.last l is f) })

saves_at : (s : SecurityContext) (w : World) (event : server.Event) (entry : server.Entry) → HasSavedFirst s w → SavesFirst s w (AtServer event entry)
saves_at s w (server.Datagram now echo mid d) entry x = x.last
saves_at s w event entry x = tt

server_saved : (s : SecurityContext) (w : World) (h : server.History) (event : server.Event) (entry : server.Entry) → server_history s w ≡ Some h → BringsNoContext event
    → AtEach (NumbersAreKept s) (Then w (AtServer event entry)) → HasSavedFirst s w → HasSavedFirst s (Then w (AtServer event entry))
server_saved s w h event entry e n k x =
    record {
      each = (x.each, saves_at s w event entry x);
      last = λ of is f.
          let here : server.life (server.Then h event entry) 0 ≡ Some of = sym (ap (λ o. option_and_then (λ g. server.life g 0) (option_map (λ g. server.Then g event entry) o)) e) ∙ is in
          let was = fresh_before h event entry 0 of n here f in
          saved_still s w (AtServer event entry) k (x.last was.0 (ap (λ o. option_and_then (λ g. server.life g 0) o) e ∙ was.1) was.2);
    }

client_saved : (s : SecurityContext) (w : World) (event : client.Event) (entry : client.Entry) → HasSavedFirst s w → HasSavedFirst s (Then w (AtClient event entry))
client_saved s w event entry x = record { each = (x.each, tt); last = x.last }

-- ---- an event of a server

server_loads : (s : SecurityContext) (w : World) (h : server.History) (event : server.Event) (entry : server.Entry) → server_history s w ≡ Some h → ServerTrusts s w h event entry
    → LoadsNoneBelow Server s w (AtServer event entry)
server_loads s w h (server.Restart c next) server.Restarted e p = λ n f.
    let same : next ≡ n = load_is (sym (server_is s w h (server.Restart c next) server.Restarted e) ∙ f) in
    let least : (numbers Server s w).floor ≤ next = p in
    omega (arith, same, least)
server_loads s w h event entry e p = server_none s w h event entry e (no_load (serving.uses h event entry))

forges_at : (s : SecurityContext) (w v : World) (h : server.History) (event : server.Event) (entry : server.Entry) → sent s v ≡ sent s w → ServerTrusts s w h event entry
    → NobodyForges s v (AtServer event entry)
forges_at s w v h (server.Datagram now echo mid d) entry e p = forges_still s w v d e p.0
forges_at s w v h event entry e p = tt

new_at : (s : SecurityContext) (w v : World) (h : server.History) (event : server.Event) (entry : server.Entry) → sent s v ≡ sent s w → server_history s v ≡ Some h
    → ((j : ℕ) (l : Life) → server.life h j ≡ Some l → j ≡ 0) → ServerAnswer h event entry → ServerTrusts s w h event entry → EchoIsNew s v (AtServer event entry)
new_at s w v h (server.Datagram now echo mid d) (server.Took answer reply) e known only a p = unseen_at s v h now mid echo d reply answer known only a (unseen_still s w v echo e p.1)
new_at s w v h event entry e known only a p = tt

server_lawful : (n : ℕ) (s : SecurityContext) (w v : World) (h : server.History) (event : server.Event) (entry : server.Entry) (old new : Own) → IsKept n s w → server_history s w ≡ Some h
    → GoesOn Server s w (AtServer event entry) v old new → BringsNoContext event → ServerAnswer h event entry → ServerTrusts s w h event entry
    → IsKept n s v × (HasSavedFirst s w → HasSavedFirst s v)
server_lawful n s w v h event entry old new i e on plain a p =
    let b : World = on.between in
    let kept : AtEach (NumbersAreKept s) (Then b (AtServer event entry)) = subst (AtEach (NumbersAreKept s)) on.ends (on.kept i.kept (server_loads s w h event entry e p)) in
    let at : IsKept n s b = still_lawful n s w b Server on.drawn i kept.0 in
    let known : server_history s b ≡ Some h = same_history Server s w b on.drawn ∙ e in
    let stood : Stands s _ h = stands n s b h at.lawful.answers known in
    let same : sent s b ≡ sent s w = same_sent Server s w b on.drawn in (
      subst (IsKept n s) (sym on.ends) (more_kept n s b (AtServer event entry) at
          (h, known, a, plain, tickets_step h event entry (has_ticket s w h event entry p) a (had_tickets n s b h at.lawful.answers known)) (forges_at s w b h event entry same p)
          (new_at s w b h event entry same known stood.only a p) tt kept),
      λ x. subst (HasSavedFirst s) (sym on.ends) (server_saved s b h event entry known plain kept (saved_by_draw Server s w b on.drawn kept.0 x)),
    )

client_stays : (s : SecurityContext) (w v : World) (event : server.Event) (entry : server.Entry) (old new : Own) → GoesOn Server s w (AtServer event entry) v old new → ClientStays s w v
client_stays s w v event entry old new on g own x =
    let b : World = on.between in
    subst (λ u. ClientRuns s u g own) (sym on.ends) (record {
      history_is = same_client Server s w b on.drawn ∙ x.history_is;
      numbers_are = subst (λ o. AreAlike o own) (sym (same_client_numbers s w b on.drawn)) x.numbers_are;
    })

pub server_in_world : TwoEnds → ServerInWorld
server_in_world claims n s w h event entry old new i r plain a m p =
    let x = server_goes_on s w h event entry old new r m in
    let y = server_lawful n s w x.0 h event entry old new i r.history_is x.1 plain a p in
    (x.0, x.1, record { kept = y.0; claims = claims n s x.0 y.0.lawful; saved = y.1 }, x.2, client_stays s w x.0 event entry old new x.1)

pub reply_trusts : (s : SecurityContext) (w : World) (h : server.History) (t : server.TicketValues) (own : Bool) (mid : ℕ) (p : Parts) (room : ℕ) (entry : server.Entry) → IsHeld h t
    → ServerTrusts s w h (server.Reply t own mid p room) entry
reply_trusts s w h t own mid p room (server.Replied bytes) x = x
reply_trusts s w h t own mid p room entry x = tt

pub notify_trusts : (s : SecurityContext) (w : World) (h : server.History) (t : server.TicketValues) (p : Parts) (room : ℕ) (entry : server.Entry) → IsHeld h t
    → ServerTrusts s w h (server.Notify t p room) entry
notify_trusts s w h t p room (server.Replied bytes) x = x
notify_trusts s w h t p room entry x = tt

-- ---- an event of a client

client_loads : (s : SecurityContext) (w : World) (h : client.History) (event : client.Event) (entry : client.Entry) → client_history s w ≡ Some h → ClientTrusts s w h event entry
    → LoadsNoneBelow Client s w (AtClient event entry)
client_loads s w h (client.Restart next) client.Restarted e p = λ n f.
    let same : next ≡ n = load_is (sym (client_is s w h (client.Restart next) client.Restarted e) ∙ f) in
    let least : (numbers Client s w).floor ≤ next = p in
    omega (arith, same, least)
client_loads s w h event entry e p = client_none s w h event entry e (no_load (asking.uses h event entry))

responses_at : (s : SecurityContext) (w v : World) (h : client.History) (event : client.Event) (entry : client.Entry) → answered s v ≡ answered s w → client_history s v ≡ Some h
    → ClientTrusts s w h event entry → NobodyForges s v (AtClient event entry)
responses_at s w v h (client.Datagram now d) entry e known p = λ g f.
    subst (λ x. NobodyForgesResponses s v (client.pending_at x (max (client.clock x) now)) d) (some_is (sym known ∙ f)) (responses_still s w v (client.pending_at h (max (client.clock h) now)) d e p)
responses_at s w v h event entry e known p = tt

client_lawful : (n : ℕ) (s : SecurityContext) (w v : World) (h : client.History) (event : client.Event) (entry : client.Entry) (old new : Own) → IsKept n s w → client_history s w ≡ Some h
    → GoesOn Client s w (AtClient event entry) v old new → ClientAnswer n h event entry → ClientTrusts s w h event entry → IsKept n s v × (HasSavedFirst s w → HasSavedFirst s v)
client_lawful n s w v h event entry old new i e on a p =
    let b : World = on.between in
    let kept : AtEach (NumbersAreKept s) (Then b (AtClient event entry)) = subst (AtEach (NumbersAreKept s)) on.ends (on.kept i.kept (client_loads s w h event entry e p)) in
    let at : IsKept n s b = still_lawful n s w b Client on.drawn i kept.0 in
    let known : client_history s b ≡ Some h = same_client Client s w b on.drawn ∙ e in (
      subst (IsKept n s) (sym on.ends) (more_kept n s b (AtClient event entry) at (h, known, a)
          (responses_at s w b h event entry (same_answered Client s w b on.drawn) known p) tt tt kept),
      λ x. subst (HasSavedFirst s) (sym on.ends) (client_saved s b event entry (saved_by_draw Client s w b on.drawn kept.0 x)),
    )

server_stays : (s : SecurityContext) (w v : World) (event : client.Event) (entry : client.Entry) (old new : Own) → GoesOn Client s w (AtClient event entry) v old new → ServerStays s w v
server_stays s w v event entry old new on g own x =
    let b : World = on.between in
    subst (λ u. ServerRuns s u g own) (sym on.ends) (record {
      history_is = same_history Client s w b on.drawn ∙ x.history_is;
      numbers_are = subst (λ o. AreAlike o own) (sym (same_server_numbers s w b on.drawn)) x.numbers_are;
    })

pub client_in_world : TwoEnds → ClientInWorld
client_in_world claims n s w h event entry old new i r a m p =
    let x = client_goes_on s w h event entry old new r m in
    let y = client_lawful n s w x.0 h event entry old new i r.history_is x.1 a p in
    (x.0, x.1, record { kept = y.0; claims = claims n s x.0 y.0.lawful; saved = y.1 }, x.2, server_stays s w x.0 event entry old new x.1)

-- ---- a start

none_there : (s : SecurityContext) → IsTaken server.Begin s → ⊥
none_there s x = let f : None ≡ Some x.1 = x.2 in cc

pub added_alone : (s : SecurityContext) (start : Start) (size : WindowSize) → IsUsable s → ServerAnswer server.Begin (server.Add s start size 1) (server.Added 0)
added_alone s start size u = (record { client = u.client_fits; server = u.server_fits; differ = u.differ }, (omega arith, λ x. none_there s x, refl))

first_lawful : (n : ℕ) (s : SecurityContext) (w : World) (start : Start) (size : WindowSize) → IsKept n s w → HasSavedFirst s w → AtEach (NumbersAreKept s) (Then w (ServerStarts start size))
    → SavesFirst s w (ServerStarts start size) → IsKept n s (Then w (ServerStarts start size))
first_lawful n s w start size i x k f =
    let answers : AtEach (Answers n s) (Then w (ServerStarts start size)) = (i.lawful.answers, added_alone s start size i.lawful.usable) in
    more_kept n s w (ServerStarts start size) i (added_alone s start size i.lawful.usable) tt tt (fresh_by_saving n s (Then w (ServerStarts start size)) answers k (x.each, f)).1 k

fresh_in : (claims : TwoEnds) (n : ℕ) (s : SecurityContext) (w : World) (first : Piv) (size : WindowSize) → IsKept n s w → HasSavedFirst s w → number_of first ≡ 0
    → AtEach (NumbersAreKept s) (server_started (starts.Fresh first) size w) → IsAsClaimed n s w (server_started (starts.Fresh first) size w)
fresh_in claims n s w first size i x zero' k =
    let at : IsKept n s (Then w (ServerStarts (starts.Fresh first) size)) = first_lawful n s w (starts.Fresh first) size i x k.0 zero' in
    let kept : IsKept n s (server_started (starts.Fresh first) size w) = reserve_lawful n s (Then w (ServerStarts (starts.Fresh first) size)) Server at k in
    let small : number_of first < 2 ^ 40 = k.0.1.server.1 in
    let above : number_of first < next_limit (number_of first) = limit_above (number_of first) small in
    record {
      kept = kept;
      claims = claims n s (server_started (starts.Fresh first) size w) kept.lawful;
      saved = λ y. record { each = ((y.each, zero'), tt); last = λ of is f. omega (arith, above) };
    }

later_in : (claims : TwoEnds) (n : ℕ) (s : SecurityContext) (w : World) (first : Piv) (size : WindowSize) → IsKept n s w → HasSavedFirst s w
    → AtEach (NumbersAreKept s) (server_started (starts.Restarted first) size w) → IsAsClaimed n s w (server_started (starts.Restarted first) size w)
later_in claims n s w first size i x k =
    let kept : IsKept n s (server_started (starts.Restarted first) size w) = first_lawful n s w (starts.Restarted first) size i x k tt in
    record {
      kept = kept;
      claims = claims n s (server_started (starts.Restarted first) size w) kept.lawful;
      saved = λ y. record { each = (y.each, tt); last = λ of is f. let g : false ≡ true = ap (λ (l : Life). needs_no_echo l.doubt l.open_at_birth) (some_is is) ∙ f in absurd (cc) };
    }

pub server_starts : TwoEnds → ServerStartsInWorld
server_starts claims n s w (starts.Fresh first) size loaded floor i x is a least =
    let b = server_begins s w (starts.Fresh first) size loaded floor is a in
    let k : AtEach (NumbersAreKept s) (server_started (starts.Fresh first) size w) = b.0.kept i.kept least in
    (fresh_in claims n s w first size i x (is.0 ∙ is.1) k, λ g own y. record { history_is = y.history_is; numbers_are = y.numbers_are }, b.1)
server_starts claims n s w (starts.Restarted first) size loaded floor i x is a least =
    let b = server_begins s w (starts.Restarted first) size loaded floor is a in
    let k : AtEach (NumbersAreKept s) (server_started (starts.Restarted first) size w) = b.0.kept i.kept least in
    (later_in claims n s w first size i x k, λ g own y. record { history_is = y.history_is; numbers_are = y.numbers_are }, b.1)
server_starts claims n s w (starts.Received first highest) size loaded floor i x is a least = absurd is
server_starts claims n s w (starts.Reserved first highest ahead) size loaded floor i x is a least = absurd is

pub client_starts : TwoEnds → ClientStartsInWorld
client_starts claims n s w loaded ms floor own i g least =
    let b = client_begins s w loaded ms floor own g in
    let kept : IsKept n s (Then w (ClientStarts loaded ms)) = more_kept n s w (ClientStarts loaded ms) i tt tt tt tt (b.0.kept i.kept least) in (
      record { kept = kept; claims = claims n s (Then w (ClientStarts loaded ms)) kept.lawful; saved = λ y. record { each = (y.each, tt); last = y.last } },
      λ h o y. record { history_is = y.history_is; numbers_are = y.numbers_are },
      b.1,
    )
