-- What a server's history says is what the digest of its world says: its present life, its tickets, and what each event does to its Sender Sequence Numbers.
-- h is the history of the server that runs, ds the deeds so far.
use Rattle.std.proofs.Common.{◌≡◌, ℕ, ◌∙◌, sym, ap, subst, refl, Bool, true, false, Option, Some, None, List, ◌∷◌, if◌then◌else◌, ◌==◌, max}
use Rattle.std.proofs.lemmas.Bool.{eqb-true}
use Rattle.std.specs.Option.{option_map, option_and_then}
use Rattle.osc_context.specs.SecurityContext.{SecurityContext}
use Rattle.osc_window.specs.declared.window_size.WindowSize.{WindowSize}
use Rattle.osc_life.specs.declared.start.Start.{Start}
use Rattle.osc_laws.specs.Laws.{AllAnswers, delivered, answered}
use Rattle.osc_life.specs.Life.{Life, Mark, Spoiled, Challenged, Delivered, Answered, PassedOver, born, marked, next_own, renewed}
use Rattle.osc_endpoint.specs.ServerAnswer.{ServerAnswer, TakeAnswer}
use Rattle.osc_life.specs.LifeAnswer.{LifeRestart, LifeSkip, Arrival, own_number}
use Rattle.osc_client.specs.ClientHistory as client
use Rattle.osc_observe.specs.Received.{Received}
use Rattle.osc_life.specs.ServerHistory as server
use Rattle.osc_kept_ends.specs.Numbering.{Effect, Stay, Load, Use, use_of}
use Rattle.osc_kept.specs.Premises.{AtEach, Answers, BringsNoContext}
use Rattle.osc_kept.specs.World.{World, Begin, Then, ServerStarts, AtClient, AtServer, client_history, server_history, server_life, server_effect}
use Rattle.osc_kept.proofs.Deeds.{Deed, Begins, Renews, Challenges, Replies, Notifies, Nothing, life_in, with_mark, replied, given, taken}
use Rattle.osc_kept.proofs.Digest.{client_deed, server_deed, digest}
use Rattle.osc_laws.proofs.DeliveredNumbers.{no_other}

abbrev pub OnlyFirst : server.History → Type 0
OnlyFirst h = (i : ℕ) (of : Life) → server.life h i ≡ Some of → i ≡ 0

-- ---- a context that is there stays, and no other comes

from_map : {A B : Type 0} (f : A → B) (o : Option A) (y : B) → option_map f o ≡ Some y → (x : A) × (o ≡ Some x)
from_map f None y e = cc
from_map f (Some x) y e = (x, refl)

from_choice : (b : Bool) (f : Life → Life) (o : Option Life) (y : Life) → (if b then option_map f o else o) ≡ Some y → (x : Life) × (o ≡ Some x)
from_choice true f o y e = from_map f o y e
from_choice false f o y e = (y, e)

was_there : (h : server.History) (event : server.Event) (entry : server.Entry) (i : ℕ) (of : Life) → BringsNoContext event → server.life (server.Then h event entry) i ≡ Some of
    → (x : Life) × (server.life h i ≡ Some x)
was_there h (server.Add context start size places) entry i of a e = absurd a
was_there h (server.Replace context by start size) entry i of a e = absurd a
was_there h (server.Datagram now echo mid d) (server.Took answer reply) i of a e = from_map (marked (server.mark_at i answer)) (server.life h i) of e
was_there h (server.Reply t own mid p room) (server.Replied bytes) i of a e = from_map (marked (server.reply_mark_at i t own)) (server.life h i) of e
was_there h (server.Notify t p room) (server.Replied bytes) i of a e = from_map (marked (server.reply_mark_at i t true)) (server.life h i) of e
was_there h (server.Restart context next) server.Restarted i of a e = from_choice (i == context) (renewed next) (server.life h i) of e
was_there h (server.Skip context count) server.Skipped i of a e = from_map (marked (server.skip_mark_at i context count)) (server.life h i) of e
was_there h event entry i of a e = (of, e)

only_step : (h : server.History) (event : server.Event) (entry : server.Entry) → BringsNoContext event → OnlyFirst h → OnlyFirst (server.Then h event entry)
only_step h event entry a z i of e = let x = was_there h event entry i of a e in z i x.0 x.1

is_chosen : (b : Bool) (l of : Life) → (if b then Some l else None) ≡ Some of → b ≡ true
is_chosen true l of e = refl
is_chosen false l of e = cc

only_born : (s : SecurityContext) (start : Start) (size : WindowSize) → OnlyFirst (server.Then server.Begin (server.Add s start size 1) (server.Added 0))
only_born s start size i of e = eqb-true i 0 (is_chosen (i == 0) (born s start size) of e)

-- ---- which context an answer names

pub spoiled_first : (h : server.History) (a : Arrival) (i n : ℕ) (reply : List ℕ) → OnlyFirst h → TakeAnswer h a (server.BadInner i n) reply → i ≡ 0
spoiled_first h a i n reply z x = x.0.4.2 ∙ z x.0.0 x.0.2 x.0.3.life_is

pub challenged_first : (h : server.History) (a : Arrival) (i n issued : ℕ) (echo reply : List ℕ) → OnlyFirst h → TakeAnswer h a (server.Challenge i n echo issued) reply → i ≡ 0
challenged_first h a i n issued echo reply z x = x.0.4.3 ∙ z x.0.0 x.0.2 x.0.3.life_is

pub delivered_first : (h : server.History) (a : Arrival) (received : Received) (ticket : server.TicketValues) (reply : List ℕ) → OnlyFirst h
    → TakeAnswer h a (server.Deliver received ticket) reply → ticket.context ≡ 0
delivered_first h a received ticket reply z x = ap (λ (t : server.TicketValues). t.context) x.0.4.2 ∙ z x.0.0 x.0.2 x.0.3.life_is

-- ---- the present life

marks_here : (o : Option Life) (l : Life) (mark : Mark) (c : ℕ) → o ≡ Some l → c ≡ 0
    → option_map (marked (if 0 == c then Some mark else None)) o ≡ Some (with_mark mark l)
marks_here o l mark c p k = ap (λ x. option_map (marked (if 0 == c then Some mark else None)) x) p ∙ ap (λ y. Some (marked (if 0 == y then Some mark else None) l)) k

reply_here : (o : Option Life) (l : Life) (t : server.TicketValues) (own : Bool) → o ≡ Some l → t.context ≡ 0
    → option_map (marked (server.reply_mark_at 0 t own)) o ≡ Some (replied (own_number own l) l)
reply_here o l t true p k = marks_here o l Answered t.context p k
reply_here o l t false p k = ap (λ x. option_map (marked None) x) p

renew_here : (o : Option Life) (l : Life) (c next : ℕ) → o ≡ Some l → c ≡ 0 → (if 0 == c then option_map (renewed next) o else o) ≡ Some (renewed next l)
renew_here o l c next p k = ap (λ y. if 0 == y then option_map (renewed next) o else o) k ∙ ap (λ x. option_map (renewed next) x) p

restart_there : (o : Option Life) → LifeRestart o server.Restarted → (x : Life) × (o ≡ Some x)
restart_there None a = absurd a
restart_there (Some x) a = (x, refl)

skip_there : (o : Option Life) (count : ℕ) → LifeSkip o count server.Skipped → (x : Life) × (o ≡ Some x)
skip_there None count a = absurd a
skip_there (Some x) count a = (x, refl)

pub no_skip : (o : Option Life) (count : ℕ) (answer : server.Answer) (reply : List ℕ) → LifeSkip o count (server.Took answer reply) → ⊥
no_skip None count answer reply a = a
no_skip (Some x) count answer reply a = a

pub no_took : (o : Option Life) (answer : server.Answer) (reply : List ℕ) → LifeRestart o (server.Took answer reply) → ⊥
no_took None answer reply a = a
no_took (Some x) answer reply a = a

abbrev pub IsPresentIn : SecurityContext → List Deed → server.History → Type 0
IsPresentIn s ds h = server.life h 0 ≡ Some (life_in s ds)

present_step : (s : SecurityContext) (ds : List Deed) (h : server.History) (event : server.Event) (entry : server.Entry) → IsPresentIn s ds h → OnlyFirst h → BringsNoContext event
    → ServerAnswer h event entry → IsPresentIn s (server_deed (Some (life_in s ds)) event entry ∷ ds) (server.Then h event entry)
present_step s ds h (server.Add context start size places) entry p z n a = absurd n
present_step s ds h (server.Replace context by start size) entry p z n a = absurd n
present_step s ds h (server.Datagram now echo mid d) (server.Took (server.BadInner i k) reply) p z n a =
    marks_here (server.life h 0) (life_in s ds) (Spoiled k) i p (spoiled_first h (record { clock = max (server.clock h) now; echo = echo; mid = mid; bytes = d }) i k reply z a)
present_step s ds h (server.Datagram now echo mid d) (server.Took (server.Challenge i k value issued) reply) p z n a =
    marks_here (server.life h 0) (life_in s ds) (Challenged value issued) i p (challenged_first h (record { clock = max (server.clock h) now; echo = echo; mid = mid; bytes = d }) i k issued value reply z a)
present_step s ds h (server.Datagram now echo mid d) (server.Took (server.Deliver received t) reply) p z n a =
    marks_here (server.life h 0) (life_in s ds) (Delivered t.number) t.context p (delivered_first h (record { clock = max (server.clock h) now; echo = echo; mid = mid; bytes = d }) received t reply z a)
present_step s ds h (server.Datagram now echo mid d) (server.Took answer reply) p z n a = ap (λ x. option_map (marked None) x) p
present_step s ds h (server.Reply t own mid q room) (server.Replied bytes) p z n a = reply_here (server.life h 0) (life_in s ds) t own p (z t.context a.0 a.1.0)
present_step s ds h (server.Notify t q room) (server.Replied bytes) p z n a = marks_here (server.life h 0) (life_in s ds) Answered t.context p (z t.context a.1.0 a.1.1.0)
present_step s ds h (server.Restart c next) server.Restarted p z n a =
    let x = restart_there (server.life h c) a in
    renew_here (server.life h 0) (life_in s ds) c next p (z c x.0 x.1)
present_step s ds h (server.Skip c count) server.Skipped p z n a =
    let x = skip_there (server.life h c) count a in
    marks_here (server.life h 0) (life_in s ds) (PassedOver count) c p (z c x.0 x.1)
present_step s ds h event entry p z n a = p

-- ---- its tickets

given_step : (l : Life) (ds : List Deed) (h : server.History) (event : server.Event) (entry : server.Entry) → ServerAnswer h event entry → delivered h ≡ given ds
    → delivered (server.Then h event entry) ≡ given (server_deed (Some l) event entry ∷ ds)
given_step l ds h (server.Datagram now echo mid d) (server.Took (server.Deliver received t) reply) a e = ap (λ ts. t ∷ ts) e
given_step l ds h (server.Add context start size places) (server.Took (server.Deliver received t) reply) a e = absurd a.1
given_step l ds h (server.Reply t own mid q room) (server.Took (server.Deliver received u) reply) a e = absurd a.2
given_step l ds h (server.Notify t q room) (server.Took (server.Deliver received u) reply) a e = absurd a.1.2
given_step l ds h (server.Restart c next) (server.Took (server.Deliver received t) reply) a e = absurd (no_took (server.life h c) (server.Deliver received t) reply a)
given_step l ds h (server.Replace c by start size) (server.Took (server.Deliver received t) reply) a e = absurd (no_other (server.life h c) (server.Took (server.Deliver received t) reply) tt a.1)
given_step l ds h (server.Skip c count) (server.Took (server.Deliver received t) reply) a e = absurd (no_skip (server.life h c) count (server.Deliver received t) reply a)
given_step l ds h (server.Advance now) (server.Took (server.Deliver received t) reply) a e = absurd a
given_step l ds h event entry a e = e

taken_step : (l : Life) (ds : List Deed) (h : server.History) (event : server.Event) (entry : server.Entry) → answered h ≡ taken ds
    → answered (server.Then h event entry) ≡ taken (server_deed (Some l) event entry ∷ ds)
taken_step l ds h (server.Reply t own mid q room) (server.Replied bytes) e = ap (λ ts. t ∷ ts) e
taken_step l ds h (server.Datagram now echo mid d) (server.Took (server.Deliver received t) reply) e = e
taken_step l ds h (server.Notify t q room) (server.Replied bytes) e = e
taken_step l ds h (server.Restart c next) server.Restarted e = e
taken_step l ds h (server.Skip c count) server.Skipped e = e
taken_step l ds h event entry e = e

-- ---- its Sender Sequence Numbers

-- what a deed of the server does to them
abbrev pub own_use : Deed → Effect
own_use (Renews next) = Load next
own_use (Challenges n echo issued own m) = Use own
own_use (Replies t (Some own) m) = Use own
own_use (Notifies t own m) = Use own
own_use d = Stay

pub effect_step : (s : SecurityContext) (ds : List Deed) (h : server.History) (event : server.Event) (entry : server.Entry) → IsPresentIn s ds h → OnlyFirst h → ServerAnswer h event entry
    → server_effect (Some h) event entry ≡ own_use (server_deed (Some (life_in s ds)) event entry)
effect_step s ds h (server.Datagram now echo mid d) (server.Took (server.Challenge i k value issued) reply) p z a =
    ap (λ x. use_of (option_map next_own (server.life h x))) (challenged_first h (record { clock = max (server.clock h) now; echo = echo; mid = mid; bytes = d }) i k issued value reply z a) ∙ ap (λ x. use_of (option_map next_own x)) p
effect_step s ds h (server.Reply t true mid q room) (server.Replied bytes) p z a =
    ap (λ x. use_of (option_map next_own (server.life h x))) (z t.context a.0 a.1.0) ∙ ap (λ x. use_of (option_map next_own x)) p
effect_step s ds h (server.Reply t false mid q room) (server.Replied bytes) p z a = refl
effect_step s ds h (server.Notify t q room) (server.Replied bytes) p z a =
    ap (λ x. use_of (option_map next_own (server.life h x))) (z t.context a.1.0 a.1.1.0) ∙ ap (λ x. use_of (option_map next_own x)) p
effect_step s ds h (server.Restart c next) server.Restarted p z a = refl
effect_step s ds h (server.Skip c count) server.Skipped p z a = refl
effect_step s ds h event entry p z a = refl

-- ---- all of it, of each world

pub record Stands (s : SecurityContext) (ds : List Deed) (h : server.History) : Type 0 where
  pub present : IsPresentIn s ds h
  pub only : OnlyFirst h
  pub given_is : delivered h ≡ given ds
  pub taken_is : answered h ≡ taken ds
  pub lawful : AllAnswers h

stands_step : (s : SecurityContext) (ds : List Deed) (h : server.History) (event : server.Event) (entry : server.Entry) → Stands s ds h → BringsNoContext event → ServerAnswer h event entry
    → Stands s (server_deed (Some (life_in s ds)) event entry ∷ ds) (server.Then h event entry)
stands_step s ds h event entry i n a =
    record {
      present = present_step s ds h event entry i.present i.only n a;
      only = only_step h event entry n i.only;
      given_is = given_step (life_in s ds) ds h event entry a i.given_is;
      taken_is = taken_step (life_in s ds) ds h event entry i.taken_is;
      lawful = (i.lawful, a);
    }

idle : (s : SecurityContext) (d : Deed) (ds : List Deed) (h : server.History) → life_in s (d ∷ ds) ≡ life_in s ds → given (d ∷ ds) ≡ given ds → taken (d ∷ ds) ≡ taken ds → Stands s ds h
    → Stands s (d ∷ ds) h
idle s d ds h e f g i =
    record {
      present = i.present ∙ sym (ap (λ l. Some l) e);
      only = i.only;
      given_is = i.given_is ∙ sym f;
      taken_is = i.taken_is ∙ sym g;
      lawful = i.lawful;
    }

client_stands : (s : SecurityContext) (o : Option client.History) (event : client.Event) (entry : client.Entry) (ds : List Deed) (h : server.History) → Stands s ds h
    → Stands s (client_deed o event entry ∷ ds) h
client_stands s (Some g) (client.Request now p room) (client.Sent bytes) ds h i = idle s _ ds h refl refl refl i
client_stands s o event entry ds h i = idle s Nothing ds h refl refl refl i

pub some_is : {A : Type 0} {a b : A} → Some a ≡ Some b → a ≡ b
some_is e = cc

pub life_known : (s : SecurityContext) (w : World) (h : server.History) (l : Life) → server_history s w ≡ Some h → server.life h 0 ≡ Some l → server_life s w ≡ Some l
life_known s w h l e p = ap (λ x. option_and_then (λ g. server.life g 0) x) e ∙ p

pub stands : (n : ℕ) (s : SecurityContext) (w : World) (h : server.History) → AtEach (Answers n s) w → server_history s w ≡ Some h → Stands s (digest s w) h
stands n s Begin h a e = let f : None ≡ Some h = e in cc
stands n s (Then w (ServerStarts start size)) h a e =
    subst (λ x. Stands s (Begins start size ∷ digest s w) x) (some_is e) (record {
      present = refl;
      only = λ i of k. only_born s start size i of k;
      given_is = refl;
      taken_is = refl;
      lawful = (tt, a.1);
    })
stands n s (Then w (AtServer event entry)) h a e =
    let i : Stands s (digest s w) a.1.0 = stands n s w a.1.0 a.0 a.1.1 in
    let known : server_life s w ≡ Some (life_in s (digest s w)) = life_known s w a.1.0 (life_in s (digest s w)) a.1.1 i.present in
    let same : server.Then a.1.0 event entry ≡ h = some_is (sym (ap (λ x. option_map (λ g. server.Then g event entry) x) a.1.1) ∙ e) in
    subst (λ x. Stands s (digest s (Then w (AtServer event entry))) x) same
    (subst (λ l. Stands s (server_deed l event entry ∷ digest s w) (server.Then a.1.0 event entry)) (sym known)
    (stands_step s (digest s w) a.1.0 event entry i a.1.3 a.1.2))
stands n s (Then w (AtClient event entry)) h a e = client_stands s (client_history s w) event entry (digest s w) h (stands n s w h a.0 e)
stands n s (Then w event) h a e = idle s Nothing (digest s w) h refl refl refl (stands n s w h a.0 e)
