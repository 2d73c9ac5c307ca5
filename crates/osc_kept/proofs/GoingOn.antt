-- A call of a kept end goes a world on by zero or one draw and its event.
use Rattle.std.proofs.Common.{◌≡◌, ℕ, ◌+◌, ◌<◌, ◌≤◌, ◌^◌, ◌∙◌, sym, ap, subst, refl, arith, Bool, true, false, Option, Some, None, inl, inr}
use Rattle.std.specs.Option.{option_map}
use Rattle.osc_context.specs.Reserving.{next_limit}
use Rattle.osc_context.specs.SecurityContext.{SecurityContext}
use Rattle.osc_context.specs.Views.{number_of}
use Rattle.osc_context.specs.declared.partial_iv.Piv.{Piv}
use Rattle.osc_window.specs.declared.window_size.WindowSize.{WindowSize}
use Rattle.osc_life.specs.declared.start.Start.TheVariants as starts
use Rattle.osc_client.specs.ClientHistory as client
use Rattle.osc_life.specs.ServerHistory as server
use Rattle.osc_kept_ends.specs.KeptAsking as asking
use Rattle.osc_kept_ends.specs.KeptServing as serving
use Rattle.osc_kept_ends.specs.KeptServing.{IsStart, started}
use Rattle.osc_kept_ends.specs.Numbering as kept
use Rattle.osc_kept_ends.specs.Numbering.{Own, AreAlike, Effect, Stay, Draw, Reserve, Load, Use, after, Allowed, Goes, nothing_drawn, use_of}
use Rattle.osc_kept.specs.GoingOn.{ClientBegins, ClientGoesOn, ClientRuns, GoesOn, IsDrawn, KeepsFloor, KnowsFloor, ServerBegins, ServerGoesOn, ServerRuns, StartsOn, server_started}
use Rattle.osc_kept.specs.Premises.{AtEach, LoadsNoneBelow, NumbersAreKept}
use Rattle.osc_kept.specs.World.{World, Event, Then, End, Client, Server, Draws, Reserves, AtClient, AtServer, client_effect, client_history, effect, numbers, server_effect, server_history}

-- ---- numbers that are alike but for the floor

-- no life begins by it
abbrev pub IsNoLoad : Effect → Type 0
IsNoLoad (Load n) = ⊥
IsNoLoad e = Unit {0}

-- what can happen to the ones can to the others, where none is loaded below the floor
pub allowed_alike : (e : Effect) (o p : Own) → AreAlike o p → ((n : ℕ) → e ≡ Load n → o.floor ≤ n) → Allowed e p → Allowed e o
allowed_alike Stay o p x l a = a
allowed_alike Draw o p x l a =
    let next : o.next ≡ p.next = x.next_is in
    let limit : o.limit ≡ p.limit = x.limit_is in
    let below : p.next < p.limit = a.1 in
    (x.hand_is ∙ a.0, omega (arith, next, limit, below))
allowed_alike Reserve o p x l a =
    let limit : o.limit ≡ p.limit = x.limit_is in
    let top : p.limit < 2 ^ 40 = a.2 in
    (x.hand_is ∙ a.0, x.next_is ∙ a.1 ∙ sym x.limit_is, omega (arith, limit, top))
allowed_alike (Load n) o p x l a = (l n refl, a.1)
allowed_alike (Use n) o p x l a = x.hand_is ∙ a

-- and leaves them alike
pub after_alike : (e : Effect) (o p : Own) → AreAlike o p → AreAlike (after e o) (after e p)
after_alike Stay o p x = x
after_alike Draw o p x = record { next_is = ap (λ n. n + 1) x.next_is; limit_is = x.limit_is; hand_is = ap (λ n. Some n) x.next_is }
after_alike Reserve o p x = record { next_is = ap (λ n. n + 1) x.next_is; limit_is = ap next_limit x.limit_is; hand_is = ap (λ n. Some n) x.next_is }
after_alike (Load n) o p x = record { next_is = refl; limit_is = refl; hand_is = refl }
after_alike (Use n) o p x = record { next_is = x.next_is; limit_is = x.limit_is; hand_is = refl }

-- what is saved is known
saved_known : (o p : Own) → AreAlike o p → (after Reserve o).floor ≤ (after Reserve p).floor
saved_known o p x = let limit : o.limit ≡ p.limit = x.limit_is in omega (arith, limit)

-- a floor that isn't below stays so
floor_alike : (e : Effect) (o p : Own) → AreAlike o p → o.floor ≤ p.floor → (after e o).floor ≤ (after e p).floor
floor_alike Reserve o p x f = saved_known o p x
floor_alike Stay o p x f = f
floor_alike Draw o p x f = f
floor_alike (Load n) o p x f = f
floor_alike (Use n) o p x f = f

pub no_load : (o : Option ℕ) → IsNoLoad (use_of o)
no_load None = tt
no_load (Some n) = tt

loads_none : (e : Effect) (floor : ℕ) → IsNoLoad e → (n : ℕ) → e ≡ Load n → floor ≤ n
loads_none e floor i n f = absurd (subst IsNoLoad f i)

pub alike_to : (o p q : Own) → AreAlike o p → q ≡ p → AreAlike o q
alike_to o p q x e = subst (AreAlike o) (sym e) x

-- ---- the draw

-- a world behind zero or one draw of an end, whose numbers were old and are new
record Drawn (of : End) (s : SecurityContext) (w : World) (old new : Own) : Type 0 where
  pub world : World
  pub drawn : IsDrawn of w world
  pub numbers_are : AreAlike (numbers of s world) new
  pub client_is : client_history s world ≡ client_history s w
  pub server_is : server_history s world ≡ server_history s w
  pub kept : AtEach (NumbersAreKept s) w → AtEach (NumbersAreKept s) world
  pub knows : KnowsFloor of s w old → KnowsFloor of s world new
  pub floor : KeepsFloor of s w world new

no_draw : (of : End) (s : SecurityContext) (w : World) (old new : Own) → AreAlike (numbers of s w) old → new ≡ old → Drawn of s w old new
no_draw of s w old new e f =
    record {
      world = w;
      drawn = inl refl;
      numbers_are = alike_to (numbers of s w) old new e f;
      client_is = refl;
      server_is = refl;
      kept = λ k. k;
      knows = λ k. subst (KnowsFloor of s w) (sym f) k;
      floor = inl refl;
    }

one_draw : (of : End) (s : SecurityContext) (w : World) (old new : Own) → AreAlike (numbers of s w) old → Goes Draw old new → Drawn of s w old new
one_draw Client s w old new e g =
    record {
      world = Then w (Draws Client);
      drawn = inr (inl refl);
      numbers_are = alike_to _ _ new (after_alike Draw (numbers Client s w) old e) g.1;
      client_is = refl;
      server_is = refl;
      kept = λ k. (k, record { client = allowed_alike Draw (numbers Client s w) old e (loads_none Draw _ tt) g.0; server = tt });
      knows = λ k. subst (KnowsFloor Client s (Then w (Draws Client))) (sym g.1) (floor_alike Draw (numbers Client s w) old e k);
      floor = inl refl;
    }
one_draw Server s w old new e g =
    record {
      world = Then w (Draws Server);
      drawn = inr (inl refl);
      numbers_are = alike_to _ _ new (after_alike Draw (numbers Server s w) old e) g.1;
      client_is = refl;
      server_is = refl;
      kept = λ k. (k, record { client = tt; server = allowed_alike Draw (numbers Server s w) old e (loads_none Draw _ tt) g.0 });
      knows = λ k. subst (KnowsFloor Server s (Then w (Draws Server))) (sym g.1) (floor_alike Draw (numbers Server s w) old e k);
      floor = inl refl;
    }

one_reserve : (of : End) (s : SecurityContext) (w : World) (old new : Own) → AreAlike (numbers of s w) old → Goes Reserve old new → Drawn of s w old new
one_reserve Client s w old new e g =
    record {
      world = Then w (Reserves Client);
      drawn = inr (inr refl);
      numbers_are = alike_to _ _ new (after_alike Reserve (numbers Client s w) old e) g.1;
      client_is = refl;
      server_is = refl;
      kept = λ k. (k, record { client = allowed_alike Reserve (numbers Client s w) old e (loads_none Reserve _ tt) g.0; server = tt });
      knows = λ k. subst (KnowsFloor Client s (Then w (Reserves Client))) (sym g.1) (floor_alike Reserve (numbers Client s w) old e k);
      floor = inr (subst (KnowsFloor Client s (Then w (Reserves Client))) (sym g.1) (saved_known (numbers Client s w) old e));
    }
one_reserve Server s w old new e g =
    record {
      world = Then w (Reserves Server);
      drawn = inr (inr refl);
      numbers_are = alike_to _ _ new (after_alike Reserve (numbers Server s w) old e) g.1;
      client_is = refl;
      server_is = refl;
      kept = λ k. (k, record { client = tt; server = allowed_alike Reserve (numbers Server s w) old e (loads_none Reserve _ tt) g.0 });
      knows = λ k. subst (KnowsFloor Server s (Then w (Reserves Server))) (sym g.1) (floor_alike Reserve (numbers Server s w) old e k);
      floor = inr (subst (KnowsFloor Server s (Then w (Reserves Server))) (sym g.1) (saved_known (numbers Server s w) old e));
    }

draws_from : (of : End) (s : SecurityContext) (w : World) (hand : Option ℕ) (old new : Own) → AreAlike (numbers of s w) old → kept.DrawsFrom hand old new → Drawn of s w old new
draws_from of s w (Some n) old new e d = no_draw of s w old new e d
draws_from of s w None old new e (inl d) = one_draw of s w old new e d
draws_from of s w None old new e (inr (inl d)) = one_reserve of s w old new e d
draws_from of s w None old new e (inr (inr d)) = no_draw of s w old new e d.1

draws : (of : End) (s : SecurityContext) (w : World) (asked : Bool) (old new : Own) → AreAlike (numbers of s w) old → kept.Draws asked old new → Drawn of s w old new
draws of s w true old new e d = draws_from of s w old.hand old new e d
draws of s w false old new e d = no_draw of s w old new e d

-- ---- the event

-- the numbers of an end behind an event, and whether it could happen, by what the event is in the world before
record Moved (of : End) (s : SecurityContext) (w : World) (event : Event) (mid new : Own) : Type 0 where
  pub allowed : LoadsNoneBelow of s w event → Allowed (effect of s w event) (numbers of s w)
  pub alike : AreAlike (after (effect of s w event) (numbers of s w)) new
  pub knows : KnowsFloor of s w mid → (after (effect of s w event) (numbers of s w)).floor ≤ new.floor

moved : (of : End) (s : SecurityContext) (w : World) (event : Event) (e : Effect) (mid new : Own) → effect of s w event ≡ e → AreAlike (numbers of s w) mid → Goes e mid new
    → Moved of s w event mid new
moved of s w event e mid new is x g =
    let same : Allowed (effect of s w event) mid = subst (λ f. Allowed f mid) (sym is) g.0 in
    let ends : new ≡ after (effect of s w event) mid = g.1 ∙ ap (λ f. after f mid) (sym is) in
    record {
      allowed = λ l. allowed_alike (effect of s w event) (numbers of s w) mid x l same;
      alike = alike_to _ _ new (after_alike (effect of s w event) (numbers of s w) mid x) ends;
      knows = λ k. subst (λ (o : Own). (after (effect of s w event) (numbers of s w)).floor ≤ o.floor) (sym ends) (floor_alike (effect of s w event) (numbers of s w) mid x k);
    }

-- what is used leaves the floor
floor_used : (o : Option ℕ) (own : Own) → (after (use_of o) own).floor ≡ own.floor
floor_used None own = refl
floor_used (Some n) own = refl

-- behind a draw an event that leaves the floor keeps it
keeps_floor : (of : End) (s : SecurityContext) (w b v : World) (mid new : Own) → KeepsFloor of s w b mid → (KnowsFloor of s b mid → KnowsFloor of s v new)
    → (numbers of s v).floor ≡ (numbers of s b).floor → KeepsFloor of s w v new
keeps_floor of s w b v mid new (inl same) knows stays = inl (stays ∙ same)
keeps_floor of s w b v mid new (inr known) knows stays = inr (knows known)

-- the effect of an event of the server, behind a draw or none
pub server_is : (s : SecurityContext) (w : World) (h : server.History) (event : server.Event) (entry : server.Entry) → server_history s w ≡ Some h
    → effect Server s w (AtServer event entry) ≡ server_effect (Some h) event entry
server_is s w h event entry e = ap (λ o. server_effect o event entry) e

pub client_is : (s : SecurityContext) (w : World) (h : client.History) (event : client.Event) (entry : client.Entry) → client_history s w ≡ Some h
    → effect Client s w (AtClient event entry) ≡ client_effect (Some h) event entry
client_is s w h event entry e = ap (λ o. client_effect o event entry) e

-- behind a draw an event that loads nothing loads nothing
pub server_none : (s : SecurityContext) (w : World) (h : server.History) (event : server.Event) (entry : server.Entry) → server_history s w ≡ Some h → IsNoLoad (server_effect (Some h) event entry)
    → LoadsNoneBelow Server s w (AtServer event entry)
server_none s w h event entry e i = loads_none (effect Server s w (AtServer event entry)) (numbers Server s w).floor (subst IsNoLoad (sym (server_is s w h event entry e)) i)

pub client_none : (s : SecurityContext) (w : World) (h : client.History) (event : client.Event) (entry : client.Entry) → client_history s w ≡ Some h → IsNoLoad (client_effect (Some h) event entry)
    → LoadsNoneBelow Client s w (AtClient event entry)
client_none s w h event entry e i = loads_none (effect Client s w (AtClient event entry)) (numbers Client s w).floor (subst IsNoLoad (sym (client_is s w h event entry e)) i)

abbrev pub ServerGone : SecurityContext → World → server.History → server.Event → server.Entry → Own → Own → Type 0
ServerGone s w h event entry old new = (v : World) × GoesOn Server s w (AtServer event entry) v old new × ServerRuns s v (server.Then h event entry) new

abbrev pub ClientGone : SecurityContext → World → client.History → client.Event → client.Entry → Own → Own → Type 0
ClientGone s w h event entry old new = (v : World) × GoesOn Client s w (AtClient event entry) v old new × ClientRuns s v (client.Then h event entry) new

server_steps : (s : SecurityContext) (w : World) (h : server.History) (event : server.Event) (entry : server.Entry) (old new : Own) → ServerRuns s w h old
    → server_effect (Some h) event entry ≡ use_of (serving.uses h event entry) → kept.Steps (serving.draws h event) (serving.uses h event entry) old new
    → ServerGone s w h event entry old new
server_steps s w h event entry old new i e g =
    let x : Drawn Server s w old g.0 = draws Server s w (serving.draws h event) old g.0 i.numbers_are g.1 in
    let known : server_history s x.world ≡ Some h = x.server_is ∙ i.history_is in
    let none : IsNoLoad (server_effect (Some h) event entry) = subst IsNoLoad (sym e) (no_load (serving.uses h event entry)) in
    let m : Moved Server s x.world (AtServer event entry) g.0 new = moved Server s x.world (AtServer event entry) (use_of (serving.uses h event entry)) g.0 new (server_is s x.world h event entry known ∙ e) x.numbers_are g.2 in (
      Then x.world (AtServer event entry),
      record {
        between = x.world;
        drawn = x.drawn;
        ends = refl;
        kept = λ k l. (x.kept k, record { client = tt; server = m.allowed (server_none s x.world h event entry known none) });
        knows = λ k. (server_none s w h event entry i.history_is none, m.knows (x.knows k));
        floor = keeps_floor Server s w x.world (Then x.world (AtServer event entry)) g.0 new x.floor m.knows
            (ap (λ f. (after f (numbers Server s x.world)).floor) (server_is s x.world h event entry known ∙ e) ∙ floor_used (serving.uses h event entry) (numbers Server s x.world));
      },
      record { history_is = ap (λ o. option_map (λ y. server.Then y event entry) o) known; numbers_are = m.alike },
    )

client_steps : (s : SecurityContext) (w : World) (h : client.History) (event : client.Event) (entry : client.Entry) (old new : Own) → ClientRuns s w h old
    → client_effect (Some h) event entry ≡ use_of (asking.uses h event entry) → kept.Steps (asking.draws event) (asking.uses h event entry) old new
    → ClientGone s w h event entry old new
client_steps s w h event entry old new i e g =
    let x : Drawn Client s w old g.0 = draws Client s w (asking.draws event) old g.0 i.numbers_are g.1 in
    let known : client_history s x.world ≡ Some h = x.client_is ∙ i.history_is in
    let none : IsNoLoad (client_effect (Some h) event entry) = subst IsNoLoad (sym e) (no_load (asking.uses h event entry)) in
    let m : Moved Client s x.world (AtClient event entry) g.0 new = moved Client s x.world (AtClient event entry) (use_of (asking.uses h event entry)) g.0 new (client_is s x.world h event entry known ∙ e) x.numbers_are g.2 in (
      Then x.world (AtClient event entry),
      record {
        between = x.world;
        drawn = x.drawn;
        ends = refl;
        kept = λ k l. (x.kept k, record { client = m.allowed (client_none s x.world h event entry known none); server = tt });
        knows = λ k. (client_none s w h event entry i.history_is none, m.knows (x.knows k));
        floor = keeps_floor Client s w x.world (Then x.world (AtClient event entry)) g.0 new x.floor m.knows
            (ap (λ f. (after f (numbers Client s x.world)).floor) (client_is s x.world h event entry known ∙ e) ∙ floor_used (asking.uses h event entry) (numbers Client s x.world));
      },
      record { history_is = ap (λ o. option_map (λ y. client.Then y event entry) o) known; numbers_are = m.alike },
    )

pub load_is : {a b : ℕ} → Load a ≡ Load b → a ≡ b
load_is e = cc

-- what an end knows of the floor isn't above what it loads
loads_known : (of : End) (s : SecurityContext) (w : World) (event : Event) (next : ℕ) (old : Own) → effect of s w event ≡ Load next → old.floor ≤ next → KnowsFloor of s w old
    → LoadsNoneBelow of s w event
loads_known of s w event next old e below k n f =
    let same : next ≡ n = load_is (sym e ∙ f) in
    let floor : (numbers of s w).floor ≤ old.floor = k in
    omega (arith, same, below, floor)

server_restarts : (s : SecurityContext) (w : World) (h : server.History) (c next : ℕ) (old new : Own) → ServerRuns s w h old → Goes (Load next) old new
    → ServerGone s w h (server.Restart c next) server.Restarted old new
server_restarts s w h c next old new i g =
    let event : Event = AtServer (server.Restart c next) server.Restarted in
    let loads : effect Server s w event ≡ Load next = server_is s w h (server.Restart c next) server.Restarted i.history_is in
    let m : Moved Server s w event old new = moved Server s w event (Load next) old new loads i.numbers_are g in (
      Then w event,
      record {
        between = w;
        drawn = inl refl;
        ends = refl;
        kept = λ k l. (k, record { client = tt; server = m.allowed l });
        knows = λ k. (loads_known Server s w event next old loads g.0.0 k, m.knows k);
        floor = inl (ap (λ f. (after f (numbers Server s w)).floor) loads);
      },
      record { history_is = ap (λ o. option_map (λ y. server.Then y (server.Restart c next) server.Restarted) o) i.history_is; numbers_are = m.alike },
    )

client_restarts : (s : SecurityContext) (w : World) (h : client.History) (next : ℕ) (old new : Own) → ClientRuns s w h old → Goes (Load next) old new
    → ClientGone s w h (client.Restart next) client.Restarted old new
client_restarts s w h next old new i g =
    let event : Event = AtClient (client.Restart next) client.Restarted in
    let loads : effect Client s w event ≡ Load next = client_is s w h (client.Restart next) client.Restarted i.history_is in
    let m : Moved Client s w event old new = moved Client s w event (Load next) old new loads i.numbers_are g in (
      Then w event,
      record {
        between = w;
        drawn = inl refl;
        ends = refl;
        kept = λ k l. (k, record { client = m.allowed l; server = tt });
        knows = λ k. (loads_known Client s w event next old loads g.0.0 k, m.knows k);
        floor = inl (ap (λ f. (after f (numbers Client s w)).floor) loads);
      },
      record { history_is = ap (λ o. option_map (λ y. client.Then y (client.Restart next) client.Restarted) o) i.history_is; numbers_are = m.alike },
    )

pub server_goes_on : ServerGoesOn
server_goes_on s w h (server.Restart c next) server.Restarted old new i g = server_restarts s w h c next old new i g
server_goes_on s w h event entry old new i g = server_steps s w h event entry old new i refl g

pub client_goes_on : ClientGoesOn
client_goes_on s w h (client.Restart next) client.Restarted old new i g = client_restarts s w h next old new i g
client_goes_on s w h event entry old new i g = client_steps s w h event entry old new i refl g

-- ---- a start

-- what is loaded leaves the same numbers, whatever was there before
load_alike : (n : ℕ) (o p : Own) → AreAlike (after (Load n) o) (after (Load n) p)
load_alike n o p = record { next_is = refl; limit_is = refl; hand_is = refl }

fresh_start : (s : SecurityContext) (w : World) (first : Piv) (size : WindowSize) (loaded floor : ℕ) → IsStart (starts.Fresh first) loaded → Allowed (Load loaded) (nothing_drawn floor)
    → StartsOn Server s w loaded (server_started (starts.Fresh first) size w) floor (started (starts.Fresh first) loaded (nothing_drawn floor))
    × ServerRuns s (server_started (starts.Fresh first) size w) (server.Then server.Begin (server.Add s (starts.Fresh first) size 1) (server.Added 0)) (started (starts.Fresh first) loaded (nothing_drawn floor))
fresh_start s w first size loaded floor i a =
    let f : number_of first ≡ loaded = i.0 in
    let top : loaded < 2 ^ 40 = a.1 in
    let small : number_of first < 2 ^ 40 = omega (arith, top, f) in
    let least : floor ≤ loaded = a.0 in
    let limits : next_limit (number_of first) ≡ next_limit loaded = ap next_limit f in (
      record {
        kept = λ k l.
            let low : (numbers Server s w).floor ≤ loaded = l in
            let lower : (numbers Server s w).floor ≤ number_of first = omega (arith, low, f) in
            ((k, record { client = tt; server = (lower, small) }), record { client = tt; server = (refl, refl, small) });
        knows = λ k. let known : (numbers Server s w).floor ≤ floor = k in (omega (arith, known, least), omega (arith, limits));
      },
      record {
        history_is = refl;
        numbers_are = subst (λ n. AreAlike (after Reserve (after (Load n) (numbers Server s w))) (after Reserve (after (Load loaded) (nothing_drawn floor)))) (sym f)
            (after_alike Reserve _ _ (load_alike loaded (numbers Server s w) (nothing_drawn floor)));
      },
    )

later_start : (s : SecurityContext) (w : World) (first : Piv) (size : WindowSize) (loaded floor : ℕ) → IsStart (starts.Restarted first) loaded → Allowed (Load loaded) (nothing_drawn floor)
    → StartsOn Server s w loaded (server_started (starts.Restarted first) size w) floor (started (starts.Restarted first) loaded (nothing_drawn floor))
    × ServerRuns s (server_started (starts.Restarted first) size w) (server.Then server.Begin (server.Add s (starts.Restarted first) size 1) (server.Added 0)) (started (starts.Restarted first) loaded (nothing_drawn floor))
later_start s w first size loaded floor i a =
    let f : number_of first ≡ loaded = i.0 in
    let top : loaded < 2 ^ 40 = a.1 in
    let small : number_of first < 2 ^ 40 = omega (arith, top, f) in
    let least : floor ≤ loaded = a.0 in (
      record {
        kept = λ k l.
            let low : (numbers Server s w).floor ≤ loaded = l in
            let lower : (numbers Server s w).floor ≤ number_of first = omega (arith, low, f) in
            (k, record { client = tt; server = (lower, small) });
        knows = λ k. let known : (numbers Server s w).floor ≤ floor = k in (omega (arith, known, least), known);
      },
      record {
        history_is = refl;
        numbers_are = subst (λ n. AreAlike (after (Load n) (numbers Server s w)) (after (Load loaded) (nothing_drawn floor))) (sym f) (load_alike loaded (numbers Server s w) (nothing_drawn floor));
      },
    )

pub server_begins : ServerBegins
server_begins s w (starts.Fresh first) size loaded floor i a = fresh_start s w first size loaded floor i a
server_begins s w (starts.Restarted first) size loaded floor i a = later_start s w first size loaded floor i a
server_begins s w (starts.Received first highest) size loaded floor i a = absurd i
server_begins s w (starts.Reserved first highest ahead) size loaded floor i a = absurd i

pub client_begins : ClientBegins
client_begins s w loaded ms floor own g =
    let least : floor ≤ loaded = g.0.0 in (
      record {
        kept = λ k l. (k, record { client = (l, g.0.1); server = tt });
        knows = λ k.
            let known : (numbers Client s w).floor ≤ floor = k in
            let same : own.floor ≡ floor = ap (λ (o : Own). o.floor) g.1 in
            (omega (arith, known, least), omega (arith, known, same));
      },
      record { history_is = refl; numbers_are = alike_to _ _ own (load_alike loaded (numbers Client s w) (nothing_drawn floor)) g.1 },
    )
