-- A server that saves before it takes a datagram starts fresh only while nothing was delivered.
use Rattle.std.proofs.Common.{◌≡◌, ℕ, ◌<◌, ◌≤◌, ◌∙◌, sym, ap, subst, refl, arith, Bool, true, false, Option, Some, None, List, [], ◌∷◌, inl, inr}
use Rattle.std.specs.Prelude.{max}
use Rattle.std.proofs.lemmas.Bool.{cases_Bool}
use Rattle.osc_context.specs.Reserving.{next_limit}
use Rattle.osc_context.specs.SecurityContext.{SecurityContext}
use Rattle.osc_context.specs.Views.{number_of}
use Rattle.osc_window.specs.declared.window_size.WindowSize.{WindowSize}
use Rattle.osc_life.specs.declared.start.Start.{Start}
use Rattle.osc_life.specs.declared.start.Start.TheVariants as starts
use Rattle.osc_life.specs.Doubting.{OpensBy}
use Rattle.osc_life.specs.declared.doubt.Doubt.{Doubt}
use Rattle.osc_life.specs.Life.{Life, Mark, Admits, Carries, Delivered, Spoiled, Challenged, Answered, PassedOver, born, challenge, in_force, is_open, opened}
use Rattle.osc_observe.specs.Received.{Received}
use Rattle.osc_life.specs.ServerHistory as server
use Rattle.osc_kept_ends.specs.Numbering.{Own, Effect, Reserve, after, Allowed}
use Rattle.osc_kept.specs.GoingOn.{FreshBySaving, SavesFirst, needs_no_echo}
use Rattle.osc_kept.specs.Premises.{Answers, AtEach, StartsAboveDelivered, NumbersAreKept}
use Rattle.osc_kept.specs.World.{World, Begin, Then, Event, Server, ServerStarts, AtServer, Has, delivered, effect, numbers}
use Rattle.osc_kept.proofs.Deeds.{Deed, Begins, Renews, Challenges, Delivers, Notifies, Replies, born_challenge, delivers, here, life_in, owns, replied}
use Rattle.osc_kept.proofs.Digest.{delivered_is, digest}
use Rattle.osc_kept.proofs.Fitting.{carries_last, same_life}
use Rattle.osc_kept.proofs.Lives.{Stands, life_known, stands}
use Rattle.osc_kept.proofs.Owned.{own_used}
use Rattle.osc_kept.proofs.Rising.{OwnInv, limit_above, own_inv, used}

floor_rises : (e : Effect) (o : Own) (ns : List ℕ) → Allowed e o → OwnInv ns o → o.floor ≤ (after e o).floor
floor_rises Reserve o ns a i =
    let covered : o.floor ≤ o.limit = i.covered in
    let above : o.limit < next_limit o.limit = limit_above o.limit a.2 in
    omega (arith, covered, above)
floor_rises e o ns a i = omega arith

pub saved_still : (s : SecurityContext) (w : World) (event : Event) → AtEach (NumbersAreKept s) (Then w event) → 0 < (numbers Server s w).floor → 0 < (numbers Server s (Then w event)).floor
saved_still s w event k f =
    let r : (numbers Server s w).floor ≤ (numbers Server s (Then w event)).floor = floor_rises (effect Server s w event) (numbers Server s w) (used Server s w) k.1.server (own_inv Server s w k.0) in
    omega (arith, r, f)

-- ---- what a delivery stands on, where the life isn't fresh

any_owned : (s : SecurityContext) (ds : List Deed) (c : List ℕ × ℕ) → challenge (life_in s ds).marks ≡ Some c → (o : ℕ) × Has o (owns ds)
any_owned s (Begins start size ∷ ds) c e = let f : None ≡ Some c = sym (born_challenge s start size) ∙ e in cc
any_owned s (Renews next ∷ ds) c e = let f : None ≡ Some c = e in cc
any_owned s (Challenges n echo issued own m ∷ ds) c e = (own, inl refl)
any_owned s (Replies t (Some own) m ∷ ds) c e = (own, inl refl)
any_owned s (Replies t None m ∷ ds) c e = any_owned s ds c e
any_owned s (Notifies t own m ∷ ds) c e = (own, inl refl)
any_owned s (d ∷ ds) c e = any_owned s ds c e
any_owned s [] c e = let f : None ≡ Some c = e in cc

any_here : (marks : List Mark) → opened false marks ≡ true → (n : ℕ) × Has n (here marks)
any_here [] e = let f : false ≡ true = e in cc
any_here (Delivered n ∷ marks) e = (n, inl refl)
any_here (Spoiled n ∷ marks) e = any_here marks e
any_here (Challenged echo issued ∷ marks) e = any_here marks e
any_here (Answered ∷ marks) e = any_here marks e
any_here (PassedOver count ∷ marks) e = any_here marks e

replied_marks : (own : Option ℕ) (l : Life) (n : ℕ) → Has n (here (replied own l).marks) → Has n (here l.marks)
replied_marks None l n h = h
replied_marks (Some o) l n h = h

born_here : (s : SecurityContext) (start : Start) (size : WindowSize) (n : ℕ) → Has n (here (born s start size).marks) → ⊥
born_here s (starts.Fresh first) size n h = h
born_here s (starts.Restarted first) size n h = h
born_here s (starts.Received first highest) size n h = h
born_here s (starts.Reserved first highest ahead) size n h = h

here_delivered : (s : SecurityContext) (ds : List Deed) (n : ℕ) → Has n (here (life_in s ds).marks) → Has n (delivers ds)
here_delivered s (Begins start size ∷ ds) n h = absurd (born_here s start size n h)
here_delivered s (Renews next ∷ ds) n h = absurd h
here_delivered s (Delivers t m ∷ ds) n (inl e) = inl e
here_delivered s (Delivers t m ∷ ds) n (inr h) = inr (here_delivered s ds n h)
here_delivered s (Replies t own m ∷ ds) n h = here_delivered s ds n (replied_marks own (life_in s ds) n h)
here_delivered s (d ∷ ds) n h = here_delivered s ds n h
here_delivered s [] n h = absurd h

-- a life that doesn't deliver without a challenge was closed at its birth, and what opens it carries the value
waits_closed : (doubt : Option Doubt) (b : Bool) → needs_no_echo doubt b ≡ false → b ≡ false
waits_closed None b e = e
waits_closed (Some doubt) b e = let f : true ≡ false = e in cc

waits_carried : (doubt : Option Doubt) (b : Bool) (n : ℕ) (carried : Type 0) → needs_no_echo doubt b ≡ false → OpensBy doubt n carried → carried
waits_carried None b n carried e h = h
waits_carried (Some doubt) b n carried e h = let f : true ≡ false = e in absurd (cc)

-- ---- a delivery comes behind a save

abbrev pub Saves : ℕ → SecurityContext → World → Type 0
Saves n s w = AtEach (Answers n s) w × AtEach (NumbersAreKept s) w × AtEach (SavesFirst s) w

saved_before : (n : ℕ) (s : SecurityContext) (w : World) (now mid : ℕ) (echo d reply : List ℕ) (received : Received) (t : server.TicketValues)
    → Saves n s (Then w (AtServer (server.Datagram now echo mid d) (server.Took (server.Deliver received t) reply)))
    → ((k : ℕ) → Has k (delivered w) → 0 < (numbers Server s w).floor) → 0 < (numbers Server s w).floor
saved_before n s w now mid echo d reply received t (a, k, f) earlier =
    let h : server.History = a.1.0 in
    let x = a.1.2.0 in
    let ds : List Deed = digest s w in
    let l : Life = life_in s ds in
    let stood : Stands s ds h = stands n s w h a.0 a.1.1 in
    let clock : ℕ = max (server.clock h) now in
    let e : x.2 ≡ l = same_life s ds h x.0 x.2 stood x.3.life_is in
    let admits : Admits l clock x.1 received.message = subst (λ y. Admits y clock x.1 received.message) e x.4.1 in
    elim (cases_Bool (needs_no_echo l.doubt l.open_at_birth)) [
      | inl ready ↦ f.1 l (life_known s w h l a.1.1 stood.present) ready
      | inr waits ↦ let older : l.open_at_birth ≡ false = waits_closed l.doubt l.open_at_birth waits in elim (cases_Bool (is_open l)) [
        | inl open' ↦
            let some = any_here l.marks (sym (ap (λ b. opened b l.marks) older) ∙ open') in
            earlier some.0 (subst (λ ns. Has some.0 ns) (sym (delivered_is s w)) (here_delivered s ds some.0 some.1))
        | inr closed ↦
            let last = carries_last l clock received.message (waits_carried l.doubt l.open_at_birth x.1 (Carries (in_force l clock) received.message) waits (admits.1 closed)) in
            let own = any_owned s ds last.0 last.1 in
            let below : own.0 < (numbers Server s w).floor = (own_inv Server s w k.0).below own.0 (own_used n s w own.0 a.0 own.1) in
            omega (arith, below)
      ]
    ]

saved : (n : ℕ) (s : SecurityContext) (w : World) → Saves n s w → (k : ℕ) → Has k (delivered w) → 0 < (numbers Server s w).floor
saved n s Begin i k h = absurd h
saved n s (Then w (AtServer (server.Datagram now echo mid d) (server.Took (server.Deliver received t) reply))) (a, b, f) k h =
    let event : Event = AtServer (server.Datagram now echo mid d) (server.Took (server.Deliver received t) reply) in
    saved_still s w event b (saved_before n s w now mid echo d reply received t (a, b, f) (saved n s w (a.0, b.0, f.0)))
saved n s (Then w event) (a, b, f) k h = saved_still s w event b (saved n s w (a.0, b.0, f.0) k h)

none_there : (xs : List ℕ) → ((k : ℕ) → Has k xs → ⊥) → xs ≡ []
none_there [] f = refl
none_there (x ∷ xs) f = absurd (f x (inl refl))

fresh_at : (n : ℕ) (s : SecurityContext) (w : World) (event : Event) → Saves n s (Then w event) → StartsAboveDelivered w event
fresh_at n s w (ServerStarts (starts.Fresh first) size) (a, b, f) = none_there (delivered w) (λ k h.
    let floor : 0 < (numbers Server s w).floor = saved n s w (a.0, b.0, f.0) k h in
    let least : (numbers Server s w).floor ≤ number_of first = b.1.server.0 in
    let zero' : number_of first ≡ 0 = f.1 in
    omega (arith, floor, least, zero'))
fresh_at n s w (ServerStarts (starts.Received first highest) size) (a, b, f) = f.1
fresh_at n s w (ServerStarts (starts.Reserved first highest ahead) size) (a, b, f) = f.1
fresh_at n s w event i = tt

pub fresh_by_saving : FreshBySaving
fresh_by_saving n s Begin a b f = tt
fresh_by_saving n s (Then w event) a b f = (fresh_by_saving n s w a.0 b.0 f.0, fresh_at n s w event (a, b, f))
