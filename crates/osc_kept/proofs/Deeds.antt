-- What two ends do, as far as it matters for requests that are delivered once: a list of deeds, newest first. ds are the deeds so far, n is the number of a
-- request, m its message. No request is delivered twice, whatever the lives of the server.
use Rattle.std.proofs.Common.{◌≡◌, ℕ, ◌+◌, ◌<◌, ◌≤◌, ◌∙◌, sym, ap, subst, refl, arith, Bool, true, false, Option, Some, None, List, [], ◌∷◌, ◌⊎◌, inl, inr}
use Rattle.std.specs.Prelude.{◌≢◌, All, cond, unwrap_or}
use Rattle.std.proofs.lemmas.Bool.{cases_Bool}
use Rattle.std.proofs.lemmas.List.Elements.{All-head, All-tail}
use Rattle.osc_coap.specs.Inner.{InnerParts}
use Rattle.osc_coap.specs.Interpreted.{interpreted}
use Rattle.osc_coap.specs.OptionNumbers as options
use Rattle.osc_context.specs.SecurityContext.{SecurityContext}
use Rattle.osc_context.specs.Views.{number_of}
use Rattle.osc_life.specs.Doubting.{OpensBy}
use Rattle.osc_life.specs.declared.doubt.Doubt.{Doubt}
use Rattle.osc_life.specs.declared.start.Start.{Start}
use Rattle.osc_life.specs.declared.start.Start.TheVariants as starts
use Rattle.osc_life.specs.Life.{Life, Mark, Delivered, Spoiled, Challenged, Answered, PassedOver, Passes, born, challenge, first_delivered, floor, is_open, opened, renewed, spent}
use Rattle.osc_observe.specs.Observing.{is_notification}
use Rattle.osc_life.specs.ServerHistory.{TicketValues}
use Rattle.osc_window.specs.declared.window_size.WindowSize.{WindowSize}
use Rattle.osc_window.specs.declared.window_size.WindowSize.TheVariants.{Places32}
use Rattle.osc_kept.specs.World.{Has, Request, Response}

pub data Deed : Type 0 where
  Sends : (number : ℕ) (message : InnerParts) → Deed
  Begins : (start : Start) (size : WindowSize) → Deed
  Renews : (next : ℕ) → Deed
  Skips : (count : ℕ) → Deed
  Spoils : (number : ℕ) → Deed
  Challenges : (number : ℕ) (echo : List ℕ) (issued own : ℕ) (message : InnerParts) → Deed
  Delivers : (ticket : TicketValues) (message : InnerParts) → Deed
  Replies : (ticket : TicketValues) (own : Option ℕ) (message : InnerParts) → Deed
  Notifies : (ticket : TicketValues) (own : ℕ) (message : InnerParts) → Deed
  Nothing : Deed

-- ---- what came of them

abbrev pub sends : List Deed → List Request
sends [] = []
sends (Sends n m ∷ ds) = record { number = n; message = m } ∷ sends ds
sends (d ∷ ds) = sends ds

abbrev pub delivers : List Deed → List ℕ
delivers [] = []
delivers (Delivers t m ∷ ds) = t.number ∷ delivers ds
delivers (d ∷ ds) = delivers ds

abbrev pub with_mark : Mark → Life → Life
with_mark mark l = record l { marks = mark ∷ l.marks }

abbrev pub replied : Option ℕ → Life → Life
replied None l = l
replied (Some own) l = with_mark Answered l

-- the present life of the server; one without a request, as long as none began
abbrev pub life_in : SecurityContext → List Deed → Life
life_in s [] = record { context = s; size = Places32; count = 0; open_at_birth = false; least = 0; doubt = None; first = 0; marks = [] }
life_in s (Begins start size ∷ ds) = born s start size
life_in s (Renews next ∷ ds) = renewed next (life_in s ds)
life_in s (Skips count ∷ ds) = with_mark (PassedOver count) (life_in s ds)
life_in s (Spoils n ∷ ds) = with_mark (Spoiled n) (life_in s ds)
life_in s (Challenges n echo issued own m ∷ ds) = with_mark (Challenged echo issued) (life_in s ds)
life_in s (Delivers t m ∷ ds) = with_mark (Delivered t.number) (life_in s ds)
life_in s (Replies t own m ∷ ds) = replied own (life_in s ds)
life_in s (Notifies t own m ∷ ds) = with_mark Answered (life_in s ds)
life_in s (d ∷ ds) = life_in s ds

-- the tickets that were given, and taken, since the server started
abbrev pub given : List Deed → List TicketValues
given [] = []
given (Begins start size ∷ ds) = []
given (Delivers t m ∷ ds) = t ∷ given ds
given (d ∷ ds) = given ds

abbrev pub taken : List Deed → List TicketValues
taken [] = []
taken (Begins start size ∷ ds) = []
taken (Replies t own m ∷ ds) = t ∷ taken ds
taken (d ∷ ds) = taken ds

-- the responses that were sealed
abbrev pub answers : List Deed → List Response
answers [] = []
answers (Challenges n echo issued own m ∷ ds) = record { number = n; own = Some own; message = m } ∷ answers ds
answers (Replies t own m ∷ ds) = record { number = t.number; own = own; message = m } ∷ answers ds
answers (Notifies t own m ∷ ds) = record { number = t.number; own = Some own; message = m } ∷ answers ds
answers (d ∷ ds) = answers ds

-- the server's Sender Sequence Numbers
abbrev pub owns : List Deed → List ℕ
owns [] = []
owns (Challenges n echo issued own m ∷ ds) = own ∷ owns ds
owns (Replies t (Some own) m ∷ ds) = own ∷ owns ds
owns (Notifies t own m ∷ ds) = own ∷ owns ds
owns (d ∷ ds) = owns ds

-- ---- what each wants

abbrev pub carried : InnerParts → Option (List ℕ)
carried m = interpreted options.echo m.options

abbrev pub AllBelow : List ℕ → ℕ → Type 0
AllBelow ns n = (m : ℕ) → Has m ns → m < n

abbrev pub IsSent : List Deed → ℕ → Type 0
IsSent ds n = (r : Request) × Has r (sends ds) × (r.number ≡ n)

-- the message has the value of the life's last challenge
abbrev pub CarriesLast : Life → InnerParts → Type 0
CarriesLast l m = (c : List ℕ × ℕ) × (challenge l.marks ≡ Some c) × (carried m ≡ Some c.0)

abbrev pub Holds : List Deed → TicketValues → Type 0
Holds ds t = Has t (given ds) × (Has t (taken ds) → ⊥)

abbrev pub Fits : SecurityContext → List Deed → Deed → Type 0
Fits s ds (Sends n m) = (r : Request) → Has r (sends ds) → r.number < n
Fits s ds (Begins (starts.Fresh first) size) = (n : ℕ) → Has n (delivers ds) → ⊥
Fits s ds (Begins (starts.Received first highest) size) = (n : ℕ) → Has n (delivers ds) → n ≤ number_of highest
Fits s ds (Begins (starts.Reserved first highest ahead) size) = (n : ℕ) → Has n (delivers ds) → n ≤ number_of highest
Fits s ds (Delivers t m) = Passes (life_in s ds) t.number × (is_open (life_in s ds) ≡ false → OpensBy (life_in s ds).doubt t.number (CarriesLast (life_in s ds) m))
    × Has (record { number = t.number; message = m }) (sends ds)
Fits s ds (Challenges n echo issued own m) = IsSent ds n × AllBelow (owns ds) own
    × ((challenge (life_in s ds).marks ≡ Some (echo, issued)) ⊎ ((r : Request) → Has r (sends ds) → carried r.message ≡ Some echo → ⊥))
    × (is_notification m.code m.options ≡ false)
Fits s ds (Replies t None m) = Holds ds t × (is_notification m.code m.options ≡ false)
Fits s ds (Replies t (Some own) m) = Holds ds t × AllBelow (owns ds) own
Fits s ds (Notifies t own m) = Holds ds t × AllBelow (owns ds) own
Fits s ds deed = Unit {0}

abbrev pub AllFit : SecurityContext → List Deed → Type 0
AllFit s [] = Unit {0}
AllFit s (d ∷ ds) = AllFit s ds × Fits s ds d

-- ---- one life

all_has : {A : Type 0} (P : A → Type 0) (xs : List A) (x : A) → All P xs → Has x xs → P x
all_has P [] x a h = absurd h
all_has P (y ∷ ys) x a (inl e) = subst P (sym e) (All-head P y ys a)
all_has P (y ∷ ys) x a (inr h) = all_has P ys x (All-tail P y ys a) h

some_is : {A : Type 0} {a b : A} → Some a ≡ Some b → a ≡ b
some_is e = cc

-- the numbers that were delivered in it
abbrev pub here : List Mark → List ℕ
here [] = []
here (Delivered n ∷ marks) = n ∷ here marks
here (Spoiled n ∷ marks) = here marks
here (Challenged echo issued ∷ marks) = here marks
here (Answered ∷ marks) = here marks
here (PassedOver count ∷ marks) = here marks

closed_here : (fresh : Bool) (marks : List Mark) (n : ℕ) → opened fresh marks ≡ false → Has n (here marks) → ⊥
closed_here fresh [] n e h = h
closed_here fresh (Delivered m ∷ marks) n e h = let f : true ≡ false = e in cc
closed_here fresh (Spoiled m ∷ marks) n e h = closed_here fresh marks n e h
closed_here fresh (Challenged echo issued ∷ marks) n e h = closed_here fresh marks n e h
closed_here fresh (Answered ∷ marks) n e h = closed_here fresh marks n e h
closed_here fresh (PassedOver count ∷ marks) n e h = closed_here fresh marks n e h

spoiled_spent : (b : Bool) (n m : ℕ) (ms : List ℕ) → Has n ms → Has n (cond b (m ∷ ms) ms)
spoiled_spent true n m ms h = inr h
spoiled_spent false n m ms h = h

here_spent : (fresh : Bool) (marks : List Mark) (n : ℕ) → Has n (here marks) → Has n (spent fresh marks)
here_spent fresh [] n h = absurd h
here_spent fresh (Delivered m ∷ marks) n (inl e) = inl e
here_spent fresh (Delivered m ∷ marks) n (inr h) = inr (here_spent fresh marks n h)
here_spent fresh (Spoiled m ∷ marks) n h = spoiled_spent (opened fresh marks) n m (spent fresh marks) (here_spent fresh marks n h)
here_spent fresh (Challenged echo issued ∷ marks) n h = here_spent fresh marks n h
here_spent fresh (Answered ∷ marks) n h = here_spent fresh marks n h
here_spent fresh (PassedOver count ∷ marks) n h = here_spent fresh marks n h

-- a restarted life is open exactly if something was delivered in it
none_closed : (marks : List Mark) → first_delivered marks ≡ None → opened false marks ≡ false
none_closed [] e = refl
none_closed (Delivered m ∷ marks) e = cc
none_closed (Spoiled m ∷ marks) e = none_closed marks e
none_closed (Challenged echo issued ∷ marks) e = none_closed marks e
none_closed (Answered ∷ marks) e = none_closed marks e
none_closed (PassedOver count ∷ marks) e = none_closed marks e

cases_option : {A : Type 0} (o : Option A) → (o ≡ None) ⊎ ((x : A) × (o ≡ Some x))
cases_option None = inl refl
cases_option (Some x) = inr (x, refl)

-- ---- requests: each of its own Partial IV

pub one_request : (s : SecurityContext) (ds : List Deed) (r q : Request) → AllFit s ds → Has r (sends ds) → Has q (sends ds) → r.number ≡ q.number → r ≡ q
one_request s (Sends n m ∷ ds) r q a (inl e) (inl f) g = e ∙ sym f
one_request s (Sends n m ∷ ds) r q a (inl e) (inr h) g =
    let l : q.number < n = a.1 q h in
    let k : r.number ≡ n = ap (λ (x : Request). x.number) e in
    absurd (omega (arith, l, k, g))
one_request s (Sends n m ∷ ds) r q a (inr h) (inl e) g =
    let l : r.number < n = a.1 r h in
    let k : q.number ≡ n = ap (λ (x : Request). x.number) e in
    absurd (omega (arith, l, k, g))
one_request s (Sends n m ∷ ds) r q a (inr h) (inr k) g = one_request s ds r q a.0 h k g
one_request s (d ∷ ds) r q a h k g = one_request s ds r q a.0 h k g
one_request s [] r q a h k g = absurd h

-- the requests that were sent before the server's present life began
abbrev pub cut : List Deed → List Request
cut [] = []
cut (Begins start size ∷ ds) = sends ds
cut (Renews next ∷ ds) = sends ds
cut (d ∷ ds) = cut ds

cut_sent : (ds : List Deed) (r : Request) → Has r (cut ds) → Has r (sends ds)
cut_sent (Begins start size ∷ ds) r h = h
cut_sent (Renews next ∷ ds) r h = h
cut_sent (Sends n m ∷ ds) r h = inr (cut_sent ds r h)
cut_sent (d ∷ ds) r h = cut_sent ds r h
cut_sent [] r h = absurd h

-- the others have greater numbers
abbrev AboveSent : List Deed → ℕ → Type 0
AboveSent ds n = (q : Request) → Has q (cut ds) → q.number < n

later : (s : SecurityContext) (ds : List Deed) (r : Request) → AllFit s ds → Has r (sends ds) → Has r (cut ds) ⊎ AboveSent ds r.number
later s (Begins start size ∷ ds) r a h = inl h
later s (Renews next ∷ ds) r a h = inl h
later s (Sends n m ∷ ds) r a (inl e) = inr (λ q k. subst (λ x. q.number < x) (sym (ap (λ (x : Request). x.number) e)) (a.1 q (cut_sent ds q k)))
later s (Sends n m ∷ ds) r a (inr h) = later s ds r a.0 h
later s (d ∷ ds) r a h = later s ds r a.0 h
later s [] r a h = absurd h

-- ---- over all lives

sent_more : (n : ℕ) (m : InnerParts) (ds : List Deed) (k : ℕ) → IsSent ds k → IsSent (Sends n m ∷ ds) k
sent_more n m ds k (r, h, e) = (r, inr h, e)

pub delivered_sent : (s : SecurityContext) (ds : List Deed) (n : ℕ) → AllFit s ds → Has n (delivers ds) → IsSent ds n
delivered_sent s (Delivers t m ∷ ds) n a (inl e) = (_, a.1.2, sym e)
delivered_sent s (Delivers t m ∷ ds) n a (inr h) = delivered_sent s ds n a.0 h
delivered_sent s (Sends k m ∷ ds) n a h = sent_more k m ds n (delivered_sent s ds n a.0 h)
delivered_sent s (d ∷ ds) n a h = delivered_sent s ds n a.0 h
delivered_sent s [] n a h = absurd h

-- the numbers that were delivered before the server's present life began
abbrev pub before_life : List Deed → List ℕ
before_life [] = []
before_life (Begins start size ∷ ds) = delivers ds
before_life (Renews next ∷ ds) = delivers ds
before_life (d ∷ ds) = before_life ds

-- the number is above those
abbrev pub Above : List Deed → ℕ → Type 0
Above ds n = AllBelow (before_life ds) n

-- they were sent before it began
early_sent : (s : SecurityContext) (ds : List Deed) (n : ℕ) → AllFit s ds → Has n (before_life ds) → (r : Request) × Has r (cut ds) × (r.number ≡ n)
early_sent s (Begins start size ∷ ds) n a h = delivered_sent s ds n a.0 h
early_sent s (Renews next ∷ ds) n a h = delivered_sent s ds n a.0 h
early_sent s (d ∷ ds) n a h = early_sent s ds n a.0 h
early_sent s [] n a h = absurd h

replied_here : (own : Option ℕ) (l : Life) (n : ℕ) → Has n (here l.marks) → Has n (here (replied own l).marks)
replied_here None l n h = h
replied_here (Some o) l n h = h

-- what was delivered was so in this life, or before it began
earlier : (s : SecurityContext) (ds : List Deed) (n : ℕ) → AllFit s ds → Has n (delivers ds) → Has n (here (life_in s ds).marks) ⊎ Has n (before_life ds)
earlier s (Begins start size ∷ ds) n a h = inr h
earlier s (Renews next ∷ ds) n a h = inr h
earlier s (Delivers t m ∷ ds) n a (inl e) = inl (inl e)
earlier s (Delivers t m ∷ ds) n a (inr h) = elim (earlier s ds n a.0 h) [
  | inl k ↦ inl (inr k)
  | inr k ↦ inr k
]
earlier s (Replies t own m ∷ ds) n a h = elim (earlier s ds n a.0 h) [
  | inl k ↦ inl (replied_here own (life_in s ds) n k)
  | inr k ↦ inr k
]
earlier s (d ∷ ds) n a h = earlier s ds n a.0 h
earlier s [] n a h = absurd h

pub replied_challenge : (own : Option ℕ) (l : Life) → challenge (replied own l).marks ≡ challenge l.marks
replied_challenge None l = refl
replied_challenge (Some o) l = refl

pub born_challenge : (s : SecurityContext) (start : Start) (size : WindowSize) → challenge (born s start size).marks ≡ None
born_challenge s (starts.Fresh first) size = refl
born_challenge s (starts.Restarted first) size = refl
born_challenge s (starts.Received first highest) size = refl
born_challenge s (starts.Reserved first highest ahead) size = refl

-- no request that was sent before this life carries the value of its last challenge
challenged : (s : SecurityContext) (ds : List Deed) (c : List ℕ × ℕ) (q : Request) → AllFit s ds → challenge (life_in s ds).marks ≡ Some c → Has q (cut ds)
    → carried q.message ≡ Some c.0 → ⊥
challenged s (Begins start size ∷ ds) c q a e h k = let f : None ≡ Some c = sym (born_challenge s start size) ∙ e in cc
challenged s (Renews next ∷ ds) c q a e h k = let f : None ≡ Some c = e in cc
challenged s (Challenges n echo issued own m ∷ ds) c q a e h k = elim a.1.2 [
  | inl same ↦ challenged s ds c q a.0 (same ∙ e) h k
  | inr none ↦ none q (cut_sent ds q h) (k ∙ sym (ap (λ (x : List ℕ × ℕ). Some x.0) (some_is e)))
]
challenged s (Replies t own m ∷ ds) c q a e h k = challenged s ds c q a.0 (sym (replied_challenge own (life_in s ds)) ∙ e) h k
challenged s (d ∷ ds) c q a e h k = challenged s ds c q a.0 e h k
challenged s [] c q a e h k = absurd h

replied_doubt : (own : Option ℕ) (l : Life) → (replied own l).doubt ≡ l.doubt
replied_doubt None l = refl
replied_doubt (Some o) l = refl

no_doubt : (doubt : Doubt) → None ≡ Some doubt → ⊥
no_doubt doubt e = cc

-- what was delivered before the life isn't above the numbers in doubt
within_doubt : (s : SecurityContext) (ds : List Deed) (doubt : Doubt) → AllFit s ds → (life_in s ds).doubt ≡ Some doubt → Above ds doubt.limit
within_doubt s (Begins (starts.Fresh first) size ∷ ds) doubt a e q h = absurd (no_doubt doubt e)
within_doubt s (Begins (starts.Restarted first) size ∷ ds) doubt a e q h = absurd (no_doubt doubt e)
within_doubt s (Begins (starts.Received first highest) size ∷ ds) doubt a e q h = absurd (no_doubt doubt e)
within_doubt s (Begins (starts.Reserved first highest ahead) size ∷ ds) doubt a e q h =
    let limit : number_of highest + 1 ≡ doubt.limit = ap (λ (x : Doubt). x.limit) (some_is e) in
    let most : q ≤ number_of highest = a.1 q h in
    omega (arith, limit, most)
within_doubt s (Renews next ∷ ds) doubt a e q h = absurd (no_doubt doubt e)
within_doubt s (Replies t own m ∷ ds) doubt a e q h = within_doubt s ds doubt a.0 (sym (replied_doubt own (life_in s ds)) ∙ e) q h
within_doubt s (d ∷ ds) doubt a e q h = within_doubt s ds doubt a.0 e q h
within_doubt s [] doubt a e q h = absurd h

-- a request that carries the value of the life's last challenge was sent after the life began: its number is above all that were sent before
carries_above : (s : SecurityContext) (ds : List Deed) (n : ℕ) (m : InnerParts) → AllFit s ds → CarriesLast (life_in s ds) m → Has (record { number = n; message = m }) (sends ds)
    → Above ds n
carries_above s ds n m a (c, is, value) h = elim (later s ds (record { number = n; message = m }) a h) [
  | inl k ↦ absurd (challenged s ds c (record { number = n; message = m }) a is k value)
  | inr above ↦ λ q early.
      let sent = early_sent s ds q a early in
      let less : sent.0.number < n = above sent.0 sent.1 in
      let same : sent.0.number ≡ q = sent.2 in
      omega (arith, less, same)
]

opens_above : (s : SecurityContext) (ds : List Deed) (n : ℕ) (m : InnerParts) (o : Option Doubt) → (life_in s ds).doubt ≡ o → AllFit s ds → OpensBy o n (CarriesLast (life_in s ds) m)
    → Has (record { number = n; message = m }) (sends ds) → Above ds n
opens_above s ds n m None e a opens h = carries_above s ds n m a opens h
opens_above s ds n m (Some doubt) e a (inl beyond) h = λ q early. let less : q < doubt.limit = within_doubt s ds doubt a e q early in omega (arith, less, beyond)
opens_above s ds n m (Some doubt) e a (inr carries) h = carries_above s ds n m a carries h

-- the number of a request that passes a closed life is above all that was delivered before the life began
passes_above : (s : SecurityContext) (ds : List Deed) (n : ℕ) (m : InnerParts) → AllFit s ds → OpensBy (life_in s ds).doubt n (CarriesLast (life_in s ds) m)
    → Has (record { number = n; message = m }) (sends ds) → Above ds n
passes_above s ds n m a opens h = opens_above s ds n m (life_in s ds).doubt refl a opens h

replied_first : (own : Option ℕ) (l : Life) → first_delivered (replied own l).marks ≡ first_delivered l.marks
replied_first None l = refl
replied_first (Some o) l = refl

pub replied_fresh : (own : Option ℕ) (l : Life) → (replied own l).open_at_birth ≡ l.open_at_birth
replied_fresh None l = refl
replied_fresh (Some o) l = refl

born_first : (s : SecurityContext) (start : Start) (size : WindowSize) → first_delivered (born s start size).marks ≡ None
born_first s (starts.Fresh first) size = refl
born_first s (starts.Restarted first) size = refl
born_first s (starts.Received first highest) size = refl
born_first s (starts.Reserved first highest ahead) size = refl

first_step : (n f q : ℕ) (o : Option ℕ) → ((g : ℕ) → o ≡ Some g → q < g) → (o ≡ None → q < n) → unwrap_or o n ≡ f → q < f
first_step n f q None i j e = subst (λ x. q < x) e (j refl)
first_step n f q (Some g) i j e = subst (λ x. q < x) e (i g refl)

-- the floor of a life that was closed at its birth is above all that was delivered before it
first : (s : SecurityContext) (ds : List Deed) (f : ℕ) → AllFit s ds → (life_in s ds).open_at_birth ≡ false → first_delivered (life_in s ds).marks ≡ Some f → Above ds f
first s (Begins start size ∷ ds) f a r e q h = let g : None ≡ Some f = sym (born_first s start size) ∙ e in cc
first s (Renews next ∷ ds) f a r e q h = let g : None ≡ Some f = e in cc
first s (Delivers t m ∷ ds) f a r e q h =
    let l = life_in s ds in
    first_step t.number f q (first_delivered l.marks)
    (λ g x. first s ds g a.0 r x q h)
    (λ x. passes_above s ds t.number m a.0 (a.1.1 (ap (λ b. opened b l.marks) r ∙ none_closed l.marks x)) a.1.2 q h)
    (some_is e)
first s (Replies t own m ∷ ds) f a r e q h = first s ds f a.0 (sym (replied_fresh own (life_in s ds)) ∙ r) (sym (replied_first own (life_in s ds)) ∙ e) q h
first s (d ∷ ds) f a r e q h = first s ds f a.0 r e q h
first s [] f a r e q h = absurd h

replied_least : (own : Option ℕ) (l : Life) → (replied own l).least ≡ l.least
replied_least None l = refl
replied_least (Some own) l = refl

-- what was delivered before a life that was open at its birth is below the least number of that
abbrev IsHereOrBelow : Life → ℕ → Type 0
IsHereOrBelow l n = Has n (here l.marks) ⊎ (n < l.least)

fresh_here : (s : SecurityContext) (ds : List Deed) (n : ℕ) → AllFit s ds → (life_in s ds).open_at_birth ≡ true → Has n (delivers ds) → IsHereOrBelow (life_in s ds) n
fresh_here s (Begins (starts.Fresh first) size ∷ ds) n a r h = absurd (a.1 n h)
fresh_here s (Begins (starts.Restarted first) size ∷ ds) n a r h = let f : false ≡ true = r in cc
fresh_here s (Begins (starts.Received first highest) size ∷ ds) n a r h = inr (let most = a.1 n h in omega (arith, most))
fresh_here s (Begins (starts.Reserved first highest ahead) size ∷ ds) n a r h = let f : false ≡ true = r in cc
fresh_here s (Renews next ∷ ds) n a r h = let f : false ≡ true = r in cc
fresh_here s (Delivers t m ∷ ds) n a r (inl e) = inl (inl e)
fresh_here s (Delivers t m ∷ ds) n a r (inr h) = elim (fresh_here s ds n a.0 r h) [ inl x ↦ inl (inr x) | inr low ↦ inr low ]
fresh_here s (Replies t own m ∷ ds) n a r h = elim (fresh_here s ds n a.0 (sym (replied_fresh own (life_in s ds)) ∙ r) h) [
  | inl x ↦ inl (replied_here own (life_in s ds) n x)
  | inr low ↦ inr (subst (λ k. n < k) (sym (replied_least own (life_in s ds))) low)
]
fresh_here s (d ∷ ds) n a r h = fresh_here s ds n a.0 r h
fresh_here s [] n a r h = absurd h

-- ---- at most once

in_this_life : (l : Life) (n : ℕ) → Passes l n → is_open l ≡ true → Has n (here l.marks) → ⊥
in_this_life l n p o h = all_has (λ m. m ≢ n) (spent l.open_at_birth l.marks) n (p.0 o).unspent (here_spent l.open_at_birth l.marks n h) refl

-- its number is at least the floor of the life, which was closed at its birth, so it isn't one that was delivered before
not_early : (s : SecurityContext) (ds : List Deed) (n : ℕ) → AllFit s ds → Passes (life_in s ds) n → (life_in s ds).open_at_birth ≡ false → is_open (life_in s ds) ≡ true → Has n (before_life ds) → ⊥
not_early s ds n a p r o k =
    let l = life_in s ds in
    elim (cases_option (first_delivered l.marks)) [
      | inl e ↦
          let c : opened l.open_at_birth l.marks ≡ false = ap (λ b. opened b l.marks) r ∙ none_closed l.marks e in
          let f : true ≡ false = sym o ∙ c in
          cc
      | inr x ↦
          let above : n < x.0 = first s ds x.0 a r x.1 n k in
          let least : floor l.least l.open_at_birth l.marks ≤ n = (p.0 o).above in
          let g : floor l.least l.open_at_birth l.marks ≡ x.0 = ap (λ b. cond b l.least (unwrap_or (first_delivered l.marks) 0)) r ∙ ap (λ y. unwrap_or y 0) x.1 in
          absurd (omega (arith, above, least, g))
    ]

pub never_again : (s : SecurityContext) (ds : List Deed) (n : ℕ) (m : InnerParts) → AllFit s ds → Passes (life_in s ds) n
    → (is_open (life_in s ds) ≡ false → OpensBy (life_in s ds).doubt n (CarriesLast (life_in s ds) m))
    → Has (record { number = n; message = m }) (sends ds) → Has n (delivers ds) → ⊥
never_again s ds n m a passes may sent h =
    let l = life_in s ds in
    elim (cases_Bool (is_open l)) [
      | inl open' ↦ elim (cases_Bool l.open_at_birth) [
        | inl r ↦ elim (fresh_here s ds n a r h) [
          | inl k ↦ in_this_life l n passes open' k
          | inr low ↦
              let least : floor l.least l.open_at_birth l.marks ≤ n = (passes.0 open').above in
              let g : floor l.least l.open_at_birth l.marks ≡ l.least = ap (λ b. cond b l.least (unwrap_or (first_delivered l.marks) 0)) r in
              absurd (omega (arith, low, least, g))
        ]
        | inr r ↦ elim (earlier s ds n a h) [
          | inl k ↦ in_this_life l n passes open' k
          | inr k ↦ not_early s ds n a passes r open' k
        ]
      ]
      | inr closed ↦ elim (earlier s ds n a h) [
        | inl k ↦ absurd (closed_here l.open_at_birth l.marks n closed k)
        | inr k ↦
            let above : n < n = passes_above s ds n m a (may closed) sent n k in
            absurd (omega (arith, above))
      ]
    ]

-- a delivery is of a number that wasn't delivered before
pub not_before : (s : SecurityContext) (ds : List Deed) (t : TicketValues) (m : InnerParts) → AllFit s (Delivers t m ∷ ds) → Has t.number (delivers ds) → ⊥
not_before s ds t m a h = never_again s ds t.number m a.0 a.1.0 a.1.1 a.1.2 h

-- ---- tickets: a response without a Partial IV of its own answers a request that no such one answered before

-- the numbers that were delivered before the server last started
abbrev pub past : List Deed → List ℕ
past [] = []
past (Begins start size ∷ ds) = delivers ds
past (d ∷ ds) = past ds

past_delivered : (ds : List Deed) (n : ℕ) → Has n (past ds) → Has n (delivers ds)
past_delivered (Begins start size ∷ ds) n h = h
past_delivered (Delivers t m ∷ ds) n h = inr (past_delivered ds n h)
past_delivered (d ∷ ds) n h = past_delivered ds n h
past_delivered [] n h = absurd h

pub given_delivered : (ds : List Deed) (t : TicketValues) → Has t (given ds) → Has t.number (delivers ds)
given_delivered (Begins start size ∷ ds) t h = absurd h
given_delivered (Delivers u m ∷ ds) t (inl e) = inl (ap (λ (y : TicketValues). y.number) e)
given_delivered (Delivers u m ∷ ds) t (inr h) = inr (given_delivered ds t h)
given_delivered (d ∷ ds) t h = given_delivered ds t h
given_delivered [] t h = absurd h

given_not_past : (s : SecurityContext) (ds : List Deed) (t : TicketValues) → AllFit s ds → Has t (given ds) → Has t.number (past ds) → ⊥
given_not_past s (Begins start size ∷ ds) t a h k = h
given_not_past s (Delivers u m ∷ ds) t a (inl e) k = not_before s ds u m a (subst (λ y. Has y (delivers ds)) (ap (λ (y : TicketValues). y.number) e) (past_delivered ds t.number k))
given_not_past s (Delivers u m ∷ ds) t a (inr h) k = given_not_past s ds t a.0 h k
given_not_past s (d ∷ ds) t a h k = given_not_past s ds t a.0 h k
given_not_past s [] t a h k = h

given_one : (s : SecurityContext) (ds : List Deed) (t u : TicketValues) → AllFit s ds → Has t (given ds) → Has u (given ds) → t.number ≡ u.number → t ≡ u
given_one s (Begins start size ∷ ds) t u a h k e = absurd h
given_one s (Delivers v m ∷ ds) t u a (inl f) (inl g) e = f ∙ sym g
given_one s (Delivers v m ∷ ds) t u a (inl f) (inr k) e =
    absurd (not_before s ds v m a (subst (λ y. Has y (delivers ds)) (sym e ∙ ap (λ (y : TicketValues). y.number) f) (given_delivered ds u k)))
given_one s (Delivers v m ∷ ds) t u a (inr h) (inl g) e =
    absurd (not_before s ds v m a (subst (λ y. Has y (delivers ds)) (e ∙ ap (λ (y : TicketValues). y.number) g) (given_delivered ds t h)))
given_one s (Delivers v m ∷ ds) t u a (inr h) (inr k) e = given_one s ds t u a.0 h k e
given_one s (d ∷ ds) t u a h k e = given_one s ds t u a.0 h k e
given_one s [] t u a h k e = absurd h

taken_given : (s : SecurityContext) (ds : List Deed) (t : TicketValues) → AllFit s ds → Has t (taken ds) → Has t (given ds)
taken_given s (Begins start size ∷ ds) t a h = h
taken_given s (Delivers u m ∷ ds) t a h = inr (taken_given s ds t a.0 h)
taken_given s (Replies u None m ∷ ds) t a (inl e) = subst (λ y. Has y (given ds)) (sym e) a.1.0.0
taken_given s (Replies u (Some own) m ∷ ds) t a (inl e) = subst (λ y. Has y (given ds)) (sym e) a.1.0.0
taken_given s (Replies u own m ∷ ds) t a (inr h) = taken_given s ds t a.0 h
taken_given s (d ∷ ds) t a h = taken_given s ds t a.0 h
taken_given s [] t a h = absurd h

abbrev pub IsTaken : List Deed → ℕ → Type 0
IsTaken ds n = (t : TicketValues) × Has t (taken ds) × (t.number ≡ n)

-- what was sealed with a request's nonce: to a ticket that was taken since the server started, or before that
shared : (s : SecurityContext) (ds : List Deed) (r : Response) → AllFit s ds → Has r (answers ds) → r.own ≡ None → Has r.number (past ds) ⊎ IsTaken ds r.number
shared s (Begins start size ∷ ds) r a h e = elim (shared s ds r a.0 h e) [
  | inl k ↦ inl (past_delivered ds r.number k)
  | inr k ↦ inl (subst (λ y. Has y (delivers ds)) k.2 (given_delivered ds k.0 (taken_given s ds k.0 a.0 k.1)))
]
shared s (Challenges n echo issued own m ∷ ds) r a (inl f) e = let g : Some own ≡ None = sym (ap (λ (x : Response). x.own) f) ∙ e in cc
shared s (Challenges n echo issued own m ∷ ds) r a (inr h) e = shared s ds r a.0 h e
shared s (Replies t own m ∷ ds) r a (inl f) e = inr (t, inl refl, sym (ap (λ (x : Response). x.number) f))
shared s (Replies t own m ∷ ds) r a (inr h) e = elim (shared s ds r a.0 h e) [
  | inl k ↦ inl k
  | inr k ↦ inr (k.0, inr k.1, k.2)
]
shared s (Notifies t own m ∷ ds) r a (inl f) e = let g : Some own ≡ None = sym (ap (λ (x : Response). x.own) f) ∙ e in cc
shared s (Notifies t own m ∷ ds) r a (inr h) e = shared s ds r a.0 h e
shared s (d ∷ ds) r a h e = shared s ds r a.0 h e
shared s [] r a h e = absurd h

-- no response without a Partial IV of its own was sealed before to the request of a ticket that is held
pub not_shared : (s : SecurityContext) (ds : List Deed) (t : TicketValues) (r : Response) → AllFit s ds → Holds ds t → Has r (answers ds) → r.own ≡ None → r.number ≡ t.number → ⊥
not_shared s ds t r a held h e n = elim (shared s ds r a h e) [
  | inl k ↦ given_not_past s ds t a held.0 (subst (λ x. Has x (past ds)) n k)
  | inr k ↦ held.1 (subst (λ x. Has x (taken ds)) (given_one s ds k.0 t a (taken_given s ds k.0 a k.1) held.0 (k.2 ∙ n)) k.1)
]

-- a response is to a request that was sent before
held_sent : (s : SecurityContext) (ds : List Deed) (t : TicketValues) → AllFit s ds → Has t (given ds) → IsSent ds t.number
held_sent s ds t a h = delivered_sent s ds t.number a (given_delivered ds t h)

pub answered_sent : (s : SecurityContext) (ds : List Deed) (r : Response) → AllFit s ds → Has r (answers ds) → IsSent ds r.number
answered_sent s (Challenges n echo issued own m ∷ ds) r a (inl e) = (a.1.0.0, a.1.0.1, a.1.0.2 ∙ sym (ap (λ (y : Response). y.number) e))
answered_sent s (Challenges n echo issued own m ∷ ds) r a (inr h) = answered_sent s ds r a.0 h
answered_sent s (Replies t None m ∷ ds) r a (inl e) = let k = held_sent s ds t a.0 a.1.0.0 in (k.0, k.1, k.2 ∙ sym (ap (λ (y : Response). y.number) e))
answered_sent s (Replies t (Some own) m ∷ ds) r a (inl e) = let k = held_sent s ds t a.0 a.1.0.0 in (k.0, k.1, k.2 ∙ sym (ap (λ (y : Response). y.number) e))
answered_sent s (Replies t own m ∷ ds) r a (inr h) = answered_sent s ds r a.0 h
answered_sent s (Notifies t own m ∷ ds) r a (inl e) = let k = held_sent s ds t a.0 a.1.0.0 in (k.0, k.1, k.2 ∙ sym (ap (λ (y : Response). y.number) e))
answered_sent s (Notifies t own m ∷ ds) r a (inr h) = answered_sent s ds r a.0 h
answered_sent s (Sends n m ∷ ds) r a h = sent_more n m ds r.number (answered_sent s ds r a.0 h)
answered_sent s (d ∷ ds) r a h = answered_sent s ds r a.0 h
answered_sent s [] r a h = absurd h

-- its own Partial IV is one of the server's
pub owned : (ds : List Deed) (r : Response) (o : ℕ) → Has r (answers ds) → r.own ≡ Some o → Has o (owns ds)
owned (Challenges n echo issued own m ∷ ds) r o (inl f) e = inl (some_is (sym e ∙ ap (λ (x : Response). x.own) f))
owned (Challenges n echo issued own m ∷ ds) r o (inr h) e = inr (owned ds r o h e)
owned (Replies t None m ∷ ds) r o (inl f) e = let g : None ≡ Some o = sym (ap (λ (x : Response). x.own) f) ∙ e in cc
owned (Replies t None m ∷ ds) r o (inr h) e = owned ds r o h e
owned (Replies t (Some own) m ∷ ds) r o (inl f) e = inl (some_is (sym e ∙ ap (λ (x : Response). x.own) f))
owned (Replies t (Some own) m ∷ ds) r o (inr h) e = inr (owned ds r o h e)
owned (Notifies t own m ∷ ds) r o (inl f) e = inl (some_is (sym e ∙ ap (λ (x : Response). x.own) f))
owned (Notifies t own m ∷ ds) r o (inr h) e = inr (owned ds r o h e)
owned (d ∷ ds) r o h e = owned ds r o h e
owned [] r o h e = absurd h
