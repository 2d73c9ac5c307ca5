-- A challenge of a life is in force for its time: a later one in that time gives the same value again. o is the value of the last challenge and when it was issued,
-- marks are what the answers of a life left.
use Rattle.std.proofs.Common.{◌≡◌, ℕ, ◌-◌, ◌≤◌, ◌∙◌, sym, ap, subst, refl, arith, Bool, true, false, Option, Some, None, List, ◌∷◌, ◌⊎◌, inl, inr, if◌then◌else◌}
use Rattle.std.specs.Prelude.{◌==◌, ◌&&◌, All, Contains, max, nat_le, unwrap_or}
use Rattle.std.specs.Option.{option_map}
use Rattle.std.proofs.lemmas.Bool.{cond_both, eqb-true, le-leb}
use Rattle.std.proofs.lemmas.List.Elements.{All-cons, All-contains, All-nil, All-weaker}
use Rattle.osc_context.specs.SecurityContext.{SecurityContext}
use Rattle.osc_window.specs.declared.window_size.WindowSize.{WindowSize}
use Rattle.osc_window.specs.Gate.{challenge_in_force}
use Rattle.osc_life.specs.declared.start.Start.{Start}
use Rattle.osc_life.specs.declared.start.Start.TheVariants.{Fresh, Received, Reserved, Restarted as ByRestart}
use Rattle.osc_laws.specs.Laws.{AllAnswers}
use Rattle.osc_life.specs.Life.{Answered, Challenged, Delivered, Life, Mark, PassedOver, Spoiled, born, challenge, in_force, is_open, marked, renewed, succeeding}
use Rattle.osc_endpoint.specs.ServerAnswer.{MeetsRow, arrival}
use Rattle.osc_life.specs.LifeAnswer.{challenge_given}
use Rattle.osc_life.specs.ServerHistory.{Add, Added, Answer, BadInner, Begin, Challenge, Datagram, Deliver, History, Notify, Replace, Replaced, Replied, Reply, Restart, Restarted, Skip, Skipped, Then, TicketValues, Took, clock, life, mark_at, reply_mark_at}

-- where the mark is a challenge, it serves from this moment on until its time is over
abbrev Serves : Option (List ℕ × ℕ) → ℕ → Mark → Type 0
Serves o from (Challenged value issued) = (c : ℕ) → from ≤ c → c - issued ≤ 30000 → challenge_in_force o c ≡ Some (value, issued)
Serves o from mark = Unit {0}

abbrev AllServe : List Mark → ℕ → Type 0
AllServe marks from = All (Serves (challenge marks) from) marks

serves_later : (o : Option (List ℕ × ℕ)) (a b : ℕ) → a ≤ b → (mark : Mark) → Serves o a mark → Serves o b mark
serves_later o a b less (Challenged value issued) h = λ c from within. h c (omega (arith, less, from)) within
serves_later o a b less mark h = tt

later : (marks : List Mark) (a b : ℕ) → a ≤ b → AllServe marks a → AllServe marks b
later marks a b less h = All-weaker (Serves (challenge marks) a) (Serves (challenge marks) b) (serves_later (challenge marks) a b less) marks h

serves_itself : (value : List ℕ) (issued from : ℕ) → Serves (Some (value, issued)) from (Challenged value issued)
serves_itself value issued from c _ within = ap (λ b. if b then Some (value, issued) else None) (le-leb (c - issued) 30000 within)

-- with none in force any more, no earlier challenge serves
none_serves : (o p : Option (List ℕ × ℕ)) (a b : ℕ) → a ≤ b → challenge_in_force o b ≡ None → (mark : Mark) → Serves o a mark → Serves p b mark
none_serves o p a b less none (Challenged value issued) h = λ c from within.
    let is : challenge_in_force o b ≡ Some (value, issued) = h b less (omega (arith, from, within)) in
    let never : None ≡ Some (value, issued) = sym none ∙ is in
    cc
none_serves o p a b less none mark h = tt

same_in_time : (b : Bool) (x c : List ℕ × ℕ) → (if b then Some x else None) ≡ Some c → Some x ≡ Some c
same_in_time true x c e = e
same_in_time false x c e = cc

last_is : (o : Option (List ℕ × ℕ)) (moment : ℕ) (c : List ℕ × ℕ) → challenge_in_force o moment ≡ Some c → o ≡ Some c
last_is None moment c e = cc
last_is (Some x) moment c e = same_in_time (nat_le (moment - x.1) 30000) x c e

again_or_new : (o : Option (List ℕ × ℕ)) (fresh c : List ℕ × ℕ) → c ≡ unwrap_or o fresh → (o ≡ Some c) ⊎ (o ≡ None)
again_or_new None fresh c e = inr refl
again_or_new (Some x) fresh c e = inl (ap (λ y. Some y) (sym e))

-- one more challenge, of a closed life
more : (marks : List Mark) (a b : ℕ) (echo : List ℕ) (c : List ℕ × ℕ) → a ≤ b → c ≡ unwrap_or (challenge_in_force (challenge marks) b) (echo, b) → AllServe marks a
    → AllServe (Challenged c.0 c.1 ∷ marks) b
more marks a b echo c less given h =
    All-cons (Serves (Some (c.0, c.1)) b) (Challenged c.0 c.1) marks (serves_itself c.0 c.1 b) (elim (again_or_new (challenge_in_force (challenge marks) b) (echo, b) c given) [
      | inl again ↦ subst (λ o. All (Serves o b) marks) (last_is (challenge marks) b c again) (later marks a b less h)
      | inr none ↦ All-weaker (Serves (challenge marks) a) (Serves (Some (c.0, c.1)) b) (none_serves (challenge marks) (Some (c.0, c.1)) a b less none) marks h
    ])

abbrev IsOther : Mark → Type 0
IsOther (Challenged value issued) = ⊥
IsOther mark = Unit {0}

other : (mark : Mark) (marks : List Mark) (from : ℕ) → IsOther mark → AllServe marks from → AllServe (mark ∷ marks) from
other (Delivered n) marks from is h = All-cons (Serves (challenge marks) from) (Delivered n) marks tt h
other (Spoiled n) marks from is h = All-cons (Serves (challenge marks) from) (Spoiled n) marks tt h
other Answered marks from is h = All-cons (Serves (challenge marks) from) Answered marks tt h
other (PassedOver count) marks from is h = All-cons (Serves (challenge marks) from) (PassedOver count) marks tt h
other (Challenged value issued) marks from is h = absurd is

-- ---- lives

abbrev LifeServes : Option Life → ℕ → Type 0
LifeServes None from = Unit {0}
LifeServes (Some of) from = AllServe of.marks from

life_later : (o : Option Life) (a b : ℕ) → a ≤ b → LifeServes o a → LifeServes o b
life_later None a b less h = tt
life_later (Some of) a b less h = later of.marks a b less h

born_serves : (s : SecurityContext) (start : Start) (size : WindowSize) (from : ℕ) → AllServe (born s start size).marks from
born_serves s (Fresh own) size from = All-nil (Serves None from)
born_serves s (ByRestart own) size from = All-nil (Serves None from)
born_serves s (Received own highest) size from = All-nil (Serves None from)
born_serves s (Reserved own highest ahead) size from = All-nil (Serves None from)

renewed_serves : (o : Option Life) (next from : ℕ) → LifeServes (option_map (renewed next) o) from
renewed_serves None next from = tt
renewed_serves (Some of) next from = All-nil (Serves None from)

succeeding_serves : (o : Option Life) (s : SecurityContext) (start : Start) (size : WindowSize) (from : ℕ) → LifeServes (option_map (succeeding s start size) o) from
succeeding_serves None s start size from = tt
succeeding_serves (Some of) s start size from = born_serves s start size from

marked_other : (o : Option Life) (mark : Mark) (from : ℕ) → IsOther mark → LifeServes o from → LifeServes (option_map (marked (Some mark)) o) from
marked_other None mark from is h = tt
marked_other (Some of) mark from is h = other mark of.marks from is h

marked_none : (o : Option Life) (from : ℕ) → LifeServes o from → LifeServes (option_map (marked None) o) from
marked_none None from h = tt
marked_none (Some of) from h = h

marked_if : (b : Bool) (o : Option Life) (mark : Mark) (from : ℕ) → (b ≡ true → LifeServes (option_map (marked (Some mark)) o) from) → LifeServes o from
    → LifeServes (option_map (marked (if b then Some mark else None)) o) from
marked_if true o mark from is h = is refl
marked_if false o mark from is h = marked_none o from h

given_closed : (of : Life) (moment : ℕ) (echo : List ℕ) (c : List ℕ × ℕ) → is_open of ≡ false → c ≡ challenge_given of moment echo
    → c ≡ unwrap_or (challenge_in_force (challenge of.marks) moment) (echo, moment)
given_closed of moment echo c shut given = given ∙ ap (λ b. unwrap_or (if b then None else challenge_in_force (challenge of.marks) moment) (echo, moment)) shut

-- ---- histories

answered : (h : History) (i now : ℕ) (echo : List ℕ) (mid : ℕ) (d : List ℕ) (answer : Answer) → MeetsRow h (arrival h now echo mid d) answer → LifeServes (life h i) (clock h)
    → LifeServes (option_map (marked (mark_at i answer)) (life h i)) (max (clock h) now)
answered h i now echo mid d (Deliver received ticket) row before =
    let from = max (clock h) now in
    let kept = life_later (life h i) (clock h) from (omega arith) before in
    marked_if (i == ticket.context) (life h i) (Delivered ticket.number) from (λ e. marked_other (life h i) (Delivered ticket.number) from tt kept) kept
answered h i now echo mid d (BadInner j n) row before =
    let from = max (clock h) now in
    let kept = life_later (life h i) (clock h) from (omega arith) before in
    marked_if (i == j) (life h i) (Spoiled n) from (λ e. marked_other (life h i) (Spoiled n) from tt kept) kept
answered h i now echo mid d (Challenge j n value issued) (k, number, of, request, (wants, has, given, index, number_is)) before =
    let from = max (clock h) now in
    let kept = life_later (life h i) (clock h) from (omega arith) before in
    marked_if (i == j) (life h i) (Challenged value issued) from (λ e.
    let is : life h i ≡ Some of = ap (life h) (eqb-true i j e ∙ index) ∙ request.life_is in
    let marks_serve : AllServe of.marks (clock h) = subst (λ o. LifeServes o (clock h)) is before in
    subst (λ o. LifeServes (option_map (marked (Some (Challenged value issued))) o) from) (sym is)
    (more of.marks (clock h) from echo (value, issued) (omega arith) (given_closed of from echo (value, issued) wants.0 given) marks_serve)) kept
answered h i now echo mid d answer row before = marked_none (life h i) (max (clock h) now) (life_later (life h i) (clock h) (max (clock h) now) (omega arith) before)

replied : (i : ℕ) (t : TicketValues) (own : Bool) (o : Option Life) (from : ℕ) → LifeServes o from → LifeServes (option_map (marked (reply_mark_at i t own)) o) from
replied i t own o from h = marked_if (own && (i == t.context)) o Answered from (λ e. marked_other o Answered from tt h) h

all_serve : (h : History) → AllAnswers h → (i : ℕ) → LifeServes (life h i) (clock h)
all_serve Begin all i = tt
all_serve (Then h (Add s start size places) (Added index)) all i =
    cond_both (i == index) (Some (born s start size)) (life h i) (λ o. LifeServes o (clock h)) (λ e. born_serves s start size (clock h)) (λ e. all_serve h all.0 i)
all_serve (Then h (Datagram now echo mid d) (Took answer reply)) all i = answered h i now echo mid d answer all.1.0 (all_serve h all.0 i)
all_serve (Then h (Reply t own mid plain room) (Replied bytes)) all i = replied i t own (life h i) (clock h) (all_serve h all.0 i)
all_serve (Then h (Notify t plain room) (Replied bytes)) all i = replied i t true (life h i) (clock h) (all_serve h all.0 i)
all_serve (Then h (Restart context next) Restarted) all i =
    cond_both (i == context) (option_map (renewed next) (life h i)) (life h i) (λ o. LifeServes o (clock h)) (λ e. renewed_serves (life h i) next (clock h)) (λ e. all_serve h all.0 i)
all_serve (Then h (Replace context s start size) Replaced) all i =
    cond_both (i == context) (option_map (succeeding s start size) (life h i)) (life h i) (λ o. LifeServes o (clock h)) (λ e. succeeding_serves (life h i) s start size (clock h)) (λ e. all_serve h all.0 i)
all_serve (Then h (Skip context count) Skipped) all i =
    marked_if (i == context) (life h i) (PassedOver count) (clock h) (λ e. marked_other (life h i) (PassedOver count) (clock h) tt (all_serve h all.0 i)) (all_serve h all.0 i)
all_serve (Then h event entry) all i = life_later (life h i) (clock h) (clock (Then h event entry)) (omega arith) (all_serve h all.0 i)

-- the value of each challenge of a closed life is in force for its time
pub challenge_serves : (h : History) (i : ℕ) (of : Life) (value : List ℕ) (issued moment : ℕ) → AllAnswers h → life h i ≡ Some of → is_open of ≡ false
    → Contains of.marks (Challenged value issued) → clock h ≤ moment → moment - issued ≤ 30000 → in_force of moment ≡ Some (value, issued)
challenge_serves h i of value issued moment all is shut among from within =
    let marks_serve : AllServe of.marks (clock h) = subst (λ o. LifeServes o (clock h)) is (all_serve h all i) in
    ap (λ b. if b then None else challenge_in_force (challenge of.marks) moment) shut
    ∙ All-contains (Serves (challenge of.marks) (clock h)) of.marks (Challenged value issued) marks_serve among moment from within
