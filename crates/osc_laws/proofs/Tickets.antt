-- Tickets that were delivered, answered and left: what was answered and what is left is what was delivered, in another order. P is a fact of
-- one ticket, R one of two.
use Rattle.std.proofs.Common.{sym, subst, List, [], ◌∷◌, ◌++◌}
use Rattle.std.specs.List.{AllByRecursion}
use Rattle.osc_laws.specs.Laws.{AreApart, DeliveredOnce, Pairwise, TicketOnce, answered, delivered}
use Rattle.osc_endpoint.specs.Tickets.{AreLeft}
use Rattle.osc_life.specs.ServerHistory.{History, Begin, Then, Reply, Notify, Deliver, Took, Replied, TicketValues}

-- ---- one element moves to the back

module _ {A : Type 0} (P : A → Type 0) where
  all_in : (t : A) (back rest : List A) → P t → AllByRecursion P (back ++ rest) → AllByRecursion P (back ++ t ∷ rest)
  all_in t [] rest p all = (p, all)
  all_in t (x ∷ back) rest p all = (all.0, all_in t back rest p all.1)

  pub all_moved : (t : A) (front back rest : List A) → AllByRecursion P ((front ++ t ∷ back) ++ rest) → AllByRecursion P ((front ++ back) ++ t ∷ rest)
  all_moved t [] back rest all = all_in t back rest all.0 all.1
  all_moved t (x ∷ front) back rest all = (all.0, all_moved t front back rest all.1)

  pub all_behind : (xs ys : List A) → AllByRecursion P (xs ++ ys) → AllByRecursion P ys
  all_behind [] ys all = all
  all_behind (x ∷ xs) ys all = all_behind xs ys all.1

module _ {A : Type 0} (R : A → A → Type 0) where
  pairs_in : ((x y : A) → R x y → R y x) → (t : A) (back rest : List A) → AllByRecursion (R t) (back ++ rest) → Pairwise R (back ++ rest) → Pairwise R (back ++ t ∷ rest)
  pairs_in turn t [] rest all pairs = (all, pairs)
  pairs_in turn t (x ∷ back) rest all pairs = (all_in (R x) t back rest (turn t x all.0) pairs.0, pairs_in turn t back rest all.1 pairs.1)

  pub pairs_moved : ((x y : A) → R x y → R y x) → (t : A) (front back rest : List A) → Pairwise R ((front ++ t ∷ back) ++ rest) → Pairwise R ((front ++ back) ++ t ∷ rest)
  pairs_moved turn t [] back rest pairs = pairs_in turn t back rest pairs.0 pairs.1
  pairs_moved turn t (x ∷ front) back rest pairs = (all_moved (R x) t front back rest pairs.0, pairs_moved turn t front back rest pairs.1)

  pub pairs_behind : (xs ys : List A) → Pairwise R (xs ++ ys) → Pairwise R ys
  pairs_behind [] ys pairs = pairs
  pairs_behind (x ∷ xs) ys pairs = pairs_behind xs ys pairs.1

-- ---- over a history

apart_turned : (t u : TicketValues) → AreApart t u → AreApart u t
apart_turned t u apart context life number = apart (sym context) (sym life) (sym number)

-- a fact of all that were delivered is one of all that are left or were answered
all_kept : (P : TicketValues → Type 0) (h : History) (ts : List TicketValues) → AreLeft h ts → AllByRecursion P (delivered h) → AllByRecursion P (ts ++ answered h)
all_kept P Begin ts left all = subst (λ (xs : List TicketValues). AllByRecursion P (xs ++ [])) (sym left) tt
all_kept P (Then h (Reply ticket own mid plain room) (Replied bytes)) ts (before, left, (front, back, was, is)) all =
    let old = all_kept P h before left all in
    subst (λ (xs : List TicketValues). AllByRecursion P (xs ++ ticket ∷ answered h)) (sym is)
    (all_moved P ticket front back (answered h) (subst (λ (xs : List TicketValues). AllByRecursion P (xs ++ answered h)) was old))
all_kept P (Then h event (Took (Deliver received ticket) reply)) ts (before, left, is) all =
    subst (λ (xs : List TicketValues). AllByRecursion P (xs ++ answered h)) (sym is) (all.0, all_kept P h before left all.1)
all_kept P (Then h (Notify ticket plain room) (Replied bytes)) ts left all = all_kept P h ts left.0 all
all_kept P (Then h event entry) ts left all = all_kept P h ts left all

-- tickets that were delivered apart are left and answered apart
pairs_kept : (h : History) (ts : List TicketValues) → AreLeft h ts → Pairwise AreApart (delivered h) → Pairwise AreApart (ts ++ answered h)
pairs_kept Begin ts left pairs = subst (λ (xs : List TicketValues). Pairwise AreApart (xs ++ [])) (sym left) tt
pairs_kept (Then h (Reply ticket own mid plain room) (Replied bytes)) ts (before, left, (front, back, was, is)) pairs =
    let old = pairs_kept h before left pairs in
    subst (λ (xs : List TicketValues). Pairwise AreApart (xs ++ ticket ∷ answered h)) (sym is)
    (pairs_moved AreApart apart_turned ticket front back (answered h) (subst (λ (xs : List TicketValues). Pairwise AreApart (xs ++ answered h)) was old))
pairs_kept (Then h event (Took (Deliver received ticket) reply)) ts (before, left, is) pairs =
    subst (λ (xs : List TicketValues). Pairwise AreApart (xs ++ answered h)) (sym is)
    (all_kept (AreApart ticket) h before left pairs.0, pairs_kept h before left pairs.1)
pairs_kept (Then h (Notify ticket plain room) (Replied bytes)) ts left pairs = pairs_kept h ts left.0 pairs
pairs_kept (Then h event entry) ts left pairs = pairs_kept h ts left pairs

-- a fact of all that were delivered is one of all that were answered
pub all_answered : (P : TicketValues → Type 0) (h : History) (ts : List TicketValues) → AreLeft h ts → AllByRecursion P (delivered h) → AllByRecursion P (answered h)
all_answered P h ts left all = all_behind P ts (answered h) (all_kept P h ts left all)

-- a ticket gives one response at most
pub tickets_once : DeliveredOnce → TicketOnce
tickets_once once h a takes = pairs_kept h takes.0 takes.1 (once h a)
