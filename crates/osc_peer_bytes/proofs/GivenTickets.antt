-- A ticket that a delivery gave is left where a reply to it is accepted: h is the history before, ts are the tickets that are left.
use Rattle.std.proofs.Common.{◌≡◌, sym, ap, subst, refl, List, [], ◌∷◌, ◌++◌, ◌⊎◌, inl, inr}
use Rattle.std.specs.List.{AllByRecursion}
use Rattle.osc_laws.specs.Laws.{AreApart, answered, delivered}
use Rattle.osc_endpoint.specs.Tickets.{AreLeft}
use Rattle.osc_life.specs.ServerHistory as server
use Rattle.osc_kept.specs.InWorld.{IsHeld}
use Rattle.osc_kept.specs.World.{Has}

-- what stands in a list with one element more is that element, or stands in the list
without : {A : Type 0} (x y : A) (front back : List A) → Has x (front ++ y ∷ back) → (x ≡ y) ⊎ Has x (front ++ back)
without x y [] back (inl e) = inl e
without x y [] back (inr h) = inr h
without x y (z ∷ front) back (inl e) = inr (inl e)
without x y (z ∷ front) back (inr h) = elim (without x y front back h) [
  | inl e ↦ inl e
  | inr k ↦ inr (inr k)
]

-- a ticket that was given is left, or a reply took it
left_or_answered : (h : server.History) (ts : List server.TicketValues) (t : server.TicketValues) → AreLeft h ts → Has t (delivered h) → Has t ts ⊎ Has t (answered h)
left_or_answered server.Begin ts t left has = absurd has
left_or_answered (server.Then h (server.Reply ticket own mid p room) (server.Replied bytes)) ts t (before, left, (front, back, was, is)) has = elim (left_or_answered h before t left has) [
  | inl k ↦ elim (without t ticket front back (subst (Has t) was k)) [
    | inl e ↦ inr (inl e)
    | inr j ↦ inl (subst (Has t) (sym is) j)
  ]
  | inr k ↦ inr (inr k)
]
left_or_answered (server.Then h event (server.Took (server.Deliver received ticket) reply)) ts t (before, left, is) (inl e) = inl (subst (Has t) (sym is) (inl e))
left_or_answered (server.Then h event (server.Took (server.Deliver received ticket) reply)) ts t (before, left, is) (inr has) = elim (left_or_answered h before t left has) [
  | inl k ↦ inl (subst (Has t) (sym is) (inr k))
  | inr k ↦ inr k
]
left_or_answered (server.Then h (server.Notify ticket p room) (server.Replied bytes)) ts t (left, among) has = left_or_answered h ts t left has
left_or_answered (server.Then h event entry) ts t left has = left_or_answered h ts t left has

-- a list that has it is parted there
parted : {A : Type 0} (x : A) (xs : List A) → Has x xs → (front : List A) × (back : List A) × (xs ≡ front ++ x ∷ back)
parted x [] h = absurd h
parted x (y ∷ ys) (inl e) = ([], ys, ap (λ z. z ∷ ys) (sym e))
parted x (y ∷ ys) (inr h) = let (front, back, is) = parted x ys h in (y ∷ front, back, ap (λ zs. y ∷ zs) is)

-- what is apart from all of these is none of them
none_of : (t : server.TicketValues) (ts : List server.TicketValues) → AllByRecursion (AreApart t) ts → Has t ts → ⊥
none_of t [] all h = h
none_of t (u ∷ ts) all (inl e) = all.0 (ap (λ (x : server.TicketValues). x.context) e) (ap (λ (x : server.TicketValues). x.life) e) (ap (λ (x : server.TicketValues). x.number) e)
none_of t (u ∷ ts) all (inr h) = none_of t ts all.1 h

-- a ticket that was given, and whose request has no answer
pub held : (h : server.History) (ts : List server.TicketValues) (t : server.TicketValues) → AreLeft h ts → Has t (delivered h) → AllByRecursion (AreApart t) (answered h) → IsHeld h t
held h ts t left has apart = elim (left_or_answered h ts t left has) [
  | inl k ↦ let (front, back, is) = parted t ts k in (ts, front ++ back, left, (front, back, is, refl))
  | inr k ↦ absurd (none_of t (answered h) apart k)
]
