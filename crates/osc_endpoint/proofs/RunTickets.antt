-- A run takes only tickets that its own deliveries gave. h and g are the histories before and after, ts and us the tickets at the run's places,
-- ws those that no reply took: the run's own, those that it dropped, and those that were left before it began.
use Rattle.std.proofs.Common.{◌≡◌, ℕ, zero, suc, ◌∙◌, sym, ap, subst, refl, Bool, Option, Some, None, Ok, Err, List, [], ◌∷◌, ◌++◌, slice_set, ◌⊎◌, inl, inr}
use Rattle.std.proofs.lemmas.List.{append_assoc}
use Rattle.osc_coap.specs.Datagram.{Parts}
use Rattle.osc_endpoint.specs.declared.server_event.ServerEvent.{ServerEvent}
use Rattle.osc_endpoint.specs.declared.server_event.ServerEvent.TheVariants as events
use Rattle.osc_endpoint.specs.declared.server_event.ServerEntry.{ServerEntry}
use Rattle.osc_endpoint.specs.declared.server_event.ServerEntry.TheVariants as entries
use Rattle.osc_endpoint.specs.Tickets.{AreLeft, IsTakenOut, TakesTickets}
use Rattle.osc_life.specs.LifeAnswer.{asks_own}
use Rattle.osc_life.specs.ServerHistory.{History, Then, Answer, Datagram, Deliver, Notify, Replied, Reply, TicketValues, Took}
use Rattle.osc_endpoint.specs.ServerRun.{DropStep, NotifyStep, ReplyStep, Run, ServerRunStep, ticket_at}
use Rattle.osc_life.specs.Logged.{ticket_of}
use Rattle.osc_endpoint.proofs.Runs.{none_taken}

-- the ticket at a place, if there is one
abbrev pub one_of : Option TicketValues → List TicketValues
one_of None = []
one_of (Some t) = t ∷ []

-- the tickets at the places of a run, the last place first
abbrev pub left_in : List (Option TicketValues) → List TicketValues
left_in [] = []
left_in (o ∷ ts) = left_in ts ++ one_of o

pub left_more : (ts : List (Option TicketValues)) (o : Option TicketValues) → left_in (ts ++ o ∷ []) ≡ one_of o ++ left_in ts
left_more [] None = refl
left_more [] (Some t) = refl
left_more (x ∷ ts) o = ap (λ ys. ys ++ one_of x) (left_more ts o) ∙ append_assoc (one_of o) (left_in ts) (one_of x)

-- a ticket that is taken out of its place is taken out of those that are left
pub taken_out : (ts : List (Option TicketValues)) (i : ℕ) (t : TicketValues) (zs : List TicketValues) → ticket_at ts i ≡ Some t
    → IsTakenOut t (left_in ts ++ zs) (left_in (slice_set ts i None) ++ zs)
taken_out [] i t zs is = absurd (let f : None ≡ Some t = is in cc)
taken_out (x ∷ ts) zero t zs is =
    let here : x ≡ Some t = is in (
      left_in ts,
      zs,
      ap (λ o. (left_in ts ++ one_of o) ++ zs) here ∙ append_assoc (left_in ts) (t ∷ []) zs,
      append_assoc (left_in ts) [] zs,
    )
taken_out (x ∷ ts) (suc i) t zs is =
    let (front, back, before, after) = taken_out ts i t (one_of x ++ zs) is in (
      front,
      back,
      append_assoc (left_in ts) (one_of x) zs ∙ before,
      append_assoc (left_in (slice_set ts i None)) (one_of x) zs ∙ after,
    )

-- ---- what a run drops stays among the tickets that no reply took

-- the tickets stand among others, in the same order
abbrev pub IsWithin : List TicketValues → List TicketValues → Type 0
IsWithin [] ws = Unit {0}
IsWithin (x ∷ xs) [] = ⊥
IsWithin (x ∷ xs) (w ∷ ws) = ((x ≡ w) × IsWithin xs ws) ⊎ IsWithin (x ∷ xs) ws

within_more : (xs ws : List TicketValues) (w : TicketValues) → IsWithin xs ws → IsWithin xs (w ∷ ws)
within_more [] ws w h = tt
within_more (x ∷ xs) ws w h = inr h

pub without : (front back ws : List TicketValues) (t : TicketValues) → IsWithin (front ++ t ∷ back) ws → IsWithin (front ++ back) ws
without [] back [] t h = absurd h
without [] back (w ∷ ws) t (inl h) = within_more back ws w h.1
without [] back (w ∷ ws) t (inr h) = within_more back ws w (without [] back ws t h)
without (x ∷ front) back [] t h = absurd h
without (x ∷ front) back (w ∷ ws) t (inl h) = inl (h.0, without front back ws t h.1)
without (x ∷ front) back (w ∷ ws) t (inr h) = inr (without (x ∷ front) back ws t h)

-- what is taken out of the former is taken out of the latter
record LeavesWithin (t : TicketValues) (left ws : List TicketValues) : Type 0 where
  pub after : List TicketValues
  pub taken : IsTakenOut t ws after
  pub within : IsWithin left after

one_behind : (t w : TicketValues) (left more ws : List TicketValues) (k : LeavesWithin t left ws) → IsWithin more (w ∷ k.after) → LeavesWithin t more (w ∷ ws)
one_behind t w left more ws k within =
    let (front, back, was, is) = k.taken in
    record { after = w ∷ k.after; taken = (w ∷ front, back, ap (λ xs. w ∷ xs) was, ap (λ xs. w ∷ xs) is); within = within }

out_within : (front back ws : List TicketValues) (t : TicketValues) → IsWithin (front ++ t ∷ back) ws → LeavesWithin t (front ++ back) ws
out_within [] back [] t h = absurd h
out_within [] back (w ∷ ws) t (inl h) = record { after = ws; taken = ([], ws, ap (λ x. x ∷ ws) (sym h.0), refl); within = h.1 }
out_within [] back (w ∷ ws) t (inr h) = let k = out_within [] back ws t h in one_behind t w back back ws k (within_more back k.after w k.within)
out_within (x ∷ front) back [] t h = absurd h
out_within (x ∷ front) back (w ∷ ws) t (inl h) = let k = out_within front back ws t h.1 in one_behind t w (front ++ back) (x ∷ front ++ back) ws k (inl (h.0, k.within))
out_within (x ∷ front) back (w ∷ ws) t (inr h) = let k = out_within (x ∷ front) back ws t h in one_behind t w (x ∷ front ++ back) (x ∷ front ++ back) ws k (inr k.within)

-- ---- the tickets at a run's places are among those that no reply took

abbrev pub IsLeftTo : History → List (Option TicketValues) → Type 0
IsLeftTo h ts = (ws : List TicketValues) × AreLeft h ws × IsWithin (left_in ts ++ []) ws

pub no_more : (h : History) (ts us : List (Option TicketValues)) → us ≡ ts ++ None ∷ [] → IsLeftTo h ts → IsLeftTo h us
no_more h ts us is (ws, left, within) = (ws, left, subst (λ xs. IsWithin (xs ++ []) ws) (sym (ap left_in is ∙ left_more ts None)) within)

-- the history and the tickets stay
unchanged : (h g : History) (ts us : List (Option TicketValues)) → g ≡ h → us ≡ ts → IsLeftTo h ts → IsLeftTo g us
unchanged h g ts us same kept left = subst (λ k. IsLeftTo k us) (sym same) (subst (IsLeftTo h) (sym kept) left)

-- what a datagram leaves
pub took : (h : History) (now mid : ℕ) (echo d : List ℕ) (answer : Answer) (reply : List ℕ) (ts us : List (Option TicketValues))
    → us ≡ ts ++ ticket_of answer ∷ [] → IsLeftTo h ts → IsLeftTo (Then h (Datagram now echo mid d) (Took answer reply)) us
took h now mid echo d (Deliver received ticket) reply ts us is (ws, left, within) =
    (ticket ∷ ws, (ws, left, refl), subst (λ xs. IsWithin (xs ++ []) (ticket ∷ ws)) (sym (ap left_in is ∙ left_more ts (Some ticket))) (inl (refl, within)))
took h now mid echo d answer reply ts us is left = no_more h ts us is left

-- a reply that was sealed takes its ticket
pub reply_takes : (h : History) (of mid room : ℕ) (own : Bool) (text : List ℕ) (t : TicketValues) (p : Parts) (ts us : List (Option TicketValues))
    → ticket_at ts of ≡ Some t → us ≡ slice_set ts of None → IsLeftTo h ts → IsLeftTo (Then h (Reply t own mid p room) (Replied text)) us
reply_takes h of mid room own text t p ts us at out (ws, left, within) =
    let (front, back, was, is) = taken_out ts of t [] at in
    let k = out_within front back ws t (subst (λ xs. IsWithin xs ws) was within) in
    let now : IsWithin (left_in us ++ []) k.after = subst (λ xs. IsWithin xs k.after) (sym (ap (λ vs. left_in vs ++ []) out ∙ is)) k.within in
    (k.after, (ws, left, k.taken), now)

-- a notification that was sealed leaves its ticket
pub notification_leaves : (h : History) (of room : ℕ) (text : List ℕ) (t : TicketValues) (p : Parts) (ts : List (Option TicketValues))
    → ticket_at ts of ≡ Some t → IsLeftTo h ts → IsLeftTo (Then h (Notify t p room) (Replied text)) ts
notification_leaves h of room text t p ts at (ws, left, within) =
    let (front, back, was, is) = taken_out ts of t [] at in
    let (before, behind, among, out) = (out_within front back ws t (subst (λ xs. IsWithin xs ws) was within)).taken in
    (ws, (left, (before, behind, among)), within)

-- what a reply leaves
pub replied : (h g : History) (ts us : List (Option TicketValues)) (of mid : ℕ) (own : Bool) (plain : List ℕ) (room : ℕ) (x : ServerEntry)
    → ReplyStep h ts of own mid plain room x g us → IsLeftTo h ts → IsLeftTo g us
replied h g ts us of mid own plain room entries.NoTicket (none, same, kept) left = unchanged h g ts us same kept left
replied h g ts us of mid own plain room (entries.BadPlain e) (t, at, fault, same, kept) left = unchanged h g ts us same kept left
replied h g ts us of mid own plain room (entries.Replied (Ok sealed)) (t, at, p, datagram, (answers, goes), out, number) left =
    subst (λ k. IsLeftTo k us) (sym goes) (reply_takes h of mid room (asks_own t own) sealed.datagram.now t p ts us at out left)
replied h g ts us of mid own plain room (entries.Replied (Err e)) (t, at, p, datagram, (answers, goes), kept) left =
    subst (λ k. IsLeftTo k us) (sym goes) (unchanged h h ts us refl kept left)
replied h g ts us of mid own plain room x step left = absurd step

-- what a notification leaves
pub notified : (h g : History) (ts : List (Option TicketValues)) (of : ℕ) (plain : List ℕ) (room : ℕ) (x : ServerEntry) → NotifyStep h ts of plain room x g → IsLeftTo h ts → IsLeftTo g ts
notified h g ts of plain room entries.NoTicket (none, same) left = unchanged h g ts ts same refl left
notified h g ts of plain room (entries.BadPlain e) (t, at, fault, same) left = unchanged h g ts ts same refl left
notified h g ts of plain room (entries.Replied (Ok sealed)) (t, at, p, datagram, (answers, goes), number) left =
    subst (λ k. IsLeftTo k ts) (sym goes) (notification_leaves h of room sealed.datagram.now t p ts at left)
notified h g ts of plain room (entries.Replied (Err e)) (t, at, p, datagram, (answers, goes)) left = subst (λ k. IsLeftTo k ts) (sym goes) left
notified h g ts of plain room x step left = absurd step

-- what a ticket leaves that is dropped
left_empty : (h : History) (ts : List (Option TicketValues)) (of : ℕ) (o : Option TicketValues) → ticket_at ts of ≡ o → IsLeftTo h ts → IsLeftTo h (slice_set ts of None)
left_empty h ts of None is left = unchanged h h ts (slice_set ts of None) refl (none_taken ts of (sym is)) left
left_empty h ts of (Some t) is (ws, left, within) =
    let (front, back, was, after) = taken_out ts of t [] is in
    (ws, left, subst (λ xs. IsWithin xs ws) (sym after) (without front back ws t (subst (λ xs. IsWithin xs ws) was within)))

pub dropped : (h g : History) (ts us : List (Option TicketValues)) (of : ℕ) (x : ServerEntry) → DropStep h ts of x g us → IsLeftTo h ts → IsLeftTo g us
dropped h g ts us of (entries.Dropped there) (is, same, out) left = unchanged h g (slice_set ts of None) us same out (left_empty h ts of (ticket_at ts of) refl left)
dropped h g ts us of x step left = absurd step

-- what an event leaves
served : (h g : History) (ts us : List (Option TicketValues)) (e : ServerEvent) (x : ServerEntry) → ServerRunStep h ts e x g us → IsLeftTo h ts → IsLeftTo g us
served h g ts us (events.Datagram a) (entries.Took seen reply) (answer, logs, (answers, goes), is) left =
    subst (λ k. IsLeftTo k us) (sym goes) (took h a.now a.fresh.mid a.fresh.echo a.bytes.items answer reply.now ts us is left)
served h g ts us (events.Reply r) x (vs, step, is) left = no_more g vs us is (replied h g ts vs r.of r.mid r.own r.plain.items _ x step left)
served h g ts us (events.Notify r) x (step, is) left = no_more g ts us is (notified h g ts r.of r.plain.items _ x step left)
served h g ts us (events.Drop of) x (vs, step, is) left = no_more g vs us is (dropped h g ts vs of x step left)
served h g ts us (events.Restart context next) (entries.Restarted (Ok y)) ((answers, goes), is) left =
    subst (λ k. IsLeftTo k us) (sym goes) (no_more h ts us is left)
served h g ts us (events.Restart context next) (entries.Restarted (Err e)) ((answers, goes), is) left =
    subst (λ k. IsLeftTo k us) (sym goes) (no_more h ts us is left)
served h g ts us e x step left = absurd step

-- what a run leaves
ran : (h g : History) (ts us : List (Option TicketValues)) (es : List ServerEvent) (xs : List ServerEntry) → Run h ts es xs g us → IsLeftTo h ts → IsLeftTo g us
ran h g ts us [] [] (same, kept) left = unchanged h g ts us same kept left
ran h g ts us [] (x ∷ xs) run left = absurd run
ran h g ts us (e ∷ es) [] run left = absurd run
ran h g ts us (e ∷ es) (x ∷ xs) (mid, vs, step, run) left = ran mid g vs us es xs run (served h mid ts vs e x step left)

-- after a history whose replies took their tickets, each reply of a run takes one that a delivery of the run gave
pub run_takes : (h g : History) (us : List (Option TicketValues)) (es : List ServerEvent) (xs : List ServerEntry) → Run h [] es xs g us → TakesTickets h → TakesTickets g
run_takes h g us es xs run (zs, left) = let after = ran h g [] us es xs run (zs, left, tt) in (after.0, after.1)
