-- The tickets of one context of a server of many: if the server's replies take tickets that its deliveries gave, so do those of the context's share. h is the
-- history of that server, i the index of the context, ts are tickets.
use Rattle.std.proofs.Common.{◌≡◌, ℕ, ◌∙◌, sym, ap, subst, refl, Bool, true, false, List, [], ◌∷◌, ◌++◌, if◌then◌else◌, ◌==◌}
use Rattle.osc_laws.proofs.Shares.{of_chosen}
use Rattle.osc_laws.specs.Laws.{AllAnswers}
use Rattle.osc_endpoint.specs.Tickets.{AreLeft, TakesTickets}
use Rattle.osc_laws.specs.OneContext.{share, ticket_alone}
use Rattle.osc_life.specs.ServerHistory.{Add, Added, Advance, Advanced, BadInner, Begin, Challenge, Datagram, Deliver, History, Notify, Replace, Replaced, Replied, Reply, Restart, Restarted, Skip, Skipped, Then, TicketValues, Took, life}
use Rattle.osc_kept.proofs.Lives.{no_skip, no_took}
use Rattle.osc_laws.proofs.DeliveredNumbers.{no_other}

-- those of this context, as tickets of a server that has it alone
abbrev of_context : ℕ → List TicketValues → List TicketValues
of_context i [] = []
of_context i (t ∷ ts) = if i == t.context then ticket_alone t ∷ of_context i ts else of_context i ts

with_first : (i : ℕ) (t : TicketValues) (ts : List TicketValues) → (i == t.context) ≡ true → of_context i (t ∷ ts) ≡ ticket_alone t ∷ of_context i ts
with_first i t ts e = rw e refl

without_first : (i : ℕ) (t : TicketValues) (ts : List TicketValues) → (i == t.context) ≡ false → of_context i (t ∷ ts) ≡ of_context i ts
without_first i t ts e = rw e refl

in_front : (b : Bool) (t : TicketValues) (xs ys zs : List TicketValues) → xs ≡ ys ++ zs → (if b then t ∷ xs else xs) ≡ (if b then t ∷ ys else ys) ++ zs
in_front true t xs ys zs e = ap (λ (ts : List TicketValues). t ∷ ts) e
in_front false t xs ys zs e = e

of_both : (i : ℕ) (xs ys : List TicketValues) → of_context i (xs ++ ys) ≡ of_context i xs ++ of_context i ys
of_both i [] ys = refl
of_both i (x ∷ xs) ys = in_front (i == x.context) (ticket_alone x) (of_context i (xs ++ ys)) (of_context i xs) (of_context i ys) (of_both i xs ys)

-- one of these tickets stands there too, and so does one of this context in its share
kept_between : (i : ℕ) (t : TicketValues) (front back xs : List TicketValues) → (i == t.context) ≡ true → xs ≡ front ++ t ∷ back → of_context i xs ≡ of_context i front ++ ticket_alone t ∷ of_context i back
kept_between i t front back xs e is =
    ap (of_context i) is ∙ of_both i front (t ∷ back) ∙ ap (λ (ts : List TicketValues). of_context i front ++ ts) (with_first i t back e)

-- the tickets that are left of the share are those of the context
pub left_share : (i : ℕ) (h : History) (ts : List TicketValues) → AllAnswers h → AreLeft h ts → AreLeft (share i h) (of_context i ts)
left_share i Begin ts all left = ap (of_context i) left
left_share i (Then h (Datagram now echo mid d) (Took (Deliver received t) reply)) ts all (before, left, is) =
    let rest = left_share i h before all.0 left in
    of_chosen (λ g. AreLeft g (of_context i ts)) (i == t.context) (Then (share i h) (Datagram now echo mid d) (Took (Deliver received (ticket_alone t)) reply)) (Then (share i h) (Advance now) Advanced)
    (λ e. (of_context i before, rest, ap (of_context i) is ∙ with_first i t before e))
    (λ e. subst (AreLeft (share i h)) (sym (ap (of_context i) is ∙ without_first i t before e)) rest)
left_share i (Then h (Datagram now echo mid d) (Took (BadInner j k) reply)) ts all left =
    let rest = left_share i h ts all.0 left in
    of_chosen (λ g. AreLeft g (of_context i ts)) (i == j) (Then (share i h) (Datagram now echo mid d) (Took (BadInner 0 k) reply)) (Then (share i h) (Advance now) Advanced) (λ e. rest) (λ e. rest)
left_share i (Then h (Datagram now echo mid d) (Took (Challenge j k given issued) reply)) ts all left =
    let rest = left_share i h ts all.0 left in
    of_chosen (λ g. AreLeft g (of_context i ts)) (i == j) (Then (share i h) (Datagram now echo mid d) (Took (Challenge 0 k given issued) reply)) (Then (share i h) (Advance now) Advanced) (λ e. rest) (λ e. rest)
left_share i (Then h (Datagram now echo mid d) (Took answer reply)) ts all left = left_share i h ts all.0 left
left_share i (Then h (Add context start size places) (Added index)) ts all left =
    let rest = left_share i h ts all.0 left in
    of_chosen (λ g. AreLeft g (of_context i ts)) (i == index) (Then (share i h) (Add context start size places) (Added 0)) (share i h) (λ e. rest) (λ e. rest)
left_share i (Then h (Reply t own mid p room) (Replied bytes)) ts all (before, left, (front, back, was, is)) =
    let rest = left_share i h before all.0 left in
    of_chosen (λ g. AreLeft g (of_context i ts)) (i == t.context) (Then (share i h) (Reply (ticket_alone t) own mid p room) (Replied bytes)) (share i h)
    (λ e. (of_context i before, rest, (of_context i front, of_context i back, kept_between i t front back before e was, ap (of_context i) is ∙ of_both i front back)))
    (λ e.
    let same : of_context i before ≡ of_context i ts =
    ap (of_context i) was ∙ of_both i front (t ∷ back) ∙ ap (λ (us : List TicketValues). of_context i front ++ us) (without_first i t back e) ∙ sym (of_both i front back) ∙ sym (ap (of_context i) is) in
    subst (AreLeft (share i h)) same rest)
left_share i (Then h (Notify t p room) (Replied bytes)) ts all (left, (front, back, is)) =
    let rest = left_share i h ts all.0 left in
    of_chosen (λ g. AreLeft g (of_context i ts)) (i == t.context) (Then (share i h) (Notify (ticket_alone t) p room) (Replied bytes)) (share i h)
    (λ e. (rest, (of_context i front, of_context i back, kept_between i t front back ts e is))) (λ e. rest)
left_share i (Then h (Restart c next) Restarted) ts all left =
    let rest = left_share i h ts all.0 left in
    of_chosen (λ g. AreLeft g (of_context i ts)) (i == c) (Then (share i h) (Restart 0 next) Restarted) (share i h) (λ e. rest) (λ e. rest)
left_share i (Then h (Replace c by start size) Replaced) ts all left =
    let rest = left_share i h ts all.0 left in
    of_chosen (λ g. AreLeft g (of_context i ts)) (i == c) (Then (share i h) (Replace 0 by start size) Replaced) (share i h) (λ e. rest) (λ e. rest)
left_share i (Then h (Skip c count) Skipped) ts all left =
    let rest = left_share i h ts all.0 left in
    of_chosen (λ g. AreLeft g (of_context i ts)) (i == c) (Then (share i h) (Skip 0 count) Skipped) (share i h) (λ e. rest) (λ e. rest)
left_share i (Then h (Add context start size places) (Took (Deliver received t) reply)) ts all left = absurd all.1.1
left_share i (Then h (Reply t own mid p room) (Took (Deliver received u) reply)) ts all left = absurd all.1.2
left_share i (Then h (Notify t p room) (Took (Deliver received u) reply)) ts all left = absurd all.1.1.2
left_share i (Then h (Restart c next) (Took (Deliver received t) reply)) ts all left = absurd (no_took (life h c) (Deliver received t) reply all.1)
left_share i (Then h (Replace c by start size) (Took (Deliver received t) reply)) ts all left = absurd (no_other (life h c) (Took (Deliver received t) reply) tt all.1.1)
left_share i (Then h (Skip c count) (Took (Deliver received t) reply)) ts all left = absurd (no_skip (life h c) count (Deliver received t) reply all.1)
left_share i (Then h (Advance now) (Took (Deliver received t) reply)) ts all left = absurd all.1
left_share i (Then h event entry) ts all left = left_share i h ts all.0 left

pub takes_share : (i : ℕ) (h : History) → AllAnswers h → TakesTickets h → TakesTickets (share i h)
takes_share i h all takes = (of_context i takes.0, left_share i h takes.0 all takes.1)
