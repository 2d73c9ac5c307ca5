-- The tickets at the places of a run of a kept server are left: deliveries gave them, and no reply took them. h is the history before an event, ts and vs
-- the tickets before and behind it, us those without the place of the event, o what stands there.
use Rattle.std.proofs.Common.{◌≡◌, ℕ, ◌∙◌, ap, refl, Bool, Option, Some, None, List, [], ◌∷◌, ◌++◌, slice_set}
use Rattle.osc_coap.specs.Datagram.{Parts}
use Rattle.osc_life.specs.LifeAnswer.{asks_own}
use Rattle.osc_life.specs.ServerHistory.{History, Then, Answer, Datagram, Notify, Replied, Reply, TicketValues, Took}
use Rattle.osc_endpoint.specs.ServerRun.{ticket_at}
use Rattle.osc_life.specs.Logged.{ticket_of}
use Rattle.osc_endpoint.proofs.RunTickets.{IsLeftTo, no_more, notification_leaves, reply_takes, took}
use Rattle.osc_kept.specs.InWorld.{IsHeld}

-- what stands at the places behind an event
places_are : (ts us vs : List (Option TicketValues)) (o p : Option TicketValues) → us ≡ ts → o ≡ p → vs ≡ us ++ o ∷ [] → vs ≡ ts ++ p ∷ []
places_are ts us vs o p same is more = more ∙ ap (λ x. us ++ x ∷ []) is ∙ ap (λ ys. ys ++ p ∷ []) same

-- an event that gives no ticket, and takes none, leaves them
pub none_more : (h : History) (ts us vs : List (Option TicketValues)) (o : Option TicketValues) → us ≡ ts → o ≡ None → vs ≡ us ++ o ∷ [] → IsLeftTo h ts → IsLeftTo h vs
none_more h ts us vs o same none more left = no_more h ts vs (places_are ts us vs o None same none more) left

-- a datagram's answer gives one, or none
pub took_more : (h : History) (now mid : ℕ) (echo d : List ℕ) (answer : Answer) (reply : List ℕ) (ts us vs : List (Option TicketValues)) (o : Option TicketValues)
    → us ≡ ts → o ≡ ticket_of answer → vs ≡ us ++ o ∷ [] → IsLeftTo h ts → IsLeftTo (Then h (Datagram now echo mid d) (Took answer reply)) vs
took_more h now mid echo d answer reply ts us vs o same gives more left = took h now mid echo d answer reply ts vs (places_are ts us vs o (ticket_of answer) same gives more) left

-- a reply takes the one at its place, which was held
pub replied_more : (h : History) (of mid room : ℕ) (own : Bool) (text : List ℕ) (t : TicketValues) (p : Parts) (ts us vs : List (Option TicketValues)) (o : Option TicketValues)
    → ticket_at ts of ≡ Some t → us ≡ slice_set ts of None → o ≡ None → vs ≡ us ++ o ∷ []
    → IsLeftTo h ts → IsHeld h t × IsLeftTo (Then h (Reply t (asks_own t own) mid p room) (Replied text)) vs
replied_more h of mid room own text t p ts us vs o at out none more left =
    let on : IsLeftTo (Then h (Reply t (asks_own t own) mid p room) (Replied text)) us = reply_takes h of mid room (asks_own t own) text t p ts us at out left in
    ((on.1.0, on.0, on.1.1, on.1.2), none_more (Then h (Reply t (asks_own t own) mid p room) (Replied text)) us us vs o refl none more on)

-- a notification leaves the one at its place, which is held
pub notified_more : (h : History) (of room : ℕ) (text : List ℕ) (t : TicketValues) (p : Parts) (ts us vs : List (Option TicketValues)) (o : Option TicketValues)
    → ticket_at ts of ≡ Some t → us ≡ ts → o ≡ None → vs ≡ us ++ o ∷ [] → IsLeftTo h ts → IsHeld h t × IsLeftTo (Then h (Notify t p room) (Replied text)) vs
notified_more h of room text t p ts us vs o at same none more left =
    let on : IsLeftTo (Then h (Notify t p room) (Replied text)) ts = notification_leaves h of room text t p ts at left in
    let (front, back, among) = on.1.1 in
    ((on.0, front ++ back, on.1.0, (front, back, among, refl)), none_more (Then h (Notify t p room) (Replied text)) ts us vs o same none more on)
