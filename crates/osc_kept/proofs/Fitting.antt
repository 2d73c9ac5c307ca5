-- Each deed of a world that meets the premises fits what was done before.
use Rattle.std.proofs.Common.{◌≡◌, ℕ, ◌-◌, ◌∙◌, sym, ap, subst, refl, Bool, true, false, Option, Some, None, List, [], ◌∷◌, ◌++◌, ◌⊎◌, inl, inr, if◌then◌else◌}
use Rattle.std.specs.Prelude.{max, nat_le, unwrap_or}
use Rattle.std.specs.List.{AllByRecursion}
use Rattle.osc_coap.specs.Datagram.{Parts}
use Rattle.osc_coap.specs.Inner.{InnerParts}
use Rattle.osc_coap.specs.Laws.{DatagramIsOneMessage}
use Rattle.osc_coap.specs.Search.{has_number}
use Rattle.osc_context.specs.Features.{unobserved}
use Rattle.osc_context.specs.Laws.{OneNonce, ValueNumberInRange}
use Rattle.osc_context.specs.SecurityContext.{SecurityContext, IsUsable}
use Rattle.osc_context.specs.declared.features.Features.{Features}
use Rattle.osc_protect.specs.CipherLaws.{OneRequestInput, OneResponseInput, request_seal}
use Rattle.osc_protect.specs.OptionSets.{is_unsupported}
use Rattle.osc_protect.specs.Protection.{ProtectsRequest}
use Rattle.osc_window.specs.Gate.{challenge_in_force}
use Rattle.osc_window.specs.declared.window_size.WindowSize.{WindowSize}
use Rattle.osc_life.specs.Doubting.{OpensBy}
use Rattle.osc_life.specs.declared.doubt.Doubt.{Doubt}
use Rattle.osc_life.specs.declared.start.Start.{Start}
use Rattle.osc_life.specs.declared.start.Start.TheVariants as starts
use Rattle.osc_observe.specs.Received.{Received}
use Rattle.osc_client.specs.ClientHistory as client
use Rattle.osc_laws.specs.Laws.{AreApart, Pairwise, TicketOnce, answered, delivered}
use Rattle.osc_laws.proofs.Tickets.{all_behind}
use Rattle.osc_endpoint.specs.Tickets.{AreLeft, TakesTickets}
use Rattle.osc_life.specs.Life.{Life, Admits, born, Carries, challenge, in_force, is_open}
use Rattle.osc_life.specs.LifeAnswer.{challenge_given}
use Rattle.osc_life.specs.ServerHistory as server
use Rattle.osc_kept.specs.Premises.{AtEach, Answers, BeginsAbove, EchoIsNew, StartsAboveDelivered, IsLawful, NobodyForges, NobodyForgesRequests, SealedByClient}
use Rattle.osc_kept.specs.World.{World, Event, Begin, Then, ServerStarts, AtClient, AtServer, Has, client_history, sent, server_life}
use Rattle.osc_kept.proofs.Above.{owns_below, sends_below}
use Rattle.osc_kept.proofs.Deeds.{AllFit, Begins, CarriesLast, Challenges, Deed, Delivers, Fits, Holds, Renews, Replies, Spoils, carried, life_in, replied, sends}
use Rattle.osc_kept.proofs.Digest.{client_deed, delivered_is, digest, sent_is, server_deed}
use Rattle.osc_laws.proofs.Inside.{unnotified}
use Rattle.osc_life.proofs.SealedReplies.{replied_features}
use Rattle.osc_kept.proofs.Lives.{Stands, life_known, some_is, stands}

-- what the layers below hold of all contexts, datagrams and histories
pub record LawsBelow : Type 0 where
  pub tickets : TicketOnce
  pub request : OneRequestInput
  pub response : OneResponseInput
  pub in_range : ValueNumberInRange
  pub nonce : OneNonce
  pub one : DatagramIsOneMessage

-- ---- what opens was sealed

pub opened_request : LawsBelow → (s : SecurityContext) (w : World) (d : List ℕ) (n : ℕ) (m : InnerParts) → IsUsable s → NobodyForgesRequests s w d → ProtectsRequest s n m d
    → Has (record { number = n; message = m }) (sent s w)
opened_request laws s w d n m usable i p =
    let x : SealedByClient s w (request_seal s n) p.outer.payload = i n m p in
    let k : x.request.number ≡ n = laws.request.number s x.request.number n usable (laws.in_range _ _ x.protects.reads) (laws.in_range _ _ p.reads) x.input_is in
    let e : x.request.message ≡ m = laws.request.message s s x.request.number n x.request.message m x.bytes d x.protects p x.input_is x.text_is in
    subst (λ y. Has (record { number = y; message = m }) (sent s w)) k
    (subst (λ y. Has (record { number = x.request.number; message = y }) (sent s w)) e x.was_sent)

-- ---- the value that a request carries

in_time : (b : Bool) (c : List ℕ × ℕ) (m : InnerParts) → Carries (if b then Some c else None) m → carried m ≡ Some c.0
in_time true c m k = k
in_time false c m k = absurd k

carries_given : (b : Bool) (o : Option (List ℕ × ℕ)) (clock : ℕ) (m : InnerParts) → Carries (if b then None else challenge_in_force o clock) m
    → (c : List ℕ × ℕ) × (o ≡ Some c) × (carried m ≡ Some c.0)
carries_given true o clock m k = absurd k
carries_given false None clock m k = absurd k
carries_given false (Some c) clock m k = (c, refl, in_time (nat_le (clock - c.1) 30000) c m k)

pub carries_last : (l : Life) (clock : ℕ) (m : InnerParts) → Carries (in_force l clock) m → CarriesLast l m
carries_last l clock m k = carries_given (is_open l) (challenge l.marks) clock m k

opens_by : (doubt : Option Doubt) (n : ℕ) (P Q : Type 0) → (P → Q) → OpensBy doubt n P → OpensBy doubt n Q
opens_by None n P Q f h = f h
opens_by (Some doubt) n P Q f (inl beyond) = inl beyond
opens_by (Some doubt) n P Q f (inr h) = inr (f h)

opens_last : (l : Life) (clock n : ℕ) (m : InnerParts) → OpensBy l.doubt n (Carries (in_force l clock) m) → OpensBy l.doubt n (CarriesLast l m)
opens_last l clock n m h = opens_by l.doubt n (Carries (in_force l clock) m) (CarriesLast l m) (carries_last l clock m) h

-- a challenge gives the value of the last one, or a fresh one where none is in force
same_in_time : (b : Bool) (x c : List ℕ × ℕ) → (if b then Some x else None) ≡ Some c → Some x ≡ Some c
same_in_time true x c e = e
same_in_time false x c e = cc

pub still_in_force : (b : Bool) (o : Option (List ℕ × ℕ)) (clock : ℕ) (c : List ℕ × ℕ) → (if b then None else challenge_in_force o clock) ≡ Some c → o ≡ Some c
still_in_force true o clock c e = cc
still_in_force false None clock c e = cc
still_in_force false (Some x) clock c e = same_in_time (nat_le (clock - x.1) 30000) x c e

pub again_or_new : (o p : Option (List ℕ × ℕ)) (fresh c : List ℕ × ℕ) → ((x : List ℕ × ℕ) → o ≡ Some x → p ≡ Some x) → c ≡ unwrap_or o fresh → (p ≡ Some c) ⊎ ((o ≡ None) × (c ≡ fresh))
again_or_new None p fresh c f e = inr (refl, e)
again_or_new (Some x) p fresh c f e = inl (f x refl ∙ ap (λ y. Some y) (sym e))

-- ---- each event

-- the life that the head names is the present one
pub same_life : (s : SecurityContext) (ds : List Deed) (h : server.History) (i : ℕ) (of : Life) → Stands s ds h → server.life h i ≡ Some of → of ≡ life_in s ds
same_life s ds h i of x e = some_is (sym e ∙ ap (λ j. server.life h j) (x.only i of e) ∙ x.present)

has_more : (xs ys : List server.TicketValues) (u t : server.TicketValues) → Has t (xs ++ ys) → Has t (xs ++ u ∷ ys)
has_more [] ys u t k = inr k
has_more (x ∷ xs) ys u t (inl e) = inl e
has_more (x ∷ xs) ys u t (inr k) = inr (has_more xs ys u t k)

pub has_middle : (xs ys : List server.TicketValues) (u : server.TicketValues) → Has u (xs ++ u ∷ ys)
has_middle [] ys u = inl refl
has_middle (x ∷ xs) ys u = inr (has_middle xs ys u)

-- the tickets that are left were given
pub left_given : (h : server.History) (ts : List server.TicketValues) (t : server.TicketValues) → AreLeft h ts → Has t ts → Has t (delivered h)
left_given server.Begin ts t a k = subst (λ xs. Has t xs) a k
left_given (server.Then h event (server.Took (server.Deliver received ticket) reply)) ts t a k =
    elim (subst (λ xs. Has t xs) a.2 k) [
      | inl e ↦ inl e
      | inr l ↦ inr (left_given h a.0 t a.1 l)
    ]
left_given (server.Then h (server.Reply u own mid p room) (server.Replied bytes)) ts t a k =
    left_given h a.0 t a.1 (subst (λ xs. Has t xs) (sym a.2.2) (has_more a.2.0 a.2.1 u t (subst (λ xs. Has t xs) a.2.3 k)))
left_given (server.Then h (server.Notify u p room) (server.Replied bytes)) ts t a k = left_given h ts t a.0 k
left_given (server.Then h event entry) ts t a k = left_given h ts t a k

pub all_at : (P : server.TicketValues → Type 0) (xs : List server.TicketValues) (x : server.TicketValues) → AllByRecursion P xs → Has x xs → P x
all_at P [] x a k = absurd k
all_at P (y ∷ ys) x a (inl e) = subst P (sym e) a.0
all_at P (y ∷ ys) x a (inr k) = all_at P ys x a.1 k

-- one of the tickets in front is apart from those behind
apart_behind : (xs ys : List server.TicketValues) (t : server.TicketValues) → Pairwise AreApart (xs ++ ys) → Has t xs → AllByRecursion (AreApart t) ys
apart_behind [] ys t pairs k = absurd k
apart_behind (x ∷ xs) ys t pairs (inl e) = subst (λ u. AllByRecursion (AreApart u) ys) (sym e) (all_behind (AreApart x) xs ys pairs.0)
apart_behind (x ∷ xs) ys t pairs (inr k) = apart_behind xs ys t pairs.1 k

-- a ticket that is left was given and not taken
left_held : TicketOnce → (s : SecurityContext) (ds : List Deed) (h : server.History) (t : server.TicketValues) (ts : List server.TicketValues) → Stands s ds h → AreLeft h ts → Has t ts
    → Holds ds t
left_held once s ds h t ts x left was = (
  subst (λ us. Has t us) x.given_is (left_given h ts t left was),
  λ k. all_at (AreApart t) (answered h) t (apart_behind ts (answered h) t (once h x.lawful (ts, left)) was) (subst (λ us. Has t us) (sym x.taken_is) k) refl refl refl,
)

-- so is that of an accepted reply
pub held : TicketOnce → (s : SecurityContext) (ds : List Deed) (h : server.History) (t : server.TicketValues) (own : Bool) (mid room : ℕ) (p : Parts) (bytes : List ℕ) → Stands s ds h
    → TakesTickets (server.Then h (server.Reply t own mid p room) (server.Replied bytes)) → Holds ds t
held once s ds h t own mid room p bytes x tickets =
    let out = tickets.1.2 in
    left_held once s ds h t tickets.1.0 x tickets.1.1 (subst (λ xs. Has t xs) (sym out.2) (has_middle out.0 out.1 t))

-- and that of an accepted notification
notifying : TicketOnce → (s : SecurityContext) (ds : List Deed) (h : server.History) (t : server.TicketValues) (p : Parts) (room : ℕ) (bytes : List ℕ) → Stands s ds h
    → TakesTickets (server.Then h (server.Notify t p room) (server.Replied bytes)) → Holds ds t
notifying once s ds h t p room bytes x (ts, (left, (front, back, is))) = left_held once s ds h t ts x left (subst (λ us. Has t us) (sym is) (has_middle front back t))

-- what stands before an event of the server, and that it meets the premises
pub record At (n : ℕ) (s : SecurityContext) (w : World) (event : server.Event) (entry : server.Entry) : Type 0 where
  pub usable : IsUsable s
  pub all : AtEach (Answers n s) w
  pub answer : Answers n s w (AtServer event entry)
  pub sealed : NobodyForges s w (AtServer event entry)
  pub unseen : EchoIsNew s w (AtServer event entry)
  pub above : AtEach (BeginsAbove s) w

-- its history, and its life
pub at_stands : (n : ℕ) (s : SecurityContext) (w : World) (event : server.Event) (entry : server.Entry) (i : At n s w event entry) → Stands s (digest s w) i.answer.0
at_stands n s w event entry i = stands n s w i.answer.0 i.all i.answer.1

pub at_life : (n : ℕ) (s : SecurityContext) (w : World) (event : server.Event) (entry : server.Entry) → At n s w event entry → server_life s w ≡ Some (life_in s (digest s w))
at_life n s w event entry i = life_known s w i.answer.0 (life_in s (digest s w)) i.answer.1 (at_stands n s w event entry i).present

replied_context : (own : Option ℕ) (l : Life) → (replied own l).context ≡ l.context
replied_context None l = refl
replied_context (Some o) l = refl

born_context : (s : SecurityContext) (start : Start) (size : WindowSize) → (born s start size).context ≡ s
born_context s (starts.Fresh first) size = refl
born_context s (starts.Restarted first) size = refl
born_context s (starts.Received first highest) size = refl
born_context s (starts.Reserved first highest ahead) size = refl

pub context_in : (s : SecurityContext) (ds : List Deed) → (life_in s ds).context ≡ s
context_in s [] = refl
context_in s (Begins start size ∷ ds) = born_context s start size
context_in s (Replies t own m ∷ ds) = replied_context own (life_in s ds) ∙ context_in s ds
context_in s (Renews next ∷ ds) = context_in s ds
context_in s (Spoils n ∷ ds) = context_in s ds
context_in s (Challenges n echo issued own m ∷ ds) = context_in s ds
context_in s (Delivers t m ∷ ds) = context_in s ds
context_in s (d ∷ ds) = context_in s ds

-- a request that opens under the present life was sent
opened_in : LawsBelow → (n : ℕ) (s : SecurityContext) (w : World) (d : List ℕ) (k : ℕ) (m : InnerParts) (of : Life) → IsUsable s → NobodyForgesRequests s w d → of ≡ life_in s (digest s w)
    → ProtectsRequest of.context k m d → Has (record { number = k; message = m }) (sends (digest s w))
opened_in laws n s w d k m of usable forges e p =
    subst (λ rs. Has (record { number = k; message = m }) rs) (sent_is s w)
    (opened_request laws s w d k m usable forges (subst (λ c. ProtectsRequest c k m d) (ap (λ (l : Life). l.context) e ∙ context_in s (digest s w)) p))

fits_delivery : LawsBelow → (n : ℕ) (s : SecurityContext) (w : World) (now mid : ℕ) (echo d reply : List ℕ) (received : Received) (t : server.TicketValues)
    → At n s w (server.Datagram now echo mid d) (server.Took (server.Deliver received t) reply) → Fits s (digest s w) (Delivers t received.message)
fits_delivery laws n s w now mid echo d reply received t i =
    let x = i.answer.2.0 in
    let l : Life = life_in s (digest s w) in
    let clock : ℕ = max (server.clock i.answer.0) now in
    let e : x.2 ≡ l = same_life s (digest s w) i.answer.0 x.0 x.2 (at_stands n s w _ _ i) x.3.life_is in
    let k : x.1 ≡ t.number = sym (ap (λ (y : server.TicketValues). y.number) x.4.2) in
    let admits : Admits l clock t.number received.message = subst (λ y. Admits l clock y received.message) k (subst (λ y. Admits y clock x.1 received.message) e x.4.1) in
    let sent : Has (record { number = x.1; message = received.message }) (sends (digest s w)) = opened_in laws n s w d x.1 received.message x.2 i.usable i.sealed e x.4.0.protects in
    (admits.0, λ closed. opens_last l clock t.number received.message (admits.1 closed), subst (λ y. Has (record { number = y; message = received.message }) (sends (digest s w))) k sent)

pub fits_challenge : LawsBelow → (n : ℕ) (s : SecurityContext) (w : World) (now mid i k issued : ℕ) (echo d value reply : List ℕ)
    → At n s w (server.Datagram now echo mid d) (server.Took (server.Challenge i k value issued) reply)
    → Fits s (digest s w) (server_deed (Some (life_in s (digest s w))) (server.Datagram now echo mid d) (server.Took (server.Challenge i k value issued) reply))
fits_challenge laws n s w now mid i k issued echo d value reply y =
    let x = y.answer.2.0 in
    let h : server.History = y.answer.0 in
    let stood : Stands s (digest s w) h = at_stands n s w _ _ y in
    let l : Life = life_in s (digest s w) in
    let clock : ℕ = max (server.clock h) now in
    let e : x.2 ≡ l = same_life s (digest s w) h x.0 x.2 stood x.3.life_is in
    let number : k ≡ x.1 = x.4.4 in
    let sent : Has (record { number = x.1; message = x.4.0.2 }) (sends (digest s w)) = opened_in laws n s w d x.1 x.4.0.2 x.2 y.usable y.sealed e x.4.0.3 in
    let last : (value, issued) ≡ challenge_given l clock echo = x.4.2 ∙ ap (λ z. challenge_given z clock echo) e in
    let life_i : server.life h i ≡ Some l = ap (λ j. server.life h j) x.4.3 ∙ x.3.life_is ∙ ap (λ z. Some z) e in (
      (_, sent, sym number),
      (owns_below n s w y.all y.above).below,
      elim (again_or_new (in_force l clock) (challenge l.marks) (echo, clock) (value, issued) (λ c f. still_in_force (is_open l) (challenge l.marks) clock c f) last) [
        | inl same ↦ inl same
        | inr new ↦ inr (λ r q f. y.unseen h l y.answer.1 life_i new.0 r (subst (λ rs. Has r rs) (sym (sent_is s w)) q) f)
      ],
      refl,
    )

fits_reply : LawsBelow → (n : ℕ) (s : SecurityContext) (w : World) (t : server.TicketValues) (own : Bool) (mid room : ℕ) (p : Parts) (bytes : List ℕ)
    → At n s w (server.Reply t own mid p room) (server.Replied bytes)
    → Fits s (digest s w) (server_deed (Some (life_in s (digest s w))) (server.Reply t own mid p room) (server.Replied bytes))
fits_reply laws n s w t true mid room p bytes y = (
  held laws.tickets s (digest s w) y.answer.0 t true mid room p bytes (at_stands n s w _ _ y) y.answer.4,
  (owns_below n s w y.all y.above).below,
)
fits_reply laws n s w t false mid room p bytes y = (
  held laws.tickets s (digest s w) y.answer.0 t false mid room p bytes (at_stands n s w _ _ y) y.answer.4,
  unnotified (unobserved y.answer.2.0.context.features) p refl
      (subst (λ (x : Features). has_number (is_unsupported x) p.options ≡ false) (replied_features y.answer.2.0.context t.number p) y.answer.2.2.1.supported),
)

fits_notify : LawsBelow → (n : ℕ) (s : SecurityContext) (w : World) (t : server.TicketValues) (room : ℕ) (p : Parts) (bytes : List ℕ)
    → At n s w (server.Notify t p room) (server.Replied bytes)
    → Fits s (digest s w) (server_deed (Some (life_in s (digest s w))) (server.Notify t p room) (server.Replied bytes))
fits_notify laws n s w t room p bytes y = (
  notifying laws.tickets s (digest s w) y.answer.0 t p room bytes (at_stands n s w _ _ y) y.answer.4,
  (owns_below n s w y.all y.above).below,
)

fits_server : LawsBelow → (n : ℕ) (s : SecurityContext) (w : World) (event : server.Event) (entry : server.Entry) → At n s w event entry
    → Fits s (digest s w) (server_deed (Some (life_in s (digest s w))) event entry)
fits_server laws n s w (server.Datagram now echo mid d) (server.Took (server.Deliver received t) reply) y = fits_delivery laws n s w now mid echo d reply received t y
fits_server laws n s w (server.Datagram now echo mid d) (server.Took (server.Challenge i k value issued) reply) y = fits_challenge laws n s w now mid i k issued echo d value reply y
fits_server laws n s w (server.Reply t own mid p room) (server.Replied bytes) y = fits_reply laws n s w t own mid room p bytes y
fits_server laws n s w (server.Notify t p room) (server.Replied bytes) y = fits_notify laws n s w t room p bytes y
fits_server laws n s w (server.Restart i next) server.Restarted y = tt
fits_server laws n s w (server.Skip i count) server.Skipped y = tt
fits_server laws n s w event entry y = tt

pub fits_client : (n : ℕ) (s : SecurityContext) (w : World) (o : Option client.History) (event : client.Event) (entry : client.Entry) → client_history s w ≡ o
    → AtEach (Answers n s) w → AtEach (BeginsAbove s) w → Fits s (digest s w) (client_deed o event entry)
fits_client n s w (Some h) (client.Request now p room) (client.Sent bytes) e a b = sends_below n s w h a b e
fits_client n s w o event entry e a b = tt

fits_start : (s : SecurityContext) (w : World) (start : Start) (size : WindowSize) → StartsAboveDelivered w (ServerStarts start size) → Fits s (digest s w) (Begins start size)
fits_start s w (starts.Fresh first) size f = λ n k. subst (λ ns. Has n ns) (sym (delivered_is s w) ∙ f) k
fits_start s w (starts.Restarted first) size f = tt
fits_start s w (starts.Received first highest) size f = λ n k. f n (subst (λ ns. Has n ns) (sym (delivered_is s w)) k)
fits_start s w (starts.Reserved first highest ahead) size f = λ n k. f n (subst (λ ns. Has n ns) (sym (delivered_is s w)) k)

pub at_server : (n : ℕ) (s : SecurityContext) (w : World) (event : server.Event) (entry : server.Entry) → IsLawful n s (Then w (AtServer event entry)) → At n s w event entry
at_server n s w event entry i =
    record {
      usable = i.usable;
      all = i.answers.0;
      answer = i.answers.1;
      sealed = i.sealed.1;
      unseen = i.unseen.1;
      above = i.above.0;
    }

pub before : (n : ℕ) (s : SecurityContext) (w : World) (event : Event) → IsLawful n s (Then w event) → IsLawful n s w
before n s w event i =
    record { usable = i.usable; answers = i.answers.0; sealed = i.sealed.0; unseen = i.unseen.0; above = i.above.0; fresh = i.fresh.0 }

pub all_fit : LawsBelow → (n : ℕ) (s : SecurityContext) (w : World) → IsLawful n s w → AllFit s (digest s w)
all_fit laws n s Begin i = tt
all_fit laws n s (Then w (ServerStarts start size)) i = (all_fit laws n s w (before n s w _ i), fits_start s w start size i.fresh.1)
all_fit laws n s (Then w (AtClient event entry)) i = (all_fit laws n s w (before n s w _ i), fits_client n s w (client_history s w) event entry refl i.answers.0 i.above.0)
all_fit laws n s (Then w (AtServer event entry)) i =
    let y : At n s w event entry = at_server n s w event entry i in (
      all_fit laws n s w (before n s w _ i),
      subst (λ l. Fits s (digest s w) (server_deed l event entry)) (sym (at_life n s w event entry y)) (fits_server laws n s w event entry y),
    )
all_fit laws n s (Then w event) i = (all_fit laws n s w (before n s w _ i), tt)
