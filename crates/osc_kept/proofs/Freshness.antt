-- What opens a closed life, with a number that isn't above those in doubt, was sealed after a challenge of that life. w is a world that meets the premises, v an
-- earlier one, c a challenge's value and when it was issued.
use Rattle.std.proofs.Common.{◌≡◌, ℕ, ◌≤◌, ◌∙◌, sym, ap, subst, refl, Bool, true, false, Option, Some, None, List, ◌∷◌, ◌⊎◌, inl, inr, if◌then◌else◌}
use Rattle.std.proofs.lemmas.Bool.{leb-true}
use Rattle.std.specs.Prelude.{◌-◌, max, nat_le}
use Rattle.osc_coap.specs.Inner.{InnerParts}
use Rattle.osc_coap.specs.Interpreted.{interpreted}
use Rattle.osc_coap.specs.OptionNumbers as options
use Rattle.osc_context.specs.SecurityContext.{SecurityContext}
use Rattle.osc_life.specs.Doubting.{IsBeyond, OpensBy}
use Rattle.osc_life.specs.declared.doubt.Doubt.{Doubt}
use Rattle.osc_life.specs.Life.{Admits, Carries, Life, challenge, in_force, is_open}
use Rattle.osc_life.specs.LifeAnswer.{challenge_given}
use Rattle.osc_life.specs.ServerHistory as server
use Rattle.osc_client.specs.ClientHistory as client
use Rattle.osc_window.specs.Gate.{challenge_in_force}
use Rattle.osc_kept.specs.Freshness.{AtClock, OpensFresh, WasGivenAfter}
use Rattle.osc_kept.specs.Premises.{AtEach, IsLawful}
use Rattle.osc_kept.specs.World.{World, Event, Begin, Then, ClientStarts, ServerStarts, Draws, Reserves, AtClient, AtServer, Has, Request, client_history, server_history, sent}
use Rattle.osc_kept.proofs.Claims.{delivers_once}
use Rattle.osc_kept.proofs.Deeds.{life_in, born_challenge}
use Rattle.osc_kept.proofs.Digest.{client_deed, digest, server_deed}
use Rattle.osc_kept.proofs.Fitting.{LawsBelow, At, again_or_new, at_life, at_server, at_stands, before, same_life, still_in_force}
use Rattle.osc_kept.proofs.Lives.{some_is}

-- the value of the last challenge in the present life of the server, and when it was issued
abbrev pub last_challenge : World → Option (List ℕ × ℕ)
last_challenge Begin = None
last_challenge (Then w (ServerStarts start size)) = None
last_challenge (Then w (AtServer (server.Restart i next) server.Restarted)) = None
last_challenge (Then w (AtServer (server.Datagram now echo mid d) (server.Took (server.Challenge i n given issued) reply))) = Some (given, issued)
last_challenge (Then w event) = last_challenge w

-- the message's first Echo value
abbrev echo_in : InnerParts → Option (List ℕ)
echo_in m = interpreted options.echo m.options

-- no request that was sealed so far carries the value
abbrev pub IsUnseen : SecurityContext → World → List ℕ → Type 0
IsUnseen s w value = (r : Request) → Has r (sent s w) → echo_in r.message ≡ Some value → ⊥

-- a challenge gives the life's last value again, as it was issued, or one that no request carries, issued now
abbrev pub GivesWell : SecurityContext → World → Event → Type 0
GivesWell s w (AtServer (server.Datagram now echo mid d) (server.Took (server.Challenge i n given issued) reply)) =
    (last_challenge w ≡ Some (given, issued)) ⊎ (AtClock s w now (λ clock. issued ≡ clock) × IsUnseen s w given)
GivesWell s w event = Unit {0}

-- ---- the last challenge of the life is that of the list

client_same : (s : SecurityContext) (w : World) (o : Option client.History) (event : client.Event) (entry : client.Entry)
    → challenge (life_in s (client_deed o event entry ∷ digest s w)).marks ≡ challenge (life_in s (digest s w)).marks
client_same s w (Some h) (client.Request now p room) (client.Sent bytes) = refl
client_same s w o event entry = refl

server_same : (s : SecurityContext) (w : World) (l : Life) (event : server.Event) (entry : server.Entry) → challenge (life_in s (digest s w)).marks ≡ last_challenge w
    → challenge (life_in s (server_deed (Some l) event entry ∷ digest s w)).marks ≡ last_challenge (Then w (AtServer event entry))
server_same s w l (server.Restart i next) server.Restarted e = refl
server_same s w l (server.Skip i count) server.Skipped e = e
server_same s w l (server.Datagram now echo mid d) (server.Took (server.Challenge i n given issued) reply) e = refl
server_same s w l (server.Reply t true mid p room) (server.Replied bytes) e = e
server_same s w l (server.Reply t false mid p room) (server.Replied bytes) e = e
server_same s w l (server.Notify t p room) (server.Replied bytes) e = e
server_same s w l event entry e = e

pub last_is : (n : ℕ) (s : SecurityContext) (w : World) → IsLawful n s w → challenge (life_in s (digest s w)).marks ≡ last_challenge w
last_is n s Begin i = refl
last_is n s (Then w (ServerStarts start size)) i = born_challenge s start size
last_is n s (Then w (AtClient event entry)) i = client_same s w (client_history s w) event entry ∙ last_is n s w (before n s w (AtClient event entry) i)
last_is n s (Then w (AtServer event entry)) i =
    let y : At n s w event entry = at_server n s w event entry i in
    ap (λ l. challenge (life_in s (server_deed l event entry ∷ digest s w)).marks) (at_life n s w event entry y)
    ∙ server_same s w (life_in s (digest s w)) event entry (last_is n s w (before n s w (AtServer event entry) i))
last_is n s (Then w (ClientStarts loaded ms)) i = last_is n s w (before n s w (ClientStarts loaded ms) i)
last_is n s (Then w (Draws of)) i = last_is n s w (before n s w (Draws of) i)
last_is n s (Then w (Reserves of)) i = last_is n s w (before n s w (Reserves of) i)

-- ---- challenges

at_clock : (s : SecurityContext) (w : World) (now : ℕ) (P : ℕ → Type 0) (h : server.History) → server_history s w ≡ Some h → P (max (server.clock h) now) → AtClock s w now P
at_clock s w now P h e p = λ g f. subst (λ x. P (max (server.clock x) now)) (some_is (sym e ∙ f)) p

gives_well : LawsBelow → (n : ℕ) (s : SecurityContext) (w : World) (event : Event) → IsLawful n s (Then w event) → GivesWell s w event
gives_well laws n s w (AtServer (server.Datagram now echo mid d) (server.Took (server.Challenge i k value issued) reply)) lawful =
    let event : server.Event = server.Datagram now echo mid d in
    let entry : server.Entry = server.Took (server.Challenge i k value issued) reply in
    let y : At n s w event entry = at_server n s w event entry lawful in
    let x = y.answer.2.0 in
    let h : server.History = y.answer.0 in
    let l : Life = life_in s (digest s w) in
    let clock : ℕ = max (server.clock h) now in
    let e : x.2 ≡ l = same_life s (digest s w) h x.0 x.2 (at_stands n s w event entry y) x.3.life_is in
    let last : (value, issued) ≡ challenge_given l clock echo = x.4.2 ∙ ap (λ z. challenge_given z clock echo) e in
    let life_i : server.life h i ≡ Some l = ap (λ j. server.life h j) x.4.3 ∙ x.3.life_is ∙ ap (λ z. Some z) e in
    elim (again_or_new (in_force l clock) (challenge l.marks) (echo, clock) (value, issued) (λ c f. still_in_force (is_open l) (challenge l.marks) clock c f) last) [
      | inl same ↦ inl (sym (last_is n s w (before n s w (AtServer event entry) lawful)) ∙ same)
      | inr new ↦ inr (
        at_clock s w now (λ z. issued ≡ z) h y.answer.1 (ap (λ (z : List ℕ × ℕ). z.1) new.1),
        λ r q f. y.unseen h l y.answer.1 life_i new.0 r q f,
      )
    ]
gives_well laws n s w event i = tt

all_give_well : LawsBelow → (n : ℕ) (s : SecurityContext) (w : World) → IsLawful n s w → AtEach (GivesWell s) w
all_give_well laws n s Begin i = tt
all_give_well laws n s (Then w event) i = (all_give_well laws n s w (before n s w event i), gives_well laws n s w event i)

-- ---- where a value was given first

-- where the value of the life's last challenge was given first, no request carried it
abbrev pub Origin : SecurityContext → World → List ℕ × ℕ → Type 0
Origin s w c = (v : World) × WasGivenAfter s v c.0 c.1 w × IsUnseen s v c.0

further : (s : SecurityContext) (w : World) (event : Event) (c : List ℕ × ℕ) → Origin s w c → Origin s (Then w event) c
further s w event c (v, given, unseen) = (v, inr given, unseen)

none_last : (c : List ℕ × ℕ) → None ≡ Some c → ⊥
none_last c e = cc

pub origin : (s : SecurityContext) (w : World) (c : List ℕ × ℕ) → AtEach (GivesWell s) w → last_challenge w ≡ Some c → Origin s w c
origin s Begin c a e = absurd (none_last c e)
origin s (Then w (ServerStarts start size)) c a e = absurd (none_last c e)
origin s (Then w (AtServer (server.Restart i next) server.Restarted)) c a e = absurd (none_last c e)
origin s (Then w (AtServer (server.Datagram now echo mid d) (server.Took (server.Challenge i n given issued) reply))) c a e = elim a.1 [
  | inl again ↦ further s w (AtServer (server.Datagram now echo mid d) (server.Took (server.Challenge i n given issued) reply)) c (origin s w c a.0 (again ∙ e))
  | inr new ↦
      let f : (given, issued) ≡ c = some_is e in
      (w, inl (refl, (ap (λ (x : List ℕ × ℕ). x.0) f, ap (λ (x : List ℕ × ℕ). x.1) f, new.0)), subst (λ (x : List ℕ × ℕ). IsUnseen s w x.0) f new.1)
]
origin s (Then w event) c a e = further s w event c (origin s w c a.0 e)

-- ---- deliveries

abbrev IsCarried : Option (List ℕ × ℕ) → ℕ → InnerParts → Type 0
IsCarried o clock m = (c : List ℕ × ℕ) × (o ≡ Some c) × (echo_in m ≡ Some c.0) × (clock - c.1 ≤ 30000)

in_time : (b : Bool) (c : List ℕ × ℕ) (clock : ℕ) (m : InnerParts) → nat_le (clock - c.1) 30000 ≡ b → Carries (if b then Some c else None) m → (echo_in m ≡ Some c.0) × (clock - c.1 ≤ 30000)
in_time true c clock m e k = (k, leb-true (clock - c.1) 30000 e)
in_time false c clock m e k = absurd k

carried_in_time : (b : Bool) (o : Option (List ℕ × ℕ)) (clock : ℕ) (m : InnerParts) → Carries (if b then None else challenge_in_force o clock) m → IsCarried o clock m
carried_in_time true o clock m k = absurd k
carried_in_time false None clock m k = absurd k
carried_in_time false (Some c) clock m k = let x = in_time (nat_le (clock - c.1) 30000) c clock m refl k in (c, refl, x.0, x.1)

-- what opens a closed life without a number above those in doubt carries the value
carried_within : (doubt : Option Doubt) (n : ℕ) (carried : Type 0) → OpensBy doubt n carried → (IsBeyond doubt n → ⊥) → carried
carried_within None n carried h within = h
carried_within (Some doubt) n carried (inl beyond) within = absurd (within beyond)
carried_within (Some doubt) n carried (inr h) within = h

pub opens_fresh : LawsBelow → (n : ℕ) (s : SecurityContext) (w : World) (event : Event) → IsLawful n s (Then w event) → OpensFresh s w event
opens_fresh laws n s w (AtServer (server.Datagram now echo mid d) (server.Took (server.Deliver received t) reply)) lawful = λ of f closed within.
    let event : server.Event = server.Datagram now echo mid d in
    let entry : server.Entry = server.Took (server.Deliver received t) reply in
    let y : At n s w event entry = at_server n s w event entry lawful in
    let x = y.answer.2.0 in
    let h : server.History = y.answer.0 in
    let l : Life = life_in s (digest s w) in
    let clock : ℕ = max (server.clock h) now in
    let e : x.2 ≡ l = same_life s (digest s w) h x.0 x.2 (at_stands n s w event entry y) x.3.life_is in
    let k : x.1 ≡ t.number = sym (ap (λ (z : server.TicketValues). z.number) x.4.2) in
    let admits : Admits l clock x.1 received.message = subst (λ z. Admits z clock x.1 received.message) e x.4.1 in
    let same : of ≡ l = some_is (sym f ∙ at_life n s w event entry y) in
    let opens = subst (λ z. OpensBy l.doubt z (Carries (in_force l clock) received.message)) k (admits.1 (subst (λ z. is_open z ≡ false) same closed)) in
    let carries = carried_within l.doubt t.number (Carries (in_force l clock) received.message) opens (subst (λ (z : Life). IsBeyond z.doubt t.number → ⊥) same within) in
    let c = carried_in_time (is_open l) (challenge l.marks) clock received.message carries in
    let earlier = before n s w (AtServer event entry) lawful in
    let o = origin s w c.0 (all_give_well laws n s w earlier) (sym (last_is n s w earlier) ∙ c.1) in
    record {
      value = c.0.0;
      moment = c.0.1;
      v = o.0;
      given = o.1;
      recent = at_clock s w now (λ z. z - c.0.1 ≤ 30000) h y.answer.1 c.3;
      was_sent = (delivers_once laws n s w (AtServer event entry) lawful).0;
      after = λ q. o.2 (record { number = t.number; message = received.message }) q c.2;
    }
opens_fresh laws n s w event i = tt
