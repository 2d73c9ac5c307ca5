-- A peer in bytes as it answers. p are the bytes before a call, q those after it, h is the history of its server, g that history once it passed over numbers, old are
-- its numbers.
use Rattle.std.proofs.Common.{◌≡◌, ◌∙◌, ◌+◌, ◌-◌, ◌<◌, ◌^◌, ◌≤◌, inl, inr, sym, ap, subst, refl, arith, ℕ, Bool, true, false, not, List, Option, Some, None, Result, Ok, Err}
use Rattle.std.specs.Prelude.{unwrap_or}
use Rattle.std.specs.Option.{option_map}
use Rattle.std.proofs.lemmas.Option.{none-some, same_Some}
use Rattle.osc_coap.specs.Datagram.{Parts}
use Rattle.osc_context.specs.SecurityContext.{SecurityContext}
use Rattle.osc_client.specs.ClientHistory as asked
use Rattle.osc_life.specs.Deciding.{Decides, IsOpenedIn, Leaves}
use Rattle.osc_life.specs.Life.{Life, Mark, PassedOver, is_open_life, marked, next_own}
use Rattle.osc_life.specs.ServerHistory.{Answer, Datagram, Deliver, Entry, Event, History, Notify, Replied, Reply, Skip, Skipped, Then, TicketValues, Took, life, mark_at, reply_mark_at, skip_mark_at}
use Rattle.osc_life.specs.Views.{Shows}
use Rattle.osc_life.specs.declared.decision.Decision.{Decision}
use Rattle.osc_life.specs.declared.decision.Decision.TheVariants as decisions
use Rattle.osc_life.specs.declared.outcome.Outcome.{Outcome}
use Rattle.osc_life.specs.declared.outcome.Outcome.TheVariants as outcomes
use Rattle.osc_life.specs.declared.slot.Slot.{Slot}
use Rattle.osc_life.specs.declared.start.Fresh.{Fresh}
use Rattle.osc_endpoint.specs.ServerAnswer.{ServerAnswer}
use Rattle.osc_kept_ends.specs.KeptServing.{draws, uses}
use Rattle.osc_kept_ends.specs.Numbering.{Own, Draws, DrawsFrom, Steps, upcoming}
use Rattle.osc_kept_ends.specs.Peering.{DeliversBelow, ServerPasses, TakesBelow}
use Rattle.osc_kept_ends.proofs.Drawing.{upcoming_stays}
use Rattle.osc_handle.proofs.ServerSteps.{next_in as next_in_bytes, serves_with}
use Rattle.osc_handle.proofs.NumberSteps.{upcoming_within}
use Rattle.osc_handle.specs.KeptServerBytes.{DecidesWith, ServesWith, StepsServer}
use Rattle.osc_handle.specs.Reserved.{AreReserved, WantsSave}
use Rattle.osc_handle.specs.declared.kept_server_handle.KeptServerHandle.{KeptServerHandle}
use Rattle.osc_context_handle.specs.ContextBytes.{client_in, server_in}
use Rattle.osc_context_handle.specs.declared.context_handle.ContextHandle.{ContextHandle}
use Rattle.osc_handle.proofs.Tables.{life_there}
use Rattle.osc_handle.specs.ServerBytes.{IsSpent, Serves}
use Rattle.osc_handle.specs.SingleServerBytes.{server_of_one, table_of}
use Rattle.osc_handle.specs.TicketBytes.{IsTicket}
use Rattle.osc_handle.specs.declared.ticket_handle.TicketHandle.{TicketHandle}
use Rattle.osc_peer_handle.proofs.Passing.{serves_passed}
use Rattle.osc_peer_handle.specs.PeerBytes.{AsksBehind, DecidesAnswering, DeliversFrom, HasNumbers, HasToClaim, HasToSave, IsPeer, KeepsFirst, ServesBehind, StepsAnswering, inside_of, next_in, served_at}
use Rattle.osc_peer_handle.specs.declared.peer_handle.PeerHandle.{PeerHandle}
use Rattle.osc_peer_handle.specs.declared.peer_refusal.PeerRefusal.{PeerRefusal}
use Rattle.osc_peer_handle.specs.declared.peer_refusal.PeerRefusal.TheVariants as refusals

-- ---- numbers

-- a number in hand is the last that was drawn, after a draw too
drawn_last : (hand : Option ℕ) (old mid : Own) (reserved n : ℕ) → old.hand ≡ hand → AreReserved old reserved → DrawsFrom hand old mid → mid.hand ≡ Some n → n + 1 ≡ mid.next
drawn_last (Some m) old mid reserved n is r same has = subst (λ (o : Own). n + 1 ≡ o.next) (sym same) (r.last n (ap (λ (o : Own). o.hand) (sym same) ∙ has))
drawn_last None old mid reserved n is r (inl (allowed, goes)) has =
    let e : old.next ≡ n = same_Some old.next n (ap (λ (o : Own). o.hand) (sym goes) ∙ has) in
    let next : mid.next ≡ old.next + 1 = ap (λ (o : Own). o.next) goes in
    omega (arith, e, next)
drawn_last None old mid reserved n is r (inr (inl (allowed, goes))) has =
    let e : old.next ≡ n = same_Some old.next n (ap (λ (o : Own). o.hand) (sym goes) ∙ has) in
    let next : mid.next ≡ old.next + 1 = ap (λ (o : Own). o.next) goes in
    omega (arith, e, next)
drawn_last None old mid reserved n is r (inr (inr (end, same))) has = absurd (none-some n (sym is ∙ ap (λ (o : Own). o.hand) (sym same) ∙ has))

draw_last : (asked : Bool) (old mid : Own) (reserved n : ℕ) → AreReserved old reserved → Draws asked old mid → mid.hand ≡ Some n → n + 1 ≡ mid.next
draw_last true old mid reserved n r drawn has = drawn_last old.hand old mid reserved n refl r drawn has
draw_last false old mid reserved n r same has = subst (λ (o : Own). n + 1 ≡ o.next) (sym same) (r.last n (ap (λ (o : Own). o.hand) (sym same) ∙ has))

-- the one in hand comes first
comes_hand : (o : Own) (n : ℕ) → o.hand ≡ Some n → upcoming o ≡ n
comes_hand o n is = ap (λ (x : Option ℕ). unwrap_or x o.next) is

-- a step never goes back
pub steps_rise : (asked : Bool) (used : Option ℕ) (old new : Own) (reserved : ℕ) → AreReserved old reserved → Steps asked used old new → upcoming old ≤ upcoming new
steps_rise asked None old new reserved r (mid, drawn, (allowed, is)) =
    let e : upcoming new ≡ upcoming old = ap upcoming is ∙ upcoming_stays asked old mid drawn in
    omega (arith, e)
steps_rise asked (Some n) old new reserved r (mid, drawn, (hand, is)) =
    let comes : upcoming mid ≡ n = comes_hand mid n hand in
    let last : n + 1 ≡ mid.next = draw_last asked old mid reserved n r drawn hand in
    let stays : upcoming mid ≡ upcoming old = upcoming_stays asked old mid drawn in
    let e : upcoming new ≡ mid.next = ap upcoming is in
    omega (arith, comes, last, stays, e)

-- ---- the server's role

-- the server, once it passed over what the client used
pub caught_up : (p : PeerHandle) (o : Own) (h : History) → ServesBehind p o h → (g : History) × ServerPasses h g × ServesWith p.server o g
caught_up p o h w =
    let count = upcoming o - w.reached in
    let least : w.reached ≤ upcoming o = w.least in
    let next : next_in p ≡ upcoming o = w.has.next_is in
    let is : next_in p ≡ w.reached + count = omega (arith, least, next) in
    let within : upcoming o ≤ p.server.reserved = upcoming_within o p.server.reserved w.has.numbers in
    let top : p.server.reserved ≤ 2 ^ 40 = w.has.whole.server.reserved in
    let (row, serves) = serves_passed p.server.server h w.reached count (next_in p) w.serves w.reached_is is (omega (arith, next, within, top)) in
    let g = Then h (Skip 0 count) Skipped in
    let own : option_map next_own (life g 0) ≡ Some (upcoming o) = passed_next (life h 0) w.reached count (upcoming o) w.reached_is (omega (arith, least)) in (
      g,
      record { count = count; row = row; is = refl },
      serves_with p.server o g serves w.has.whole.server.bytes w.one own w.has.numbers top,
    ) where
      passed_next : (o : Option Life) (reached count next : ℕ) → option_map next_own o ≡ Some reached → next ≡ reached + count → option_map next_own (option_map (marked (Some (PassedOver count))) o) ≡ Some next
      passed_next None reached count next is sum = absurd (let e = is in cc)
      passed_next (Some l) reached count next is sum =
          let own : next_own l ≡ reached = ap (λ (x : Option ℕ). unwrap_or x reached) is in
          ap (λ (n : ℕ). Some n) (omega (arith, own, sum))

-- a server that is as its history says isn't behind
pub not_behind : (p : PeerHandle) (o : Own) (h : History) → IsPeer p → ServesWith p.server o h → ServesBehind p o h
not_behind p o h whole w =
    let next : next_in p ≡ upcoming o = next_in_bytes p.server h (upcoming o) w.serves w.next_is in
    record {
      has = record { whole = whole; next_is = next; numbers = w.numbers };
      reached = upcoming o;
      serves = subst (λ n. Serves (server_of_one (served_at n p.server.server)) h) next w.serves;
      one = w.one;
      reached_is = w.next_is;
      least = omega arith;
    }

-- ---- the client's role, meanwhile

-- the context as the other role has it
abbrev exchanged : SecurityContext → SecurityContext
exchanged s = record { client = s.server; client_key = s.server_key; server = s.client; server_key = s.client_key; common_iv = s.common_iv; id_context = s.id_context; features = s.features }

pub exchanged_in : (b c : ContextHandle) → server_in b ≡ server_in c → client_in b ≡ client_in c
exchanged_in b c same = ap exchanged same

-- it isn't further than before
pub asks_still : (p q : PeerHandle) (requests : List asked.Asked) (room : ℕ) (old new : Own) (a : asked.History) → HasNumbers q new → q.life_ms ≡ p.life_ms → q.clock ≡ p.clock
    → client_in q.server.server.slot.context ≡ client_in p.server.server.slot.context → upcoming old ≤ upcoming new → AsksBehind p requests room old a → AsksBehind q requests room new a
asks_still p q requests room old new a has life clock context rises w =
    record {
      has = has;
      context_is = context ∙ w.context_is;
      life_is = life ∙ w.life_is;
      clock_is = clock ∙ w.clock_is;
      apart_is = w.apart_is;
      least = let least = w.least in omega (arith, least, rises);
      table = w.table;
      differ = w.differ;
      answers = w.answers;
    }

-- ---- the context of the one life

pub life_of : (k : KeptServerHandle) (o : Own) (h : History) → ServesWith k o h → (of : Life) × (life h 0 ≡ Some of) × (of.context ≡ server_in k.server.slot.context)
life_of k o h w =
    let (of, life_is, slot, holds, agrees) = life_there (table_of k.server.slot) w.serves.slots (life h) 0 k.server.slot w.serves.table w.serves.agrees.places refl in
    (of, life_is, sym agrees.context ∙ holds.context)

abbrev pub context_at : History → Option SecurityContext
context_at h = option_map (λ (l : Life). l.context) (life h 0)

same_context : (k q : KeptServerHandle) (o new : Own) (g later : History) → ServesWith k o g → ServesWith q new later → context_at later ≡ context_at g
    → server_in q.server.slot.context ≡ server_in k.server.slot.context
same_context k q o new g later w x same =
    let (l, l_is, l_context) = life_of k o g w in
    let (m, m_is, m_context) = life_of q new later x in
    sym m_context
    ∙ same_Some m.context l.context (sym (ap (option_map (λ (l : Life). l.context)) m_is) ∙ same ∙ ap (option_map (λ (l : Life). l.context)) l_is)
    ∙ l_context

marked_context : (o : Option Life) (m : Option Mark) → option_map (λ (l : Life). l.context) (option_map (marked m) o) ≡ option_map (λ (l : Life). l.context) o
marked_context None m = refl
marked_context (Some l) None = refl
marked_context (Some l) (Some mark) = refl

took_context : (g : History) (now mid : ℕ) (echo d reply : List ℕ) (answer : Answer) → context_at (Then g (Datagram now echo mid d) (Took answer reply)) ≡ context_at g
took_context g now mid echo d reply answer = marked_context (life g 0) (mark_at 0 answer)

pub replied_context : (g : History) (t : TicketValues) (own : Bool) (mid : ℕ) (plain : Parts) (room : ℕ) (entry : Entry) → context_at (Then g (Reply t own mid plain room) entry) ≡ context_at g
replied_context g t own mid plain room (Replied bytes) = marked_context (life g 0) (reply_mark_at 0 t own)
replied_context g t own mid plain room entry = refl

pub notified_context : (g : History) (t : TicketValues) (plain : Parts) (room : ℕ) (entry : Entry) → context_at (Then g (Notify t plain room) entry) ≡ context_at g
notified_context g t plain room (Replied bytes) = marked_context (life g 0) (reply_mark_at 0 t true)
notified_context g t plain room entry = refl

-- ---- a step

pub steps_answering : (p q : PeerHandle) (h g : History) (event : Event) (entry : Entry) (old : Own) → q.life_ms ≡ p.life_ms → q.clock ≡ p.clock → q.received ≡ p.received
    → HasNumbers p old → ServerPasses h g → ServesWith p.server old g → StepsServer g event entry old q.server → context_at (Then g event entry) ≡ context_at g
    → StepsAnswering p h event entry old q
steps_answering p q h g event entry old life_is clock received has passes serves step context =
    let whole : IsPeer q = record { server = step.serves.whole; received = let top = has.whole.received in omega (arith, top, received) } in
    let behind = not_behind q step.new (Then g event entry) whole step.serves in
    let same = same_context p.server q.server old step.new g (Then g event entry) serves step.serves context in
    let rises = steps_rise (draws g event) (uses g event entry) old step.new p.server.reserved has.numbers step.numbers in
    record {
      g = g;
      passes = passes;
      reaches = serves.next_is;
      row = step.row;
      new = step.new;
      numbers = step.numbers;
      serves = behind;
      asks = λ requests room a w. asks_still p q requests room old step.new a behind.has life_is clock (exchanged_in q.server.server.slot.context p.server.server.slot.context same) rises w;
    }

pub decides_answering : (p q : PeerHandle) (h : History) (now : ℕ) (fresh : Fresh) (d : List ℕ) (decision : Decision) (left reply : List ℕ) (old : Own) → q.life_ms ≡ p.life_ms → q.clock ≡ p.clock
    → q.received ≡ p.received → ((g : History) → ServesWith p.server old g → DecidesWith g now fresh d decision left reply old q.server) → ServesBehind p old h
    → DecidesAnswering p h now fresh d decision left reply old q
decides_answering p q h now fresh d decision left reply old life_is clock received decides w =
    let (g, passes, serves) = caught_up p old h w in
    let x = decides g serves in
    record {
      answer = x.answer;
      decides = x.decides;
      step = steps_answering p q h g _ _ old life_is clock received w.has passes serves x.step (took_context g now fresh.mid fresh.echo d reply x.answer);
    }

-- the datagram is a request whose number has to be kept first
pub keeps_first : (p : PeerHandle) (q : KeptServerHandle) (h : History) (now : ℕ) (fresh : Fresh) (d : List ℕ) (decision : Decision) (left reply : List ℕ) (old : Own) (number : ℕ)
    → DeliversFrom decision p.received number → ((g : History) → ServesWith p.server old g → DecidesWith g now fresh d decision left reply old q) → ServesBehind p old h
    → KeepsFirst p.received h now fresh d number
keeps_first p q h now fresh d decision left reply old number from decides w =
    let (g, passes, serves) = caught_up p old h w in
    let x = decides g serves in
    delivered g passes decision x.answer from x.decides x.step.row where
      delivered : (g : History) → ServerPasses h g → (decision : Decision) (answer : Answer) → DeliversFrom decision p.received number → Decides decision left answer
          → ServerAnswer g (Datagram now fresh.echo fresh.mid d) (Took answer reply) → KeepsFirst p.received h now fresh d number
      delivered g passes (decisions.Deliver x t) (Deliver message ticket) from says row =
          record { g = g; passes = passes; message = message; ticket = ticket; reply = reply; row = row; number_is = from.0 ∙ ap (λ (v : TicketValues). v.number + 1) says.1; above = from.1 }
      delivered g passes (decisions.Deliver x t) answer from says row = absurd says
      delivered g passes decision answer from says row = absurd from

-- what was opened to be delivered
pub opened_from : (decision : Decision) (received number : ℕ) (slots : List (Option Slot)) (d new : List ℕ) → DeliversFrom decision received number → Leaves slots decision d new → IsOpenedIn slots d new
opened_from (decisions.Deliver x t) received number slots d new from left = left
opened_from decision received number slots d new from left = absurd from

-- what is shown of a delivery has the number that was decided
pub takes_below : (decision : Decision) (outcome : Outcome) (answer : Answer) (left : List ℕ) (received : ℕ) → Decides decision left answer → Shows outcome answer → DeliversBelow decision received
    → TakesBelow outcome received
takes_below (decisions.Deliver x t) (outcomes.Deliver o u) (Deliver message ticket) left received decides shows below =
    subst (λ (v : TicketValues). v.number < received) (decides.1 ∙ sym shows.1) below
takes_below decision (outcomes.Deliver o u) (Deliver message ticket) left received decides shows below = absurd decides
takes_below decision (outcomes.Deliver o u) answer left received decides shows below = absurd shows
takes_below decision outcome answer left received decides shows below = tt

-- ---- spent tickets

count_marked : (o : Option Life) (m : Option Mark) (of : Life) → option_map (marked m) o ≡ Some of → (l : Life) × (o ≡ Some l) × (of.count ≡ l.count)
count_marked None m of is = absurd (none-some of is)
count_marked (Some l) None of is = (l, refl, ap (λ (x : Life). x.count) (sym (same_Some l of is)))
count_marked (Some l) (Some mark) of is = (l, refl, ap (λ (x : Life). x.count) (sym (same_Some (marked (Some mark) l) of is)))

marked_count : (m : Option Mark) (l : Life) → (marked m l).count ≡ l.count
marked_count None l = refl
marked_count (Some mark) l = refl

-- a ticket that is spent once numbers were passed over was spent before
pub spent_before : (h g : History) (t : TicketValues) (own : Bool) → ServerPasses h g → IsSpent g t own → IsSpent h t own
spent_before h g t own passes spent =
    let (of, present, none) = subst (λ x. IsSpent x t own) passes.is spent in
    let (l, is, count) = count_marked (life h t.context) (skip_mark_at t.context 0 passes.count) of present.0 in
    (l, (is, present.1 ∙ count), none)

-- and it stays spent
pub spent_after : (h g : History) (t : TicketValues) (own : Bool) → ServerPasses h g → IsSpent h t own → IsSpent g t own
spent_after h g t own passes (of, present, none) =
    let m = skip_mark_at t.context 0 passes.count in
    subst (λ x. IsSpent x t own) (sym passes.is) (marked m of, (ap (option_map (marked m)) present.0, present.1 ∙ sym (marked_count m of)), none)

-- whether the life is open doesn't change
pub open_still : (h g : History) → ServerPasses h g → is_open_life (life g 0) ≡ is_open_life (life h 0)
open_still h g passes = ap (λ x. is_open_life (life x 0)) passes.is ∙ open_passed (life h 0) passes.count where
  open_passed : (o : Option Life) (count : ℕ) → is_open_life (option_map (marked (Some (PassedOver count))) o) ≡ is_open_life o
  open_passed None count = refl
  open_passed (Some l) count = refl

-- a save has to come first before numbers are passed over exactly if it has to afterwards
pub wants_after : (h g : History) (o : Own) (reserved : ℕ) → ServerPasses h g → WantsSave (not (is_open_life (life h 0))) (upcoming o) reserved
    → WantsSave (not (is_open_life (life g 0))) (upcoming o) reserved
wants_after h g o reserved passes wants = subst (λ b. WantsSave (not b) (upcoming o) reserved) (sym (open_still h g passes)) wants

pub wants_before : (h g : History) (o : Own) (reserved : ℕ) → ServerPasses h g → WantsSave (not (is_open_life (life g 0))) (upcoming o) reserved
    → WantsSave (not (is_open_life (life h 0))) (upcoming o) reserved
wants_before h g o reserved passes wants = subst (λ b. WantsSave (not b) (upcoming o) reserved) (open_still h g passes) wants

-- where the life is claimed, only a number can be missing
pub has_to_save : (asked : Bool) (next : ℕ) (p : PeerHandle) → (HasToClaim p → ⊥) → HasToSave asked next p → WantsSave asked next p.server.reserved
has_to_save asked next p none (inl claims) = absurd (none claims)
has_to_save asked next p none (inr wants) = wants

-- ---- refusals

-- two answers that are the same refuse by the same error
error_or : {T E : Type 0} → E → Result T E → E
error_or other (Ok x) = other
error_or other (Err e) = e

pub same_refusal : {T E : Type 0} {a b : E} → ◌≡◌ {A = Result T E} (Err a) (Err b) → a ≡ b
unfolding error_or
same_refusal {T} {E} {a} {b} same = ap (error_or a) same

-- the number of a refusal, or 0 where it has none
number_in : PeerRefusal → ℕ
number_in refusals.BadHandle = 0
number_in (refusals.SaveFirst number) = number
number_in (refusals.KeepFirst number) = number

-- the same refusal has the same number
pub same_save : {T : Type 0} {a b : ℕ} → ◌≡◌ {A = Result T PeerRefusal} (Err (refusals.SaveFirst a)) (Err (refusals.SaveFirst b)) → a ≡ b
unfolding number_in
same_save {T} {a} {b} is = ap number_in (same_refusal is)

pub same_keep : {T : Type 0} {a b : ℕ} → ◌≡◌ {A = Result T PeerRefusal} (Err (refusals.KeepFirst a)) (Err (refusals.KeepFirst b)) → a ≡ b
unfolding number_in
same_keep {T} {a} {b} is = ap number_in (same_refusal is)

-- what is done isn't refused
pub no_error : {T E : Type 0} {x : T} {e : E} → ◌≡◌ {A = Result T E} (Ok x) (Err e) → ⊥
no_error is = cc

-- ---- tickets

-- the ticket as the server's role has it is one that a call may have written too
pub inside_whole : (p : PeerHandle) (t inside : TicketHandle) → inside ≡ inside_of p t → IsTicket t → IsTicket inside
inside_whole p t inside same h = subst IsTicket (sym same) (record { kind = h.kind; number = h.number; token = h.token; observes = h.observes })
