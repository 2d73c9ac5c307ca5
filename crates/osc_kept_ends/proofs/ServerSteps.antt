-- What a call adds to the history of a kept server, and does to its numbers: s is the server before, t after; old, mid and new are the numbers
-- before, behind a draw, and after.
use Rattle.std.proofs.Common.{◌≡◌, ℕ, ◌+◌, ◌<◌, ◌^◌, ◌∙◌, sym, ap, subst, refl, arith, Bool, true, false, not, Option, Some, None, List, length}
use Rattle.std.proofs.lemmas.Option.{slice_get_within}
use Rattle.std.specs.Prelude.{slice_get, unwrap_or, ◌==◌, if◌then◌else◌}
use Rattle.std.specs.Option.{option_map}
use Rattle.osc_coap.specs.Datagram.{Parts}
use Rattle.osc_context.specs.SecurityContext.{SecurityContext}
use Rattle.osc_window.specs.declared.window_size.WindowSize.{WindowSize}
use Rattle.osc_life.specs.declared.start.Start.{Start}
use Rattle.osc_life.specs.declared.start.Start.TheVariants as starts
use Rattle.osc_endpoint.specs.declared.server.ServerOf.{ServerOf}
use Rattle.osc_life.specs.declared.slot.Slot.{Slot}
use Rattle.osc_life.specs.declared.server_error.ReplyError.{ReplyError}
use Rattle.osc_life.specs.declared.server_error.RestartError.{RestartError}
use Rattle.osc_life.specs.declared.server_error.RestartError.TheVariants.{NoSuchContext, LivesExhausted}
use Rattle.osc_life.specs.declared.decision.Decision.{Decision}
use Rattle.osc_life.specs.declared.decision.Decision.TheVariants as decisions
use Rattle.osc_endpoint.specs.Agrees.{Agrees, PlaceAgrees}
use Rattle.osc_life.specs.Deciding.{Decides}
use Rattle.osc_life.specs.Life.{Life, Mark, Delivered, Spoiled, Challenged, Answered, PassedOver, HasOwn, born, marked, next_own, is_open_life, renewed, succeeding}
use Rattle.osc_endpoint.specs.ServerAnswer.{ServerAnswer}
use Rattle.osc_life.specs.LifeAnswer.{LifeRestart}
use Rattle.osc_life.specs.ServerHistory.{History, Begin, Then, Add, Added, Answer, TicketValues, Datagram, Notify, Reply, Advance, Took, Replied, NotReplied, Replace, Replaced, Restart, Restarted, NotRestarted, Advanced, Malformed, NotRequest, Plain, Undecodable, NoContext, Replay, BadTag, BadInner, Challenge, SequenceExhausted, Deliver, added, life, mark_at, reply_mark_at}
use Rattle.osc_kept_ends.specs.KeptServing.{IsKept, KeptStep, uses}
use Rattle.osc_kept_ends.specs.Numbering.{Own, Draws, Goes, Steps, Use, after, upcoming, use_of}
use Rattle.osc_kept_ends.proofs.Drawing.{in_hand, number_in_hand, upcoming_stays}

-- ---- marks and Sender Sequence Numbers

-- how many Sender Sequence Numbers a mark stands for
abbrev spends : Option Mark → ℕ
spends None = 0
spends (Some (Delivered n)) = 0
spends (Some (Spoiled n)) = 0
spends (Some (Challenged echo issued)) = 1
spends (Some Answered) = 1
spends (Some (PassedOver count)) = count

next_behind : (m : Option Mark) (l : Life) → next_own (marked m l) ≡ next_own l + spends m
next_behind None l = omega arith
next_behind (Some (Delivered n)) l = omega arith
next_behind (Some (Spoiled n)) l = omega arith
next_behind (Some (Challenged echo issued)) l = omega arith
next_behind (Some Answered) l = omega arith
next_behind (Some (PassedOver count)) l = omega arith

pub next_marked : (m : Option Mark) (o : Option Life) (next : ℕ) → option_map next_own o ≡ Some next → option_map next_own (option_map (marked m) o) ≡ Some (next + spends m)
next_marked m None next is = absurd (let e : None ≡ Some next = is in cc)
next_marked m (Some l) next is =
    let same : next_own l ≡ next = ap (λ (x : Option ℕ). unwrap_or x next) is in
    ap Some (next_behind m l ∙ ap (λ k. k + spends m) same)

-- the answer is no challenge
abbrev pub IsNoChallenge : Answer → Type 0
IsNoChallenge (Challenge i n echo issued) = ⊥
IsNoChallenge answer = Unit {0}

spoils_none : (b : Bool) (n : ℕ) → spends (if b then Some (Spoiled n) else None) ≡ 0
spoils_none true n = refl
spoils_none false n = refl

delivers_none : (b : Bool) (n : ℕ) → spends (if b then Some (Delivered n) else None) ≡ 0
delivers_none true n = refl
delivers_none false n = refl

none_spent : (answer : Answer) → IsNoChallenge answer → spends (mark_at 0 answer) ≡ 0
none_spent (Malformed fault place) is = refl
none_spent NotRequest is = refl
none_spent Plain is = refl
none_spent Undecodable is = refl
none_spent NoContext is = refl
none_spent Replay is = refl
none_spent BadTag is = refl
none_spent (BadInner i n) is = spoils_none (0 == i) n
none_spent (Challenge i n echo issued) is = absurd is
none_spent SequenceExhausted is = refl
none_spent (Deliver received ticket) is = delivers_none (0 == ticket.context) ticket.number

none_used : (h : History) (now : ℕ) (echo : List ℕ) (m : ℕ) (d : List ℕ) (answer : Answer) (reply : List ℕ) → IsNoChallenge answer
    → uses h (Datagram now echo m d) (Took answer reply) ≡ None
none_used h now echo m d (Malformed fault place) reply is = refl
none_used h now echo m d NotRequest reply is = refl
none_used h now echo m d Plain reply is = refl
none_used h now echo m d Undecodable reply is = refl
none_used h now echo m d NoContext reply is = refl
none_used h now echo m d Replay reply is = refl
none_used h now echo m d BadTag reply is = refl
none_used h now echo m d (BadInner i n) reply is = refl
none_used h now echo m d (Challenge i n given issued) reply is = absurd is
none_used h now echo m d SequenceExhausted reply is = refl
none_used h now echo m d (Deliver received ticket) reply is = refl

-- ---- the one context

slot_of : (o : Option (Option Slot)) (l : Life) → PlaceAgrees o (Some l) → (s : Option Slot) × (o ≡ Some s)
slot_of None l h = absurd h
slot_of (Some s) l h = (s, refl)

-- the context that is there has index 0
pub only_first : (s : ServerOf 1) (h : History) (i : ℕ) (of : Life) → Agrees s h → added h ≡ 1 → life h i ≡ Some of → i ≡ 0
only_first s h i of a one is =
    let (p, at) = slot_of (slice_get s.slots.items i) of (subst (λ o. PlaceAgrees (slice_get s.slots.items i) o) is (a.places.at i)) in
    let within : i < length s.slots.items = slice_get_within s.slots.items i p at in
    let contexts : length s.slots.items ≡ added h = a.contexts in
    omega (arith, within, contexts, one)

life_next : (o : Option Life) (of : Life) (next : ℕ) → option_map next_own o ≡ Some next → o ≡ Some of → next_own of ≡ next
life_next o of next is e = ap (λ (x : Option ℕ). unwrap_or x next) (sym (ap (option_map next_own) e) ∙ is)

-- ---- datagrams

pub took_unsealed : (s t : ServerOf 1) (h : History) (now : ℕ) (echo : List ℕ) (m : ℕ) (d : List ℕ) (answer : Answer) (reply : List ℕ) (old new : Own)
    → IsKept s (upcoming old) h → ServerAnswer h (Datagram now echo m d) (Took answer reply) → Agrees t (Then h (Datagram now echo m d) (Took answer reply))
    → IsNoChallenge answer → Draws (not (is_open_life (life h 0))) old new
    → KeptStep h (Datagram now echo m d) (Took answer reply) old new t
took_unsealed s t h now echo m d answer reply old new k row a is drawn =
    let stays : upcoming new ≡ upcoming old = upcoming_stays (not (is_open_life (life h 0))) old new drawn in
    let none : spends (mark_at 0 answer) ≡ 0 = none_spent answer is in
    let same : upcoming old + spends (mark_at 0 answer) ≡ upcoming new = omega (arith, none, stays) in
    record {
      row = row;
      kept = record { agrees = a; one = k.one; next_is = next_marked (mark_at 0 answer) (life h 0) (upcoming old) k.next_is ∙ ap Some same };
      numbers = subst (λ (u : Option ℕ). (mid : Own) × Draws (not (is_open_life (life h 0))) old mid × Goes (use_of u) mid new) (sym (none_used h now echo m d answer reply is)) (new, drawn, (tt, refl));
    }

challenge_spent : (i n : ℕ) (given : List ℕ) (issued : ℕ) → i ≡ 0 → spends (mark_at 0 (Challenge i n given issued)) ≡ 1
challenge_spent i n given issued e = subst (λ (k : ℕ). spends (mark_at 0 (Challenge k n given issued)) ≡ 1) (sym e) refl

pub took_challenge : (s t : ServerOf 1) (h : History) (now : ℕ) (echo : List ℕ) (m : ℕ) (d : List ℕ) (i n : ℕ) (given : List ℕ) (issued : ℕ) (reply : List ℕ) (old mid new : Own)
    → IsKept s (upcoming old) h → ServerAnswer h (Datagram now echo m d) (Took (Challenge i n given issued) reply)
    → Agrees t (Then h (Datagram now echo m d) (Took (Challenge i n given issued) reply))
    → Draws (not (is_open_life (life h 0))) old mid → ((k : ℕ) → mid.hand ≡ Some k → k + 1 ≡ mid.next) → ((k : ℕ) → new ≡ after (Use k) mid)
    → KeptStep h (Datagram now echo m d) (Took (Challenge i n given issued) reply) old new t
took_challenge s t h now echo m d i n given issued reply old mid new k row a drawn last used =
    let ((j, _, of, names, answer), says) = row in
    let first : j ≡ 0 = only_first s h j of k.agrees k.one names.life_is in
    let zero_is : i ≡ 0 = answer.3 ∙ first in
    let is : life h 0 ≡ Some of = subst (λ x. life h x ≡ Some of) first names.life_is in
    let comes : next_own of ≡ upcoming old = life_next (life h 0) of (upcoming old) k.next_is is in
    let closed : not (is_open_life (life h 0)) ≡ true = ap (λ x. not (is_open_life x)) is ∙ ap not answer.0.0 in
    let below : upcoming old < 2 ^ 40 = subst (λ x. x < 2 ^ 40) comes answer.1 in
    let hand : mid.hand ≡ Some (upcoming old) = in_hand old mid (subst (λ b. Draws b old mid) closed drawn) below in
    let behind : upcoming old + 1 ≡ mid.next = last (upcoming old) hand in
    let is_next : upcoming new ≡ mid.next = ap upcoming (used (upcoming old)) in
    let spent : spends (mark_at 0 (Challenge i n given issued)) ≡ 1 = challenge_spent i n given issued zero_is in
    let same : upcoming old + spends (mark_at 0 (Challenge i n given issued)) ≡ upcoming new = omega (arith, spent, behind, is_next) in
    let number_is : option_map next_own (life h i) ≡ Some (upcoming old) = subst (λ x. option_map next_own (life h x) ≡ Some (upcoming old)) (sym zero_is) k.next_is in
    record {
      row = row;
      kept = record { agrees = a; one = k.one; next_is = next_marked (mark_at 0 (Challenge i n given issued)) (life h 0) (upcoming old) k.next_is ∙ ap Some same };
      numbers = (mid, drawn, subst (λ (u : Option ℕ). Goes (use_of u) mid new) (sym number_is) (hand, used (upcoming old)));
    }

-- the clock alone moves
pub moved : (s t : ServerOf 1) (h : History) (now next : ℕ) → IsKept s next h → Agrees t (Then h (Advance now) Advanced) → IsKept t next (Then h (Advance now) Advanced)
moved s t h now next k a = record { agrees = a; one = k.one; next_is = k.next_is }

-- ---- replies and notifications

answers_one : (b : Bool) → b ≡ true → spends (if b then Some Answered else None) ≡ 1
answers_one true e = refl
answers_one false e = cc

is_zero : (i : ℕ) → i ≡ 0 → (0 == i) ≡ true
is_zero i e = subst (λ (k : ℕ). (0 == k) ≡ true) (sym e) refl

-- what a text with a Partial IV of its own does to the numbers: a reply with one, or a notification
abbrev UsesOwn : History → TicketValues → Own → Own → Type 0
UsesOwn h v old new = (option_map next_own (option_map (marked (reply_mark_at 0 v true)) (life h 0)) ≡ Some (upcoming new)) × Steps true (option_map next_own (life h v.context)) old new

uses_own : (s : ServerOf 1) (h : History) (v : TicketValues) (of : Life) (old mid new : Own) → IsKept s (upcoming old) h → life h v.context ≡ Some of → HasOwn of
    → Draws true old mid → ((k : ℕ) → mid.hand ≡ Some k → k + 1 ≡ mid.next) → ((k : ℕ) → new ≡ after (Use k) mid) → UsesOwn h v old new
uses_own s h v of old mid new k present has drawn last used =
    let first : v.context ≡ 0 = only_first s h v.context of k.agrees k.one present in
    let is : life h 0 ≡ Some of = subst (λ x. life h x ≡ Some of) first present in
    let comes : next_own of ≡ upcoming old = life_next (life h 0) of (upcoming old) k.next_is is in
    let below : upcoming old < 2 ^ 40 = subst (λ x. x < 2 ^ 40) comes has in
    let hand : mid.hand ≡ Some (upcoming old) = in_hand old mid drawn below in
    let behind : upcoming old + 1 ≡ mid.next = last (upcoming old) hand in
    let is_next : upcoming new ≡ mid.next = ap upcoming (used (upcoming old)) in
    let spent : spends (reply_mark_at 0 v true) ≡ 1 = answers_one (0 == v.context) (is_zero v.context first) in
    let same : upcoming old + spends (reply_mark_at 0 v true) ≡ upcoming new = omega (arith, spent, behind, is_next) in
    let number_is : option_map next_own (life h v.context) ≡ Some (upcoming old) = subst (λ x. option_map next_own (life h x) ≡ Some (upcoming old)) (sym first) k.next_is in (
      next_marked (reply_mark_at 0 v true) (life h 0) (upcoming old) k.next_is ∙ ap Some same,
      (mid, drawn, subst (λ (u : Option ℕ). Goes (use_of u) mid new) (sym number_is) (hand, used (upcoming old))),
    )

not_used : (h : History) (v : TicketValues) (m : ℕ) (p : Parts) (room : ℕ) (e : ReplyError) (own : Bool) → uses h (Reply v own m p room) (NotReplied e) ≡ None
not_used h v m p room e true = refl
not_used h v m p room e false = refl

-- a reply that is refused
pub reply_refused : (s t : ServerOf 1) (h : History) (v : TicketValues) (own : Bool) (m : ℕ) (p : Parts) (room : ℕ) (e : ReplyError) (old new : Own)
    → IsKept s (upcoming old) h → ServerAnswer h (Reply v own m p room) (NotReplied e) → Agrees t (Then h (Reply v own m p room) (NotReplied e))
    → Draws own old new → KeptStep h (Reply v own m p room) (NotReplied e) old new t
reply_refused s t h v own m p room e old new k row a drawn =
    let none : uses h (Reply v own m p room) (NotReplied e) ≡ None = not_used h v m p room e own in
    record {
      row = row;
      kept = record { agrees = a; one = k.one; next_is = k.next_is ∙ ap Some (sym (upcoming_stays own old new drawn)) };
      numbers = subst (λ (u : Option ℕ). (mid : Own) × Draws own old mid × Goes (use_of u) mid new) (sym none) (new, drawn, (tt, refl));
    }

-- a notification that is refused
pub notify_refused : (s t : ServerOf 1) (h : History) (v : TicketValues) (p : Parts) (room : ℕ) (e : ReplyError) (old new : Own) → IsKept s (upcoming old) h
    → ServerAnswer h (Notify v p room) (NotReplied e) → Agrees t (Then h (Notify v p room) (NotReplied e)) → Draws true old new → KeptStep h (Notify v p room) (NotReplied e) old new t
notify_refused s t h v p room e old new k row a drawn =
    record {
      row = row;
      kept = record { agrees = a; one = k.one; next_is = k.next_is ∙ ap Some (sym (upcoming_stays true old new drawn)) };
      numbers = (new, drawn, (tt, refl));
    }

-- a reply with no Partial IV of its own
pub reply_shared : (s t : ServerOf 1) (h : History) (v : TicketValues) (m : ℕ) (p : Parts) (room : ℕ) (bytes : List ℕ) (own : Own)
    → IsKept s (upcoming own) h → ServerAnswer h (Reply v false m p room) (Replied bytes) → Agrees t (Then h (Reply v false m p room) (Replied bytes))
    → KeptStep h (Reply v false m p room) (Replied bytes) own own t
reply_shared s t h v m p room bytes own k row a =
    record {
      row = row;
      kept = record { agrees = a; one = k.one; next_is = next_marked None (life h 0) (upcoming own) k.next_is ∙ ap Some (omega arith) };
      numbers = (own, refl, (tt, refl));
    }

-- a reply with a Partial IV of its own
pub reply_own : (s t : ServerOf 1) (h : History) (v : TicketValues) (m : ℕ) (p : Parts) (room : ℕ) (bytes : List ℕ) (old mid new : Own)
    → IsKept s (upcoming old) h → ServerAnswer h (Reply v true m p room) (Replied bytes) → Agrees t (Then h (Reply v true m p room) (Replied bytes))
    → Draws true old mid → ((k : ℕ) → mid.hand ≡ Some k → k + 1 ≡ mid.next) → ((k : ℕ) → new ≡ after (Use k) mid)
    → KeptStep h (Reply v true m p room) (Replied bytes) old new t
reply_own s t h v m p room bytes old mid new k row a drawn last used =
    let (of, present, answer) = row in
    let (next, steps) = uses_own s h v of old mid new k present.0 (answer.0 refl) drawn last used in
    record { row = row; kept = record { agrees = a; one = k.one; next_is = next }; numbers = steps }

-- a notification
pub notify_own : (s t : ServerOf 1) (h : History) (v : TicketValues) (p : Parts) (room : ℕ) (bytes : List ℕ) (old mid new : Own)
    → IsKept s (upcoming old) h → ServerAnswer h (Notify v p room) (Replied bytes) → Agrees t (Then h (Notify v p room) (Replied bytes))
    → Draws true old mid → ((k : ℕ) → mid.hand ≡ Some k → k + 1 ≡ mid.next) → ((k : ℕ) → new ≡ after (Use k) mid)
    → KeptStep h (Notify v p room) (Replied bytes) old new t
notify_own s t h v p room bytes old mid new k row a drawn last used =
    let (of, present, answer) = row.1 in
    let (next, steps) = uses_own s h v of old mid new k present.0 answer.1 drawn last used in
    record { row = row; kept = record { agrees = a; one = k.one; next_is = next }; numbers = steps }

-- a reply that is sealed, with a Partial IV of its own in hand or without one
pub reply_with : (s t : ServerOf 1) (h : History) (v : TicketValues) (own : Bool) (m : ℕ) (p : Parts) (room : ℕ) (bytes : List ℕ) (old mid new : Own) → own ≡ true
    → IsKept s (upcoming old) h → ServerAnswer h (Reply v own m p room) (Replied bytes) → Agrees t (Then h (Reply v own m p room) (Replied bytes))
    → Draws own old mid → ((k : ℕ) → mid.hand ≡ Some k → k + 1 ≡ mid.next) → ((k : ℕ) → new ≡ after (Use k) mid)
    → KeptStep h (Reply v own m p room) (Replied bytes) old new t
reply_with s t h v true m p room bytes old mid new is k row a drawn last used = reply_own s t h v m p room bytes old mid new k row a drawn last used
reply_with s t h v false m p room bytes old mid new is k row a drawn last used = cc

pub reply_without : (s t : ServerOf 1) (h : History) (v : TicketValues) (own : Bool) (m : ℕ) (p : Parts) (room : ℕ) (bytes : List ℕ) (old new : Own) → own ≡ false
    → IsKept s (upcoming old) h → ServerAnswer h (Reply v own m p room) (Replied bytes) → Agrees t (Then h (Reply v own m p room) (Replied bytes))
    → Draws own old new → KeptStep h (Reply v own m p room) (Replied bytes) old new t
reply_without s t h v true m p room bytes old new is k row a drawn = cc
reply_without s t h v false m p room bytes old new is k row a drawn =
    subst (λ (o : Own). KeptStep h (Reply v false m p room) (Replied bytes) old o t) (sym drawn) (reply_shared s t h v m p room bytes old k row a)

-- ---- lives

born_next : (c : SecurityContext) (start : Start) (size : WindowSize) → next_own (born c start size) ≡ (born c start size).first
born_next c (starts.Fresh first) size = omega arith
born_next c (starts.Restarted first) size = omega arith
born_next c (starts.Received first highest) size = omega arith
born_next c (starts.Reserved first highest ahead) size = omega arith

-- a server with the context that was added
pub added_alone : (s : ServerOf 1) (c : SecurityContext) (start : Start) (size : WindowSize) (index next : ℕ) → Agrees s (Then Begin (Add c start size 1) (Added index)) → index ≡ 0
    → next ≡ (born c start size).first → IsKept s next (Then Begin (Add c start size 1) (Added 0))
added_alone s c start size index next a first is = record {
  agrees = subst (λ i. Agrees s (Then Begin (Add c start size 1) (Added i))) first a;
  one = refl;
  next_is = ap Some (born_next c start size ∙ sym is);
}

renewed_next : (o : Option Life) (old loaded : ℕ) → option_map next_own o ≡ Some old → option_map next_own (option_map (renewed loaded) o) ≡ Some loaded
renewed_next None old loaded is = absurd (let e : None ≡ Some old = is in cc)
renewed_next (Some l) old loaded is = ap Some (omega arith)

-- a restart of the one context, at a number that was loaded
pub restarted : (s t : ServerOf 1) (h : History) (old loaded : ℕ) → IsKept s old h → Agrees t (Then h (Restart 0 loaded) Restarted) → IsKept t loaded (Then h (Restart 0 loaded) Restarted)
restarted s t h old loaded k a = record { agrees = a; one = k.one; next_is = renewed_next (life h 0) old loaded k.next_is }

pub succeeded_next : (o : Option Life) (c : SecurityContext) (start : Start) (size : WindowSize) (old next : ℕ) → option_map next_own o ≡ Some old → next ≡ (born c start size).first
    → option_map next_own (option_map (succeeding c start size) o) ≡ Some next
succeeded_next None c start size old next is first = absurd (let e : None ≡ Some old = is in cc)
succeeded_next (Some l) c start size old next is first = ap Some (born_next c start size ∙ sym first)

-- another context in the place of the one, at a number that was loaded
pub replaced : (s t : ServerOf 1) (h : History) (c : SecurityContext) (start : Start) (size : WindowSize) (old next : ℕ) → IsKept s old h
    → Agrees t (Then h (Replace 0 c start size) Replaced) → next ≡ (born c start size).first → IsKept t next (Then h (Replace 0 c start size) Replaced)
replaced s t h c start size old next k a first = record { agrees = a; one = k.one; next_is = succeeded_next (life h 0) c start size old next k.next_is first }

-- ---- what was decided

-- the answer is a challenge
abbrev pub IsChallenge : Answer → Type 0
IsChallenge (Challenge i n echo issued) = Unit {0}
IsChallenge answer = ⊥

pub challenge_decided : (new : List ℕ) (echo : List ℕ) (issued : ℕ) (answer : Answer) → Decides (decisions.Challenge echo issued) new answer → IsChallenge answer
challenge_decided new echo issued (Challenge i n given moment) d = tt
challenge_decided new echo issued answer d = absurd d

from_challenge : (decision : Decision) (new : List ℕ) (i n : ℕ) (given : List ℕ) (moment : ℕ) → Decides decision new (Challenge i n given moment)
    → (echo : List ℕ) × (issued : ℕ) × (decision ≡ decisions.Challenge echo issued)
from_challenge (decisions.Challenge echo issued) new i n given moment d = (echo, issued, refl)
from_challenge decision new i n given moment d = absurd d

pub other_decided : (decision : Decision) (new : List ℕ) (answer : Answer) → ((echo : List ℕ) (issued : ℕ) → decision ≡ decisions.Challenge echo issued → ⊥)
    → Decides decision new answer → IsNoChallenge answer
other_decided decision new (Challenge i n given moment) other d =
    let (echo, issued, is) = from_challenge decision new i n given moment d in
    other echo issued is
other_decided decision new answer other d = tt

pub took_sealed : (s t : ServerOf 1) (h : History) (now : ℕ) (echo : List ℕ) (m : ℕ) (d : List ℕ) (answer : Answer) (reply : List ℕ) (old mid new : Own)
    → IsChallenge answer → IsKept s (upcoming old) h → ServerAnswer h (Datagram now echo m d) (Took answer reply) → Agrees t (Then h (Datagram now echo m d) (Took answer reply))
    → Draws (not (is_open_life (life h 0))) old mid → ((k : ℕ) → mid.hand ≡ Some k → k + 1 ≡ mid.next) → ((k : ℕ) → new ≡ after (Use k) mid)
    → KeptStep h (Datagram now echo m d) (Took answer reply) old new t
took_sealed s t h now echo m d (Challenge i n given issued) reply old mid new is k row a drawn last used =
    took_challenge s t h now echo m d i n given issued reply old mid new k row a drawn last used
took_sealed s t h now echo m d answer reply old mid new is k row a drawn last used = absurd is

-- a context that is there is refused a restart for its count of lives alone
pub lives_out : (o : Option Life) (e : RestartError) (next : ℕ) → option_map next_own o ≡ Some next → LifeRestart o (NotRestarted e) → LifeRestart o (NotRestarted LivesExhausted)
lives_out None e next is row = absurd (let none : None ≡ Some next = is in cc)
lives_out (Some l) NoSuchContext next is row = absurd row
lives_out (Some l) LivesExhausted next is row = row

-- ---- the number of a response

-- a life that is there has used the number in hand, which is the one with which the server sealed
used_upcoming : (o : Option Life) (of : Life) (old new : Own) → o ≡ Some of → HasOwn of → Steps true (option_map next_own o) old new → upcoming old < 2 ^ 40
used_upcoming o of old new there has (mid, drawn, goes) =
    let used : Goes (Use (next_own of)) mid new = subst (λ (x : Option ℕ). Goes (use_of x) mid new) (ap (option_map next_own) there) goes in
    subst (λ n. n < 2 ^ 40) (number_in_hand old mid (next_own of) drawn used.0) has

-- a reply with a Partial IV of its own has a number that is left
pub reply_left : (h : History) (t : TicketValues) (own : Bool) (mid room : ℕ) (p : Parts) (text : List ℕ) (old new : Own) (s : ServerOf 1)
    → KeptStep h (Reply t own mid p room) (Replied text) old new s → own ≡ true → upcoming old < 2 ^ 40
reply_left h t true mid room p text old new s step asked = used_upcoming (life h t.context) step.row.0 old new step.row.1.0 (step.row.2.0 refl) step.numbers
reply_left h t false mid room p text old new s step asked = absurd cc

-- so has a notification
pub notification_left : (h : History) (t : TicketValues) (room : ℕ) (p : Parts) (text : List ℕ) (old new : Own) (s : ServerOf 1)
    → KeptStep h (Notify t p room) (Replied text) old new s → upcoming old < 2 ^ 40
notification_left h t room p text old new s step = used_upcoming (life h t.context) step.row.1.0 old new step.row.1.1.0 step.row.1.2.1 step.numbers
