-- A server in bytes after each call. s and t are the bytes before and after, h is the history.
use Rattle.std.proofs.Common.{◌≡◌, ◌≢◌, ◌∙◌, ◌<◌, ◌≤◌, sym, ap, subst, refl, arith, ℕ, zero, suc, Bool, true, false, not, ◌&&◌, ◌||◌, ◌+◌, ◌==◌, List, [], ◌∷◌, Option, Some, None, Result, Ok, Err, length, take, slice_set, if◌then◌else◌}
use Rattle.std.specs.Prelude.{OnErr, nat_le, slice_get}
use Rattle.std.specs.Option.{option_map}
use Rattle.std.proofs.lemmas.Bool.{both_ways, cond-false, eq-eqb, eqb-true, ne_eqb}
use Rattle.std.proofs.lemmas.Option.{none-some, slice_get_within}
use Rattle.osc_coap.specs.Datagram.{Parts}
use Rattle.osc_coap.specs.declared.message.Kind.{Kind}
use Rattle.osc_window.specs.declared.window_size.WindowSize.{WindowSize}
use Rattle.osc_endpoint.proofs.Additions.{agrees_added}
use Rattle.osc_endpoint.proofs.Decisions.{agrees_notified, agrees_replied}
use Rattle.osc_laws.proofs.ContextsApart.{contexts_differ}
use Rattle.osc_endpoint.proofs.Places.{same_life, slot_at}
use Rattle.osc_endpoint.specs.Agrees.{Agrees, PlaceAgrees, TableAgrees, server_of}
use Rattle.osc_life.specs.Agrees.{HoldsLife, SlotAgrees}
use Rattle.osc_endpoint.specs.Deciding.{DecidesTo}
use Rattle.osc_laws.specs.Laws.{AllAnswers}
use Rattle.osc_life.specs.Life.{Answered, Life, born, marked}
use Rattle.osc_life.specs.Replies.{as_reply}
use Rattle.osc_life.specs.Replying.{reply_mark}
use Rattle.osc_laws.specs.Senders.{SendersDiffer}
use Rattle.osc_endpoint.specs.ServerAnswer.{IsContext, IsPresent, IsTaken, ReplyAnswer, ServerAnswer}
use Rattle.osc_life.specs.LifeAnswer.{LifeNotify, LifeReply, as_notification}
use Rattle.osc_life.specs.ServerHistory as server
use Rattle.osc_life.specs.Views.{reply_entry}
use Rattle.osc_laws.specs.Waiting.{AnswersDue, is_due, lies_far_back, waits}
use Rattle.osc_life.specs.declared.decision.Decided.{Decided}
use Rattle.osc_life.specs.declared.server_error.ReplyError.{ReplyError}
use Rattle.osc_life.specs.declared.server_error.ReplyError.TheVariants as replies
use Rattle.osc_life.specs.declared.slot.Slot.{Slot}
use Rattle.osc_life.specs.declared.start.Fresh.{Fresh}
use Rattle.osc_life.specs.declared.start.Start.{Start}
use Rattle.osc_handle.proofs.Tables.{alone, life_there}
use Rattle.osc_handle.proofs.Waits.{remembers_begun, remembers_notified, remembers_replied, remembers_took}
use Rattle.osc_context_handle.specs.ContextBytes.{IsContext as IsContextBytes, server_in}
use Rattle.osc_handle.specs.Noting.{Notes}
use Rattle.osc_handle.specs.ServerBytes.{AddsIn, DecidesIn, Remembers, RemembersAt, RemembersLife, NotifiesIn, RepliesIn, Serves}
use Rattle.osc_handle.specs.SlotBytes.{IsSlotIn}
use Rattle.osc_handle.specs.TableBytes.{IsPlaceIn, IsTableIn}
use Rattle.osc_handle.specs.TableSteps.{ChangesAt, is_present_in, life_in}
use Rattle.osc_handle.specs.UnansweredBytes.{holds}
use Rattle.osc_context_handle.specs.declared.context_handle.ContextHandle.{ContextHandle}
use Rattle.osc_handle.specs.ServerParts.{ServerParts}
use Rattle.osc_handle.specs.declared.slot_handle.SlotHandle.{SlotHandle}
use Rattle.osc_handle.specs.declared.unanswered_handle.UnansweredHandle.{UnansweredHandle}

-- ---- the one context

taken_len : (xs : List ℕ) (n : ℕ) → length (take n xs) ≤ n
taken_len [] zero = omega arith
taken_len [] (suc n) = omega arith
taken_len (x ∷ xs) zero = omega arith
taken_len (x ∷ xs) (suc n) = let rest = taken_len xs n in omega (arith, rest)

usable : (c : ContextHandle) → IsContextBytes c → IsContext (server_in c)
usable c h =
    let client = taken_len c.recipient c.recipient_len in
    let own = taken_len c.sender c.sender_len in
    let most = h.recipient_fits in
    let also = h.sender_fits in
    record { client = omega (arith, client, most); server = omega (arith, own, also); differ = λ e. h.differ (sym e) }

-- the one context was added to none
pub serves_begun : (context : ContextHandle) (start : Start) (size : WindowSize) (b : SlotHandle) (u : UnansweredHandle) (slot : Slot) → IsContextBytes context → IsSlotIn b slot
    → SlotAgrees slot (born (server_in context) start size) → ((n : ℕ) → holds u n ≡ false) → u.highest ≡ 0
    → AddsIn server.Begin (server_in context) start size (server.Added 0) (record { clock = 0; contexts = b ∷ []; unanswered = u ∷ [] })
serves_begun context start size b u slot bytes is begins bare low =
    let c = server_in context in
    let free : IsTaken server.Begin c → ⊥ = λ x. none-some x.1 x.2 in
    let row : ServerAnswer server.Begin (server.Add c start size 1) (server.Added 0) = (usable context bytes, (omega arith, free, refl)) in
    let none : Agrees (server_of 1 0 []) server.Begin = record { clock_is = refl; contexts = refl; places = record { at = λ i. tt }; one_each = contexts_differ server.Begin tt } in (
      row,
      record {
        slots = Some slot ∷ [];
        table = alone b slot is;
        agrees = agrees_added (server_of 1 0 []) (server_of 1 0 (Some slot ∷ [])) server.Begin c start size 1 slot 0 none free refl refl refl begins;
        remembers = remembers_begun u c start size bare low;
        answers = (tt, row);
        due = tt;
        senders = (tt, λ same. none-some same.1 same.2, λ had. had.2);
      },
    )

-- ---- what changes nothing

-- an entry that leaves lives, clock and what waits as they were
record Leaves (h g : server.History) : Type 0 where
  pub clock : server.clock g ≡ server.clock h
  pub added : server.added g ≡ server.added h
  pub lives : (i : ℕ) → server.life g i ≡ server.life h i
  pub waiting : (i c n : ℕ) → waits g i c n ≡ waits h i c n
  pub back : (i c n : ℕ) → lies_far_back g i c n ≡ lies_far_back h i c n

same_places : (slots : List (Option Slot)) (lives after : ℕ → Option Life) → ((i : ℕ) → after i ≡ lives i) → TableAgrees slots lives → TableAgrees slots after
same_places slots lives after same h = record { at = λ i. subst (λ o. PlaceAgrees (slice_get slots i) o) (sym (same i)) (h.at i) }

same_remembered : (u : UnansweredHandle) (o : Option Life) (w x b y : ℕ → ℕ → Bool) → ((c n : ℕ) → x c n ≡ w c n) → ((c n : ℕ) → y c n ≡ b c n) → RemembersAt u o w b → RemembersAt u o x y
same_remembered u None w x b y same back r = tt
same_remembered u (Some of) w x b y same back r = record { held = λ n. r.held n ∙ sym (same of.count n); far = λ n. r.far n ∙ sym (back of.count n); reach = r.reach }

serves_still : (s : ServerParts) (h g : server.History) → Leaves h g → AllAnswers g → AnswersDue g → SendersDiffer g → Serves s h → Serves s g
serves_still s h g same answers due senders serves =
    record {
      slots = serves.slots;
      table = serves.table;
      agrees = record {
        clock_is = serves.agrees.clock_is ∙ sym same.clock;
        contexts = serves.agrees.contexts ∙ sym same.added;
        places = same_places serves.slots (server.life h) (server.life g) same.lives serves.agrees.places;
        one_each = contexts_differ g answers;
      };
      remembers = record {
        at = λ i u e.
            subst (λ o. RemembersAt u o (waits g i) (lies_far_back g i)) (sym (same.lives i))
            (same_remembered u (server.life h i) (waits h i) (waits g i) (lies_far_back h i) (lies_far_back g i) (same.waiting i) (same.back i) (serves.remembers.at i u e));
      };
      answers = answers;
      due = due;
      senders = senders;
    }

-- the contexts may be written once more as they were
pub serves_same : (s : ServerParts) (contexts : List SlotHandle) (h : server.History) → contexts ≡ s.contexts → Serves s h
    → Serves (record { clock = s.clock; contexts = contexts; unanswered = s.unanswered }) h
serves_same s contexts h same serves =
    record {
      slots = serves.slots;
      table = subst (λ (x : List SlotHandle). IsTableIn x serves.slots) (sym same) serves.table;
      agrees = serves.agrees;
      remembers = serves.remembers;
      answers = serves.answers;
      due = serves.due;
      senders = serves.senders;
    }

-- ---- a datagram

pub serves_took : (s t : ServerParts) (h : server.History) (now : ℕ) (fresh : Fresh) (d new reply : List ℕ) (decided : Decided) (clock : ℕ) (contexts : List SlotHandle) → Serves s h
    → ((g : server.History) (slots : List (Option Slot)) → IsTableIn s.contexts slots → Agrees (server_of 1 s.clock slots) g
    → (after : List (Option Slot)) × IsTableIn contexts after × DecidesTo g now fresh d decided new reply (server_of 1 clock after))
    → t.clock ≡ clock → t.contexts ≡ contexts → Notes s.unanswered t.unanswered decided.decision → DecidesIn h now fresh d decided.decision new reply t
serves_took s t h now fresh d new reply decided clock contexts serves decides clock_is contexts_are notes =
    let (after, table, to) = decides h serves.slots serves.table serves.agrees in
    record {
      answer = to.answer;
      row = to.row;
      decides = to.decides;
      serves = record {
        slots = after;
        table = subst (λ (x : List SlotHandle). IsTableIn x after) (sym contexts_are) table;
        agrees = subst (λ n. Agrees (server_of 1 n after) (server.Then h (server.Datagram now fresh.echo fresh.mid d) (server.Took to.answer reply))) (sym clock_is) to.agrees;
        remembers = remembers_took s.unanswered t.unanswered h now fresh.mid fresh.echo d new decided.decision to.answer reply to.row to.decides notes serves.remembers;
        answers = (serves.answers, to.row);
        due = serves.due;
        senders = serves.senders;
      };
    }

-- ---- a reply

-- whether the life of a ticket is the present one
present_of : (t : List SlotHandle) (slots : List (Option Slot)) (lives : ℕ → Option Life) (i life : ℕ) (o : Option SlotHandle) → IsTableIn t slots → TableAgrees slots lives → slice_get t i ≡ o
    → life_in o life ≡ true → (of : Life) × (lives i ≡ Some of) × (life ≡ of.count)
present_of t slots lives i life None h agrees there e = absurd (both_ways false refl e)
present_of t slots lives i life (Some b) h agrees there e =
    let (of, is, s, made, stands) = life_there t slots lives i b h agrees there in
    (of, is, sym (eqb-true b.life life e) ∙ (made.life ∙ stands.life))

pub is_there : (s : ServerParts) (h : server.History) (t : server.TicketValues) → Serves s h → is_present_in s.contexts t.context t.life ≡ true → (of : Life) × IsPresent h t of
is_there s h t serves e =
    let (of, is, count) = present_of s.contexts serves.slots (server.life h) t.context t.life (slice_get s.contexts t.context) serves.table serves.agrees.places refl e in
    (of, (is, count))

absent_of : (o : Option SlotHandle) (p : Option (Option Slot)) (slot : Slot) (life : ℕ) → IsPlaceIn o p → p ≡ Some (Some slot) → life ≡ slot.life → life_in o life ≡ true
absent_of None p slot life h at same = absurd (subst (IsPlaceIn None) at h)
absent_of (Some b) p slot life h at same = let is : IsSlotIn b slot = subst (IsPlaceIn (Some b)) at h in eq-eqb b.life life (is.life ∙ sym same)

held_slot : (p : Option Slot) (of : Life) → HoldsLife p of → (s : Slot) × (p ≡ Some s) × SlotAgrees s of
held_slot None of h = absurd h
held_slot (Some s) of h = (s, refl, h)

pub is_absent : (s : ServerParts) (h : server.History) (t : server.TicketValues) → Serves s h → is_present_in s.contexts t.context t.life ≡ false → (of : Life) → IsPresent h t of → ⊥
is_absent s h t serves e of present =
    let (p, at, holds) = slot_at serves.slots (server.life h) t.context of serves.agrees.places present.0 in
    let (slot, is, stands) = held_slot p of holds in
    both_ways (is_present_in s.contexts t.context t.life) e
    (absent_of (slice_get s.contexts t.context) (slice_get serves.slots t.context) slot t.life (serves.table.at t.context) (at ∙ ap Some is) (present.1 ∙ sym stands.life))

used_of : (t : List SlotHandle) (i life : ℕ) (o : Option SlotHandle) → slice_get t i ≡ o → life_in o life ≡ true → i < length t
used_of t i life None there e = absurd (both_ways false refl e)
used_of t i life (Some b) there e = slice_get_within t i b there

pub present_used : (t : List SlotHandle) (i life : ℕ) → is_present_in t i life ≡ true → i < length t
present_used t i life e = used_of t i life (slice_get t i) refl e

-- which replies are due, by what is remembered
pub due_says : (s : ServerParts) (h : server.History) (t : server.TicketValues) (own : Bool) (of : Life) (u : UnansweredHandle) → Serves s h → IsPresent h t of → slice_get s.unanswered t.context ≡ Some u
    → (holds u t.number || (own && nat_le (t.number + 64) u.highest)) ≡ is_due h t own
due_says s h t own of u serves present there =
    let r : RemembersLife u of (waits h t.context of.count) (lies_far_back h t.context of.count) =
    subst (λ o. RemembersAt u o (waits h t.context) (lies_far_back h t.context)) present.0 (serves.remembers.at t.context u there) in
    ap (λ b. b || (own && nat_le (t.number + 64) u.highest)) (r.held t.number)
    ∙ (ap (λ b. waits h t.context of.count t.number || (own && b)) (r.far t.number) ∙ ap (λ c. waits h t.context c t.number || (own && lies_far_back h t.context c t.number)) (sym present.1))

pub serves_stale : (s : ServerParts) (h : server.History) (t : server.TicketValues) (own : Bool) (mid room : ℕ) (plain : Parts) → Serves s h → ((of : Life) → IsPresent h t of → ⊥)
    → RepliesIn h t own mid plain room (server.NotReplied replies.StaleTicket) s
serves_stale s h t own mid room plain serves none =
    (none, serves_still s h _ (record { clock = refl; added = refl; lives = λ i. refl; waiting = λ i c n. refl; back = λ i c n. refl }) (serves.answers, none) serves.due serves.senders serves)

-- the request of a ticket is answered as its parts say
pub reply_as : (of : Life) (own : Bool) (mid room : ℕ) (plain : Parts) (entry : server.Entry) (n number : ℕ) (k kind : Kind) (m message_id : ℕ) (bytes token : List ℕ)
    → n ≡ number → k ≡ kind → m ≡ message_id → bytes ≡ token
    → LifeReply of n own (as_reply k m bytes mid plain) room entry → LifeReply of number own (as_reply kind message_id token mid plain) room entry
reply_as of own mid room plain entry n number k kind m message_id bytes token a b c d row =
    subst (λ x. LifeReply of x own (as_reply kind message_id token mid plain) room entry) a
    (subst (λ x. LifeReply of n own (as_reply x message_id token mid plain) room entry) b
    (subst (λ x. LifeReply of n own (as_reply k x token mid plain) room entry) c (subst (λ x. LifeReply of n own (as_reply k m x mid plain) room entry) d row)))

-- the same reply, where it is known otherwise whether it asks for a Partial IV of its own
pub asked_as : (h : server.History) (t : server.TicketValues) (own asked : Bool) (mid room : ℕ) (plain : Parts) (entry : server.Entry) (s : ServerParts) → asked ≡ own → RepliesIn h t asked mid plain room entry s
    → RepliesIn h t own mid plain room entry s
asked_as h t own asked mid room plain entry s e r = subst (λ o. RepliesIn h t o mid plain room entry s) e r

-- the same of whether it is due
pub asked_due : (h : server.History) (t : server.TicketValues) (asked : Bool) {own : Bool} (b : Bool) → asked ≡ own → is_due h t asked ≡ b → is_due h t own ≡ b
asked_due h t asked b e due = subst (λ o. is_due h t o ≡ b) e due

-- a refusal of the ticket's life
refused_row : (h : server.History) (t : server.TicketValues) (own : Bool) (p : Parts) (room : ℕ) (of : Life) (e : ReplyError) → IsPresent h t of → LifeReply of t.number own p room (server.NotReplied e)
    → ReplyAnswer h t own p room (server.NotReplied e)
refused_row h t own p room of replies.KeeperFailed present row = absurd row
refused_row h t own p room of replies.StaleTicket present row = absurd row
refused_row h t own p room of replies.NotObserving present row = absurd row
refused_row h t own p room of replies.NotThatKind present row = (of, present, row)
refused_row h t own p room of (replies.Unsupported n) present row = (of, present, row)
refused_row h t own p room of replies.NotNotification present row = absurd row
refused_row h t own p room of replies.SequenceExhausted present row = (of, present, row)
refused_row h t own p room of replies.TooLong present row = (of, present, row)
refused_row h t own p room of replies.NoRoom present row = (of, present, row)

pub serves_not_replied : (s : ServerParts) (h : server.History) (t : server.TicketValues) (own : Bool) (mid room : ℕ) (plain : Parts) (of : Life) (e : ReplyError) → Serves s h → IsPresent h t of
    → LifeReply of t.number own (as_reply t.kind t.message_id t.token mid plain) room (server.NotReplied e) → RepliesIn h t own mid plain room (server.NotReplied e) s
serves_not_replied s h t own mid room plain of e serves present reply =
    let row = refused_row h t own (as_reply t.kind t.message_id t.token mid plain) room of e present reply in
    (row, serves_still s h _ (record { clock = refl; added = refl; lives = λ i. refl; waiting = λ i c n. refl; back = λ i c n. refl }) (serves.answers, row) serves.due serves.senders serves)

and_true : (x y : Bool) → y ≡ true → (x && y) ≡ x
and_true true true e = refl
and_true false y e = refl
and_true true false e = absurd (both_ways false refl e)

and_false : (x y : Bool) → y ≡ false → (x && y) ≡ false
and_false true y e = e
and_false false y e = refl

-- the marks of a reply: one of its own context, and none of the others
mark_here : (t : server.TicketValues) (own : Bool) → server.reply_mark_at t.context t own ≡ (if own then Some Answered else None)
mark_here t own = ap (λ b. if b then Some Answered else None) (and_true own (t.context == t.context) (eq-eqb t.context t.context refl))

mark_other : (t : server.TicketValues) (own : Bool) (j : ℕ) → j ≢ t.context → server.reply_mark_at j t own ≡ None
mark_other t own j other = cond-false (own && (j == t.context)) (Some Answered) None (and_false own (j == t.context) (ne_eqb j t.context other))

pub serves_replied : (s t : ServerParts) (h : server.History) (ticket : server.TicketValues) (own : Bool) (mid room : ℕ) (plain : Parts) (bytes : List ℕ) (of : Life) (u v : UnansweredHandle) (n : ℕ)
    → (serves : Serves s h) → IsPresent h ticket of → slice_get s.unanswered ticket.context ≡ Some u → is_due h ticket own ≡ true
    → LifeReply of ticket.number own (as_reply ticket.kind ticket.message_id ticket.token mid plain) room (server.Replied bytes)
    → ChangesAt serves.slots (server.life h) ticket.context (marked (reply_mark (Ok n) own) of) t.contexts
    → ((m : ℕ) → holds v m ≡ (not (m == ticket.number) && holds u m)) → v.highest ≡ u.highest → t.clock ≡ s.clock → t.unanswered ≡ slice_set s.unanswered ticket.context v
    → RepliesIn h ticket own mid plain room (server.Replied bytes) t
serves_replied s t h ticket own mid room plain bytes of u v n serves present there due reply changes removes low clock numbers =
    let g = server.Then h (server.Reply ticket own mid plain room) (server.Replied bytes) in
    let row : ServerAnswer h (server.Reply ticket own mid plain room) (server.Replied bytes) = (of, present, reply) in
    let agrees = changes.agrees (λ i. option_map (marked (server.reply_mark_at i ticket own)) (server.life h i))
    (ap (λ o. option_map (marked (server.reply_mark_at ticket.context ticket own)) o) present.0 ∙ ap (λ m. Some (marked m of)) (mark_here ticket own))
    (λ j other. same_life (server.life h j) (server.reply_mark_at j ticket own) (mark_other ticket own j other)) in (
      row,
      record {
        slots = changes.new;
        table = changes.table;
        agrees = agrees_replied (server_of 1 s.clock serves.slots) (server_of 1 t.clock changes.new) h ticket own mid room plain bytes serves.agrees clock changes.len agrees;
        remembers = subst (λ us. Remembers us g) (sym numbers) (remembers_replied s.unanswered h ticket own mid room plain bytes u v of there present.0 present.1 removes low serves.remembers);
        answers = (serves.answers, row);
        due = (serves.due, due);
        senders = serves.senders;
      },
    )

-- ---- a notification

pub notify_stale : (s : ServerParts) (h : server.History) (t : server.TicketValues) (room : ℕ) (plain : Parts) → Serves s h → ((of : Life) → IsPresent h t of → ⊥)
    → NotifiesIn h t plain room (server.NotReplied replies.StaleTicket) s
notify_stale s h t room plain serves none =
    (none, serves_still s h _ (record { clock = refl; added = refl; lives = λ i. refl; waiting = λ i c n. refl; back = λ i c n. refl }) (serves.answers, none) serves.due serves.senders serves)

pub notify_unobserved : (s : ServerParts) (h : server.History) (t : server.TicketValues) (room : ℕ) (plain : Parts) (of : Life) → Serves s h → IsPresent h t of → t.observes ≡ false
    → NotifiesIn h t plain room (server.NotReplied replies.NotObserving) s
notify_unobserved s h t room plain of serves present not_so =
    let row : ServerAnswer h (server.Notify t plain room) (server.NotReplied replies.NotObserving) = (of, present, not_so) in
    (row, serves_still s h _ (record { clock = refl; added = refl; lives = λ i. refl; waiting = λ i c n. refl; back = λ i c n. refl }) (serves.answers, row) serves.due serves.senders serves)

-- the request of a ticket is notified as its parts say
pub notify_as : (of : Life) (room : ℕ) (plain : Parts) (entry : server.Entry) (n number : ℕ) (bytes token : List ℕ) → n ≡ number → bytes ≡ token
    → LifeNotify of n (as_notification bytes plain) room entry → LifeNotify of number (as_notification token plain) room entry
notify_as of room plain entry n number bytes token a b row =
    subst (λ x. LifeNotify of x (as_notification token plain) room entry) a (subst (λ x. LifeNotify of n (as_notification x plain) room entry) b row)

-- a refusal of the ticket's life
unsent_row : (h : server.History) (t : server.TicketValues) (plain : Parts) (room : ℕ) (of : Life) (e : ReplyError) → IsPresent h t of → t.observes ≡ true
    → LifeNotify of t.number (as_notification t.token plain) room (server.NotReplied e) → ServerAnswer h (server.Notify t plain room) (server.NotReplied e)
unsent_row h t plain room of replies.KeeperFailed present so row = absurd row
unsent_row h t plain room of replies.StaleTicket present so row = absurd row
unsent_row h t plain room of replies.NotObserving present so row = absurd row
unsent_row h t plain room of replies.NotThatKind present so row = (so, (of, present, row))
unsent_row h t plain room of (replies.Unsupported n) present so row = (so, (of, present, row))
unsent_row h t plain room of replies.NotNotification present so row = (so, (of, present, row))
unsent_row h t plain room of replies.SequenceExhausted present so row = (so, (of, present, row))
unsent_row h t plain room of replies.TooLong present so row = (so, (of, present, row))
unsent_row h t plain room of replies.NoRoom present so row = (so, (of, present, row))

-- what the ticket's life answers to a notification, after the history and in the bytes
pub serves_notified : (s : ServerParts) (contexts : List SlotHandle) (h : server.History) (t : server.TicketValues) (room : ℕ) (plain : Parts) (out : List ℕ) (r : Result ℕ ReplyError) (of : Life)
    → (serves : Serves s h) → IsPresent h t of → t.observes ≡ true → LifeNotify of t.number (as_notification t.token plain) room (reply_entry r out)
    → ChangesAt serves.slots (server.life h) t.context (marked (reply_mark r true) of) contexts → OnErr r (contexts ≡ s.contexts)
    → NotifiesIn h t plain room (reply_entry r out) (record { clock = s.clock; contexts = contexts; unanswered = s.unanswered })
serves_notified s contexts h t room plain out (Err e) of serves present so notified changes same =
    let row = unsent_row h t plain room of e present so notified in
    (row, serves_same s contexts _ same (serves_still s h _ (record { clock = refl; added = refl; lives = λ i. refl; waiting = λ i c n. refl; back = λ i c n. refl }) (serves.answers, row) serves.due serves.senders serves))
serves_notified s contexts h t room plain out (Ok n) of serves present so notified changes same =
    let bytes = take n out in
    let row : ServerAnswer h (server.Notify t plain room) (server.Replied bytes) = (so, (of, present, notified)) in
    let agrees = changes.agrees (λ i. option_map (marked (server.reply_mark_at i t true)) (server.life h i))
    (ap (λ o. option_map (marked (server.reply_mark_at t.context t true)) o) present.0 ∙ ap (λ m. Some (marked m of)) (mark_here t true))
    (λ j other. same_life (server.life h j) (server.reply_mark_at j t true) (mark_other t true j other)) in (
      row,
      record {
        slots = changes.new;
        table = changes.table;
        agrees = agrees_notified (server_of 1 s.clock serves.slots) (server_of 1 s.clock changes.new) h t room plain (Ok n) out serves.agrees refl changes.len agrees;
        remembers = remembers_notified s.unanswered h t room plain bytes serves.remembers;
        answers = (serves.answers, row);
        due = serves.due;
        senders = serves.senders;
      },
    )
