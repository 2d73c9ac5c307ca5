-- A kept server in bytes after each call: k are the bytes before, t those after, h is the history, old are the numbers before.
use Rattle.std.proofs.Common.{◌≡◌, ℕ, ◌≤◌, ◌^◌, inl, inr, ◌⊎◌, ◌∙◌, sym, ap, subst, refl, arith, Bool, true, false, not, Option, Some, List}
use Rattle.std.specs.Prelude.{unwrap_or}
use Rattle.std.specs.Option.{option_map}
use Rattle.osc_coap.specs.Datagram.{Parts}
use Rattle.osc_endpoint.specs.Agrees.{server_of}
use Rattle.osc_life.specs.Life.{Life, is_open_life, next_own}
use Rattle.osc_endpoint.specs.ServerAnswer.{ServerAnswer}
use Rattle.osc_life.specs.ServerHistory.{History, Then, Answer, TicketValues, Datagram, Notify, Reply, Took, Replied, NotReplied, Malformed, NotRequest, Plain, Undecodable, NoContext, Replay, BadTag, BadInner, Challenge, SequenceExhausted, Deliver, added, life}
use Rattle.osc_life.specs.declared.server_error.ReplyError.{ReplyError}
use Rattle.osc_handle.proofs.Tables.{life_there}
use Rattle.osc_handle.specs.ServerBytes.{NotifiesIn, RepliesIn, Serves}
use Rattle.osc_handle.specs.SingleServerBytes.{server_of_one, table_of}
use Rattle.osc_handle.specs.SlotBytes.{IsSlotBytes}
use Rattle.osc_kept_ends.proofs.ServerSteps.{IsChallenge, IsNoChallenge, notify_own, notify_refused, reply_own, reply_refused, reply_shared, took_sealed, took_unsealed}
use Rattle.osc_kept_ends.specs.KeptServing.{IsKept}
use Rattle.osc_kept_ends.specs.Numbering.{Own, Use, after, upcoming}
use Rattle.osc_handle.proofs.NumberSteps.{drawn_by, upcoming_within, used}
use Rattle.osc_handle.specs.KeptServerBytes.{ServesWith, StepsServer}
use Rattle.osc_handle.specs.Reserved.{AreReserved, WantsSave}
use Rattle.osc_handle.specs.declared.kept_server_handle.KeptServerHandle.{KeptServerHandle}

-- ---- the one context

life_next : (o : Option Life) (of : Life) (next : ℕ) → option_map next_own o ≡ Some next → o ≡ Some of → next_own of ≡ next
life_next o of next is e = ap (λ (x : Option ℕ). unwrap_or x next) (sym (ap (option_map next_own) e) ∙ is)

-- the next number in the bytes of the context
pub next_in : (k : KeptServerHandle) (h : History) (next : ℕ) → Serves (server_of_one k.server) h → option_map next_own (life h 0) ≡ Some next → k.server.slot.next ≡ next
next_in k h next serves is =
    let (of, life_is, slot, holds, agrees) = life_there (table_of k.server.slot) serves.slots (life h) 0 k.server.slot serves.table serves.agrees.places refl in
    holds.next ∙ (agrees.next ∙ life_next (life h 0) of next is life_is)

pub serves_with : (k : KeptServerHandle) (o : Own) (h : History) → Serves (server_of_one k.server) h → IsSlotBytes k.server.slot → added h ≡ 1
    → option_map next_own (life h 0) ≡ Some (upcoming o) → AreReserved o k.reserved → k.reserved ≤ 2 ^ 40 → ServesWith k o h
serves_with k o h serves bytes one next numbers top =
    record {
      whole = record {
        bytes = bytes;
        next =
            let is : k.server.slot.next ≡ upcoming o = next_in k h (upcoming o) serves next in
            let within : upcoming o ≤ k.reserved = upcoming_within o k.reserved numbers in
            omega (arith, is, within);
        reserved = top;
      };
      serves = serves;
      one = one;
      next_is = next;
      numbers = numbers;
    }

-- ---- a start, and a save

-- ---- datagrams

kept_by : (k : KeptServerHandle) (o : Own) (h : History) (w : ServesWith k o h) → IsKept (server_of 1 k.server.clock w.serves.slots) (upcoming o) h
kept_by k o h w = record { agrees = w.serves.agrees; one = w.one; next_is = w.next_is }

challenge_or_not : (answer : Answer) → IsChallenge answer ⊎ IsNoChallenge answer
challenge_or_not (Malformed fault place) = inr tt
challenge_or_not NotRequest = inr tt
challenge_or_not Plain = inr tt
challenge_or_not Undecodable = inr tt
challenge_or_not NoContext = inr tt
challenge_or_not Replay = inr tt
challenge_or_not BadTag = inr tt
challenge_or_not (BadInner i n) = inr tt
challenge_or_not (Challenge i n echo issued) = inl tt
challenge_or_not SequenceExhausted = inr tt
challenge_or_not (Deliver received ticket) = inr tt

pub took : (k t : KeptServerHandle) (h : History) (now : ℕ) (echo : List ℕ) (m : ℕ) (d : List ℕ) (answer : Answer) (reply : List ℕ) (old : Own) → ServesWith k old h
    → (WantsSave (not (is_open_life (life h 0))) (upcoming old) k.reserved → ⊥) → ServerAnswer h (Datagram now echo m d) (Took answer reply)
    → Serves (server_of_one t.server) (Then h (Datagram now echo m d) (Took answer reply)) → IsSlotBytes t.server.slot → t.reserved ≡ k.reserved
    → StepsServer h (Datagram now echo m d) (Took answer reply) old t
took k t h now echo m d answer reply old w wants row serves table same =
    let (mid, drawn, numbers) = drawn_by (not (is_open_life (life h 0))) old k.reserved w.numbers w.whole.reserved wants in
    let top : t.reserved ≤ 2 ^ 40 = let was : k.reserved ≤ 2 ^ 40 = w.whole.reserved in omega (arith, same, was) in
    let s = server_of 1 k.server.clock w.serves.slots in
    let x = server_of 1 t.server.clock serves.slots in
    elim (challenge_or_not answer) [
      | inl is ↦
          let new = after (Use (upcoming old)) mid in
          let step = took_sealed s x h now echo m d answer reply old mid new is (kept_by k old h w) row serves.agrees drawn numbers.last (λ n. refl) in
          record {
            row = row;
            new = new;
            numbers = step.numbers;
            serves = serves_with t new _ serves table step.kept.one step.kept.next_is (subst (AreReserved new) (sym same) (used mid (upcoming old) k.reserved numbers)) top;
          }
      | inr is ↦
          let step = took_unsealed s x h now echo m d answer reply old mid (kept_by k old h w) row serves.agrees is drawn in
          record {
            row = row;
            new = mid;
            numbers = step.numbers;
            serves = serves_with t mid _ serves table step.kept.one step.kept.next_is (subst (AreReserved mid) (sym same) numbers) top;
          }
    ]

-- ---- replies

pub not_replied : (k t : KeptServerHandle) (h : History) (v : TicketValues) (own : Bool) (m : ℕ) (p : Parts) (room : ℕ) (e : ReplyError) (old : Own) → ServesWith k old h
    → (WantsSave own (upcoming old) k.reserved → ⊥) → RepliesIn h v own m p room (NotReplied e) (server_of_one t.server) → IsSlotBytes t.server.slot
    → t.reserved ≡ k.reserved → StepsServer h (Reply v own m p room) (NotReplied e) old t
not_replied k t h v own m p room e old w wants (row, serves) table same =
    let (mid, drawn, numbers) = drawn_by own old k.reserved w.numbers w.whole.reserved wants in
    let top : t.reserved ≤ 2 ^ 40 = let was : k.reserved ≤ 2 ^ 40 = w.whole.reserved in omega (arith, same, was) in
    let s = server_of 1 k.server.clock w.serves.slots in
    let x = server_of 1 t.server.clock serves.slots in
    let step = reply_refused s x h v own m p room e old mid (kept_by k old h w) row serves.agrees drawn in
    record {
      row = row;
      new = mid;
      numbers = step.numbers;
      serves = serves_with t mid _ serves table step.kept.one step.kept.next_is (subst (AreReserved mid) (sym same) numbers) top;
    }

pub replied : (k t : KeptServerHandle) (h : History) (v : TicketValues) (own : Bool) (m : ℕ) (p : Parts) (room : ℕ) (bytes : List ℕ) (old : Own) → ServesWith k old h
    → (WantsSave own (upcoming old) k.reserved → ⊥) → RepliesIn h v own m p room (Replied bytes) (server_of_one t.server) → IsSlotBytes t.server.slot
    → t.reserved ≡ k.reserved → StepsServer h (Reply v own m p room) (Replied bytes) old t
replied k t h v false m p room bytes old w wants (row, serves) table same =
    let top : t.reserved ≤ 2 ^ 40 = let was : k.reserved ≤ 2 ^ 40 = w.whole.reserved in omega (arith, same, was) in
    let s = server_of 1 k.server.clock w.serves.slots in
    let x = server_of 1 t.server.clock serves.slots in
    let step = reply_shared s x h v m p room bytes old (kept_by k old h w) row serves.agrees in
    record {
      row = row;
      new = old;
      numbers = step.numbers;
      serves = serves_with t old _ serves table step.kept.one step.kept.next_is (subst (AreReserved old) (sym same) w.numbers) top;
    }
replied k t h v true m p room bytes old w wants (row, serves) table same =
    let (mid, drawn, numbers) = drawn_by true old k.reserved w.numbers w.whole.reserved wants in
    let top : t.reserved ≤ 2 ^ 40 = let was : k.reserved ≤ 2 ^ 40 = w.whole.reserved in omega (arith, same, was) in
    let s = server_of 1 k.server.clock w.serves.slots in
    let x = server_of 1 t.server.clock serves.slots in
    let new = after (Use (upcoming old)) mid in
    let step = reply_own s x h v m p room bytes old mid new (kept_by k old h w) row serves.agrees drawn numbers.last (λ n. refl) in
    record {
      row = row;
      new = new;
      numbers = step.numbers;
      serves = serves_with t new _ serves table step.kept.one step.kept.next_is (subst (AreReserved new) (sym same) (used mid (upcoming old) k.reserved numbers)) top;
    }

-- ---- notifications

pub not_notified : (k t : KeptServerHandle) (h : History) (v : TicketValues) (p : Parts) (room : ℕ) (e : ReplyError) (old : Own) → ServesWith k old h
    → (WantsSave true (upcoming old) k.reserved → ⊥) → NotifiesIn h v p room (NotReplied e) (server_of_one t.server) → IsSlotBytes t.server.slot
    → t.reserved ≡ k.reserved → StepsServer h (Notify v p room) (NotReplied e) old t
not_notified k t h v p room e old w wants (row, serves) table same =
    let (mid, drawn, numbers) = drawn_by true old k.reserved w.numbers w.whole.reserved wants in
    let top : t.reserved ≤ 2 ^ 40 = let was : k.reserved ≤ 2 ^ 40 = w.whole.reserved in omega (arith, same, was) in
    let s = server_of 1 k.server.clock w.serves.slots in
    let x = server_of 1 t.server.clock serves.slots in
    let step = notify_refused s x h v p room e old mid (kept_by k old h w) row serves.agrees drawn in
    record {
      row = row;
      new = mid;
      numbers = step.numbers;
      serves = serves_with t mid _ serves table step.kept.one step.kept.next_is (subst (AreReserved mid) (sym same) numbers) top;
    }

pub notified : (k t : KeptServerHandle) (h : History) (v : TicketValues) (p : Parts) (room : ℕ) (bytes : List ℕ) (old : Own) → ServesWith k old h
    → (WantsSave true (upcoming old) k.reserved → ⊥) → NotifiesIn h v p room (Replied bytes) (server_of_one t.server) → IsSlotBytes t.server.slot
    → t.reserved ≡ k.reserved → StepsServer h (Notify v p room) (Replied bytes) old t
notified k t h v p room bytes old w wants (row, serves) table same =
    let (mid, drawn, numbers) = drawn_by true old k.reserved w.numbers w.whole.reserved wants in
    let top : t.reserved ≤ 2 ^ 40 = let was : k.reserved ≤ 2 ^ 40 = w.whole.reserved in omega (arith, same, was) in
    let s = server_of 1 k.server.clock w.serves.slots in
    let x = server_of 1 t.server.clock serves.slots in
    let new = after (Use (upcoming old)) mid in
    let step = notify_own s x h v p room bytes old mid new (kept_by k old h w) row serves.agrees drawn numbers.last (λ n. refl) in
    record {
      row = row;
      new = new;
      numbers = step.numbers;
      serves = serves_with t new _ serves table step.kept.one step.kept.next_is (subst (AreReserved new) (sym same) (used mid (upcoming old) k.reserved numbers)) top;
    }
