-- What a server decides of a datagram, after a history.
use Rattle.std.proofs.Common.{◌≡◌, ℕ, ◌∙◌, sym, ap, subst, refl, Bool, true, Option, Some, None, Result, Ok, Err, List, [], ◌++◌, length, take, drop}
use Rattle.std.specs.Prelude.{slice_get, ◌==◌, max, unwrap_or}
use Rattle.std.specs.List.{refill}
use Rattle.std.specs.Option.{option_map}
use Rattle.std.proofs.Math.Seq.{take-append_seam}
use Rattle.osc_coap.specs.Datagram.{Parts, IsDatagram}
use Rattle.osc_context.specs.SecurityContext.{SecurityContext}
use Rattle.osc_context.specs.declared.partial_iv.Piv.{Piv}
use Rattle.osc_context.specs.Views.{as_server, number_of}
use Rattle.osc_protect.specs.Head.{HasRequestHead, ShowsNoRequestHead}
use Rattle.osc_protect.specs.Protection.{requests}
use Rattle.osc_protect.specs.Refusals.{Names}
use Rattle.osc_protect.specs.StageViews.{IsSealedRequest}
use Rattle.osc_protect.specs.Usage.{value_of_request}
use Rattle.osc_protect.specs.Views.{context_of, seen_head, shown}
use Rattle.osc_protect.specs.declared.head_error.NoHead.{NoHead}
use Rattle.osc_protect.specs.declared.head_error.NoHead.TheVariants as none
use Rattle.osc_coap.specs.declared.format_error.FormatError.{FormatError}
use Rattle.osc_coap.specs.Fault.{HasFault}
use Rattle.osc_protect.specs.declared.request_head.RequestHead.{RequestHead}
use Rattle.osc_life.specs.declared.asker.Asker.{Asker}
use Rattle.osc_life.specs.declared.decision.Decided.{Decided}
use Rattle.osc_life.specs.declared.decision.Decision.TheVariants as decisions
use Rattle.osc_life.specs.declared.judging.Named.{Named}
use Rattle.osc_endpoint.specs.declared.server.ServerOf.{ServerOf}
use Rattle.osc_life.specs.declared.slot.Slot.{Slot}
use Rattle.osc_life.specs.declared.start.Fresh.{Fresh}
use Rattle.osc_life.specs.declared.start.Start.{Start}
use Rattle.osc_window.specs.declared.window_size.WindowSize.{WindowSize}
use Rattle.osc_endpoint.specs.Agrees.{Agrees, PlaceAgrees, TableAgrees}
use Rattle.osc_life.specs.Agrees.{HoldsLife}
use Rattle.osc_life.specs.Deciding.{Decides}
use Rattle.osc_endpoint.specs.Deciding.{DecidesTo}
use Rattle.osc_endpoint.specs.Heads.{head_answer, HeadReply}
use Rattle.osc_life.specs.Judging.{IsAskerOf, IsNamed, IsNamedAt, LooksUp}
use Rattle.osc_endpoint.specs.Table.{NamedAnswer, TableJudges}
use Rattle.osc_life.specs.Life.{Life, Mark, marked}
use Rattle.osc_life.specs.declared.server_error.ReplyError.{ReplyError}
use Rattle.osc_life.specs.declared.server_error.RestartError.{RestartError}
use Rattle.osc_life.specs.declared.server_error.SkipError.{SkipError}
use Rattle.osc_life.specs.Replies.{as_reply, error_message, no_context}
use Rattle.osc_endpoint.specs.Replying.{marks_at}
use Rattle.osc_endpoint.specs.Restarting.{lives_after, lives_with, skip_marks}
use Rattle.osc_life.specs.LifeAnswer.{Arrival}
use Rattle.osc_endpoint.specs.ServerAnswer.{HaveSameLookup, ReplaceAnswer, TakeAnswer, arrival}
use Rattle.osc_life.specs.ServerHistory as server
use Rattle.osc_life.specs.Views.{reply_entry, restarted_entry, skipped_entry}
use Rattle.osc_life.proofs.Judgments.{says_error}
use Rattle.osc_endpoint.proofs.Additions.{lookup_turned, one_replaced}
use Rattle.osc_endpoint.proofs.KeptContexts.{one_kept, one_marked, restarted_context}
use Rattle.osc_endpoint.proofs.Places.{same_life, slot_at}

-- what is written back where the table keeps its length
pub refill_same : (xs ws : List (Option Slot)) → length ws ≡ length xs → refill (length xs) xs ws ≡ ws
refill_same xs ws h = ap (λ n. take n (ws ++ drop (length ws) xs)) (sym h) ∙ take-append_seam ws (drop (length ws) xs)

-- a row of the life is a row of the table
pub row_answers : (h : server.History) (a : Arrival) (answer : server.Answer) (reply : List ℕ) → NamedAnswer h a answer reply → TakeAnswer h a answer reply
row_answers h a (server.Malformed fault place) reply r = absurd r.4.0
row_answers h a server.NotRequest reply r = absurd r.4.0
row_answers h a server.Plain reply r = absurd r.4.0
row_answers h a server.Undecodable reply r = absurd r.4.0
row_answers h a server.NoContext reply r = absurd r.4.0
row_answers h a server.Replay reply (i, n, of, request, (meets, says)) = ((i, n, of, request, meets), says)
row_answers h a server.BadTag reply (i, n, of, request, (meets, says)) = ((i, n, of, request, meets), says)
row_answers h a (server.BadInner j k) reply (i, n, of, request, (meets, says)) = ((i, n, of, request, meets), says)
row_answers h a (server.Challenge j k echo issued) reply (i, n, of, request, (meets, says)) =
    ((i, n, of, request, meets), (of, ap (server.life h) meets.3 ∙ request.life_is, says))
row_answers h a server.SequenceExhausted reply (i, n, of, request, (meets, says)) = ((i, n, of, request, meets), says)
row_answers h a (server.Deliver received ticket) reply (i, n, of, request, (meets, says)) = ((i, n, of, request, meets), says)

-- the server after an answer
pub agrees_took : {N : ℕ} (old new : ServerOf N) (h : server.History) (now mid : ℕ) (echo d reply : List ℕ) (answer : server.Answer)
    → Agrees old h → new.clock ≡ max old.clock now → length new.slots.items ≡ length old.slots.items
    → TableAgrees new.slots.items (λ i. option_map (marked (server.mark_at i answer)) (server.life h i))
    → Agrees new (server.Then h (server.Datagram now echo mid d) (server.Took answer reply))
agrees_took old new h now mid echo d reply answer a clock len table =
    record {
      clock_is = clock ∙ ap (λ x. max x now) a.clock_is;
      contexts = len ∙ a.contexts;
      places = table;
      one_each = one_marked h (server.Then h (server.Datagram now echo mid d) (server.Took answer reply)) (λ i. server.mark_at i answer) (λ i. refl) a.one_each;
    }

-- an answer that leaves no mark leaves the table
unmarked : (slots : List (Option Slot)) (lives : ℕ → Option Life) (answer : server.Answer) → ((i : ℕ) → server.mark_at i answer ≡ None) → TableAgrees slots lives
    → TableAgrees slots (λ i. option_map (marked (server.mark_at i answer)) (lives i))
unmarked slots lives answer none h = record { at = λ i. subst (PlaceAgrees (slice_get slots i)) (sym (same_life (lives i) (server.mark_at i answer) (none i))) (h.at i) }

head_marks : (e : NoHead) (i : ℕ) → server.mark_at i (head_answer e) ≡ None
head_marks none.NotThatKind i = refl
head_marks none.NoOscore i = refl
head_marks none.Undecodable i = refl

head_row : (h : server.History) (a : Arrival) (p : Parts) (e : NoHead) (reply : List ℕ) → IsDatagram p a.bytes → ShowsNoRequestHead p e → HeadReply e a.bytes a.mid reply → TakeAnswer h a (head_answer e) reply
head_row h a p none.NotThatKind reply datagram refuses says = ((p, datagram, refuses), says)
head_row h a p none.NoOscore reply datagram refuses says = ((p, datagram, refuses), says)
head_row h a p none.Undecodable reply datagram refuses says = ((p, datagram, refuses), says)

-- a datagram without a head of a request
pub headless : {N : ℕ} (old new : ServerOf N) (h : server.History) (now : ℕ) (fresh : Fresh) (d reply : List ℕ) (result : Decided) (p : Parts) (e : NoHead)
    → Agrees old h → new.clock ≡ max old.clock now → new.slots ≡ old.slots
    → IsDatagram p d → ShowsNoRequestHead p e → Decides result.decision d (head_answer e) → HeadReply e d fresh.mid reply
    → DecidesTo h now fresh d result d reply new
headless old new h now fresh d reply result p e a clock slots datagram refuses decides says =
    record {
      answer = head_answer e;
      row = head_row h (arrival h now fresh.echo fresh.mid d) p e reply datagram refuses says;
      decides = decides;
      agrees = agrees_took old new h now fresh.mid fresh.echo d reply (head_answer e) a clock (ap (λ s. length s.items) slots)
          (unmarked new.slots.items (server.life h) (head_answer e) (head_marks e) (subst (λ s. TableAgrees s.items (server.life h)) (sym slots) a.places));
    }

-- bytes that are no message
pub malformed : {N : ℕ} (old new : ServerOf N) (h : server.History) (now : ℕ) (fresh : Fresh) (d : List ℕ) (e : FormatError)
    → Agrees old h → new.clock ≡ max old.clock now → new.slots ≡ old.slots → HasFault d e.fault e.place
    → DecidesTo h now fresh d (record { decision = decisions.Malformed e; reply = 0 }) d [] new
malformed old new h now fresh d e a clock slots fault =
    record {
      answer = server.Malformed e.fault e.place;
      row = (fault, refl);
      decides = (refl, refl);
      agrees = agrees_took old new h now fresh.mid fresh.echo d [] (server.Malformed e.fault e.place) a clock (ap (λ s. length s.items) slots)
          (unmarked new.slots.items (server.life h) (server.Malformed e.fault e.place) (λ i. refl) (subst (λ s. TableAgrees s.items (server.life h)) (sym slots) a.places));
    }

-- the context of a place is looked up by what the life's says
looks_held : (p : Option Slot) (l : Life) (kid : List ℕ) (kid_context : Option (List ℕ)) → HoldsLife p l → l.context.client ≡ kid → l.context.id_context ≡ kid_context → LooksUp p kid kid_context
looks_held None l kid kid_context holds a b = absurd holds
looks_held (Some s) l kid kid_context holds a b =
    (ap (λ (c : SecurityContext). c.client) holds.context ∙ a, ap (λ (c : SecurityContext). c.id_context) holds.context ∙ b)

-- no context of the table is one of the history
pub unnamed : {N : ℕ} (old new : ServerOf N) (h : server.History) (now : ℕ) (fresh : Fresh) (d reply : List ℕ) (len : ℕ) (x : RequestHead) (asker : Asker) (slots : List (Option Slot))
    → Agrees old h → new.clock ≡ max old.clock now → new.slots ≡ old.slots → slots ≡ old.slots.items
    → HasRequestHead d (seen_head x)
    → ((i : ℕ) (s : Option Slot) → slice_get slots i ≡ Some s → LooksUp s x.kid.now (shown x.kid_context) → ⊥)
    → IsAskerOf asker d → IsDatagram (as_reply asker.kind asker.message_id asker.token.items fresh.mid (error_message no_context)) reply
    → DecidesTo h now fresh d (record { decision = decisions.NoContext; reply = len }) d reply new
unnamed old new h now fresh d reply len x asker slots a clock same seen head none asks written =
    record {
      answer = server.NoContext;
      row = (
        (
          seen_head x,
          head,
          λ i of life_is n names.
              let (s, at, agrees) = slot_at old.slots.items (server.life h) i of a.places life_is in
              none i s (subst (λ xs. slice_get xs i ≡ Some s) (sym seen) at)
              (looks_held s of x.kid.now (shown x.kid_context) agrees (sym (ap (λ v. unwrap_or v.kid []) names)) (sym (ap (λ v. v.kid_context) names))),
        ),
        says_error asker d fresh.mid no_context reply asks written,
      );
      decides = tt;
      agrees = agrees_took old new h now fresh.mid fresh.echo d reply server.NoContext a clock (ap (λ s. length s.items) same)
          (unmarked new.slots.items (server.life h) server.NoContext (λ i. refl) (subst (λ s. TableAgrees s.items (server.life h)) (sym same) a.places));
    }

-- the head names the context that is found
pub found_named : (p : Option Slot) (x : RequestHead) (r : Named) (d : List ℕ) → HasRequestHead d (seen_head x) → LooksUp p x.kid.now (shown x.kid_context) → r.number ≡ x.number
    → ((s : SecurityContext) (e : List ℕ) → HasRequestHead e (seen_head x) → Names (requests s) (seen_head x) (number_of x.number) → IsSealedRequest (requests s) e r.sealed)
    → IsNamedAt p r d
found_named None x r d head looks same sealed = absurd looks
found_named (Some s) x r d head looks same sealed =
    let n = number_of x.number in
    let c = as_server (context_of s.context) in
    let names : Names (requests c) (seen_head x) n = ap (λ k. value_of_request n (shown x.kid_context) k) (sym looks.0) ∙ ap (λ k. value_of_request n k c.client) (sym looks.1) in
    ((seen_head x, head, subst (λ (k : Piv). Names (requests c) (seen_head x) (number_of k)) (sym same) names), sealed c d head names)

-- what the head names of a place it names of the life there
named_life : (p : Option Slot) (r : Named) (d : List ℕ) (l : Life) → IsNamedAt p r d → HoldsLife p l → IsNamed l.context (number_of r.number) d
named_life None r d l named holds = absurd named
named_life (Some s) r d l named holds = subst (λ c. IsNamed c (number_of r.number) d) holds.context named.0

pub judged : {N : ℕ} (old new : ServerOf N) (h : server.History) (now : ℕ) (fresh : Fresh) (d after reply : List ℕ) (result : Decided) (r : Named) (slots : List (Option Slot)) (s : Option Slot)
    → Agrees old h → new.clock ≡ max old.clock now → r.clock ≡ max old.clock now → r.fresh ≡ fresh
    → new.slots.items ≡ slots → length slots ≡ length old.slots.items
    → slice_get old.slots.items r.index ≡ Some s → IsNamedAt s r d
    → TableJudges (server.life h) r d result after reply slots
    → DecidesTo h now fresh d result after reply new
judged old new h now fresh d after reply result r slots s a clock moment same_fresh items len at named j =
    let k = slot_at old.slots.items (server.life h) r.index j.of a.places j.life_is in
    let one : k.0 ≡ s = let e = k.1 in let f = at in cc in
    let n = named_life s r d j.of named (subst (λ p. HoldsLife p j.of) one k.2) in
    let moment_is : r.clock ≡ max (server.clock h) now = moment ∙ ap (λ x. max x now) a.clock_is in
    let row : NamedAnswer h (record { clock = r.clock; echo = r.fresh.echo; mid = r.fresh.mid; bytes = d }) j.answer reply = (
      r.index,
      number_of r.number,
      j.of,
      record {
        head = n.0;
        has_head = n.1;
        life_is = j.life_is;
        names = n.2;
      },
      j.row,
    ) in
    record {
      answer = j.answer;
      row = row_answers h _ j.answer reply (subst (λ x. NamedAnswer h (record { clock = x; echo = fresh.echo; mid = fresh.mid; bytes = d }) j.answer reply) moment_is
          (subst (λ (f : Fresh). NamedAnswer h (record { clock = r.clock; echo = f.echo; mid = f.mid; bytes = d }) j.answer reply) same_fresh row));
      decides = j.decides;
      agrees = agrees_took old new h now fresh.mid fresh.echo d reply j.answer a clock (ap (λ (xs : List (Option Slot)). length xs) items ∙ len)
          (subst (λ xs. TableAgrees xs (λ i. option_map (marked (server.mark_at i j.answer)) (server.life h i))) (sym items) j.agrees);
    }

-- the server after an answer that leaves a mark in each life, or none
agrees_marked : {N : ℕ} (old new : ServerOf N) (h g : server.History) (m : ℕ → Option Mark) → Agrees old h → new.clock ≡ old.clock → length new.slots.items ≡ length old.slots.items
    → server.clock g ≡ server.clock h → server.added g ≡ server.added h → ((i : ℕ) → server.life g i ≡ option_map (marked (m i)) (server.life h i))
    → TableAgrees new.slots.items (server.life g) → Agrees new g
agrees_marked old new h g m a clock len moment count lives table =
    record {
      clock_is = clock ∙ a.clock_is ∙ sym moment;
      contexts = len ∙ a.contexts ∙ sym count;
      places = table;
      one_each = one_marked h g m lives a.one_each;
    }

-- the server after a reply
pub agrees_replied : {N : ℕ} (old new : ServerOf N) (h : server.History) (t : server.TicketValues) (own : Bool) (mid room : ℕ) (plain : Parts) (bytes : List ℕ)
    → Agrees old h → new.clock ≡ old.clock → length new.slots.items ≡ length old.slots.items
    → TableAgrees new.slots.items (λ i. option_map (marked (server.reply_mark_at i t own)) (server.life h i))
    → Agrees new (server.Then h (server.Reply t own mid plain room) (server.Replied bytes))
agrees_replied old new h t own mid room plain bytes a clock len table =
    agrees_marked old new h (server.Then h (server.Reply t own mid plain room) (server.Replied bytes)) (λ i. server.reply_mark_at i t own) a clock len refl refl (λ i. refl) table

-- the server after a notification, or after one that is refused
pub agrees_notified : {N : ℕ} (old new : ServerOf N) (h : server.History) (t : server.TicketValues) (room : ℕ) (plain : Parts) (result : Result ℕ ReplyError) (out : List ℕ)
    → Agrees old h → new.clock ≡ old.clock → length new.slots.items ≡ length old.slots.items
    → TableAgrees new.slots.items (λ i. option_map (marked (marks_at result i t true)) (server.life h i))
    → Agrees new (server.Then h (server.Notify t plain room) (reply_entry result out))
agrees_notified old new h t room plain (Ok n) out a clock len table =
    agrees_marked old new h (server.Then h (server.Notify t plain room) (server.Replied (take n out))) (λ i. server.reply_mark_at i t true) a clock len refl refl (λ i. refl) table
agrees_notified old new h t room plain (Err e) out a clock len table =
    let same : (i : ℕ) → option_map (marked None) (server.life h i) ≡ server.life h i = λ i. same_life (server.life h i) None refl in
    agrees_marked old new h (server.Then h (server.Notify t plain room) (server.NotReplied e)) (λ i. None) a clock len refl refl (λ i. sym (same i))
    (record { at = λ i. subst (λ (o : Option Life). PlaceAgrees (slice_get new.slots.items i) o) (same i) (table.at i) })

-- the server after numbers are passed over, or after that is refused
pub agrees_skipped : {N : ℕ} (old new : ServerOf N) (h : server.History) (i count : ℕ) (result : Result Unit SkipError)
    → Agrees old h → new.clock ≡ old.clock → length new.slots.items ≡ length old.slots.items
    → TableAgrees new.slots.items (λ j. option_map (marked (skip_marks result j i count)) (server.life h j))
    → Agrees new (server.Then h (server.Skip i count) (skipped_entry result))
agrees_skipped old new h i count (Ok x) a clock len table =
    agrees_marked old new h (server.Then h (server.Skip i count) server.Skipped) (λ j. server.skip_mark_at j i count) a clock len refl refl (λ j. refl) table
agrees_skipped old new h i count (Err e) a clock len table =
    let same : (j : ℕ) → option_map (marked None) (server.life h j) ≡ server.life h j = λ j. same_life (server.life h j) None refl in
    agrees_marked old new h (server.Then h (server.Skip i count) (server.NotSkipped e)) (λ j. None) a clock len refl refl (λ j. sym (same j))
    (record { at = λ j. subst (λ (o : Option Life). PlaceAgrees (slice_get new.slots.items j) o) (same j) (table.at j) })

-- the server after a restart, or after one that is refused
pub agrees_restarted : {N : ℕ} (old new : ServerOf N) (h : server.History) (i next : ℕ) (result : Result Unit RestartError)
    → Agrees old h → new.clock ≡ old.clock → length new.slots.items ≡ length old.slots.items
    → TableAgrees new.slots.items (lives_after result i next (server.life h))
    → Agrees new (server.Then h (server.Restart i next) (restarted_entry result))
agrees_restarted old new h i next (Ok x) a clock len table =
    record {
      clock_is = clock ∙ a.clock_is;
      contexts = len ∙ a.contexts;
      places = table;
      one_each = one_kept HaveSameLookup h (server.Then h (server.Restart i next) server.Restarted) (λ j. restarted_context (j == i) next (server.life h j)) a.one_each;
    }
agrees_restarted old new h i next (Err e) a clock len table =
    record { clock_is = clock ∙ a.clock_is; contexts = len ∙ a.contexts; places = table; one_each = a.one_each }

-- the server after a context took the place of another
pub agrees_replaced : {N : ℕ} (old new : ServerOf N) (h : server.History) (i : ℕ) (by : SecurityContext) (start : Start) (size : WindowSize)
    → Agrees old h → new.clock ≡ old.clock → length new.slots.items ≡ length old.slots.items → ReplaceAnswer (server.life h) i by server.Replaced
    → TableAgrees new.slots.items (lives_with i by start size (server.life h)) → Agrees new (server.Then h (server.Replace i by start size) server.Replaced)
agrees_replaced old new h i by start size a clock len row table =
    record {
      clock_is = clock ∙ a.clock_is;
      contexts = len ∙ a.contexts;
      places = table;
      one_each = one_replaced HaveSameLookup lookup_turned h i by start size (λ j of other there same. row.1 (j, of, other, there, same)) a.one_each;
    }
