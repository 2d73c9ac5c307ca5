use Rattle.std.proofs.Common.{◌≡◌, ◌∙◌, ap, arith, refl, sym, length, take, true, false}
use Rattle.std.proofs.lemmas.Bool.{both_ways}
use Rattle.osc_coap.specs.Views.{parts_of}
use Rattle.osc_life.specs.LifeAnswer.{asks_own}
use Rattle.osc_life.specs.ServerHistory.{NotReplied, Replied, life}
use Rattle.osc_laws.specs.Waiting.{is_due}
use Rattle.osc_handle.proofs.Servers.{asked_as, asked_due, due_says, is_absent, is_there, present_used, reply_as, serves_not_replied, serves_replied, serves_same, serves_stale}
use Rattle.osc_handle.proofs.Singles.{changes_first, life_at_first, number_there, set_number}
use Rattle.osc_handle.specs.SingleServerBytes.{server_of_one, table_of}
use Rattle.osc_handle.specs.TicketBytes.{ticket_in}
use Rattle.osc_handle.specs.declared.slot_handle.SlotHandle.{SlotHandle}
use Rattle.osc_handle.proofs.single_server_handle.SingleServerHandle.reply.Goals as goal

pub returns-then-not-gave-clause-answered : goal.returns-then-not-gave-clause-answered
returns-then-not-gave-clause-answered c = λ h serves.
    let t = ticket_in c.args.ticket.now in
    serves_stale (server_of_one c.args.self.now) h t (asks_own t c.args.own) c.args.mid (length c.args.out.now) (parts_of c.args.plain.now) serves (is_absent (server_of_one c.args.self.now) h t serves (sym c.if-not-gave.ensures))

pub returns-then-not-gave-clause-once : goal.returns-then-not-gave-clause-once
returns-then-not-gave-clause-once c = λ _ _ h serves spent. absurd (is_absent (server_of_one c.args.self.now) h (ticket_in c.args.ticket.now) serves (sym c.if-not-gave.ensures) spent.0 spent.1)

pub returns-then-not-is_due-clause-spent : goal.returns-then-not-is_due-clause-spent
returns-then-not-is_due-clause-spent c = λ _ h serves.
    let t = ticket_in c.args.ticket.now in
    let present = is_there (server_of_one c.args.self.now) h t serves (sym c.if-not-gave.ensures) in
    let there = number_there c.args.self.now.unanswered c.args.ticket.now.context (present_used (table_of c.args.self.now.slot) c.args.ticket.now.context c.args.ticket.now.life (sym c.if-not-gave.ensures)) in
    (present.0, present.1, asked_due h t c.asks_own-own.result false c.asks_own-own.ensures (sym (due_says (server_of_one c.args.self.now) h t c.asks_own-own.result present.0 _ serves present.1 there) ∙ sym c.if-not-is_due.ensures))

pub returns-in-Ok-clause-answered : goal.returns-in-Ok-clause-answered
returns-in-Ok-clause-answered c = λ h serves.
    let t = ticket_in c.args.ticket.now in
    let present = is_there (server_of_one c.args.self.now) h t serves (sym c.if-not-gave.ensures) in
    let used = present_used (table_of c.args.self.now.slot) c.args.ticket.now.context c.args.ticket.now.life (sym c.if-not-gave.ensures) in
    let there = number_there c.args.self.now.unanswered c.args.ticket.now.context used in
    let plain = parts_of c.args.plain.now in
    let own = c.asks_own-own.result in
    let first : c.args.ticket.now.context ≡ 0 = omega (arith, used) in
    let here = life_at_first (life h) c.args.ticket.now.context present.0 first present.1.0 in
    let row = reply_as present.0 own c.args.mid (length c.args.out.now) plain (Replied (take c.in-Ok.len c.reply_alone.new.out)) _ _ _ _ _ _ _ _
    c.in-Some.ensures.number c.in-Some.ensures.kind c.in-Some.ensures.message_id c.in-Some.ensures.token
    (c.in-Ok.ensures.answer serves.slots (life h) present.0 serves.table serves.agrees.places here) in
    asked_as h t _ own c.args.mid (length c.args.out.now) plain _ _ c.asks_own-own.ensures
    (serves_replied (server_of_one c.args.self.now) _ h t own c.args.mid (length c.args.out.now) plain (take c.in-Ok.len c.reply_alone.new.out) present.0 _ c.remove.new.self c.in-Ok.len serves present.1 there
    (sym (due_says (server_of_one c.args.self.now) h t own present.0 _ serves present.1 there) ∙ sym c.if-not-is_due.ensures) row (changes_first serves.slots (life h) c.args.ticket.now.context _ (table_of c.reply_alone.new.self) first (c.in-Ok.ensures.kept serves.slots (life h) present.0 serves.table serves.agrees.places here)) c.remove.ensures.holds c.remove.ensures.highest refl (set_number c.args.self.now.unanswered c.remove.new.self c.args.ticket.now.context used))

pub returns-in-Ok-clause-once : goal.returns-in-Ok-clause-once
returns-in-Ok-clause-once c = λ _ _ h serves spent.
    let t = ticket_in c.args.ticket.now in
    let there = number_there c.args.self.now.unanswered c.args.ticket.now.context (present_used (table_of c.args.self.now.slot) c.args.ticket.now.context c.args.ticket.now.life (sym c.if-not-gave.ensures)) in
    absurd
    (both_ways (is_due h t (asks_own t c.args.own)) spent.2
    (asked_due h t c.asks_own-own.result true c.asks_own-own.ensures (sym (due_says (server_of_one c.args.self.now) h t c.asks_own-own.result spent.0 _ serves spent.1 there) ∙ sym c.if-not-is_due.ensures)))

pub returns-in-Err-clause-answered : goal.returns-in-Err-clause-answered
returns-in-Err-clause-answered c = λ h serves.
    let t = ticket_in c.args.ticket.now in
    let present = is_there (server_of_one c.args.self.now) h t serves (sym c.if-not-gave.ensures) in
    let used = present_used (table_of c.args.self.now.slot) c.args.ticket.now.context c.args.ticket.now.life (sym c.if-not-gave.ensures) in
    let first : c.args.ticket.now.context ≡ 0 = omega (arith, used) in
    let plain = parts_of c.args.plain.now in
    let own = c.asks_own-own.result in
    let row = reply_as present.0 own c.args.mid (length c.args.out.now) plain (NotReplied c.in-Err.error) _ _ _ _ _ _ _ _
    c.in-Some.ensures.number c.in-Some.ensures.kind c.in-Some.ensures.message_id c.in-Some.ensures.token
    (c.in-Err.ensures.answer serves.slots (life h) present.0 serves.table serves.agrees.places (life_at_first (life h) c.args.ticket.now.context present.0 first present.1.0)) in
    let not = serves_not_replied (server_of_one c.args.self.now) h t own c.args.mid (length c.args.out.now) plain present.0 c.in-Err.error serves present.1 row in
    asked_as h t _ own c.args.mid (length c.args.out.now) plain _ _ c.asks_own-own.ensures (not.0, serves_same (server_of_one c.args.self.now) (table_of c.reply_alone.new.self) _ (ap (λ (b : SlotHandle). table_of b) c.in-Err.ensures.same) not.1)

pub returns-in-Err-clause-once : goal.returns-in-Err-clause-once
returns-in-Err-clause-once c = λ _ _ h serves spent.
    let t = ticket_in c.args.ticket.now in
    let there = number_there c.args.self.now.unanswered c.args.ticket.now.context (present_used (table_of c.args.self.now.slot) c.args.ticket.now.context c.args.ticket.now.life (sym c.if-not-gave.ensures)) in
    absurd
    (both_ways (is_due h t (asks_own t c.args.own)) spent.2
    (asked_due h t c.asks_own-own.result true c.asks_own-own.ensures (sym (due_says (server_of_one c.args.self.now) h t c.asks_own-own.result spent.0 _ serves spent.1 there) ∙ sym c.if-not-is_due.ensures)))
