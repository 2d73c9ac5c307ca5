use Rattle.std.proofs.Common.{◌≡◌, ap, arith, sym, length}
use Rattle.osc_coap.specs.Views.{parts_of}
use Rattle.osc_life.specs.ServerHistory.{life}
use Rattle.osc_life.specs.Views.{reply_entry}
use Rattle.osc_handle.proofs.Singles.{on_err}
use Rattle.osc_handle.proofs.Servers.{is_absent, is_there, notify_as, notify_stale, notify_unobserved, present_used, serves_notified}
use Rattle.osc_handle.proofs.Singles.{changes_first, life_at_first}
use Rattle.osc_handle.specs.SingleServerBytes.{server_of_one, table_of}
use Rattle.osc_handle.specs.TicketBytes.{ticket_in}
use Rattle.osc_handle.specs.declared.slot_handle.SlotHandle.{SlotHandle}
use Rattle.osc_handle.proofs.single_server_handle.SingleServerHandle.notify.Goals as goal

pub returns-then-not-gave-clause-answered : goal.returns-then-not-gave-clause-answered
returns-then-not-gave-clause-answered c = λ h serves.
    let t = ticket_in c.args.ticket.now in
    notify_stale (server_of_one c.args.self.now) h t (length c.args.out.now) (parts_of c.args.plain.now) serves (is_absent (server_of_one c.args.self.now) h t serves (sym c.if-not-gave.ensures))

pub returns-then-not-is_observing-clause-answered : goal.returns-then-not-is_observing-clause-answered
returns-then-not-is_observing-clause-answered c = λ h serves.
    let t = ticket_in c.args.ticket.now in
    let present = is_there (server_of_one c.args.self.now) h t serves (sym c.if-not-gave.ensures) in
    notify_unobserved (server_of_one c.args.self.now) h t (length c.args.out.now) (parts_of c.args.plain.now) present.0 serves present.1 (sym c.if-not-is_observing.ensures)

pub returns-clause-answered : goal.returns-clause-answered
returns-clause-answered c = λ h serves.
    let t = ticket_in c.args.ticket.now in
    let s = server_of_one c.args.self.now in
    let present = is_there s h t serves (sym c.if-not-gave.ensures) in
    let used = present_used (table_of c.args.self.now.slot) c.args.ticket.now.context c.args.ticket.now.life (sym c.if-not-gave.ensures) in
    let first : c.args.ticket.now.context ≡ 0 = omega (arith, used) in
    let here = life_at_first (life h) c.args.ticket.now.context present.0 first present.1.0 in
    let plain = parts_of c.args.plain.now in
    let r = c.notify_alone-notified.result in
    let out = c.notify_alone-notified.new.out in
    let after = table_of c.notify_alone-notified.new.self in
    let row = notify_as present.0 (length c.args.out.now) plain (reply_entry r out) _ _ _ _ c.in-Some.ensures.number c.in-Some.ensures.token
    (c.notify_alone-notified.ensures.answer serves.slots (life h) present.0 serves.table serves.agrees.places here) in
    serves_notified s after h t (length c.args.out.now) plain out r present.0 serves present.1 (sym c.if-not-is_observing.ensures) row
    (changes_first serves.slots (life h) c.args.ticket.now.context _ after first (c.notify_alone-notified.ensures.kept serves.slots (life h) present.0 serves.table serves.agrees.places here))
    (on_err r _ _ (λ same. ap (λ (b : SlotHandle). table_of b) same) c.notify_alone-notified.ensures.same)
