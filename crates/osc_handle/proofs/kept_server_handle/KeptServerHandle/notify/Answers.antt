use Rattle.std.proofs.Common.{ℕ, Result, length, refl, subst, take}
use Rattle.osc_coap.specs.Views.{parts_of}
use Rattle.osc_life.specs.Views.{reply_entry}
use Rattle.osc_life.specs.declared.server_error.ReplyError.{ReplyError}
use Rattle.osc_handle.specs.ServerBytes.{NotifiesIn}
use Rattle.osc_handle.specs.SingleServerBytes.{server_of_one}
use Rattle.osc_handle.specs.TicketBytes.{ticket_in}
use Rattle.osc_handle.proofs.ServerSteps.{not_notified, notified}
use Rattle.osc_handle.proofs.kept_server_handle.KeptServerHandle.notify.Goals as goal

pub returns-in-Some-Ok-clause-answered : goal.returns-in-Some-Ok-clause-answered
returns-in-Some-Ok-clause-answered c = λ h old w.
    let Answered : Result ℕ ReplyError → Type 0 = λ r. NotifiesIn h (ticket_in c.args.ticket.now) (parts_of c.args.plain.now) (length c.args.out.now) (reply_entry r c.notify.new.out) (server_of_one c.notify.new.self) in
    notified c.args.self.now _ h (ticket_in c.args.ticket.now) (parts_of c.args.plain.now) (length c.args.out.now) (take c.in-Some-Ok.len c.notify.new.out) old w
    (c.save_first.ensures.accepted c.in_default.is h old w) (subst Answered c.in-Some-Ok.field-0-is (c.in-Some-Ok.ensures.answered h w.serves)) c.in-Some-Ok.ensures.bytes refl

pub returns-in-Some-Ok-clause-refuses : goal.returns-in-Some-Ok-clause-refuses
returns-in-Some-Ok-clause-refuses c = λ h o w ticket wants. absurd (c.save_first.ensures.accepted c.in_default.is h o w wants)

pub returns-in-Some-Err-clause-answered : goal.returns-in-Some-Err-clause-answered
returns-in-Some-Err-clause-answered c = λ h old w.
    let Answered : Result ℕ ReplyError → Type 0 = λ r. NotifiesIn h (ticket_in c.args.ticket.now) (parts_of c.args.plain.now) (length c.args.out.now) (reply_entry r c.notify.new.out) (server_of_one c.notify.new.self) in
    not_notified c.args.self.now _ h (ticket_in c.args.ticket.now) (parts_of c.args.plain.now) (length c.args.out.now) c.in-Some-Err.error old w
    (c.save_first.ensures.accepted c.in_default.is h old w) (subst Answered c.in-Some-Err.field-0-is (c.in-Some-Err.ensures.answered h w.serves)) c.in-Some-Err.ensures.bytes refl

pub returns-in-Some-Err-clause-refuses : goal.returns-in-Some-Err-clause-refuses
returns-in-Some-Err-clause-refuses c = λ h o w ticket wants. absurd (c.save_first.ensures.accepted c.in_default.is h o w wants)
