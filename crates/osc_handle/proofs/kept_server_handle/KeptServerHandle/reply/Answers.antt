use Rattle.std.proofs.Common.{◌≡◌, ◌∙◌, IfSome, Err, length, refl, subst, sym, take}
use Rattle.osc_coap.specs.Views.{parts_of}
use Rattle.osc_life.specs.LifeAnswer.{asks_own}
use Rattle.osc_handle.specs.ServerBytes.{RepliesIn, entry_of_reply}
use Rattle.osc_handle.specs.SingleServerBytes.{server_of_one}
use Rattle.osc_handle.specs.TicketBytes.{ticket_in}
use Rattle.osc_handle.specs.declared.reply_refusal.ReplyRefusal.{ReplyRefusal}
use Rattle.osc_handle.specs.declared.reply_refusal.ReplyRefusal.TheVariants.{Refused, TicketSpent}
use Rattle.osc_handle.proofs.NumberSteps.{no_error, same_refusal}
use Rattle.osc_handle.proofs.ServerSteps.{not_replied, replied}
use Rattle.osc_kept_ends.specs.Numbering.{upcoming}
use Rattle.osc_handle.specs.Reserved.{WantsSave}
use Rattle.osc_handle.proofs.kept_server_handle.KeptServerHandle.reply.Goals as goal

pub returns-in-Some-clause-once : goal.returns-in-Some-clause-once
returns-in-Some-clause-once c = λ ticket h o w spent none. absurd (none (subst (λ b. WantsSave b (upcoming o) c.args.self.now.reserved) c.asks_own.ensures (c.in-Some.ensures.refused.1 h o w)))

pub returns-in-Ok-clause-answered : goal.returns-in-Ok-clause-answered
returns-in-Ok-clause-answered c = λ h old w.
    replied c.args.self.now _ h (ticket_in c.args.ticket.now) (asks_own (ticket_in c.args.ticket.now) c.args.own) c.args.mid (parts_of c.args.plain.now) (length c.args.out.now) (take c.in-Ok.len c.reply.new.out) old w
    (λ wants. c.save_first.ensures.accepted c.in_default.is h old w (subst (λ b. WantsSave b (upcoming old) c.args.self.now.reserved) (sym c.asks_own.ensures) wants)) (c.in-Ok.ensures.answered h w.serves) (c.in-Ok.ensures.bytes w.whole.bytes) refl

pub returns-in-Ok-clause-refuses : goal.returns-in-Ok-clause-refuses
returns-in-Ok-clause-refuses c = λ h o w ticket wants. absurd (c.save_first.ensures.accepted c.in_default.is h o w (subst (λ b. WantsSave b (upcoming o) c.args.self.now.reserved) (sym c.asks_own.ensures) wants))

pub returns-in-Ok-clause-once : goal.returns-in-Ok-clause-once
returns-in-Ok-clause-once c = λ ticket h o w spent none. absurd (no_error (c.in-Ok.ensures.once w.whole.bytes ticket h w.serves spent))

pub returns-in-Err-TicketSpent-clause-refuses : goal.returns-in-Err-TicketSpent-clause-refuses
returns-in-Err-TicketSpent-clause-refuses c = λ h o w ticket wants. absurd (c.save_first.ensures.accepted c.in_default.is h o w (subst (λ b. WantsSave b (upcoming o) c.args.self.now.reserved) (sym c.asks_own.ensures) wants))

pub returns-in-Err-Refused-clause-answered : goal.returns-in-Err-Refused-clause-answered
returns-in-Err-Refused-clause-answered c = λ h old w.
    let t = ticket_in c.args.ticket.now in
    let Answered : ReplyRefusal → Type 0 = λ r. IfSome (entry_of_reply (Err r) c.reply.new.out) (λ entry. RepliesIn h t (asks_own t c.args.own) c.args.mid (parts_of c.args.plain.now) (length c.args.out.now) entry (server_of_one c.reply.new.self)) in
    not_replied c.args.self.now _ h t (asks_own t c.args.own) c.args.mid (parts_of c.args.plain.now) (length c.args.out.now) c.in-Err-Refused.error old w
    (λ wants. c.save_first.ensures.accepted c.in_default.is h old w (subst (λ b. WantsSave b (upcoming old) c.args.self.now.reserved) (sym c.asks_own.ensures) wants)) (subst Answered c.in-Err-Refused.field-0-is (c.in-Err-Refused.ensures.answered h w.serves)) (c.in-Err-Refused.ensures.bytes w.whole.bytes) refl

pub returns-in-Err-Refused-clause-refuses : goal.returns-in-Err-Refused-clause-refuses
returns-in-Err-Refused-clause-refuses c = λ h o w ticket wants. absurd (c.save_first.ensures.accepted c.in_default.is h o w (subst (λ b. WantsSave b (upcoming o) c.args.self.now.reserved) (sym c.asks_own.ensures) wants))

pub returns-in-Err-Refused-clause-once : goal.returns-in-Err-Refused-clause-once
returns-in-Err-Refused-clause-once c = λ ticket h o w spent none.
    let is = same_refusal (c.in-Err-Refused.ensures.once w.whole.bytes ticket h w.serves spent) in
    let f : Refused c.in-Err-Refused.error ≡ TicketSpent = sym c.in-Err-Refused.field-0-is ∙ is in
    absurd (cc)

pub returns-in-Some-clause-refused : goal.returns-in-Some-clause-refused
returns-in-Some-clause-refused c = λ number is.
    let same : c.in-Some.number ≡ number = cc in
    (sym same ∙ c.in-Some.ensures.refused.0, λ h o w. subst (λ b. WantsSave b (upcoming o) c.args.self.now.reserved) c.asks_own.ensures (c.in-Some.ensures.refused.1 h o w))
