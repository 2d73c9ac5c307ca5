use Rattle.std.proofs.Common.{◌∙◌, length, sym, take, None, refl}
use Rattle.osc_coap.specs.Views.{parts_of}
use Rattle.osc_life.specs.LifeAnswer.{asks_own}
use Rattle.osc_life.specs.Views.{values_of}
use Rattle.osc_kept_ends.specs.Views.{own_at}
use Rattle.osc_kept_ends.proofs.Drawing.{last_drawn}
use Rattle.osc_kept_ends.proofs.ServerSteps.{reply_refused, reply_with, reply_without}
use Rattle.osc_kept_ends.proofs.drawn.reply_drawn.Goals as goal

pub returns-in-Err-clause-answered : goal.returns-in-Err-clause-answered
returns-in-Err-clause-answered c = λ h old floor next limit k drawn last.
    let v = values_of c.args.ticket in
    reply_refused c.args.server.now c.reply.new.self h v (asks_own v c.args.own) c.args.mid (parts_of c.args.plain.now) (length c.args.out.now) c.in-Err.refused.0 old (own_at floor next limit c.args.in_hand.now)
    k (c.in-Err.ensures.answered h k.agrees) (c.in-Err.ensures.follows h k.agrees) drawn

pub returns-then-has_own-clause-answered : goal.returns-then-has_own-clause-answered
returns-then-has_own-clause-answered c = λ h old floor next limit k drawn last.
    let v = values_of c.args.ticket in
    reply_with c.args.server.now c.reply.new.self h v (asks_own v c.args.own) c.args.mid (parts_of c.args.plain.now) (length c.args.out.now) (take c.in-Ok.len c.reply.new.out) old (own_at floor next limit c.args.in_hand.now) (own_at floor next limit None)
    (sym c.has_own-has_own.ensures ∙ c.if-has_own.true) k (c.in-Ok.ensures.answered h k.agrees) (c.in-Ok.ensures.follows h k.agrees) drawn (λ n is. last_drawn c.args.in_hand.now next n last is) (λ n. refl)

pub returns-clause-answered : goal.returns-clause-answered
returns-clause-answered c = λ h old floor next limit k drawn last.
    let v = values_of c.args.ticket in
    reply_without c.args.server.now c.reply.new.self h v (asks_own v c.args.own) c.args.mid (parts_of c.args.plain.now) (length c.args.out.now) (take c.in-Ok.len c.reply.new.out) old (own_at floor next limit c.args.in_hand.now)
    (sym c.has_own-has_own.ensures ∙ c.if-has_own.false) k (c.in-Ok.ensures.answered h k.agrees) (c.in-Ok.ensures.follows h k.agrees) drawn
