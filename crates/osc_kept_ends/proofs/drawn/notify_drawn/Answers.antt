use Rattle.std.proofs.Common.{length, take, None, refl}
use Rattle.osc_coap.specs.Views.{parts_of}
use Rattle.osc_life.specs.Views.{values_of}
use Rattle.osc_kept_ends.specs.Views.{own_at}
use Rattle.osc_kept_ends.proofs.Drawing.{last_drawn}
use Rattle.osc_kept_ends.proofs.ServerSteps.{notify_own, notify_refused}
use Rattle.osc_kept_ends.proofs.drawn.notify_drawn.Goals as goal

pub returns-in-Err-clause-answered : goal.returns-in-Err-clause-answered
returns-in-Err-clause-answered c = λ h old floor next limit k drawn last.
    notify_refused c.args.server.now c.notify.new.self h (values_of c.args.ticket.now) (parts_of c.args.plain.now) (length c.args.out.now) c.in-Err.error old (own_at floor next limit c.args.in_hand.now)
    k (c.in-Err.ensures.answered h k.agrees) (c.in-Err.ensures.follows h k.agrees) drawn

pub returns-clause-answered : goal.returns-clause-answered
returns-clause-answered c = λ h old floor next limit k drawn last.
    notify_own c.args.server.now c.notify.new.self h (values_of c.args.ticket.now) (parts_of c.args.plain.now) (length c.args.out.now) (take c.in-Ok.len c.notify.new.out) old (own_at floor next limit c.args.in_hand.now) (own_at floor next limit None)
    k (c.in-Ok.ensures.answered h k.agrees) (c.in-Ok.ensures.follows h k.agrees) drawn (λ n is. last_drawn c.args.in_hand.now next n last is) (λ n. refl)
