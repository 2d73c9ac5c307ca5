use Rattle.std.proofs.Common.{◌≡◌, ◌≢◌, ◌∙◌, ℕ, Result, Ok, Err, IfErr, length, ap, arith, subst}
use Rattle.osc_coap.specs.Views.{parts_of}
use Rattle.osc_context.specs.Views.{number_of}
use Rattle.osc_context.specs.declared.features.Features.{Features}
use Rattle.osc_protect.specs.SealRefusals.{RefusesToSeal}
use Rattle.osc_protect.specs.Views.{sealed_requests}
use Rattle.osc_protect.specs.declared.protect_error.ProtectError.{ProtectError}
use Rattle.osc_protect.specs.declared.protect_error.ProtectError.TheVariants.{NoRoom}
use Rattle.osc_room.specs.Room.{room_of}
use Rattle.osc_examples.proofs.room.seal.Goals as goal

pub returns-in-Ok : goal.returns-in-Ok
returns-in-Ok c = other c.seal_request.result c.seal_request.ensures.refused where
  Refuses : ProtectError → Type 0
  Refuses = RefusesToSeal (sealed_requests c.args.context.now) (number_of c.args.number) (parts_of c.in-Ok.message) (length c.args.out.now)

  room : c.room_for.result ≡ room_of (length c.args.plain.now) c.args.context.now.features.observe
  room = c.room_for.ensures ∙ ap (λ (x : Features). room_of (length c.args.plain.now) x.observe) c.features.ensures.client

  other : (r : Result ℕ ProtectError) → IfErr r Refuses → IfErr r (λ e. e ≢ NoRoom)
  other (Ok n) refuses = tt
  other (Err e) refuses = λ is. c.enough_room.ensures.request _ _ _ _ _ c.known_identifiers.ensures c.in-Ok.ensures.accepted (omega (arith, c.if-out-room_for.false, room)) (subst Refuses is refuses)
