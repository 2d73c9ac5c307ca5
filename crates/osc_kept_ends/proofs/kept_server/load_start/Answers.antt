use Rattle.std.proofs.Common.{◌≡◌, ◌∙◌, ◌<◌, ◌≤◌, refl, arith}
use Rattle.osc_context.specs.Views.{number_of}
use Rattle.osc_kept_ends.specs.Owning.{own_in}
use Rattle.osc_kept_ends.proofs.Drawing.{first_draw}
use Rattle.osc_kept_ends.proofs.kept_server.load_start.Goals as goal

pub returns-then-number-gt0-clause-begins : goal.returns-then-number-gt0-clause-begins
returns-then-number-gt0-clause-begins g c =
    let first = number_of c.in-Ok.started.1 in
    let above : 0 < c.number.result = c.if-number-gt0.true in
    let value : c.number.result ≡ first = c.number.ensures.value in (
      first,
      c.in-Ok.started.0.keeper,
      c.in-Ok.ensures.begins.0,
      (refl, λ zero. omega (arith, above, value, zero)),
      c.in-Ok.ensures.begins.1.1,
      c.in-Ok.ensures.begins.0.1,
      c.in-Ok.ensures.begins.1.0,
    )

pub returns-clause-begins : goal.returns-clause-begins
returns-clause-begins g c =
    let first = number_of c.in-Ok.started.1 in
    let low : c.number.result ≤ 0 = c.if-number-gt0.false in
    let value : c.number.result ≡ first = c.number.ensures.value in
    let zero : first ≡ 0 = omega (arith, low, value) in
    let drawn = first_draw (own_in c.in-Ok.started.0) (own_in c.draw.new.self) (g.K.Keeper.floor c.args.keeper) first c.in-Ok.ensures.begins.1.1 c.in-Ok.ensures.begins.1.0.1 (c.in-Ok-draw.ensures.drawn refl) in (
      first,
      c.in-Ok.started.0.keeper,
      c.in-Ok.ensures.begins.0,
      (refl, zero),
      drawn,
      c.in-Ok-draw.ensures.worked refl ∙ c.in-Ok.ensures.begins.0.1,
      c.in-Ok.ensures.begins.1.0,
    )
