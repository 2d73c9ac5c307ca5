use Rattle.std.proofs.Common.{ℕ, subst}
use Rattle.osc_context.specs.SecurityContext.{SecurityContext}
use Rattle.osc_context.specs.Views.{as_server}
use Rattle.osc_window.specs.declared.window_size.WindowSize.TheVariants.{Places32}
use Rattle.osc_life.specs.declared.start.Start.TheVariants as starts
use Rattle.osc_life.specs.ServerHistory as serving
use Rattle.osc_callers.specs.Calls.{ServerGoes}
use Rattle.osc_callers.proofs.tests.premises.steps.start_server.Goals as goal

pub returns-in-Ok : goal.returns-in-Ok
returns-in-Ok c = λ s is.
    let zero = c.in_ok-zero.zero in
    let goes : SecurityContext → ℕ → Type 0 = λ z i. ServerGoes serving.Begin (serving.Add z (starts.Fresh zero) Places32 1) (serving.Added i) c.add.new.self in
    let row = c.in-Ok.ensures.answered serving.Begin c.new-server.ensures in
    let went : goes (as_server c.args.context) c.in-Ok.field-0 = (row, c.in-Ok.ensures.follows serving.Begin c.new-server.ensures) in (
      zero,
      c.in_ok-zero.ensures.made,
      subst (λ z. goes z 0) is (subst (λ i. goes (as_server c.args.context) i) row.1.2 went),
    )
