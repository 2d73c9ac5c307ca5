use Rattle.std.proofs.Common.{◌∙◌, sym, ap, subst}
use Rattle.osc_context.specs.Views.{as_server}
use Rattle.osc_life.specs.ServerHistory.{Begin, Then, Add, Added}
use Rattle.osc_kept_ends.specs.KeptServing.{IsKept}
use Rattle.osc_kept_ends.specs.Numbering.{upcoming}
use Rattle.osc_kept_ends.specs.Owning.{own_in}
use Rattle.osc_kept_ends.proofs.kept_server.KeptServer.start.Goals as goal

pub returns-in-Ok-clause-begins : goal.returns-in-Ok-clause-begins
returns-in-Ok-clause-begins g c =
    let same = c.begin.ensures.source in
    let (loaded, mid, is, starts, own, failures, allowed) = c.in-Ok.ensures.begins in (
      loaded,
      mid,
      c.in-Ok.start,
      is,
      starts,
      ap own_in same ∙ own,
      ap (λ s. g.K.Keeper.failures s.keeper) same ∙ failures,
      subst (λ s. IsKept c.begin.result.server (upcoming (own_in s)) (Then Begin (Add (as_server c.args.context) c.in-Ok.start c.args.size 1) (Added 0))) (sym same) c.begin.ensures.kept,
      allowed,
    )
