use Rattle.std.proofs.Common.{◌∙◌, ap, rules}
use Rattle.std.proofs.Math.Logic.{∥∥₁_map}
use Rattle.osc_context.specs.Views.{as_server}
use Rattle.osc_life.specs.ServerHistory.{Replace, Replaced, Then}
use Rattle.osc_kept_ends.specs.Numbering.{upcoming}
use Rattle.osc_kept_ends.specs.Owning.{own_in}
use Rattle.osc_kept_ends.proofs.ServerSteps.{replaced}
use Rattle.osc_kept_ends.proofs.kept_server.KeptServer.replace.Goals as goal

pub invariant_of-self : goal.invariant_of-self
invariant_of-self g c =
    let by = as_server c.args.context in
    let start = c.in-Ok.loaded.1 in
    record {
      kept = ∥∥₁_map c.args.self.now.kept (λ (h, k). (
        Then h (Replace 0 by start c.args.size) Replaced,
        replaced c.args.self.now.server c.replace_checked.new.self h by start c.args.size _ _ k (c.replace_checked.ensures h k.agrees (c.in_default.ensures.answered h k.agrees))
            (ap (λ s. upcoming (own_in s)) c.replace.ensures.after ∙ c.in-Ok.ensures.first by c.args.size),
      ));
    }

pub returns-clause-begins : goal.returns-clause-begins
returns-clause-begins g c = λ yes.
    let by = as_server c.args.context in
    let start = c.in-Ok.loaded.1 in
    let same = c.replace.ensures.after in
    let (loaded, mid, is, starts, own, failures, allowed) = c.in-Ok.ensures.begins in (
      loaded,
      mid,
      start,
      is,
      starts,
      ap own_in same ∙ own,
      ap (λ s. g.K.Keeper.failures s.keeper) same ∙ failures,
      allowed,
      λ h k. (
        (search rules, c.in_default.ensures.answered h k.agrees),
        replaced c.args.self.now.server c.replace_checked.new.self h by start c.args.size _ _ k (c.replace_checked.ensures h k.agrees (c.in_default.ensures.answered h k.agrees))
            (ap (λ s. upcoming (own_in s)) same ∙ c.in-Ok.ensures.first by c.args.size),
      ),
    )
