use Rattle.std.proofs.Common.{◌∙◌, sym}
use Rattle.osc_kept_ends.proofs.SharedLemmas.{some_there}
use Rattle.osc_kept_ends.proofs.moving.KeptPeer+SharedRecord+K+Q+N.has_source.Goals as goal

pub returns : goal.returns
returns g c =
    let same = some_there c.args.self.now.source.keeper.sender in
    (λ t. same ∙ sym c.is_some.ensures ∙ t, λ t. c.is_some.ensures ∙ sym same ∙ t)
