use Rattle.osc_kept.proofs.Examples.{OpeningLaws}
use Rattle.osc_peers.proofs.TwoSources.{one_source_is_needed}
use Rattle.osc_peers.proofs.laws.one_source_is_needed.Goals as goal

pub returns : goal.returns
returns c =
    let laws : OpeningLaws = record { opens = c.sealed_opens.ensures; one = c.one_datagram.ensures.one; notification = c.one_notification.ensures } in
    one_source_is_needed laws
