use Rattle.osc_kept.proofs.Examples.{OpeningLaws}
use Rattle.osc_peers.proofs.Meeting.{premises_met}
use Rattle.osc_peers.proofs.laws.peer_premises_can_be_met.Goals as goal

pub returns : goal.returns
returns c =
    let laws : OpeningLaws = record { opens = c.sealed_opens.ensures; one = c.one_datagram.ensures.one; notification = c.one_notification.ensures } in
    premises_met laws
