use Rattle.osc_kept.proofs.Examples.{OpeningLaws, premises_met}
use Rattle.osc_kept.proofs.Observation.{observation_met}
use Rattle.osc_kept.proofs.laws.premises_can_be_met.Goals as goal

pub returns : goal.returns
returns c =
    let laws : OpeningLaws = record { opens = c.sealed_opens.ensures; one = c.one_datagram.ensures.one; notification = c.one_notification.ensures } in
    record { plain = premises_met laws; registering = observation_met laws }
