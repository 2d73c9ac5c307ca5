use Rattle.osc_kept.proofs.Examples.{OpeningLaws, forgery_breaks, number_out_of_order_breaks, repeated_value_breaks}
use Rattle.osc_kept.proofs.Needed.{fresh_again_breaks, own_out_of_order_breaks}
use Rattle.osc_kept.proofs.laws.premises_are_needed.Goals as goal

pub returns : goal.returns
returns c =
    let laws : OpeningLaws = record { opens = c.sealed_opens.ensures; one = c.one_datagram.ensures.one; notification = c.one_notification.ensures } in
    record {
      forgery = forgery_breaks;
      repeated_value = repeated_value_breaks laws;
      out_of_order = number_out_of_order_breaks laws;
      own_out_of_order = own_out_of_order_breaks laws;
      fresh_again = fresh_again_breaks laws;
    }
