-- For the proofs: what holds for all bytes in the layers below.
use Rattle.osc_coap.specs.Laws.{DatagramIsOneMessage, DatagramHasOneFault, DatagramHasNoFault, PlaintextIsOneMessage, PlaintextHasNoFault}
use Rattle.osc_context.specs.Laws.{OneValue, ValueNumberInRange}
use Rattle.osc_ccm.specs.Laws.{OnePlaintext, ProtectionLength}

-- the laws of the layers below, one field each (RFC 7252, 3; RFC 8613, 5.3 and 6.1; RFC 3610, 2)
pub record LayerLaws : Type 0 where
  pub one : DatagramIsOneMessage
  pub never_both : DatagramHasNoFault
  pub one_fault : DatagramHasOneFault
  pub inner_one : PlaintextIsOneMessage
  pub inner_never_both : PlaintextHasNoFault
  pub one_value : OneValue
  pub value_number : ValueNumberInRange
  pub one_plaintext : OnePlaintext
  pub protection_length : ProtectionLength
