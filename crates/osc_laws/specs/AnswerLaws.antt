-- For the proofs: what holds for all datagrams in the layers below, from which it follows that a server has one answer, and a client too.
use Rattle.osc_coap.specs.Laws.{DatagramHasNoFault, DatagramIsOneMessage, PartsHaveOneDatagram}
use Rattle.osc_protect.specs.Laws.{NotificationsShowHeads, OneRequest, OneRequestHead, OneResponseHead, OneSealed, ResponsesShowHeads}
use Rattle.osc_client.specs.Awaited.{AwaitedShowHeads, OneAwaited}

-- the laws of the layers below, one field each (RFC 7252, 3; RFC 8613, 8.1 to 8.3)
pub record AnswerLaws : Type 0 where
  pub one : DatagramIsOneMessage
  pub text : PartsHaveOneDatagram
  pub head : OneRequestHead
  pub request : OneRequest
  pub sealed : OneSealed

-- the same for the one answer of a client (RFC 7252, 3; RFC 8613, 8.1 and 8.4)
pub record ClientAnswerLaws : Type 0 where
  pub one : DatagramIsOneMessage
  pub no_fault : DatagramHasNoFault
  pub head : OneResponseHead
  pub response : OneAwaited
  pub shows : AwaitedShowHeads
  pub sealed : OneSealed

-- all that a server seals shows its head, whether its request registers an observation or not (RFC 8613, 8.3 and 8.3.1)
pub record SealedHeads : Type 0 where
  pub response : ResponsesShowHeads
  pub notification : NotificationsShowHeads
