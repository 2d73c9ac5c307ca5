-- For the proofs: that there is a list of events that meets all premises on two ends (RFC 8613, 8.1 to 8.4 and B.1.2). From first the
-- server delivers received, and from the response to it the client delivers answered; from the challenge to second the client delivers
-- challenged, and from again the server delivers admitted.
use Rattle.std.specs.Prelude.{ℕ, List}
use Rattle.osc_coap.specs.Datagram.{Parts}
use Rattle.osc_context.specs.SecurityContext.{SecurityContext}
use Rattle.osc_observe.specs.Received.{Received}
use Rattle.osc_kept.specs.Examples.{Ends, Asked, exchange, restarts, through_a_challenge}
use Rattle.osc_kept.specs.Premises.{IsKept}

-- an exchange, a restart of both ends, a challenge and a delivery through it, for a client with room for n pending requests (RFC 8613, B.1.2)
pub record PremisesAreMet (n : ℕ) : Type 0 where
  pub context : SecurityContext
  pub ends : Ends
  pub first : Asked
  pub second : Asked
  pub again : Asked
  pub received : Received
  pub challenged : Received
  pub admitted : Received
  pub answered : Received
  pub echo : List ℕ
  pub response : List ℕ
  pub challenge : List ℕ
  pub reply : Parts
  pub room : ℕ
  pub is_kept : IsKept n context
      (through_a_challenge second again echo challenge challenged admitted (restarts second (exchange ends first received echo reply room response answered)))
