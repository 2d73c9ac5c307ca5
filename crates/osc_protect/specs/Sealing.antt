-- To be believed: what a call that seals a message answers and leaves (RFC 8613, 8.1 and 8.3). f is a protection, i one of its numbers, p
-- what the plain message says, old and new are the buffer before and after.
use Rattle.std.specs.Prelude.{◌≡◌, ◌≤◌, ℕ, List, length, take, drop, Result, IfOk, IfErr, IsOk, IsErrOf, OnErr}
use Rattle.osc_coap.specs.Datagram.{Parts}
use Rattle.osc_protect.specs.Protection.{Protection}
use Rattle.osc_protect.specs.Sealed.{IsSealed}
use Rattle.osc_protect.specs.SealRefusals.{FitsToSeal, RefusesToSeal}
use Rattle.osc_protect.specs.declared.protect_error.ProtectError.{ProtectError}

-- the message stands sealed at the front of the buffer, and nothing behind it changes; or the call names the one reason why it can't be
-- sealed, and changes nothing (RFC 8613, 8.1 and 8.3)
pub record Seals {I : Type 0} (f : Protection I) (i : I) (p : Parts) (old new : List ℕ) (result : Result ℕ ProtectError) : Type 0 where
  pub sealed : IfOk result (λ n. IsSealed f i p (take n new))
  pub within : IfOk result (λ n. n ≤ length new)
  pub behind : IfOk result (λ n. drop n new ≡ drop n old)
  pub accepts : FitsToSeal f i p (length old) → IsOk result
  pub refused : IfErr result (λ e. RefusesToSeal f i p (length old) e)
  pub refuses : (e : ProtectError) → RefusesToSeal f i p (length old) e → IsErrOf result e
  pub unchanged : OnErr result (new ≡ old)
