-- For the proofs: what holds of all that answers a request, whether or not the request registers an observation.
use Rattle.std.specs.Prelude.{ℕ, Bool}
use Rattle.osc_context.specs.SecurityContext.{SecurityContext}
use Rattle.osc_protect.specs.Laws.{OneMessage, ProtectionsShowHeads}
use Rattle.osc_protect.specs.Protection.{responses_to}

-- a datagram protects at most one response to a request, or has at most one refusal, whether the request registers an observation or not (RFC 8613, 8.4)
abbrev pub OneAwaited : Type 0
OneAwaited = (s : SecurityContext) (registers : Bool) (n : ℕ) → OneMessage (responses_to s registers n)

-- a protected response shows its head, whether the request registers an observation or not (RFC 8613, 8.3)
abbrev pub AwaitedShowHeads : Type 0
AwaitedShowHeads = (s : SecurityContext) (registers : Bool) (n : ℕ) → ProtectionsShowHeads (responses_to s registers n)
