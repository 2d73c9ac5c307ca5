-- To be believed: what opening returns (RFC 8613, 8.2 and 8.4). f is a protection, of requests or of responses, d a datagram, p the parts
-- of a message, o the opened message.
use Rattle.std.specs.Prelude.{◌≡◌, ◌≢◌, ℕ, List, Result, IfOk, IfErr, IsOkAnd, IsErrOf}
use Rattle.osc_coap.specs.Datagram.{Parts, IsDatagram}
use Rattle.osc_coap.specs.Inner.{InnerParts}
use Rattle.osc_coap.specs.Search.{values_at, first_of}
use Rattle.osc_coap.specs.OptionNumbers.{uri_host, uri_port}
use Rattle.osc_protect.specs.Protection.{Protection, Protects}
use Rattle.osc_protect.specs.Refusals.{RefusesToOpen}
use Rattle.osc_protect.specs.Views.{shown, message_of, opened_number}
use Rattle.osc_protect.specs.declared.opened.Opened.{Opened}
use Rattle.osc_protect.specs.declared.unprotect_error.UnprotectError.{UnprotectError}
use Rattle.osc_protect.specs.declared.unprotect_error.UnprotectError.TheVariants.{WrongContext}
use Rattle.osc_protect.specs.declared.usage.Usage.TheVariants.{Response}

-- what comes from outside the protection: the head, and the first Uri-Host and Uri-Port (RFC 8613, 8.2 and 8.4)
pub record ShowsOuter (p : Parts) (o : Opened) : Type 0 where
  pub kind : o.kind ≡ p.kind
  pub message_id : o.message_id ≡ p.message_id
  pub token : o.token.items ≡ p.token
  pub uri_host : shown o.uri_host ≡ first_of (values_at uri_host p.options)
  pub uri_port : shown o.uri_port ≡ first_of (values_at uri_port p.options)

-- the datagram protects the opened message, and shows the rest outside the protection (RFC 8613, 8.2 and 8.4)
pub record Opens {I : Type 0} (f : Protection I) (d : List ℕ) (o : Opened) : Type 0 where
  pub number : I
  pub number_is : opened_number o ≡ (f.parts number).piv
  pub protects : Protects f number (message_of o) d
  pub outer : Parts
  pub datagram : IsDatagram outer d
  pub shows : ShowsOuter outer o

-- what a call that opens a datagram answers: whatever message the datagram protects, that message opens; otherwise the call names the one
-- reason why it doesn't, which for a response is never the context (RFC 8613, 8.2 and 8.4)
pub record OpensExactly {I : Type 0} (f : Protection I) (d : List ℕ) (result : Result Opened UnprotectError) : Type 0 where
  pub opened : IfOk result (λ o. Opens f d o)
  pub accepts : (i : I) (m : InnerParts) → Protects f i m d → IsOkAnd result (λ o. (opened_number o ≡ (f.parts i).piv) × (message_of o ≡ m))
  pub refused : IfErr result (λ e. RefusesToOpen f d e)
  pub refuses : (e : UnprotectError) → RefusesToOpen f d e → IsErrOf result e
  pub no_wrong_context : f.usage ≡ Response → IfErr result (λ e. e ≢ WrongContext)
