-- To be believed: Echo options in plain messages, and the Echo value that a client heard last (RFC 7252, 5.4.3; RFC 9175, 2.2.1 and 2.3). p is a plain message,
-- heard the value that was heard last, if there was one.
use Rattle.std.specs.Prelude.{◌≡◌, ℕ, List, Option, None, Some}
use Rattle.osc_coap.specs.Datagram.{Parts}
use Rattle.osc_coap.specs.Interpreted.{interpreted}
use Rattle.osc_coap.specs.OptionNumbers as options
use Rattle.osc_coap.specs.Search.{first_of, values_at}
use Rattle.osc_protect.specs.Views.{message_of}
use Rattle.osc_client.specs.declared.client_outcome.ClientOutcome.{ClientOutcome}
use Rattle.osc_client.specs.declared.client_outcome.ClientOutcome.TheVariants as outcomes

-- the value of the first Echo option of the message, if there is one (RFC 9175, 2.2.1)
abbrev pub echo_in : Parts → Option (List ℕ)
echo_in p = first_of (values_at options.echo p.options)

-- the message has no Echo option, or the value that was heard last (RFC 9175, 2.3)
abbrev pub EchoesOnly : Option (List ℕ) → Parts → Type 0
EchoesOnly heard p = (value : List ℕ) → echo_in p ≡ Some value → heard ≡ Some value

-- the later value, if there is one, else the earlier (own rule)
abbrev pub latest : Option (List ℕ) → Option (List ℕ) → Option (List ℕ)
latest None earlier = earlier
latest (Some value) earlier = Some value

-- the value that was heard last after an outcome: that of its message, if it delivers one with an Echo value (RFC 9175, 2.3)
abbrev pub heard_after : ClientOutcome → Option (List ℕ) → Option (List ℕ)
heard_after (outcomes.Notified o piv) heard = latest (interpreted options.echo (message_of o).options) heard
heard_after (outcomes.Deliver o piv) heard = latest (interpreted options.echo (message_of o).options) heard
heard_after outcome heard = heard
