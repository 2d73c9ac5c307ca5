-- To be believed: how a server asks for fresh requests, and which are fresh (RFC 8613, 7.3; RFC 9175, 2.3 and A, method 3). last is the last challenge, m the message
-- of a request that is delivered at the moment now, ms how old it may be; moments are in milliseconds.
use Rattle.std.specs.Prelude.{◌≡◌, ℕ, ◌+◌, ◌≤◌, List, Option, Some, codes}
use Rattle.osc_coap.specs.Datagram.{Parts}
use Rattle.osc_coap.specs.Inner.{InnerParts}
use Rattle.osc_coap.specs.Interpreted.{interpreted}
use Rattle.osc_coap.specs.OptionNumbers as options
use Rattle.osc_life.specs.Replies.{challenge_message}
use Rattle.osc_kept_ends.specs.EchoNumber.{echo_of}

-- the text of a response that says that its request wasn't obeyed (RFC 7252, 5.5.2; own rule: the text)
abbrev pub not_obeyed : List ℕ
not_obeyed = codes "not obeyed"

-- the message of a challenge to a request that isn't obeyed: 4.01, with Echo and this value as its only option, and that text (RFC 7252, 5.5.2; RFC 9175, 2.3)
abbrev pub unobeyed_message : List ℕ → Parts
unobeyed_message echo = record (challenge_message echo) { payload = not_obeyed }

-- the response says that its request wasn't obeyed: it is a 4.01 with that text (own rule)
pub record SaysUnobeyed (m : InnerParts) : Type 0 where
  pub code : m.code ≡ 129
  pub text : m.payload ≡ not_obeyed

-- a challenge: the number that its Echo value is made of, and when it was sealed (RFC 9175, 2.3 and A, method 3)
pub record Asked : Type 0 where
  pub number : ℕ
  pub moment : ℕ

-- the request carries the value of the last challenge, which was sealed so long before (RFC 8613, 7.3; RFC 9175, 2.3)
abbrev pub IsKnown : Option Asked → InnerParts → ℕ → ℕ → Type 0
IsKnown last m age now = (c : Asked) × (last ≡ Some c) × (interpreted options.echo m.options ≡ Some (echo_of c.number)) × (c.moment + age ≡ now)

-- the request is known to be so old at most (RFC 8613, 7.3)
abbrev pub IsFresh : ℕ → Option Asked → InnerParts → ℕ → Type 0
IsFresh ms last m now = (age : ℕ) × IsKnown last m age now × (age ≤ ms)
