-- To be believed: what a client hears that tells challenges from other responses (RFC 9175, 2.3; own rule: what a challenge says of its request). m is the message
-- of a response.
use Rattle.std.specs.Prelude.{◌≡◌, ℕ, List, Some, true, false}
use Rattle.osc_coap.specs.Inner.{InnerParts}
use Rattle.osc_coap.specs.Interpreted.{interpreted}
use Rattle.osc_coap.specs.OptionNumbers as options
use Rattle.osc_protect.specs.Views.{message_of}
use Rattle.osc_client.specs.declared.client_outcome.ClientOutcome.{ClientOutcome}
use Rattle.osc_client.specs.declared.client_outcome.ClientOutcome.TheVariants as outcomes
use Rattle.osc_fresh.specs.declared.challenged.Challenged.{Challenged}
use Rattle.osc_fresh.specs.declared.followed.Followed.{Followed}
use Rattle.osc_fresh.specs.declared.followed.Followed.TheVariants as followed
use Rattle.osc_fresh.specs.Wishing.{SaysUnobeyed}

-- the response is this challenge: a 4.01 with its Echo value, which says that the request wasn't obeyed if and only if it has that text (RFC 9175, 2.3)
pub record IsChallenge (m : InnerParts) (c : Challenged) : Type 0 where
  pub code : m.code ≡ 129
  pub echo : interpreted options.echo m.options ≡ Some c.echo.now
  pub yes : c.unobeyed ≡ true → SaysUnobeyed m
  pub no : c.unobeyed ≡ false → SaysUnobeyed m → ⊥

-- if the outcome delivers a response that ends its request, that is no 4.01 with an Echo value (RFC 9175, 2.3)
abbrev pub IsNoChallenge : ClientOutcome → Type 0
IsNoChallenge (outcomes.Deliver o piv) = (value : List ℕ) → (message_of o).code ≡ 129 → interpreted options.echo (message_of o).options ≡ Some value → ⊥
IsNoChallenge outcome = Unit {0}

-- what a client that follows makes of an outcome: a delivered challenge with the number of its request, and everything else as it is (own rule)
abbrev pub Follows : Followed → ClientOutcome → Type 0
Follows (followed.Challenged c number) (outcomes.Deliver o piv) = (number ≡ piv) × IsChallenge (message_of o) c
Follows (followed.Heard x) outcome = (x ≡ outcome) × IsNoChallenge outcome
Follows x outcome = ⊥

-- an outcome of which it makes this, and of which that holds (own rule)
abbrev pub FollowsOne : Followed → (ClientOutcome → Type 0) → Type 0
FollowsOne x holds = (outcome : ClientOutcome) × Follows x outcome × holds outcome
