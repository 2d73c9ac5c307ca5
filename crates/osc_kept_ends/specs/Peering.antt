-- To be believed: an end that asks and answers under one context, with one source of numbers for both roles (RFC 8613, 3.1, 7.2.1, 7.4 and B.1): a role passes
-- over the numbers that the other one has before it seals, and the number of a request is kept before the request is delivered. h and g are histories of its
-- server, k and m of its client, next is the number with which the end seals next, old, mid and new are its numbers.
use Rattle.std.specs.Prelude.{◌≡◌, ◌≢◌, ◌⊎◌, ℕ, ◌+◌, ◌<◌, ◌≤◌, ◌^◌, List, Some, true, max, min}
use Rattle.std.specs.Option.{option_map}
use Rattle.osc_context.specs.Views.{number_of}
use Rattle.osc_client.specs.declared.client.Client.{Client}
use Rattle.osc_client.specs.Agrees.{ClientAgrees}
use Rattle.osc_client.specs.ClientAnswer.{ClientAnswer}
use Rattle.osc_client.specs.ClientHistory as client
use Rattle.osc_endpoint.specs.declared.server.ServerOf.{ServerOf}
use Rattle.osc_endpoint.specs.Agrees.{Agrees}
use Rattle.osc_endpoint.specs.ServerAnswer.{ServerAnswer}
use Rattle.osc_life.specs.declared.decision.Decided.{Decided}
use Rattle.osc_life.specs.declared.decision.Decision.{Decision}
use Rattle.osc_life.specs.declared.decision.Decision.TheVariants as decisions
use Rattle.osc_life.specs.declared.outcome.Outcome.{Outcome}
use Rattle.osc_life.specs.declared.outcome.Outcome.TheVariants as outcomes
use Rattle.osc_life.specs.declared.start.Fresh.{Fresh}
use Rattle.osc_life.specs.declared.start.Start.{Start}
use Rattle.osc_life.specs.declared.start.Start.TheVariants as starts
use Rattle.osc_life.specs.Life.{next_own}
use Rattle.osc_life.specs.ServerHistory as server
use Rattle.osc_life.specs.Views.{values_of}
use Rattle.osc_kept_ends.specs.KeptAsking as asking
use Rattle.osc_kept_ends.specs.KeptServing as serving
use Rattle.osc_kept_ends.specs.Numbering.{Own, Draws, upcoming}

-- the server has the one context, and every number that it used or passed over is below this one (RFC 8613, 7.2.1)
pub record ServerIsBehind (s : ServerOf 1) (next : ℕ) (h : server.History) : Type 0 where
  pub agrees : Agrees s h
  pub one : server.added h ≡ 1
  pub reached : ℕ
  pub reached_is : option_map next_own (server.life h 0) ≡ Some reached
  pub least : reached ≤ next

-- the same of the client (RFC 8613, 7.2.1)
pub record ClientIsBehind {N : ℕ} (c : Client N) (next : ℕ) (k : client.History) : Type 0 where
  pub agrees : ClientAgrees c k
  pub least : client.next k ≤ next

-- the server passes over the numbers that the client has (RFC 8613, 7.2.1)
pub record ServerPasses (h g : server.History) : Type 0 where
  pub count : ℕ
  pub row : ServerAnswer h (server.Skip 0 count) server.Skipped
  pub is : g ≡ server.Then h (server.Skip 0 count) server.Skipped

-- the client passes over the numbers that the server has (RFC 8613, 7.2.1)
pub record ClientPasses (n : ℕ) (k m : client.History) : Type 0 where
  pub count : ℕ
  pub row : ClientAnswer n k (client.Skip count) client.Skipped
  pub is : m ≡ client.Then k (client.Skip count) client.Skipped

-- the record wasn't written, or both numbers were: its floor is then the first number that isn't reserved (RFC 8613, B.1.1)
abbrev pub IsKeptOn : Own → Own → Type 0
IsKeptOn mid new = (new ≡ mid) ⊎ (new ≡ record mid { floor = mid.limit })

-- the server passes over numbers, and then answers the event as a kept server does (RFC 8613, 8.2 and 8.3)
abbrev pub PeerStep : server.History → server.Event → server.Entry → Own → Own → ServerOf 1 → Type 0
PeerStep h event entry old new s = (g : server.History) × ServerPasses h g × serving.KeptStep g event entry old new s

-- what was decided about a datagram, and the number that was kept if a request is delivered (RFC 8613, 7.4 and 8.2)
pub record PeerDecides (h : server.History) (now : ℕ) (fresh : Fresh) (d : List ℕ) (result : Decided) (left reply : List ℕ) (old new : Own) (s : ServerOf 1) : Type 0 where
  pub g : server.History
  pub passes : ServerPasses h g
  pub mid : Own
  pub decides : serving.KeptDecides g now fresh d result left reply old mid s
  pub kept_on : IsKeptOn mid new

-- what became of a datagram (RFC 8613, 7.4 and 8.2)
pub record PeerTakes (h : server.History) (now : ℕ) (fresh : Fresh) (d : List ℕ) (outcome : Outcome) (reply : List ℕ) (old new : Own) (s : ServerOf 1) : Type 0 where
  pub g : server.History
  pub passes : ServerPasses h g
  pub mid : Own
  pub takes : serving.KeptTakes g now fresh d outcome reply old mid s
  pub kept_on : IsKeptOn mid new

-- a number is drawn, or none (own rule: a call that fails afterwards leaves it in hand)
abbrev pub MayDraw : Own → Own → Type 0
MayDraw old new = (new ≡ old) ⊎ Draws true old new

-- a call whose record failed moves the clock alone; it may have passed over numbers, and drawn one, which is in hand still (RFC 8613, B.1.1)
pub record ServerWaits (h : server.History) (now : ℕ) (old new : Own) (s : ServerOf 1) : Type 0 where
  pub g : server.History
  pub passes : (g ≡ h) ⊎ ServerPasses h g
  pub mid : Own
  pub drawn : MayDraw old mid
  pub kept_on : IsKeptOn mid new
  pub behind : ServerIsBehind s (upcoming new) (server.Then g (server.Advance now) server.Advanced)

-- if it is a delivery, its number is below this one (RFC 8613, 7.4)
abbrev pub DeliversBelow : Decision → ℕ → Type 0
DeliversBelow (decisions.Deliver x ticket) received = (values_of ticket).number < received
DeliversBelow decision received = Unit {0}

-- the same of an outcome (RFC 8613, 7.4)
abbrev pub TakesBelow : Outcome → ℕ → Type 0
TakesBelow (outcomes.Deliver o ticket) received = (values_of ticket).number < received
TakesBelow outcome received = Unit {0}

-- the number that is known to be above all that was received, once one more was: the greater of what it was, and the number behind that one with those that are kept
-- ahead, which is at most 2 ^ 40 (RFC 8613, 7.4; own rule: numbers kept ahead)
abbrev pub received_with : ℕ → ℕ → ℕ → ℕ
received_with ahead received number = max received (min (number + 1 + ahead) (2 ^ 40))

-- the same after a decision: a delivery receives one more (RFC 8613, 7.4)
abbrev pub received_by : ℕ → ℕ → Decision → ℕ
received_by ahead received (decisions.Deliver x ticket) = received_with ahead received (values_of ticket).number
received_by ahead received decision = received

-- the same after an outcome (RFC 8613, 7.4)
abbrev pub received_at : ℕ → ℕ → Outcome → ℕ
received_at ahead received (outcomes.Deliver o ticket) = received_with ahead received (values_of ticket).number
received_at ahead received outcome = received

-- the client passes over numbers, and then answers the event as a kept client does (RFC 8613, 8.1)
abbrev pub AskStep : {N : ℕ} → client.History → client.Event → client.Entry → Own → Own → Client N → Type 0
AskStep {N = N} k event entry old new c = (m : client.History) × ClientPasses N k m × asking.KeptStep m event entry old new c

-- how a life begins with the two numbers that were loaded: fresh if and only if both are 0; with the gate closed if no received number was kept, but numbers
-- were; else above all that was received. If received numbers are kept so many ahead, the last of those are in doubt (RFC 8613, 7.4, 7.5, B.1.1 and B.1.2)
abbrev pub IsPeerStart : ℕ → Start → ℕ → ℕ → Type 0
IsPeerStart ahead (starts.Fresh first) sender received = (number_of first ≡ sender) × (sender ≡ 0) × (received ≡ 0)
IsPeerStart ahead (starts.Restarted first) sender received = (number_of first ≡ sender) × (sender ≢ 0) × (received ≡ 0)
IsPeerStart ahead (starts.Received first highest) sender received = (number_of first ≡ sender) × (number_of highest + 1 ≡ received) × (ahead ≡ 0)
IsPeerStart ahead (starts.Reserved first highest kept) sender received =
    (number_of first ≡ sender) × (number_of highest + 1 ≡ received) × (kept ≡ ahead) × (ahead ≢ 0)
