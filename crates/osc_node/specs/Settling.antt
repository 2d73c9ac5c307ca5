-- How the code is seen: what the message layer decided alone, and sends. t is the layer, text what is sent.
use Rattle.std.specs.Prelude.{◌≡◌, ℕ, List, Some}
use Rattle.osc_message.specs.HearingCalls.{Recalls}
use Rattle.osc_message.specs.Taking.{Layer}
use Rattle.osc_message.specs.declared.exchanges.Call.{Call}
use Rattle.osc_message.specs.declared.messages.Taken.{Taken}
use Rattle.osc_message.specs.declared.messages.Taken.TheVariants as taken
use Rattle.osc_node.specs.Deciding.{SendsAgain}
use Rattle.osc_node.specs.declared.node_decision.NodeDecision.{NodeDecision}
use Rattle.osc_node.specs.declared.node_decision.NodeDecision.TheVariants as node

-- the message layer decided alone (how the code is seen)
abbrev pub IsSettled : Taken → Type 0
IsSettled (taken.Request h) = ⊥
IsSettled (taken.Response call h) = ⊥
IsSettled other = Unit {0}

-- what it sends (how the code is seen)
abbrev pub Settles : Layer → Taken → ℕ → List ℕ → Type 0
Settles t (taken.Repeated r) send text = (from : List ℕ) (id now : ℕ) → Recalls t.came from id now (Some r) → SendsAgain r.again id text
Settles t (taken.Reject bytes) send text = text ≡ bytes
Settles t other send text = send ≡ 0

-- a response to the request of this call was decided about (how the code is seen)
abbrev pub IsAbout : Call → NodeDecision → Type 0
IsAbout call (node.Response to decision) = to ≡ call
IsAbout call decision = ⊥
