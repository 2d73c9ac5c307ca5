-- Facts by what a node decided, put together.
use Rattle.osc_client.specs.declared.decision.ClientDecision.{ClientDecision}
use Rattle.osc_life.specs.declared.decision.Decided.{Decided}
use Rattle.osc_node.specs.Deciding.{IfKeeperFailed, IfLayerAlone, IfRequest, IfResponse}
use Rattle.osc_node.specs.declared.node_decision.NodeDecision.{NodeDecision}
use Rattle.osc_node.specs.declared.node_decision.NodeDecision.TheVariants as node

pub three_requested : (x : NodeDecision) (P Q S T : Decided → Type 0) → ((d : Decided) → P d → Q d → S d → T d) → IfRequest x P → IfRequest x Q → IfRequest x S → IfRequest x T
three_requested (node.Request d noted) P Q S T f p q r = f d p q r
three_requested (node.Response call d) P Q S T f p q r = tt
three_requested (node.Repeated again) P Q S T f p q r = tt
three_requested (node.Acknowledged a) P Q S T f p q r = tt
three_requested (node.Reset call) P Q S T f p q r = tt
three_requested node.Rejected P Q S T f p q r = tt
three_requested node.Ignored P Q S T f p q r = tt
three_requested node.NoPlace P Q S T f p q r = tt
three_requested node.KeeperFailed P Q S T f p q r = tt

pub two_heard : (x : NodeDecision) (P Q T : ClientDecision → Type 0) → ((d : ClientDecision) → P d → Q d → T d) → IfResponse x P → IfResponse x Q → IfResponse x T
two_heard (node.Request d noted) P Q T f p q = tt
two_heard (node.Response call d) P Q T f p q = f d p q
two_heard (node.Repeated r) P Q T f p q = tt
two_heard (node.Acknowledged a) P Q T f p q = tt
two_heard (node.Reset call) P Q T f p q = tt
two_heard node.Rejected P Q T f p q = tt
two_heard node.Ignored P Q T f p q = tt
two_heard node.NoPlace P Q T f p q = tt
two_heard node.KeeperFailed P Q T f p q = tt

pub two_failed : (x : NodeDecision) (A B C : Type 0) → (A → B → C) → IfKeeperFailed x A → IfKeeperFailed x B → IfKeeperFailed x C
two_failed (node.Request d noted) A B C f a b = tt
two_failed (node.Response call d) A B C f a b = tt
two_failed (node.Repeated r) A B C f a b = tt
two_failed (node.Acknowledged done) A B C f a b = tt
two_failed (node.Reset call) A B C f a b = tt
two_failed node.Rejected A B C f a b = tt
two_failed node.Ignored A B C f a b = tt
two_failed node.NoPlace A B C f a b = tt
two_failed node.KeeperFailed A B C f a b = f a b

pub one_alone : (x : NodeDecision) (A B : Type 0) → (A → B) → IfLayerAlone x A → IfLayerAlone x B
one_alone (node.Request d noted) A B f a = tt
one_alone (node.Response call d) A B f a = tt
one_alone (node.Repeated r) A B f a = f a
one_alone (node.Acknowledged done) A B f a = f a
one_alone (node.Reset call) A B f a = f a
one_alone node.Rejected A B f a = f a
one_alone node.Ignored A B f a = f a
one_alone node.NoPlace A B f a = f a
one_alone node.KeeperFailed A B f a = tt
