-- For the proofs: what a server is where a delivery is taken back, since its number couldn't be kept. old and new are the server before and after, g is its
-- history before the delivery, left is the datagram as it was left.
use Rattle.std.specs.Prelude.{◌≡◌, ℕ, List, Option, Some}
use Rattle.osc_window.specs.declared.gate.Gate.{Gate}
use Rattle.osc_endpoint.specs.declared.server.ServerOf.{ServerOf}
use Rattle.osc_endpoint.specs.Agrees.{Agrees}
use Rattle.osc_endpoint.specs.ServerAnswer.{ServerAnswer}
use Rattle.osc_life.specs.declared.decision.Decision.{Decision}
use Rattle.osc_life.specs.declared.decision.Decision.TheVariants.{Deliver}
use Rattle.osc_life.specs.Agrees.{HasGate}
use Rattle.osc_life.specs.Deciding.{Decides}
use Rattle.osc_life.specs.Life.{Life}
use Rattle.osc_life.specs.ServerHistory.{Advance, Advanced, Answer, Datagram, History, Then, Took, life}
use Rattle.osc_kept_ends.specs.KeptServing.{IsKept}

-- the gate is that of the one context of this history (how the code is seen)
abbrev pub IsGateOf : Option Gate → History → Type 0
IsGateOf gate g = (l : Life) → life g 0 ≡ Some l → HasGate gate l

-- whatever was answered by this decision, the server is as if the datagram had only moved its clock (own rule)
abbrev pub IsTakenBack : Decision → Option Gate → ServerOf 1 → ServerOf 1 → Type 0
IsTakenBack decision gate old new = (s : ServerOf 1) (next : ℕ) (g : History) (now mid : ℕ) (echo d left reply : List ℕ) (answer : Answer) → IsKept s next g → IsGateOf gate g
    → ServerAnswer g (Datagram now echo mid d) (Took answer reply) → Decides decision left answer → Agrees old (Then g (Datagram now echo mid d) (Took answer reply))
    → Agrees new (Then g (Advance now) Advanced)

-- the decision is a delivery (how the code is seen)
abbrev pub IsDelivery : Decision → Type 0
IsDelivery (Deliver x ticket) = Unit {0}
IsDelivery decision = ⊥
