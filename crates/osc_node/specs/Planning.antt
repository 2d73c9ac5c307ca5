-- How the code is seen: how a response is to be sent. old and new are the message layer, before and after the counters of Message IDs.
use Rattle.std.specs.Prelude.{◌≡◌, ℕ, Some}
use Rattle.osc_coap.specs.declared.message.Kind.{Kind}
use Rattle.osc_coap.specs.declared.message.Kind.TheVariants.{Ack, Con, Non}
use Rattle.osc_message.specs.Calls.{IsFirstReason}
use Rattle.osc_message.specs.Hearing.{Heard}
use Rattle.osc_message.specs.HearingCalls.{IsInMind, WayBy}
use Rattle.osc_message.specs.MessageIds.{Counted, Gives}
use Rattle.osc_message.specs.Taking.{Layer}
use Rattle.osc_message.specs.declared.arrival.Way.TheVariants.{InAck, Separate}
use Rattle.osc_message.specs.declared.arrivals.Arrived.{Arrived}
use Rattle.osc_message.specs.declared.exchanges.BeginError.{BeginError}
use Rattle.osc_node.specs.declared.planning.Plan.{Plan}
use Rattle.osc_node.specs.declared.planning.Plan.TheVariants as plans
use Rattle.osc_node.specs.declared.responding.Responded.{Responded}
use Rattle.osc_node.specs.declared.responding.Responded.TheVariants as responded

-- the Message ID that the response is sealed with (how the code is seen)
abbrev pub id_of : Plan → ℕ
id_of (plans.InAck id) = id
id_of (plans.Non id) = id
id_of (plans.Con to id) = id

-- the Type that the response is sent with (how the code is seen)
abbrev pub type_of : Plan → Kind
type_of (plans.InAck id) = Ack
type_of (plans.Non id) = Non
type_of (plans.Con to id) = Con

-- the response can be sent so (how the code is seen)
abbrev pub CanSend : Layer → Arrived → Kind → Plan → Type 0
CanSend t a kind (plans.InAck id) = WayBy t.came a (Some InAck)
CanSend t a kind (plans.Non id) = WayBy t.came a (Some Separate) × (kind ≡ Con → ⊥)
CanSend t a kind (plans.Con to id) = WayBy t.came a (Some Separate) × (kind ≡ Con) × (x : Heard) × IsInMind t.came a x × (to.items ≡ x.from)
    × ((e : BeginError) → IsFirstReason t.sent x.from e → ⊥)

-- the plan has the request's Message ID, or one that was given for it (how the code is seen)
abbrev pub IsPlanned : Counted → Counted → ℕ → ℕ → Plan → Type 0
IsPlanned before after now request (plans.InAck id) = (id ≡ request) × (after ≡ before)
IsPlanned before after now request (plans.Non id) = Gives before after now id
IsPlanned before after now request (plans.Con to id) = Gives before after now id

-- the response is sent as it was planned (how the code is seen)
abbrev pub Carries : Plan → Responded → Type 0
Carries (plans.InAck id) (responded.InAck len) = Unit {0}
Carries (plans.Non id) (responded.Non len) = Unit {0}
Carries (plans.Con to id) (responded.Con s) = Unit {0}
Carries plan r = ⊥
