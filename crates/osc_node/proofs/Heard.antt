-- A response that a node heard.
use Rattle.std.proofs.Common.{◌≡◌, arith, ℕ, List, [], refl}
use Rattle.std.specs.Prelude.{Bool, true, false}
use Rattle.osc_message.specs.Calls.{EndsCall, IsOnItsWay}
use Rattle.osc_message.specs.Table.{Table}
use Rattle.osc_message.specs.Taking.{Layer}
use Rattle.osc_message.specs.declared.exchanges.Call.{Call}
use Rattle.osc_message.specs.declared.messages.Heading.{Heading}
use Rattle.osc_node.specs.Deciding.{HearsResponse, KeepsResponse, SendsAck}

-- a call that is on its way ends
pub ends_now : (old new : Table) (call : Call) (ended : Bool) → IsOnItsWay old call → EndsCall old new call ended → EndsCall old new call true
ends_now old new call false on (same, never) = absurd (never on)
ends_now old new call true on ends = ends

pub hears : (old new : Layer) (from : List ℕ) (h : Heading) (now : ℕ) (call : Call) (heard : Bool) → heard ≡ true → EndsCall old.sent new.sent call true
    → KeepsResponse old.came new.came from h now → HearsResponse old new from h now call heard
hears old new from h now call true is ends keeps = (ends, keeps)
hears old new from h now call false is ends keeps = absurd (grind (arith, is))

pub hears_not : (old : Layer) (from : List ℕ) (h : Heading) (now : ℕ) (call : Call) (heard : Bool) → heard ≡ false → HearsResponse old old from h now call heard
hears_not old from h now call true is = absurd (grind (arith, is))
hears_not old from h now call false is = refl

pub acks : (h : Heading) (heard : Bool) (text : List ℕ) → heard ≡ true → SendsAck h true text → SendsAck h heard text
acks h true text is sends = sends
acks h false text is sends = absurd (grind (arith, is))

pub acks_not : (h : Heading) (heard : Bool) → heard ≡ false → SendsAck h heard []
acks_not h true is = absurd (grind (arith, is))
acks_not h false is = refl
