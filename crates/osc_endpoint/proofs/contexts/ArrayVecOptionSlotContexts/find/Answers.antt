use Rattle.std.proofs.Common.{◌≡◌, subst, List, Option, Some, IfSome}
use Rattle.std.specs.Prelude.{slice_get}
use Rattle.osc_protect.specs.Views.{shown}
use Rattle.osc_life.specs.Judging.{LooksUp}
use Rattle.osc_life.specs.declared.slot.Slot.{Slot}
use Rattle.osc_endpoint.proofs.Finding.{finds}
use Rattle.osc_endpoint.proofs.contexts.ArrayVecOptionSlotContexts.find.Goals as goal

pub returns-clause-found : goal.returns-clause-found
returns-clause-found g c = finds c.args.self.now.items c.args.kid.now (shown c.args.kid_context) c.find.result
    (subst (λ (slots : List (Option Slot)). IfSome c.find.result (λ i. (s : Option Slot) × (slice_get slots i ≡ Some s) × LooksUp s c.args.kid.now (shown c.args.kid_context))) c.as_slice.ensures.value c.find.ensures.found)
