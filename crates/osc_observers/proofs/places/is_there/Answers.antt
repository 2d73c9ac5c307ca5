use Rattle.std.proofs.Common.{◌∙◌, sym, arith}
use Rattle.osc_observers.specs.Views.{place_of}
use Rattle.osc_observers.specs.Watching.{Watching}
use Rattle.osc_message.proofs.Walking.{found_there, not_there}
use Rattle.osc_observers.proofs.places.is_there.Goals as goal

pub returns-clause-yes : goal.returns-clause-yes
returns-clause-yes c = λ yes.
    found_there place_of (λ (x : Watching). x.number) c.args.places.now c.args.place c.args.number c.index-places-place.result (omega arith) c.index-places-place.is (sym c.is_numbered_at.ensures ∙ yes)

pub returns-clause-no : goal.returns-clause-no
returns-clause-no c = λ no x there number.
    not_there place_of (λ (x : Watching). x.number) c.args.places.now c.args.place c.args.number c.index-places-place.result x (omega arith) c.index-places-place.is (sym c.is_numbered_at.ensures ∙ no) there number
