use Rattle.std.proofs.Common.{◌∙◌, sym, arith}
use Rattle.osc_message.specs.Sending.{Sending}
use Rattle.osc_message.specs.Views.{place_of}
use Rattle.osc_message.proofs.Walking.{found_there, not_there}
use Rattle.osc_message.proofs.places.is_on_its_way.Goals as goal

pub returns-clause-yes : goal.returns-clause-yes
returns-clause-yes c = λ yes.
    found_there place_of (λ (x : Sending). x.call) c.args.places.now c.args.place c.args.number c.index-places-place.result (omega arith) c.index-places-place.is (sym c.is_of_call_at.ensures ∙ yes)

pub returns-clause-no : goal.returns-clause-no
returns-clause-no c = λ no x there call.
    not_there place_of (λ (x : Sending). x.call) c.args.places.now c.args.place c.args.number c.index-places-place.result x (omega arith) c.index-places-place.is (sym c.is_of_call_at.ensures ∙ no) there call
