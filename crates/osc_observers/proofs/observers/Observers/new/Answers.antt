use Rattle.std.proofs.Common.{◌≡◌, ◌∙◌, ap, arith, ℕ, List}
use Rattle.std.specs.Prelude.{None, Option, replicate}
use Rattle.osc_observers.specs.Views.{watching_of}
use Rattle.osc_observers.specs.Watching.{Watching}
use Rattle.osc_message.proofs.Walking.{all_free}
use Rattle.osc_observers.proofs.observers.Observers.new.Goals as goal

pub returns : goal.returns
returns g c =
    let all : c.loop.counter ≡ g.row.N = omega arith in
    let nothing : Option Watching = None in
    ap (λ (places : List (Option Watching)). record { places = places; next_number = 0 })
    (all_free watching_of c.loop.counter c.loop.places.items c.loop.invariant ∙ ap (λ (n : ℕ). replicate n nothing) all)
