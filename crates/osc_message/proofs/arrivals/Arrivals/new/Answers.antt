use Rattle.std.proofs.Common.{◌≡◌, ◌∙◌, ap, arith, ℕ, List}
use Rattle.std.specs.Prelude.{None, Option, replicate}
use Rattle.osc_message.specs.Hearing.{Heard}
use Rattle.osc_message.specs.HearingViews.{heard_of}
use Rattle.osc_message.proofs.Walking.{all_free}
use Rattle.osc_message.proofs.arrivals.Arrivals.new.Goals as goal

pub returns : goal.returns
returns g c =
    let all : c.loop.counter ≡ g.row.N = omega arith in
    let nothing : Option Heard = None in
    ap (λ (places : List (Option Heard)). record { places = places; next_number = 0 })
    (all_free heard_of c.loop.counter c.loop.places.items c.loop.invariant ∙ ap (λ (n : ℕ). replicate n nothing) all)
