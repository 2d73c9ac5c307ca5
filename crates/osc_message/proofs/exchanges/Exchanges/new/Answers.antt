use Rattle.std.proofs.Common.{◌≡◌, ◌∙◌, ap, arith, ℕ, List}
use Rattle.std.specs.Prelude.{None, Option, replicate}
use Rattle.osc_message.specs.Sending.{Sending}
use Rattle.osc_message.proofs.Walking.{all_free}
use Rattle.osc_message.specs.Views.{sending_of}
use Rattle.osc_message.proofs.exchanges.Exchanges.new.Goals as goal

pub returns : goal.returns
returns g c =
    let all : c.loop.counter ≡ g.row.N = omega arith in
    let nothing : Option Sending = None in
    ap (λ (places : List (Option Sending)). record { places = places; next_call = 0 })
    (all_free sending_of c.loop.counter c.loop.places.items c.loop.invariant ∙ ap (λ (n : ℕ). replicate n nothing) all)
