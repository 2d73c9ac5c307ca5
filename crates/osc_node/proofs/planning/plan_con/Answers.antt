use Rattle.std.proofs.Common.{◌∙◌, ℕ, List, refl, subst, sym}
use Rattle.osc_message.specs.Calls.{IsFirstReason}
use Rattle.osc_message.specs.LayerViews.{layer_of}
use Rattle.osc_node.proofs.Planned.{goes_to, is_ok}
use Rattle.osc_node.proofs.planning.plan_con.Goals as goal

pub returns-in-Some-give-clause-planned : goal.returns-in-Some-give-clause-planned
returns-in-Some-give-clause-planned g c =
    let t = layer_of c.args.layer.now in
    let (x, there, at, id) = c.in-Some.ensures.from in
    let (y, mind, to) = goes_to t c.args.arrived c.in-Some.from.now x c.requires there at in (
      (
        c.requires,
        refl,
        y,
        mind,
        c.address_of-to.ensures ∙ to,
        (λ e why. let P : List ℕ → Type 0 = λ from. IsFirstReason t.sent from e in
            c.check_begin.ensures.accepted (is_ok c.check_begin.result c.in_default-check_begin.not-Err) e (subst P (sym to) why)),
      ),
      λ request. c.in-Some-give.ensures.gives,
    )
