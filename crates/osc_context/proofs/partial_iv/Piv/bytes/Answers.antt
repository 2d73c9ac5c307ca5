use Rattle.std.proofs.Common.{arith, subst, List, ℕ, sym, ◌≡◌, ◌<◌, ◌^◌}
use Rattle.std.proofs.lemmas.Grind.{common_steps}
use Rattle.osc_context.specs.PartialIv.{IsShortest, partial_iv_of}
use Rattle.osc_context.specs.Views.{number_of}
use Rattle.osc_context.proofs.PartialIvs.{iv_shortest}
use Rattle.osc_context.proofs.partial_iv.Piv.bytes.Goals as goal

pub returns-clause-shortest : goal.returns-clause-shortest
returns-clause-shortest c =
    let e : c.try_extend_from_slice.new.self.items ≡ partial_iv_of (number_of c.args.self) = grind (arith, common_steps) in
    let lt : (number_of c.args.self) < 2 ^ 40 = c.args.self.in_range in
    subst (λ (l : List ℕ). IsShortest l (number_of c.args.self)) (sym e) (iv_shortest (number_of c.args.self) lt)
