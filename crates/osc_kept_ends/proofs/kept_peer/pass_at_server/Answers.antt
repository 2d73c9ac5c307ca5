use Rattle.std.proofs.Common.{◌≡◌, ◌∙◌, sym, arith, Some, None, inl, inr}
use Rattle.std.proofs.lemmas.Bool.{cases_lt}
use Rattle.std.proofs.lemmas.Grind.{not_there}
use Rattle.osc_life.specs.ServerHistory as served
use Rattle.osc_kept_ends.proofs.PeerSteps.{never_refused, some_is}
use Rattle.osc_kept_ends.proofs.kept_peer.pass_at_server.Goals as goal

pub unreachable-requires : goal.unreachable-requires
unreachable-requires c = not_there c.requires.behind (λ x.
    let none : None ≡ Some x.1.reached = sym c.in_default.is ∙ c.next.ensures x.0 x.1.agrees ∙ x.1.reached_is in
    cc)

pub overflow_sub-next : goal.overflow_sub-next
overflow_sub-next c = elim (cases_lt c.args.next c.in-Some.reached) [
  | inl less ↦ absurd (not_there c.requires.behind (λ x.
      let same : c.in-Some.reached ≡ x.1.reached = some_is (sym c.in-Some.is ∙ c.next.ensures x.0 x.1.agrees ∙ x.1.reached_is) in
      let least = x.1.least in
      omega (arith, less, same, least)))
  | inr least ↦ least
]

pub unreachable-requires-in_default-skip : goal.unreachable-requires-in_default-skip
unreachable-requires-in_default-skip c = not_there c.requires.behind (λ x.
    let same : c.in-Some.reached ≡ x.1.reached = some_is (sym c.in-Some.is ∙ c.next.ensures x.0 x.1.agrees ∙ x.1.reached_is) in
    let least = x.1.least in
    let most = c.requires.most in
    never_refused (served.life x.0 0) _ x.1.reached c.in_default-skip.field-0 x.1.reached_is (omega (arith, same, least, most)) (c.in_default-skip.ensures.answered x.0 x.1.agrees))
