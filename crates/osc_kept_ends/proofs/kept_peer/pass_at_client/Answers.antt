use Rattle.std.proofs.Common.{arith, inl, inr}
use Rattle.std.proofs.lemmas.Bool.{cases_lt}
use Rattle.std.proofs.lemmas.Grind.{not_there}
use Rattle.osc_kept_ends.proofs.kept_peer.pass_at_client.Goals as goal

pub overflow_sub-next : goal.overflow_sub-next
overflow_sub-next g c = elim (cases_lt c.args.next c.next.result) [
  | inl less ↦ absurd (not_there c.requires.behind (λ x.
      let same = c.next.ensures.number x.0 x.1.agrees in
      let least = x.1.least in
      omega (arith, less, same, least)))
  | inr least ↦ least
]

pub unreachable-requires : goal.unreachable-requires
unreachable-requires g c = not_there c.requires.behind (λ x.
    let same = c.next.ensures.number x.0 x.1.agrees in
    let least = x.1.least in
    let most = c.requires.most in
    let row = c.in_default.ensures.answered x.0 x.1.agrees in
    omega (arith, same, least, most, row))
