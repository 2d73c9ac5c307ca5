use Rattle.std.proofs.Common.{rules}
use Rattle.osc_proxy.proofs.Cuts.{next_part}
use Rattle.osc_proxy.proofs.parts.ComponentsIterator.next.Goals as goal

pub returns-clause-steps : goal.returns-clause-steps
returns-clause-steps c = next_part c.args.self.now.delimiter c.args.self.now.rest c.in_ok-rest.rest c.cut.result.0.now c.cut.result.1 c.in_ok-rest.was c.cut.ensures.before c.cut.ensures.behind

pub returns-clause-goes : goal.returns-clause-goes
returns-clause-goes c =
    let steps = next_part c.args.self.now.delimiter c.args.self.now.rest c.in_ok-rest.rest c.cut.result.0.now c.cut.result.1 c.in_ok-rest.was c.cut.ensures.before c.cut.ensures.behind in
    search rules
