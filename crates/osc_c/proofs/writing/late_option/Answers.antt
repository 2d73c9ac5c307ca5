use Rattle.osc_c.proofs.OptionLists.{first_late, in_order, last_more}
use Rattle.std.proofs.Common.{rules}
use Rattle.osc_c.proofs.writing.late_option.Goals as goal

pub returns-then-options-index-clause-some : goal.returns-then-options-index-clause-some
returns-then-options-index-clause-some c = first_late c.args.options.now c.loop-index.index c.loop-index.number c.loop-index-test.true c.loop-index.invariant.before c.loop-index.invariant.last c.if-options-index.true

pub loop-index-preserved : goal.loop-index-preserved
loop-index-preserved c = record {
  before = in_order c.args.options.now c.loop-index.index c.loop-index.number c.loop-index-test.true c.loop-index.invariant.before c.loop-index.invariant.last (search rules) (search rules);
  last = last_more c.args.options.now c.loop-index.index c.loop-index-test.true;
}
