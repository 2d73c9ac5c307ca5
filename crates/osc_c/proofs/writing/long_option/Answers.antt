use Rattle.std.proofs.Common.{rules, arith, subst, map}
use Rattle.std.proofs.lemmas.List.{length-map, take_all}
use Rattle.osc_c.specs.Opened.{option_in}
use Rattle.osc_c.specs.Writing.{HaveLengths}
use Rattle.osc_c.proofs.OptionLists.{all_short, first_long}
use Rattle.osc_c.proofs.writing.long_option.Goals as goal

pub returns-then-options-index-gt-MOST_VALUE-clause-some : goal.returns-then-options-index-gt-MOST_VALUE-clause-some
returns-then-options-index-gt-MOST_VALUE-clause-some c = first_long c.args.options.now c.loop-index.index c.loop-index-test.true c.loop-index.invariant c.if-options-index-gt-MOST_VALUE.true

pub loop-index-preserved : goal.loop-index-preserved
loop-index-preserved c = all_short c.args.options.now c.loop-index.index c.loop-index-test.true c.loop-index.invariant (search rules)

pub returns-clause-none : goal.returns-clause-none
returns-clause-none c =
    let over = c.loop-index-test.false in
    subst HaveLengths (take_all c.loop-index.index (map option_in c.args.options.now) (omega (arith, over, length-map c.args.options.now option_in))) c.loop-index.invariant
