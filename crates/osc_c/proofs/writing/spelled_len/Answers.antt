use Rattle.std.proofs.Common.{◌+◌, rules, arith}
use Rattle.osc_c.proofs.OptionLists.{last_more, spelled_all, spelled_long, spelled_more}
use Rattle.osc_c.proofs.writing.spelled_len.Goals as goal

pub returns-then-option-gt-MOST_DATAGRAM-clause-none : goal.returns-then-option-gt-MOST_DATAGRAM-clause-none
returns-then-option-gt-MOST_DATAGRAM-clause-none c =
    let long = c.if-option-gt-MOST_DATAGRAM.true in
    let all = spelled_long c.args.options.now c.loop-index.index c.loop-index-test.true in
    omega (arith, long, all)

pub returns-then-len-gt-MOST_DATAGRAM-clause-none : goal.returns-then-len-gt-MOST_DATAGRAM-clause-none
returns-then-len-gt-MOST_DATAGRAM-clause-none c =
    let over = c.if-len-gt-MOST_DATAGRAM.true in
    let inv = c.loop-index.invariant in
    let more = spelled_more c.args.options.now c.loop-index.index c.loop-index.len c.loop-index.number c.saturating_sub.result c.option_len-len.result c.loop-index-test.true inv.len inv.last c.saturating_sub.ensures (search rules) in
    let all = spelled_all c.args.options.now (c.loop-index.index + 1) in
    omega (arith, over, more, all)

pub loop-index-preserved : goal.loop-index-preserved
loop-index-preserved c =
    let inv = c.loop-index.invariant in record {
      fits = search rules;
      len = spelled_more c.args.options.now c.loop-index.index c.loop-index.len c.loop-index.number c.saturating_sub.result c.option_len-len.result c.loop-index-test.true inv.len inv.last c.saturating_sub.ensures (search rules);
      last = last_more c.args.options.now c.loop-index.index c.loop-index-test.true;
    }
