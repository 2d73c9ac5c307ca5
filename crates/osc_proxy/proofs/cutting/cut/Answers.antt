use Rattle.osc_proxy.proofs.Cuts.{behind_on, cut_on}
use Rattle.osc_proxy.proofs.cutting.cut.Goals as goal

pub loop-first-preserved : goal.loop-first-preserved
loop-first-preserved c = record {
  cut = cut_on c.args.delimiter c.args.bytes.now c.loop-first.rest.now c.in-Some.first.now c.in-Some.tail.now c.in-Some.ensures.cases.0 c.if-first-delimiter.false c.loop-first.invariant.cut;
  same = behind_on c.args.delimiter c.args.bytes.now c.loop-first.rest.now c.in-Some.first.now c.in-Some.tail.now c.in-Some.ensures.cases.0 c.if-first-delimiter.false c.loop-first.invariant.same;
}
