use Rattle.std.proofs.Common.{◌∙◌, length, subst}
use Rattle.osc_coap.specs.Writer.{Holds}
use Rattle.osc_coap.specs.Writing.{Draft}
use Rattle.osc_c.proofs.OptionLists.{not_refused, takes_next, with_next}
use Rattle.osc_c.proofs.writing.write_options.Goals as goal

pub unreachable-requires : goal.unreachable-requires
unreachable-requires c =
    let r = c.requires in
    let held = c.loop-index.invariant.so_far (r.0) (r.1) r.2 in
    let takes = takes_next (r.0) c.args.options.now c.loop-index.index (length (r.1)) c.loop-index-test.true r.3 in
    not_refused c.option.result _ c.in_default.is (c.option.ensures.accepts _ _ held takes)

pub loop-index-preserved : goal.loop-index-preserved
loop-index-preserved c = record {
  same_reference = c.option.ensures.same_reference ∙ c.loop-index.invariant.same_reference;
  so_far = λ draft old h. subst (λ (d : Draft). Holds c.option.new.self d old) (with_next draft c.args.options.now c.loop-index.index c.loop-index-test.true) (c.in-Ok.ensures.taken _ _ (c.loop-index.invariant.so_far draft old h));
}
