use Rattle.std.proofs.Common.{List, [], ◌∷◌, ◌++◌, ap, sym, subst, ◌∙◌, append_assoc}
use Rattle.osc_coap.specs.OptionSpelling.{Entry}
use Rattle.osc_coap.specs.Writing.{Draft}
use Rattle.osc_coap.specs.Writer.{Holds}
use Rattle.osc_callers.proofs.Drafts.{with_options-push}
use Rattle.osc_callers.proofs.tests.writing.copy_all.Goals as goal

pub loop-number-preserved : goal.loop-number-preserved
loop-number-preserved c = record {
  can_next = tt;
  is_finite = tt;
  same_reference = c.in_ok-option.ensures.same_reference ∙ c.loop-number.invariant.same_reference;
  so_far = λ draft old h.
      let so_far = c.loop-number.invariant.so_far draft old h in
      let more : List Entry = (c.in-Some.number, c.in-Some.value.now) ∷ [] in (
        so_far.0 ++ more,
        subst (λ (d : Draft). Holds c.option.new.self d old) (with_options-push draft so_far.0 c.in-Some.number c.in-Some.value.now) (c.in_ok-option.ensures.taken _ _ so_far.1),
        so_far.2 ∙ ap (λ (os : List Entry). so_far.0 ++ os) c.in-Some.ensures.steps ∙ sym (append_assoc so_far.0 more _),
      );
}
