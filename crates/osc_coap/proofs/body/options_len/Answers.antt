use Rattle.std.proofs.Common.{refl, sym, ◌∙◌, arith}
use Rattle.std.proofs.lemmas.Bool.{eqb-true, eqb-false}
use Rattle.osc_coap.specs.Seen.{seen_item}
use Rattle.osc_coap.proofs.Walks.{option_shorter, continues_more, faulty_place, marker_ends, all_ends}
use Rattle.osc_coap.proofs.body.options_len.Goals as goal

pub loop-rest-init : goal.loop-rest-init
loop-rest-init c = record { shorter = omega arith; same_rest = refl; same_fault = refl }

pub overflow_sub-place : goal.overflow_sub-place
overflow_sub-place c = c.loop-rest.invariant.shorter

pub returns-then-rest-clause-ends : goal.returns-then-rest-clause-ends
returns-then-rest-clause-ends c = marker_ends _ _ _ c.loop-rest.invariant (eqb-false _ _ (sym c.is_empty.ensures ∙ c.loop-rest-test.true)) c.if-rest.true

pub loop-rest-smaller : goal.loop-rest-smaller
loop-rest-smaller c = option_shorter _ _ (seen_item c.in-Ok.item) c.in-Ok.ensures

pub loop-rest-preserved : goal.loop-rest-preserved
loop-rest-preserved c = continues_more _ _ _ (seen_item c.in-Ok.item) c.loop-rest.invariant c.in-Ok.ensures

pub returns-in-Err-clause-fault : goal.returns-in-Err-clause-fault
returns-in-Err-clause-fault c = rw (c.at.ensures.fault, c.at.ensures.place) (faulty_place _ _ _ c.in-Err.fault c.loop-rest.invariant (eqb-false _ _ (sym c.is_empty.ensures ∙ c.loop-rest-test.true)) c.if-rest.false c.in-Err.ensures)

pub returns-clause-ends : goal.returns-clause-ends
returns-clause-ends c = all_ends _ _ _ c.loop-rest.invariant (eqb-true _ _ (sym c.is_empty.ensures ∙ c.loop-rest-test.false))
