use Rattle.std.proofs.Common.{◌∙◌, sym}
use Rattle.std.proofs.lemmas.Bool.{eqb-true, eqb-false}
use Rattle.osc_coap.specs.Seen.{seen_item}
use Rattle.osc_coap.proofs.Walks.{options_ended, spelled_rest, options_more, spelled_fails}
use Rattle.osc_coap.proofs.options.first_item.Goals as goal

pub returns-then-is_empty-clause-none : goal.returns-then-is_empty-clause-none
returns-then-is_empty-clause-none c = options_ended c.args.after c.args.bytes.now (eqb-true _ _ (sym c.is_empty.ensures ∙ c.if-is_empty.true))

pub unreachable-requires : goal.unreachable-requires
unreachable-requires c = spelled_fails _ _ c.in-Err.field-0 c.requires.spelling (eqb-false _ _ (sym c.is_empty.ensures ∙ c.if-is_empty.false)) c.in-Err.ensures

pub returns-clause-first : goal.returns-clause-first
returns-clause-first c = options_more _ _ (seen_item c.in-Ok.item) c.in-Ok.ensures

pub returns-clause-spelled : goal.returns-clause-spelled
returns-clause-spelled c = spelled_rest _ _ (seen_item c.in-Ok.item) c.requires c.in-Ok.ensures
