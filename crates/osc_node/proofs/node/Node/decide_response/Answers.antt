use Rattle.std.proofs.Common.{ap, refl, subst, sym, true}
use Rattle.osc_message.specs.Calls.{EndsCall}
use Rattle.osc_message.specs.LayerViews.{layer_of}
use Rattle.osc_message.specs.Table.{Table}
use Rattle.osc_message.specs.Views.{counted_of, table_of}
use Rattle.osc_message.specs.declared.message_ids.MessageIds.{MessageIds}
use Rattle.osc_node.specs.Deciding.{is_heard}
use Rattle.osc_node.proofs.Heard.{ends_now, hears}
use Rattle.osc_node.proofs.node.Node.decide_response.Goals as goal

pub returns-clause-layer : goal.returns-clause-layer
returns-clause-layer g c = λ way.
    let old = layer_of c.args.self.now.layer in
    let ends = ends_now old.sent (table_of c.end-ended.new.self) c.args.call c.end-ended.result way c.end-ended.ensures in
    let P : Table → Type 0 = λ t. EndsCall old.sent t c.args.call true in (
      refl,
      ap (λ (m : MessageIds). counted_of m) c.note_response.ensures.ids,
      hears old (layer_of c.note_response.new.layer) c.args.from.items c.args.heading c.args.now c.args.call (is_heard c.decide_response-decision.result) (sym c.if-not-was_heard.ensures) (subst P (sym c.note_response.ensures.sent) ends) c.note_response.ensures.came,
    )
