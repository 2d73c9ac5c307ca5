use Rattle.std.proofs.Common.{subst, refl, length}
use Rattle.std.proofs.lemmas.Option.{slice_get_read}
use Rattle.osc_context.specs.Views.{as_server}
use Rattle.osc_context.specs.declared.context.Context.{Context}
use Rattle.osc_life.specs.Agrees.{HoldsLife}
use Rattle.osc_life.specs.Life.{succeeding}
use Rattle.osc_endpoint.proofs.Places.{table_changed}
use Rattle.osc_endpoint.proofs.server_replace.put_at.Goals as goal

pub returns : goal.returns
returns c = λ lives table.
    let xs = c.args.slots.now in
    let i = c.args.index in
    let read = slice_get_read xs (length xs) i c.index-slots-index.result refl c.requires.0 c.index-slots-index.is in
    table_changed xs lives (succeeding (as_server c.args.context) c.args.start c.args.size) i c.index-slots-index.result c.replace_place.new.place table read
    (λ l holds. subst (λ (k : Context). HoldsLife c.replace_place.new.place (succeeding (as_server k) c.args.start c.args.size l)) c.new.ensures
    (c.replace_place.ensures l (subst (λ p. HoldsLife p l) c.index-slots-index.is holds)))
