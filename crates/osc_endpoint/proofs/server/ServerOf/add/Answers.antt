use Rattle.std.proofs.Common.{◌≢◌, ◌<◌, ◌∙◌, sym, arith, rules, refl, subst, length}
use Rattle.std.proofs.lemmas.Bool.{eqb-false}
use Rattle.osc_context.specs.Views.{as_server}
use Rattle.osc_life.specs.Agrees.{SlotAgrees}
use Rattle.osc_life.specs.Life.{born}
use Rattle.osc_life.specs.ServerHistory.{added}
use Rattle.osc_endpoint.proofs.Additions.{agrees_added}
use Rattle.osc_endpoint.proofs.server.ServerOf.add.Goals as goal

pub returns-clause-answered : goal.returns-clause-answered
returns-clause-answered g c = λ h a.
    let differs : length c.args.self.now.slots.items ≢ g.row.N = eqb-false _ _ (sym c.is_full.ensures.value ∙ c.if-is_full.false) in
    let room : added h < g.row.N = omega (arith, differs, c.is_full.ensures.fits, a.contexts) in
    (search rules, (room, search rules, search rules))

pub returns-clause-follows : goal.returns-clause-follows
returns-clause-follows g c = λ h a.
    agrees_added c.args.self.now _ h (as_server c.args.context) c.args.start c.args.size g.row.N c.begin.result c.len-index.result a (returns-clause-answered g c h a).1.1 refl (search rules) c.push.ensures.items
    (subst (λ k. SlotAgrees c.begin.result (born (as_server k) c.args.start c.args.size)) c.new-context.ensures c.begin.ensures.agrees)
