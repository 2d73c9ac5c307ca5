use Rattle.std.proofs.Common.{◌∙◌, ap, refl, subst}
use Rattle.osc_context.specs.SecurityContext.{SecurityContext}
use Rattle.osc_context.specs.Views.{as_server}
use Rattle.osc_life.specs.Agrees.{SlotAgrees}
use Rattle.osc_life.specs.Life.{born}
use Rattle.osc_handle.proofs.Servers.{serves_begun}
use Rattle.osc_handle.proofs.single_server_handle.SingleServerHandle.begin.Goals as goal

pub returns-clause-added : goal.returns-clause-added
returns-clause-added c =
    serves_begun c.args.context.now c.args.start c.args.size c.of.result c.none.result c.begin.result (c.if-not-is_whole.ensures.yes refl) c.of.ensures.made
    (subst (λ (s : SecurityContext). SlotAgrees c.begin.result (born s c.args.start c.args.size)) (ap as_server c.for_one_message-made.ensures ∙ c.in-Some.ensures.server) c.begin.ensures.agrees)
    c.none.ensures.holds c.none.ensures.highest
