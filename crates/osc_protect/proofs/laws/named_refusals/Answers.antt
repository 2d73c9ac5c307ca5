use Rattle.osc_protect.specs.Protection.{notifications, requests, responses}
use Rattle.osc_protect.proofs.NamedHeads.{refused_inside}
use Rattle.osc_protect.proofs.laws.named_refusals.Goals as goal

pub returns : goal.returns
returns c = record {
  request = λ s. refused_inside (requests s) c.one_head.ensures.request;
  response = λ s n. refused_inside (responses s n) c.one_head.ensures.response;
  notification = λ s n. refused_inside (notifications s n) c.one_head.ensures.response;
}
