use Rattle.std.proofs.Common.{Err, Ok, rules}
use Rattle.osc_coap.specs.Views.{parts_of}
use Rattle.osc_protect.specs.Views.{seen_head}
use Rattle.osc_protect.specs.declared.usage.Usage.TheVariants.{Request}
use Rattle.osc_protect.proofs.ShownHeads.{shown_accepts, shown_refuses}
use Rattle.osc_protect.proofs.request_head.RequestHead.read.Goals as goal

pub returns-in-Ok-clause-accepts : goal.returns-in-Ok-clause-accepts
returns-in-Ok-clause-accepts c = shown_accepts seen_head Request c.one_head.ensures.request (parts_of c.args.message.now) (Ok c.of_request.result) (search rules) tt

pub returns-in-Ok-clause-refuses : goal.returns-in-Ok-clause-refuses
returns-in-Ok-clause-refuses c = shown_refuses seen_head Request c.one_head.ensures.request (parts_of c.args.message.now) (Ok c.of_request.result) (search rules) tt

pub returns-in-Err-clause-accepts : goal.returns-in-Err-clause-accepts
returns-in-Err-clause-accepts c = shown_accepts seen_head Request c.one_head.ensures.request (parts_of c.args.message.now) (Err c.in-Err.none) tt (search rules)

pub returns-in-Err-clause-refuses : goal.returns-in-Err-clause-refuses
returns-in-Err-clause-refuses c = shown_refuses seen_head Request c.one_head.ensures.request (parts_of c.args.message.now) (Err c.in-Err.none) tt (search rules)
