use Rattle.std.proofs.Common.{Err, Ok, rules}
use Rattle.osc_coap.specs.Views.{parts_of}
use Rattle.osc_protect.specs.Views.{seen_response_head}
use Rattle.osc_protect.specs.declared.usage.Usage.TheVariants.{Response}
use Rattle.osc_protect.proofs.ShownHeads.{shown_accepts, shown_refuses}
use Rattle.osc_protect.proofs.response_head.ResponseHead.read.Goals as goal

pub returns-in-Ok-clause-accepts : goal.returns-in-Ok-clause-accepts
returns-in-Ok-clause-accepts c = shown_accepts seen_response_head Response c.one_head.ensures.response (parts_of c.args.message.now) (Ok c.of_response.result) (search rules) tt

pub returns-in-Ok-clause-refuses : goal.returns-in-Ok-clause-refuses
returns-in-Ok-clause-refuses c = shown_refuses seen_response_head Response c.one_head.ensures.response (parts_of c.args.message.now) (Ok c.of_response.result) (search rules) tt

pub returns-in-Err-clause-accepts : goal.returns-in-Err-clause-accepts
returns-in-Err-clause-accepts c = shown_accepts seen_response_head Response c.one_head.ensures.response (parts_of c.args.message.now) (Err c.in-Err.none) tt (search rules)

pub returns-in-Err-clause-refuses : goal.returns-in-Err-clause-refuses
returns-in-Err-clause-refuses c = shown_refuses seen_response_head Response c.one_head.ensures.response (parts_of c.args.message.now) (Err c.in-Err.none) tt (search rules)
