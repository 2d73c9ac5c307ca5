use Rattle.osc_coap.specs.Views.{parts_of}
use Rattle.osc_protect.specs.declared.usage.Usage.TheVariants.{Request}
use Rattle.osc_protect.proofs.Supported.{accepts_all, refuses_all}
use Rattle.osc_protect.proofs.checks.check_request.Goals as goal

pub returns-clause-accepts : goal.returns-clause-accepts
returns-clause-accepts c = accepts_all Request c.args.features (parts_of c.args.plain.now) c.judge.result c.judge.ensures.refused

pub returns-clause-refuses : goal.returns-clause-refuses
returns-clause-refuses c = refuses_all Request c.args.features (parts_of c.args.plain.now) c.judge.result c.judge.ensures.accepted c.judge.ensures.refused
