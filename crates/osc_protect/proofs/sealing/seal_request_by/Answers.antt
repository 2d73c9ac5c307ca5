use Rattle.std.proofs.Common.{rules}
use Rattle.osc_coap.specs.Views.{parts_of}
use Rattle.osc_context.specs.Views.{number_of}
use Rattle.osc_protect.specs.Views.{sealed_requests}
use Rattle.osc_protect.proofs.Sealings.{seals_all}
use Rattle.osc_protect.proofs.sealing.seal_request_by.Goals as goal

pub returns-in_err-checked : goal.returns-in_err-checked
returns-in_err-checked c = seals_all (sealed_requests c.args.sender.context.now) (number_of c.args.number) (parts_of c.args.plain.now) c.one_option_value.ensures.one_spelling c.args.out.now c.args.out.now c.from_residual.result (search rules) (search rules) (search rules) (search rules) (search rules) (search rules)

pub returns : goal.returns
returns c = seals_all (sealed_requests c.args.sender.context.now) (number_of c.args.number) (parts_of c.args.plain.now) c.one_option_value.ensures.one_spelling c.args.out.now c.seal_in_room.new.out c.seal_in_room.result (search rules) (search rules) (search rules) (search rules) (search rules) (search rules)
