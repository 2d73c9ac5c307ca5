use Rattle.std.proofs.Common.{rules}
use Rattle.std.specs.Option.{option_map}
use Rattle.osc_coap.specs.Views.{parts_of}
use Rattle.osc_context.specs.Views.{number_of}
use Rattle.osc_protect.specs.Views.{sealed_responses}
use Rattle.osc_protect.proofs.Sealings.{seals_all}
use Rattle.osc_protect.proofs.sealing.seal_checked_response.Goals as goal

pub returns : goal.returns
returns c = seals_all (sealed_responses c.args.sender.context.now c.args.request.now) (option_map number_of c.args.own) (parts_of c.args.plain.now) c.one_option_value.ensures.one_spelling c.args.out.now c.seal_in_room.new.out c.seal_in_room.result (search rules) (search rules) (search rules) (search rules) (search rules) (search rules)
