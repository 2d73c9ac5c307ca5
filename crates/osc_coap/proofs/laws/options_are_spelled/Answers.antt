use Rattle.osc_coap.proofs.EachReading.{read_spelled}
use Rattle.osc_coap.proofs.laws.options_are_spelled.Goals as goal

pub returns-clause-held_message : goal.returns-clause-held_message
returns-clause-held_message c = λ m. read_spelled 0 m.options.now m.spelled

pub returns-clause-held_inner : goal.returns-clause-held_inner
returns-clause-held_inner c = λ m. read_spelled 0 m.options.now m.spelled

pub returns-clause-held_options : goal.returns-clause-held_options
returns-clause-held_options c = λ s. read_spelled s.number s.rest.now s.spelled
