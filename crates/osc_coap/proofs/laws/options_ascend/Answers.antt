use Rattle.osc_coap.proofs.Texts.{text_ascends}
use Rattle.osc_coap.proofs.EachReading.{read_ascends}
use Rattle.osc_coap.proofs.laws.options_ascend.Goals as goal

pub returns-clause-spelling : goal.returns-clause-spelling
returns-clause-spelling c = text_ascends

pub returns-clause-datagram : goal.returns-clause-datagram
returns-clause-datagram c = λ p bytes h. text_ascends 0 p.options h.spelled h.spells

pub returns-clause-inner : goal.returns-clause-inner
returns-clause-inner c = λ p bytes h. text_ascends 0 p.options h.spelled h.spells

pub returns-clause-held_message : goal.returns-clause-held_message
returns-clause-held_message c = λ m. read_ascends 0 m.options.now

pub returns-clause-held_inner : goal.returns-clause-held_inner
returns-clause-held_inner c = λ m. read_ascends 0 m.options.now

pub returns-clause-held_options : goal.returns-clause-held_options
returns-clause-held_options c = λ s. read_ascends s.number s.rest.now
