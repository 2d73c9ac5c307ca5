use Rattle.osc_coap.proofs.Texts.{text_one, datagram_text_one, inner_text_one}
use Rattle.osc_coap.proofs.laws.one_text.Goals as goal

pub returns-clause-spelling : goal.returns-clause-spelling
returns-clause-spelling c = text_one

pub returns-clause-datagram : goal.returns-clause-datagram
returns-clause-datagram c = datagram_text_one

pub returns-clause-inner : goal.returns-clause-inner
returns-clause-inner c = inner_text_one
