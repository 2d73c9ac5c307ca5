use Rattle.osc_coap.proofs.Texts.{text_length, datagram_text_length, inner_text_length}
use Rattle.osc_coap.proofs.laws.lengths_by_parts.Goals as goal

pub returns-clause-spelling : goal.returns-clause-spelling
returns-clause-spelling c = text_length

pub returns-clause-datagram : goal.returns-clause-datagram
returns-clause-datagram c = datagram_text_length

pub returns-clause-inner : goal.returns-clause-inner
returns-clause-inner c = inner_text_length
