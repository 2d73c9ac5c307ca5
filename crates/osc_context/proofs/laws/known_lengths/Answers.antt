use Rattle.osc_context.proofs.KnownLengths.{length-nonce_of, length-additional_data_of}
use Rattle.osc_context.proofs.laws.known_lengths.Goals as goal

pub returns-clause-nonce : goal.returns-clause-nonce
returns-clause-nonce c = length-nonce_of

pub returns-clause-additional_data : goal.returns-clause-additional_data
returns-clause-additional_data c = length-additional_data_of
