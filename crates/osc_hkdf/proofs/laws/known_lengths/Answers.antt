use Rattle.osc_hkdf.proofs.Pieces.{length-hmac, length-extract_of, length-expand_of}
use Rattle.osc_hkdf.proofs.laws.known_lengths.Goals as goal

pub returns-clause-hmac : goal.returns-clause-hmac
returns-clause-hmac c = length-hmac

pub returns-clause-extract : goal.returns-clause-extract
returns-clause-extract c = length-extract_of

pub returns-clause-expand : goal.returns-clause-expand
returns-clause-expand c = length-expand_of
