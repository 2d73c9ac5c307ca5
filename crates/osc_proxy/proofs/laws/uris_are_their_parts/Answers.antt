use Rattle.osc_proxy.proofs.Decompositions.{uris_are_their_parts}
use Rattle.osc_proxy.proofs.laws.uris_are_their_parts.Goals as goal

pub returns : goal.returns
returns c = uris_are_their_parts
