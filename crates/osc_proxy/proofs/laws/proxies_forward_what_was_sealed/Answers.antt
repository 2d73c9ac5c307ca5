use Rattle.osc_proxy.proofs.Insertion.{scheme_taken_out}
use Rattle.osc_proxy.proofs.laws.proxies_forward_what_was_sealed.Goals as goal

pub returns : goal.returns
returns c = scheme_taken_out
