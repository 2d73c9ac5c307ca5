use Rattle.osc_client.proofs.Asking.{contains_at}
use Rattle.osc_handle.proofs.places.has_token.Goals as goal

pub returns-in-Some-clause-yes : goal.returns-in-Some-clause-yes
returns-in-Some-clause-yes c = λ _. let (r, at, same) = c.in-Some.ensures.found in (r, contains_at _ _ r at, same)
