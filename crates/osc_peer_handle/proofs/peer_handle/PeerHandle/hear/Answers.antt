use Rattle.std.proofs.lemmas.Option.{MatchOption-at_some}
use Rattle.osc_peer_handle.proofs.peer_handle.PeerHandle.hear.Goals as goal

pub returns-clause-answered : goal.returns-clause-answered
returns-clause-answered g c = λ a old w.
    let d = MatchOption-at_some _ _ _ c.in-Some.is c.decide_response_and_lend-decided.ensures.answered a old w in
    record { answer = d.answer; shows = c.outcome.ensures d.answer d.decides; step = d.step }
