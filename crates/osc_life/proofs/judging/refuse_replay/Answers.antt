use Rattle.osc_life.proofs.Judgments.{replayed}
use Rattle.osc_life.proofs.judging.refuse_replay.Goals as goal

pub returns-clause-decided : goal.returns-clause-decided
returns-clause-decided c = λ s l d a refuses asker. replayed l c.args.request.now d _ _ s a refuses asker c.write_error-reply.ensures.written
