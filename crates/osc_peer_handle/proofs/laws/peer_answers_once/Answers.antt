use Rattle.osc_peer_handle.proofs.laws.peer_answers_once.Goals as goal

pub returns : goal.returns
returns c = record {
  once = λ p o h w. c.answered_once.ensures.once h w.serves.answers w.serves.due;
  nonces = λ p o h w. c.answered_once.ensures.nonces h w.serves.answers w.serves.due;
}
