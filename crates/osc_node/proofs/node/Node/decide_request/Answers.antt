use Rattle.std.proofs.Common.{refl, rules, inl, inr}
use Rattle.osc_node.proofs.Planned.{is_ok}
use Rattle.osc_node.proofs.node.Node.decide_request.Goals as goal

pub returns-in-Err-clause-layer : goal.returns-in-Err-clause-layer
returns-in-Err-clause-layer g c = (refl, refl, inl (c.in-Err._error, c.in-Err.ensures.refused))

pub returns-in_default-reply_id-clause-layer : goal.returns-in_default-reply_id-clause-layer
returns-in_default-reply_id-clause-layer g c = (refl, refl, inr c.in_default-reply_id.ensures.none)

pub note_request-noted-requires : goal.note_request-noted-requires
note_request-noted-requires g c = (search rules, c.check_note.ensures.accepted (is_ok c.check_note.result c.in_default.not-Err))

pub returns-clause-layer : goal.returns-clause-layer
returns-clause-layer g c = (c.note_request-noted.ensures.sent, c.in-Some.id, c.in-Some.ensures.some, c.note_request-noted.ensures.came c.in-Some.id c.in-Some.ensures.some)

pub returns-in-Err-decide-clause-waits : goal.returns-in-Err-decide-clause-waits
returns-in-Err-decide-clause-waits g c = c.in-Err-decide.ensures.waits refl

pub returns-in-Err-decide-clause-failed : goal.returns-in-Err-decide-clause-failed
returns-in-Err-decide-clause-failed g c = (c.in-Err-decide.ensures.failed refl, c.in-Err-decide.ensures.left refl, c.in-Err-decide.ensures.client)
