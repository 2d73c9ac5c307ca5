use Rattle.osc_life.proofs.Judgments.{untagged}
use Rattle.osc_life.proofs.slot.Slot.judge_new.Goals as goal

pub returns-in_default-clause-decided : goal.returns-in_default-clause-decided
returns-in_default-clause-decided c = λ l a.
    untagged l c.args.request c.args.datagram.now c.decrypt_request.new.datagram _ _ c.args.self.now a c.requires.passes c.requires.asker
    c.in_default.ensures.refused c.write_error-reply.ensures.written
