use Rattle.std.proofs.Common.{◌≡◌, ◌∙◌, arith, rules, sym, take}
use Rattle.osc_replies.proofs.Copies.{copied, decides_by, remembers_by}
use Rattle.osc_replies.proofs.replies.Replies.decide_anew.Goals as goal

pub returns-in-Ok-clause-answered : goal.returns-in-Ok-clause-answered
returns-in-Ok-clause-answered g c = λ h behind.
    let same : take c.in-Ok.decided.reply c.put.new.out ≡ take c.in-Ok.decided.reply c.decide.new.out =
    copied c.in-Ok.decided.reply c.split_at.result.0.now c.args.out.now c.put.new.out c.decide.new.out c.put.ensures.written (search rules) (omega (arith, c.in-Ok.ensures.within)) in
    decides_by h _ _ _ c.in-Ok.decided _ _ _ _ _ _ same (c.in-Ok.ensures.answered h behind)

pub returns-in-Ok-clause-remembers : goal.returns-in-Ok-clause-remembers
returns-in-Ok-clause-remembers g c =
    let front : c.split_at.result.0.now ≡ take c.in-Ok.decided.reply c.decide.new.out = search rules in
    let same : take c.in-Ok.decided.reply c.put.new.out ≡ take c.in-Ok.decided.reply c.decide.new.out =
    copied c.in-Ok.decided.reply c.split_at.result.0.now c.args.out.now c.put.new.out c.decide.new.out c.put.ensures.written front (omega (arith, c.in-Ok.ensures.within)) in
    remembers_by g.row.COUNT g.row.LEN c.args.datagram.now c.in-Ok.decided.decision _ _ _ _ (same ∙ sym front)
    (c.remember.ensures.kept c.args.datagram.now (record { made = c.request-request.ensures.made; refused = c.request-request.ensures.refused }))
