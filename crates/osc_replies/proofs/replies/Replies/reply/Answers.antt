use Rattle.std.proofs.Common.{◌≡◌, ap, rules, sym, take}
use Rattle.osc_context.specs.Views.{number_of}
use Rattle.osc_life.specs.Views.{values_of}
use Rattle.osc_replies.specs.Views.{memory_of}
use Rattle.osc_replies.proofs.Copies.{keeps_by}
use Rattle.osc_replies.proofs.replies.Replies.reply.Goals as goal

pub returns-in-Ok-clause-remembers : goal.returns-in-Ok-clause-remembers
returns-in-Ok-clause-remembers g c =
    let front : c.split_at.result.0.now ≡ take c.in-Ok.len c.reply.new.out = search rules in
    keeps_by g.row.LEN (values_of c.args.ticket).number (number_of c.number-number.result) (take c.in-Ok.len c.reply.new.out) c.split_at.result.0.now (memory_of c.args.self.now) (memory_of c.keep_reply.new.self)
    c.keep_reply.result (sym front) c.number-number.ensures c.keep_reply.ensures.kept (λ e. ap memory_of (c.keep_reply.ensures.unchanged e)) c.keep_reply.ensures.refused
