use Rattle.std.proofs.Common.{rules, subst, sym, ◌≡◌}
use Rattle.osc_replies.specs.Memory.{NumbersDiffer, kept_after}
use Rattle.osc_replies.specs.Views.{kept_of, memory_of}
use Rattle.osc_replies.proofs.Apart.{kept_apart}
use Rattle.osc_replies.proofs.replies.Replies.keep_request.Goals as goal

pub returns-clause-apart : goal.returns-clause-apart
returns-clause-apart g c =
    let kept : memory_of c.add.new.self ≡ kept_after g.row.COUNT (memory_of c.args.self.now) (kept_of c.args.request) = search rules in
    λ differ. subst NumbersDiffer (sym kept) (kept_apart g.row.COUNT (memory_of c.args.self.now) (kept_of c.args.request) differ)
