use Rattle.std.proofs.Common.{sym, ◌∙◌}
use Rattle.osc_blocks.specs.InBlocks.{piece_of}
use Rattle.osc_blocks.specs.Views.{kept_of, parts_of}
use Rattle.osc_context.specs.Views.{number_of}
use Rattle.osc_blocks.proofs.Grown.{whole_after}
use Rattle.osc_blocks.proofs.body.Body.take.Goals as goal

pub returns-else-more-clause-joined : goal.returns-else-more-clause-joined
unfolding kept_of
returns-else-more-clause-joined g c = λ is pieces holds.
    let piece = piece_of (number_of c.args.number) c.args.operation.now (parts_of c.args.block) c.args.payload.now in
    whole_after (kept_of c.args.self.now) (kept_of c.keep.new.self) piece pieces c.keep.ensures.kept (sym c.more.ensures ∙ c.if-more.false) (c.keep.ensures.taken pieces holds)
