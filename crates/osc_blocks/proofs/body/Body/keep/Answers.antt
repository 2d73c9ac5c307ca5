use Rattle.std.proofs.Common.{rules}
use Rattle.osc_blocks.specs.InBlocks.{piece_of}
use Rattle.osc_blocks.specs.Views.{kept_of, parts_of}
use Rattle.osc_context.specs.Views.{number_of}
use Rattle.osc_blocks.proofs.Grown.{keeps_new}
use Rattle.osc_blocks.proofs.body.Body.keep.Goals as goal

pub returns-clause-kept : goal.returns-clause-kept
unfolding kept_of
returns-clause-kept g c = search rules

pub returns-clause-taken : goal.returns-clause-taken
unfolding kept_of
returns-clause-taken g c =
    keeps_new g.row.MOST (kept_of c.args.self.now) _ (piece_of (number_of c.args.number) c.args.operation.now (parts_of c.args.block) c.args.payload.now)
    (returns-clause-kept g c) c.requires
