use Rattle.std.proofs.Common.{ap, ◌∙◌, arith, w32}
use Rattle.std.specs.Int.{to_be_bytes}
use Rattle.osc_aes.proofs.WordRounds.{bytes-rotated}
use Rattle.osc_aes.proofs.table.one_row_down.Goals as goal

pub returns : goal.returns
returns c = ap (to_be_bytes w32) c.rotate_right.ensures ∙ bytes-rotated c.args.column (omega arith)
