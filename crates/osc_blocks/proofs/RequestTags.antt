-- A Request-Tag is of one number.
use Rattle.std.proofs.Common.{sym, ap, ◌∙◌}
use Rattle.osc_context.specs.PartialIv.{spelled_number}
use Rattle.osc_context.proofs.PartialIvs.{iv_number}
use Rattle.osc_blocks.specs.Laws.{OneRequestTag}

-- the law of tags
pub tags_law : OneRequestTag
tags_law first other in_range other_in_range same = sym (iv_number first in_range) ∙ ap spelled_number same ∙ iv_number other other_in_range
