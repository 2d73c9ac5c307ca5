use Rattle.osc_blocks.proofs.RequestTags.{tags_law}
use Rattle.osc_blocks.proofs.laws.one_request_tag.Goals as goal

pub returns : goal.returns
returns c = tags_law
