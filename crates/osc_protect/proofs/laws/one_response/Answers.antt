use Rattle.std.proofs.Common.{false}
use Rattle.osc_protect.specs.Protection.{responses}
use Rattle.osc_protect.proofs.Exact.{messages_law}
use Rattle.osc_protect.proofs.Protections.{responses_sound}
use Rattle.osc_protect.proofs.laws.one_response.Goals as goal

pub returns : goal.returns
returns c = λ s n. messages_law c.layer_laws.ensures (responses s n) (responses_sound c.layer_laws.ensures.one_plaintext c.layer_laws.ensures.protection_length s false n)
