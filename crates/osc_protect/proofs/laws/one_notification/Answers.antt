use Rattle.std.proofs.Common.{true}
use Rattle.osc_protect.specs.Protection.{notifications}
use Rattle.osc_protect.proofs.Exact.{messages_law}
use Rattle.osc_protect.proofs.Protections.{responses_sound}
use Rattle.osc_protect.proofs.laws.one_notification.Goals as goal

pub returns : goal.returns
returns c = λ s n. messages_law c.layer_laws.ensures (notifications s n) (responses_sound c.layer_laws.ensures.one_plaintext c.layer_laws.ensures.protection_length s true n)
