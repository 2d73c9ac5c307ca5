use Rattle.std.proofs.Common.{Err, Ok}
use Rattle.osc_protect.specs.Protection.{responses_to}
use Rattle.osc_protect.proofs.Staged.{exactly_read, one_to, only_read}
use Rattle.osc_protect.proofs.reading.read_response.Goals as goal

pub returns-in-Ok-clause-opened : goal.returns-in-Ok-clause-opened
returns-in-Ok-clause-opened c = c.opened.ensures c.args.decrypted c.in-Ok.ensures.placed

pub returns-in-Ok-clause-accepts : goal.returns-in-Ok-clause-accepts
returns-in-Ok-clause-accepts c = λ s r n old own m it x. only_read (responses_to s r n) (one_to c.one_response.ensures c.one_notification.ensures s r n) old (Ok c.opened.result) (returns-in-Ok-clause-opened c s r n old it) tt own m x

pub returns-in-Ok-clause-refuses : goal.returns-in-Ok-clause-refuses
returns-in-Ok-clause-refuses c = λ s r n old it x. exactly_read (responses_to s r n) (one_to c.one_response.ensures c.one_notification.ensures s r n) old (Ok c.opened.result) (returns-in-Ok-clause-opened c s r n old it) tt x

pub returns-in-Err-clause-accepts : goal.returns-in-Err-clause-accepts
returns-in-Err-clause-accepts c = λ s r n old own m it x. only_read (responses_to s r n) (one_to c.one_response.ensures c.one_notification.ensures s r n) old (Err c.in-Err.error) tt (c.in-Err.ensures.refused s r n old it) own m x
