use Rattle.std.proofs.Common.{Err, Ok}
use Rattle.osc_protect.specs.Protection.{requests}
use Rattle.osc_protect.proofs.Staged.{exactly_read, only_read}
use Rattle.osc_protect.proofs.reading.read_request.Goals as goal

pub returns-in-Ok-clause-opened : goal.returns-in-Ok-clause-opened
returns-in-Ok-clause-opened c = c.opened.ensures c.args.decrypted c.in-Ok.ensures.placed

pub returns-in-Ok-clause-accepts : goal.returns-in-Ok-clause-accepts
returns-in-Ok-clause-accepts c = λ s old n m it x. only_read (requests s) (c.one_request.ensures s) old (Ok c.opened.result) (returns-in-Ok-clause-opened c s old it) tt n m x

pub returns-in-Ok-clause-refuses : goal.returns-in-Ok-clause-refuses
returns-in-Ok-clause-refuses c = λ s old it x. exactly_read (requests s) (c.one_request.ensures s) old (Ok c.opened.result) (returns-in-Ok-clause-opened c s old it) tt x

pub returns-in-Err-clause-accepts : goal.returns-in-Err-clause-accepts
returns-in-Err-clause-accepts c = λ s old n m it x. only_read (requests s) (c.one_request.ensures s) old (Err c.in-Err.error) tt (c.in-Err.ensures.refused s old it) n m x
