use Rattle.std.proofs.Common.{refl}
use Rattle.osc_context.specs.Views.{as_server}
use Rattle.osc_protect.specs.Views.{seen_head}
use Rattle.osc_protect.proofs.opening.find_request.Goals as goal

pub returns-then-not-names-clause-refused : goal.returns-then-not-names-clause-refused
returns-then-not-names-clause-refused c = (seen_head c.in-Ok.head, c.in-Ok.ensures.head, c.if-not-names.ensures.no refl)

pub returns-clause-found : goal.returns-clause-found
returns-clause-found c = c.sealed.ensures (as_server c.args.context.now) c.args.datagram.now c.in-Ok.ensures.head (c.if-not-names.ensures.yes refl)
