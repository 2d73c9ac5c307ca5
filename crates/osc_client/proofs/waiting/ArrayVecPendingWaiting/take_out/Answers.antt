use Rattle.std.proofs.Common.{◌∙◌, ap}
use Rattle.std.specs.Prelude.{map}
use Rattle.osc_client.specs.Views.{asked_of}
use Rattle.osc_client.proofs.Asking.{map_remove}
use Rattle.osc_client.proofs.waiting.ArrayVecPendingWaiting.take_out.Goals as goal

pub returns-clause-requests : goal.returns-clause-requests
returns-clause-requests g c = ap (map asked_of) c.remove-taken.ensures.items ∙ map_remove c.args.self.now.items c.args.place
