use Rattle.std.proofs.Common.{refl}
use Rattle.osc_client.proofs.Asking.{written}
use Rattle.osc_client.proofs.waiting.ArrayVecPendingWaiting.wait_at.Goals as goal

pub returns-clause-requests : goal.returns-clause-requests
returns-clause-requests g c = λ r is. written _ c.args.self.now.items c.deref_mut.result.now c.args.place _ _ c.args.wait r refl c.deref_mut.ensures.value is refl
