use Rattle.std.proofs.Common.{arith, refl}
use Rattle.osc_context.specs.Views.{number_of}
use Rattle.osc_context_handle.specs.ContextBytes.{server_in}
use Rattle.osc_peer_handle.proofs.Beginning.{begun, begun_asking}
use Rattle.osc_peer_handle.proofs.peer_handle.PeerHandle.begin.Goals as goal

pub returns-clause-server : goal.returns-clause-server
returns-clause-server c = (
  c.in-Some.start,
  c.in-Some.ensures.begins,
  λ floor least.
      let below = c.args.sender.in_range in
      begun _ (server_in c.args.context.now) c.in-Some.start c.args.size (number_of c.args.sender) floor c.in-Some-begin.ensures.added c.in-Some-begin.ensures.bytes c.in-Some.ensures.begins
      c.number.ensures.value (omega (arith, below)) (c.in-Some.ensures.accepted refl) least,
)

pub returns-clause-client : goal.returns-clause-client
returns-clause-client c = λ floor room least.
    let below = c.args.sender.in_range in
    begun_asking _ c.args.context.now c.in-Some.start c.args.size (number_of c.args.sender) floor room c.args.life_ms c.in-Some-begin.ensures.added c.in-Some-begin.ensures.bytes
    c.in-Some.ensures.begins c.number.ensures.value (omega (arith, below)) (c.in-Some.ensures.accepted refl) least refl refl
