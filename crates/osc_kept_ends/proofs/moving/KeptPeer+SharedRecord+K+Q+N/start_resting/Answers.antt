use Rattle.std.proofs.Common.{◌≡◌, ◌∙◌, sym, ap, subst, IsNone, arith, refl}
use Rattle.osc_client.specs.ClientHistory.{New}
use Rattle.osc_context.specs.Views.{as_client, as_server, number_of}
use Rattle.osc_life.specs.ServerHistory.{Begin, Then, Add, Added}
use Rattle.osc_kept_ends.specs.Numbering.{upcoming}
use Rattle.osc_kept_ends.specs.PeerOwning.{own_in}
use Rattle.osc_kept_ends.specs.Peering.{ClientIsBehind, ServerIsBehind}
use Rattle.osc_kept_ends.specs.Refusals.{Loaded}
use Rattle.osc_kept_ends.specs.SharedOwning.{received_in, sender_in}
use Rattle.osc_kept_ends.proofs.PeerSteps.{born_resting}
use Rattle.osc_kept_ends.proofs.moving.KeptPeer+SharedRecord+K+Q+N.start_resting.Goals as goal

pub begin-requires : goal.begin-requires
begin-requires g c = (
  omega arith,
  (
    ap upcoming c.resting-source.ensures.numbers ∙ sym c.in-Some.ensures.made,
    born_resting (as_server c.args.context) c.args.ahead c.in_ok-received.start c.args.size c.in_ok-received.number c.in_ok-received.ensures.begins ∙ sym c.in-Some.ensures.made,
  ),
)

pub returns-clause-begins : goal.returns-clause-begins
returns-clause-begins g c =
    let start = c.in_ok-received.start in
    let number = c.in_ok-received.number in
    let source = c.resting-source.result in
    let same = c.begin.ensures.source in
    let zero : upcoming (own_in source) ≡ 0 = ap upcoming c.resting-source.ensures.numbers in
    let first : number_of c.in-Some.first ≡ 0 = c.in-Some.ensures.made in
    let keeper : received_in c.begin.result.source.keeper ≡ c.in_ok-received.received.keeper = ap (λ s. received_in s.keeper) same ∙ ap received_in c.resting-source.ensures.keeper in (
      number,
      start,
      subst (λ k. Loaded g.Q.Keeper.loads g.Q.Keeper.failures c.args.received number k) (sym keeper) c.in_ok-received.ensures.loaded.0,
      c.in_ok-received.ensures.loaded.1,
      c.in_ok-received.ensures.begins,
      ap own_in same ∙ c.resting-source.ensures.numbers,
      subst (λ s. IsNone (sender_in s.keeper)) (sym same) (subst (λ r. IsNone (sender_in r)) (sym c.resting-source.ensures.keeper) refl),
      subst (λ n. ServerIsBehind c.begin.result.server n (Then Begin (Add (as_server c.args.context) start c.args.size 1) (Added 0))) zero c.begin.ensures.server,
      subst (λ n. ClientIsBehind c.begin.result.client 0 (New (as_client c.args.context) n c.args.life_ms)) first
          (subst (λ n. ClientIsBehind c.begin.result.client n (New (as_client c.args.context) (number_of c.in-Some.first) c.args.life_ms)) zero c.begin.ensures.client),
    )
