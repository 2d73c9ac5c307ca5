use Rattle.std.proofs.Common.{◌∙◌, sym, arith}
use Rattle.std.proofs.lemmas.Grind.{merely}
use Rattle.osc_client.specs.ClientHistory.{New}
use Rattle.osc_context.specs.Views.{as_client, as_server, number_of}
use Rattle.osc_life.specs.ServerHistory.{Add, Added, Begin, Then}
use Rattle.osc_kept_ends.specs.Numbering.{upcoming}
use Rattle.osc_kept_ends.specs.PeerOwning.{own_in}
use Rattle.osc_kept_ends.proofs.PeerSteps.{client_at, kept_behind, never_added}
use Rattle.osc_kept_ends.proofs.ServerSteps.{added_alone}
use Rattle.osc_kept_ends.proofs.kept_peer.KeptPeer.begin.Goals as goal

pub unreachable-requires : goal.unreachable-requires
unreachable-requires g c = never_added (as_server c.args.context) c.args.start c.args.size c.in-Err.field-0 (c.in-Err.ensures.answered Begin c.new-server.ensures)

pub invariant_of-result : goal.invariant_of-result
invariant_of-result g c =
    let a = c.in-Ok.ensures.follows Begin c.new-server.ensures in
    record {
      served = merely (
        Then Begin (Add (as_server c.args.context) c.args.start c.args.size 1) (Added 0),
        kept_behind _ _ _ (added_alone _ (as_server c.args.context) c.args.start c.args.size c.in-Ok.field-0 (upcoming (own_in c.args.source)) a
            (c.in-Ok.ensures.answered Begin c.new-server.ensures).1.2 (c.requires.next ∙ sym c.requires.first)),
      );
      asked = merely (
        New (as_client c.copy_of.result) (number_of c.args.first) c.args.life_ms,
        client_at _ _ (number_of c.args.first) (upcoming (own_in c.args.source)) c.requires.next (record { agrees = c.new-client.ensures; least = omega arith }),
      );
    }

pub returns-clause-server : goal.returns-clause-server
returns-clause-server g c =
    let a = c.in-Ok.ensures.follows Begin c.new-server.ensures in
    kept_behind _ _ _ (added_alone _ (as_server c.args.context) c.args.start c.args.size c.in-Ok.field-0 (upcoming (own_in c.args.source)) a
    (c.in-Ok.ensures.answered Begin c.new-server.ensures).1.2 (c.requires.next ∙ sym c.requires.first))
