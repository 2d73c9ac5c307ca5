use Rattle.std.proofs.Common.{◌≡◌, arith, refl, sym, subst, Some, inl, inr}
use Rattle.std.specs.Prelude.{slice_get}
use Rattle.std.proofs.lemmas.Bool.{cases_eq}
use Rattle.std.proofs.lemmas.Option.{get_or_from_slice_get, slice_get_within}
use Rattle.osc_protect.specs.Views.{shown}
use Rattle.osc_context_handle.specs.ContextBytes.{IsContext, server_in}
use Rattle.osc_c.specs.declared.guarded_peer.GuardedPeer.{GuardedPeer}
use Rattle.osc_c.specs.PeerFinding.{answering}
use Rattle.osc_c.proofs.peer_finding.index_of.Goals as goal
use Rattle.osc_c.proofs.peer_finding.index_of.Goals.{else-is_whole-via-then-is_whole+else-answers_to, else-is_whole-via-else-is_whole}

pub loop-index-preserved : goal.loop-index-preserved
loop-index-preserved c = λ i less held. elim (cases_eq i c.loop-index.index) [
  | inl same ↦
      let ps = c.args.peers.now in
      let (p, at, whole, answers) = held in
      let read = get_or_from_slice_get ps c.loop-index.index p _ (subst (λ k. slice_get ps k ≡ Some p) same at) in
      elim c.else-is_whole.branch [
        | else-is_whole-via-then-is_whole+else-answers_to w ↦
            w.if-answers_to.ensures.no refl (subst (λ (x : GuardedPeer). answering c.args.kid.now (shown c.args.kid_context) (server_in x.inside.server.server.slot.context)) (sym read) answers)
        | else-is_whole-via-else-is_whole w ↦ w.if-is_whole.ensures.no refl (subst (λ (x : GuardedPeer). IsContext x.inside.server.server.slot.context) (sym read) whole)
      ]
  | inr other ↦ c.loop-index.invariant i (omega (arith, less, other)) held
]

pub returns-clause-none : goal.returns-clause-none
returns-clause-none c = λ i held.
    let within = slice_get_within c.args.peers.now i held.0 held.1 in let over = c.loop-index-test.false in c.loop-index.invariant i (omega (arith, within, over)) held
