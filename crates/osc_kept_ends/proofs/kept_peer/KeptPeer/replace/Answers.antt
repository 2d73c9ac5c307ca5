use Rattle.std.proofs.Common.{◌≡◌, ◌≤◌, ◌∙◌, sym, ap, subst, arith, rules}
use Rattle.std.proofs.Math.Logic.{∥∥₁_map}
use Rattle.osc_client.specs.Agrees.{ClientAgrees}
use Rattle.osc_client.specs.ClientHistory as asked
use Rattle.osc_context.specs.SecurityContext.{SecurityContext}
use Rattle.osc_context.specs.Views.{as_client, as_server, number_of}
use Rattle.osc_life.specs.ServerHistory as served
use Rattle.osc_kept_ends.specs.Numbering.{upcoming}
use Rattle.osc_kept_ends.specs.PeerOwning.{own_in, received_in}
use Rattle.osc_kept_ends.specs.Peering.{IsPeerStart}
use Rattle.osc_kept_ends.proofs.PeerSteps.{kept_behind, replaced}
use Rattle.osc_kept_ends.proofs.kept_peer.KeptPeer.replace.Goals as goal

pub invariant_of-self : goal.invariant_of-self
invariant_of-self g c =
    let by = as_server c.args.context in
    let first = number_of c.in-Ok.loaded.1 in
    let start = c.in-Ok.loaded.2 in
    let next : upcoming (own_in c.replace.new.dest) ≡ first = ap (λ s. upcoming (own_in s)) c.replace.ensures.after ∙ c.in-Ok.ensures.next in
    record {
      served = ∥∥₁_map c.args.self.now.served (λ (h, b). (
        served.Then h (served.Replace 0 by start c.args.size) served.Replaced,
        kept_behind _ _ _ (replaced c.args.self.now.server c.replace_checked-2.new.self h by start c.args.size _ _ b (c.replace_checked-2.ensures h b.agrees (c.in_default.ensures.answered h b.agrees))
            (next ∙ sym (c.in-Ok.ensures.first by c.args.size))),
      ));
      asked = ∥∥₁_map c.args.self.now.asked (λ (k, b). (
        asked.replaced (as_client c.copy_of.result) first k,
        record { agrees = c.replace_checked.ensures.replaced k b.agrees; least = omega (arith, next) },
      ));
    }

pub returns-clause-begins : goal.returns-clause-begins
returns-clause-begins g c = λ yes.
    let by = as_server c.args.context in
    let first = number_of c.in-Ok.loaded.1 in
    let start = c.in-Ok.loaded.2 in
    let same = c.replace.ensures.after in
    let next : upcoming (own_in c.replace.new.dest) ≡ first = ap (λ s. upcoming (own_in s)) same ∙ c.in-Ok.ensures.next in
    let (received, mid, loads, least, rises, starts, own, allowed, failures, keeps) = c.in-Ok.ensures.begins in
    let risen : g.R.RecordKeeper.received_floor c.args.keeper ≤ g.R.RecordKeeper.received_floor c.in-Ok.loaded.0.keeper = rises in
    let floor : g.R.RecordKeeper.received_floor c.replace.new.dest.keeper ≡ g.R.RecordKeeper.received_floor c.in-Ok.loaded.0.keeper = ap (λ s. g.R.RecordKeeper.received_floor s.keeper) same in (
      first,
      received,
      mid,
      start,
      loads,
      least,
      omega (arith, risen, floor),
      subst (λ n. IsPeerStart n start first received) c.ahead.ensures starts,
      ap own_in same ∙ own,
      allowed,
      ap (λ s. g.R.RecordKeeper.failures s.keeper) same ∙ failures,
      ap received_in same ∙ keeps,
      λ h b. (
        (search rules, c.in_default.ensures.answered h b.agrees),
        replaced c.args.self.now.server c.replace_checked-2.new.self h by start c.args.size _ _ b (c.replace_checked-2.ensures h b.agrees (c.in_default.ensures.answered h b.agrees))
            (next ∙ sym (c.in-Ok.ensures.first by c.args.size)),
      ),
      λ k b. record {
        agrees = subst (λ (s : SecurityContext). ClientAgrees c.replace_checked.new.self (asked.replaced s first k)) c.copy_of.ensures.client (c.replace_checked.ensures.replaced k b.agrees);
        next_is = sym next;
      },
    )
