use Rattle.std.proofs.Common.{◌≡◌, ◌∙◌, sym, ap, subst}
use Rattle.std.proofs.lemmas.Bool.{both_ways}
use Rattle.std.proofs.Math.Logic.{∥∥₁_map}
use Rattle.osc_context.specs.Views.{as_client, number_of}
use Rattle.osc_client.specs.ClientHistory.{replaced}
use Rattle.osc_kept_ends.specs.Numbering.{upcoming}
use Rattle.osc_kept_ends.specs.Owning.{own_in}
use Rattle.osc_kept_ends.proofs.kept_client.KeptClient.replace.Goals as goal

pub invariant_of-self : goal.invariant_of-self
invariant_of-self g c =
    let first = number_of c.in-Ok.started.1 in
    record {
      kept = ∥∥₁_map c.args.self.now.kept (λ (h, k). (
        replaced (as_client c.args.context) first h,
        record { agrees = c.replace_checked.ensures.replaced h k.agrees; next_is = sym (ap (λ s. upcoming (own_in s)) c.replace.ensures.after ∙ ap upcoming c.in-Ok.ensures.begins.1.1) },
      ));
    }

pub returns-clause-begins : goal.returns-clause-begins
returns-clause-begins g c = λ yes.
    let first = number_of c.in-Ok.started.1 in
    let same = c.replace.ensures.after in
    let begins = c.in-Ok.ensures.begins in (
      first,
      subst (λ s. g.K.Keeper.loads c.args.keeper first s.keeper × (g.K.Keeper.failures s.keeper ≡ g.K.Keeper.failures c.args.keeper)) (sym same) begins.0,
      (begins.1.0, ap own_in same ∙ begins.1.1),
      λ h k. (
        λ shares. both_ways c.has_sender_of.result c.if-has_sender_of.false ((c.has_sender_of.ensures h k.agrees).1 shares),
        record { agrees = c.replace_checked.ensures.replaced h k.agrees; next_is = sym (ap (λ s. upcoming (own_in s)) same ∙ ap upcoming begins.1.1) },
      ),
    )
