use Rattle.std.proofs.Common.{◌∙◌, sym, ap, subst, Some}
use Rattle.std.proofs.Math.Logic.{∥∥₁_map}
use Rattle.osc_context.specs.Views.{number_of}
use Rattle.osc_endpoint.specs.declared.server.ServerOf.{ServerOf}
use Rattle.osc_endpoint.specs.Agrees.{Agrees}
use Rattle.osc_life.specs.ServerHistory.{Then, Restart, Restarted, life}
use Rattle.osc_kept_ends.specs.Numbering.{upcoming}
use Rattle.osc_kept_ends.proofs.ServerSteps.{lives_out, restarted}
use Rattle.osc_kept_ends.proofs.kept_server.KeptServer.restart.Goals as goal

pub invariant_of-self : goal.invariant_of-self
invariant_of-self g c = record {
  kept = ∥∥₁_map c.args.self.now.kept (λ x.
      (x.0, record { agrees = x.1.agrees; one = x.1.one; next_is = x.1.next_is ∙ ap Some (sym (ap upcoming c.reload.ensures.left.0)) }));
}

pub invariant_of-self-in_default : goal.invariant_of-self-in_default
invariant_of-self-in_default g c = record {
  kept = ∥∥₁_map c.args.self.now.kept (λ x. (
    x.0,
    record {
      agrees = subst (λ (s : ServerOf 1). Agrees s x.0) (sym c.in_default.ensures.unchanged) x.1.agrees;
      one = x.1.one;
      next_is = x.1.next_is ∙ ap Some (sym (ap upcoming c.reload.ensures.left.0));
    },
  ));
}

pub returns-in_default-clause-lives_exhausted : goal.returns-in_default-clause-lives_exhausted
returns-in_default-clause-lives_exhausted g c = λ is n h k. lives_out (life h 0) c.in_default.field-0 _ k.next_is (c.in_default.ensures.answered h k.agrees)

pub invariant_of-self-2 : goal.invariant_of-self-2
invariant_of-self-2 g c =
    let first = number_of c.in-Ok.loaded.1 in
    record {
      kept = ∥∥₁_map c.args.self.now.kept (λ x.
          let k = restarted c.args.self.now.server c.restart.new.self x.0 _ first x.1 (c.in-Ok-restart.ensures.follows x.0 x.1.agrees) in (
            Then x.0 (Restart 0 first) Restarted,
            record { agrees = k.agrees; one = k.one; next_is = k.next_is ∙ ap Some (sym (ap upcoming c.begin.ensures.numbers ∙ c.in-Ok.ensures.begins.1)) },
          ));
    }
