use Rattle.std.proofs.Common.{◌∙◌, refl, subst, sym}
use Rattle.osc_kept_ends.specs.Numbering.{upcoming}
use Rattle.osc_handle.specs.Reserved.{WantsSave}
use Rattle.osc_handle.proofs.NumberSteps.{same_save}
use Rattle.osc_handle.proofs.ServerSteps.{took}
use Rattle.osc_handle.proofs.kept_server_handle.KeptServerHandle.decide.Goals as goal

pub returns-in-Some-clause-refused : goal.returns-in-Some-clause-refused
returns-in-Some-clause-refused c = λ number is.
    (same_save is ∙ c.in-Some.ensures.refused.0, λ h o w. subst (λ b. WantsSave b (upcoming o) c.args.self.now.reserved) (c.is_closed.ensures h o w) (c.in-Some.ensures.refused.1 h o w))

pub returns-clause-answered : goal.returns-clause-answered
returns-clause-answered c = λ h old w.
    let d = c.in-Some-decide.ensures.answered h w.serves in
    record {
      answer = d.answer;
      decides = d.decides;
      step = took c.args.self.now _ h c.args.now c.args.fresh.echo c.args.fresh.mid c.args.datagram.now d.answer _ old w
          (λ wants. c.save_first.ensures.accepted c.in_default.is h old w (subst (λ b. WantsSave b (upcoming old) c.args.self.now.reserved) (sym (c.is_closed.ensures h old w)) wants))
          d.row d.serves c.in-Some-decide.ensures.bytes refl;
    }

pub returns-clause-refuses : goal.returns-clause-refuses
returns-clause-refuses c = λ h o w wants.
    absurd (c.save_first.ensures.accepted c.in_default.is h o w (subst (λ b. WantsSave b (upcoming o) c.args.self.now.reserved) (sym (c.is_closed.ensures h o w)) wants))
