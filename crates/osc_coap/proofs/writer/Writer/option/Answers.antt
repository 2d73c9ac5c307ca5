use Rattle.std.proofs.Common.{arith, refl}
use Rattle.osc_coap.specs.OptionSpelling.{AreBytes}
use Rattle.osc_coap.specs.Writer.{Holds}
use Rattle.osc_coap.proofs.Bytes.{bytes_by_place}
use Rattle.osc_coap.proofs.Grown.{option_held}
use Rattle.osc_coap.proofs.Refusals.{option_ok, option_err}
use Rattle.osc_coap.proofs.writer.Writer.option.Goals as goal

pub returns-clause-taken : goal.returns-clause-taken
unfolding Holds
returns-clause-taken c = λ draft old h.
    let are : AreBytes c.args.value.now = bytes_by_place c.args.value.now (λ i. let b = c.type_inv.value i in omega (arith, b)) in
    option_held c.args.self.now _ draft old c.args.number c.args.value.now h c.in_ok-judge_option.ensures (omega arith) are refl refl c.put_option-self.ensures.written c.put_option-self.ensures.end

pub returns-in_err-judge_option-clause-accepts : goal.returns-in_err-judge_option-clause-accepts
unfolding Holds
returns-in_err-judge_option-clause-accepts c = λ draft old h. (option_err c.args.self.now draft old c.args.number c.args.value.now c.in_err-judge_option.field-0.0 c.from_residual.result h c.in_err-judge_option.ensures c.from_residual.ensures.1).accepts

pub returns-in_err-judge_option-clause-refused : goal.returns-in_err-judge_option-clause-refused
unfolding Holds
returns-in_err-judge_option-clause-refused c = λ draft old h. (option_err c.args.self.now draft old c.args.number c.args.value.now c.in_err-judge_option.field-0.0 c.from_residual.result h c.in_err-judge_option.ensures c.from_residual.ensures.1).refused

pub returns-in_err-judge_option-clause-refuses : goal.returns-in_err-judge_option-clause-refuses
unfolding Holds
returns-in_err-judge_option-clause-refuses c = λ draft old h. (option_err c.args.self.now draft old c.args.number c.args.value.now c.in_err-judge_option.field-0.0 c.from_residual.result h c.in_err-judge_option.ensures c.from_residual.ensures.1).refuses

pub returns-clause-accepted : goal.returns-clause-accepted
unfolding Holds
returns-clause-accepted c = λ draft old h. (option_ok c.args.self.now draft old c.args.number c.args.value.now h c.in_ok-judge_option.ensures).accepted

pub returns-clause-refuses : goal.returns-clause-refuses
unfolding Holds
returns-clause-refuses c = λ draft old h. (option_ok c.args.self.now draft old c.args.number c.args.value.now h c.in_ok-judge_option.ensures).refuses
