use Rattle.std.proofs.Common.{rules, arith, refl}
use Rattle.osc_coap.specs.OptionSpelling.{AreBytes}
use Rattle.osc_coap.specs.Writer.{Holds}
use Rattle.osc_coap.proofs.Bytes.{bytes_by_place}
use Rattle.osc_coap.proofs.Refusals.{takes_now}
use Rattle.osc_coap.proofs.Grown.{option_held}
use Rattle.osc_coap.proofs.writer.Writer.add_option.Goals as goal

pub returns-clause-written : goal.returns-clause-written
unfolding Holds
returns-clause-written c = λ draft old h.
    let taken = takes_now c.args.self.now c.args.number c.args.value.now c.requires in
    let are : AreBytes c.args.value.now = bytes_by_place c.args.value.now (λ i. let b = c.type_inv.value i in omega (arith, b)) in
    option_held c.args.self.now _ draft old c.args.number c.args.value.now h taken (omega arith) are refl refl c.put_option-self.ensures.written c.put_option-self.ensures.end

pub overflow_sub-number : goal.overflow_sub-number
overflow_sub-number c = let taken = takes_now c.args.self.now c.args.number c.args.value.now c.requires in search rules

pub put_option-self-requires-clause-short : goal.put_option-self-requires-clause-short
put_option-self-requires-clause-short c = let taken = takes_now c.args.self.now c.args.number c.args.value.now c.requires in search rules

pub put_option-self-requires-clause-room : goal.put_option-self-requires-clause-room
put_option-self-requires-clause-room c = let taken = takes_now c.args.self.now c.args.number c.args.value.now c.requires in search rules

pub invariant_of-self : goal.invariant_of-self
invariant_of-self c = let taken = takes_now c.args.self.now c.args.number c.args.value.now c.requires in search rules
