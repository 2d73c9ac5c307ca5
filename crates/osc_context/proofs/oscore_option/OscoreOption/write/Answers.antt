use Rattle.std.proofs.Common.{arith, refl}
use Rattle.std.proofs.lemmas.Bool.{false≢true}
use Rattle.osc_context.specs.Views.{oscore_parts_of}
use Rattle.osc_context.proofs.WrittenValues.{parts_len-most, long_value, length-value}
use Rattle.osc_context.proofs.oscore_option.OscoreOption.write.Goals as goal

pub returns-then-not-fits-clause-accepts : goal.returns-then-not-fits-clause-accepts
returns-then-not-fits-clause-accepts c = λ fits.
    let le = parts_len-most (oscore_parts_of c.args.self.now) in
    absurd (false≢true (c.if-not-fits.ensures.1 (omega arith)))

pub returns-then-not-fits-clause-refused : goal.returns-then-not-fits-clause-refused
returns-then-not-fits-clause-refused c = (refl, long_value (oscore_parts_of c.args.self.now) (λ few. false≢true (c.if-not-fits.ensures.1 few)))

pub returns-clause-most : goal.returns-clause-most
returns-clause-most c = length-value (oscore_parts_of c.args.self.now) _ c.put.ensures
