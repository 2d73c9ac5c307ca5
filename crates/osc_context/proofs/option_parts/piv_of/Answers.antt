use Rattle.std.proofs.Common.{arith, ◌≢◌, length, ap, ◌∙◌, sym}
use Rattle.std.proofs.lemmas.Bool.{eqb-false, false≢true}
use Rattle.osc_context.specs.PartialIv.{partial_iv_of}
use Rattle.osc_context.proofs.PartialIvs.{iv_again, fits_small, no_zero}
use Rattle.osc_context.proofs.option_parts.piv_of.Goals as goal

pub returns-clause-spelled : goal.returns-clause-spelled
returns-clause-spelled c =
    let filled : length c.args.bytes.now ≢ 0 = eqb-false _ _ (sym c.is_empty.ensures ∙ c.if-is_empty.false) in
    ap partial_iv_of c.of_bytes.ensures ∙ iv_again c.args.bytes.now (fits_small _ (λ i. let h = c.type_inv.bytes i in omega (arith, h))) (omega arith) c.requires (no_zero _ (λ long none. false≢true (c.if-has_leading_zero.ensures.1 (long, none))))
