use Rattle.std.proofs.Common.{arith, bit_xor, get_or, ℕ, List, ap, ◌∙◌}
use Rattle.std.proofs.lemmas.List.FromFn.{fill_by_all}
use Rattle.osc_context.specs.Views.{number_of}
use Rattle.osc_context.specs.Nonce.{nonce_of, nonce_text}
use Rattle.osc_context.proofs.nonces.nonce.Goals as goal

pub returns : goal.returns
unfolding nonce_of
returns c =
    fill_by_all (λ k. bit_xor (get_or c.args.common_iv.now k 0) (get_or (nonce_text c.args.owner.now (number_of c.args.partial_iv)) k 0)) c.loop-i.nonce 13 0 c.loop-i.invariant.long
    (λ k lt. c.loop-i.invariant.done k (omega arith) ∙ ap (λ (t : List ℕ). bit_xor (get_or c.args.common_iv.now k 0) (get_or t k 0)) c.nonce_text-text.ensures)
