use Rattle.std.proofs.Common.{ℕ, Ok, Err, ◌≡◌, subst}
use Rattle.std.proofs.lemmas.List.{length-replicate}
use Rattle.std.specs.Prelude.{MatchResult}
use Rattle.hex.specs.Hex.{decode_sized}
use Rattle.osc_text.proofs.InputWords.{fixed_is, not_fixed}
use Rattle.osc_text.proofs.input_words.read_fixed.Goals as goal

pub returns-in-Ok : goal.returns-in-Ok
returns-in-Ok g c = fixed_is g.row.N c.args.word.now _ c.decode_to_slice.result c.in-Ok.is (subst (λ (n : ℕ). MatchResult (decode_sized c.args.word.now n) (λ xs. (c.decode_to_slice.result ≡ Ok tt) × (c.decode_to_slice.new.out ≡ xs)) (λ e. c.decode_to_slice.result ≡ Err e)) (length-replicate g.row.N 0) c.decode_to_slice.ensures.value)

pub returns-in-Err : goal.returns-in-Err
returns-in-Err g c = not_fixed g.row.N c.args.word.now _ c.decode_to_slice.result _ c.in-Err.is (subst (λ (n : ℕ). MatchResult (decode_sized c.args.word.now n) (λ xs. (c.decode_to_slice.result ≡ Ok tt) × (c.decode_to_slice.new.out ≡ xs)) (λ e. c.decode_to_slice.result ≡ Err e)) (length-replicate g.row.N 0) c.decode_to_slice.ensures.value)
