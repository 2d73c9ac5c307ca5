use Rattle.std.proofs.Common.{arith, refl, rules, ◌+◌, ◌∷◌, [], ◌∙◌, ℕ, List, replicate}
use Rattle.osc_aes.specs.Aes128.{expanded_key}
use Rattle.osc_aes.proofs.Keys.{expanded_key-key}
use Rattle.osc_aes.proofs.RoundKeys.{four_words, put_round_key}
use Rattle.osc_aes.proofs.table.round_key_words.Goals as goal

pub loop-round-init : goal.loop-round-init
loop-round-init c =
    let key = c.args.key.now in
    let w = expanded_key key in
    let words : List ℕ = c.read_word.result ∷ c.read_word-2.result ∷ c.read_word-3.result ∷ c.read_word-4.result ∷ [] in
    let four = four_words w 0 c.read_word.result c.read_word-2.result c.read_word-3.result c.read_word-4.result
    (c.read_word.ensures ∙ expanded_key-key key 0 (omega arith) (omega arith))
    (c.read_word-2.ensures ∙ expanded_key-key key 1 (omega arith) (omega arith))
    (c.read_word-3.ensures ∙ expanded_key-key key 2 (omega arith) (omega arith))
    (c.read_word-4.ensures ∙ expanded_key-key key 3 (omega arith) (omega arith)) in (
      refl,
      put_round_key (replicate 44 0) words w 0 0 11 22 33 refl (omega arith) refl refl refl refl
          (λ k lt none. absurd (omega (arith, none))) four,
    )

pub loop-round-preserved : goal.loop-round-preserved
loop-round-preserved c =
    let i = c.loop-round.round in
    let words = c.loop-round.words in (
      search rules,
      put_round_key words c.next_words.result (expanded_key c.args.key.now) (i + 1) (i + 1) (i + 12) (i + 23) (i + 34)
          c.loop-round.invariant.0 (omega arith) refl (omega arith) (omega arith) (omega arith)
          (λ k lt below. c.loop-round.invariant.1 k lt (omega (arith, below)))
          (c.next_words.ensures c.args.key.now (omega arith) c.loop-round.invariant.1),
    )
