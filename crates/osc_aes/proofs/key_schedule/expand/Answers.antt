use Rattle.std.proofs.Common.{◌≡◌, arith, ◌+◌, ◌*◌, rules, take, ◌++◌, ◌∙◌, sym, ap, List, ℕ}
use Rattle.std.proofs.lemmas.Slice.{overwrites, take-put_mid}
use Rattle.std.proofs.lemmas.List.{take_all}
use Rattle.osc_aes.specs.Aes128.{key_words}
use Rattle.osc_aes.proofs.Keys.{key_words_more}
use Rattle.osc_aes.proofs.key_schedule.expand.Goals as goal

pub loop-n-init : goal.loop-n-init
unfolding key_words
loop-n-init c = (search (rules, overwrites), search (rules, overwrites))

pub loop-n-preserved : goal.loop-n-preserved
loop-n-preserved c = (
  search (rules, overwrites),
  take-put_mid (16 + 4 * c.loop-n.n) _ c.loop-n.words c.copy_from_slice-in-loop-n.new.self _ (omega (arith, c.copy_from_slice-in-loop-n.ensures.len)) (omega arith)
      ∙ ap (λ (x : List ℕ). take (16 + 4 * c.loop-n.n) c.loop-n.words ++ x) c.copy_from_slice-in-loop-n.ensures.after
      ∙ key_words_more c.args.key.now c.loop-n.words c.next_word-word.result c.loop-n.n c.loop-n.invariant.1 c.next_word-word.ensures,
)

pub returns : goal.returns
returns c =
    let done : c.loop-n.n ≡ 40 = omega arith in
    let words = rw done at c.loop-n.invariant.1 in
    sym (take_all 176 c.loop-n.words (omega arith)) ∙ words
