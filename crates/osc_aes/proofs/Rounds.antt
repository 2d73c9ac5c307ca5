-- A round on blocks is a round on states.
use Rattle.std.proofs.Common.{◌≡◌, ℕ, ◌+◌, List, refl, ap, ◌∙◌, add-one}
use Rattle.osc_aes.specs.Aes128.{State, add_round_key, after_rounds, block_of, cipher, mix_columns, shift_rows, state_of, sub_bytes}

-- a state read back from its block is shifted to the same block
shift_rows-block : (s : State) → block_of (shift_rows (state_of (block_of s))) ≡ block_of (shift_rows s)
shift_rows-block s = refl

-- and mixed to the same block
mix_columns-block : (s : State) → block_of (mix_columns (state_of (block_of s))) ≡ block_of (mix_columns s)
mix_columns-block s = refl

-- and summed with a round key to the same block
add_round_key-block : (w : List ℕ) (i : ℕ) (s : State) → block_of (add_round_key w i (state_of (block_of s))) ≡ block_of (add_round_key w i s)
add_round_key-block w i s = refl

-- substituting and shifting on blocks
shifted : (b s1 s2 : List ℕ) → s1 ≡ block_of (sub_bytes (state_of b)) → s2 ≡ block_of (shift_rows (state_of s1))
    → s2 ≡ block_of (shift_rows (sub_bytes (state_of b)))
shifted b s1 s2 e1 e2 = e2 ∙ ap (λ (x : List ℕ). block_of (shift_rows (state_of x))) e1 ∙ shift_rows-block (sub_bytes (state_of b))

-- substituting, shifting and mixing on blocks
mixed : (b s1 s2 s3 : List ℕ) → s1 ≡ block_of (sub_bytes (state_of b)) → s2 ≡ block_of (shift_rows (state_of s1))
    → s3 ≡ block_of (mix_columns (state_of s2)) → s3 ≡ block_of (mix_columns (shift_rows (sub_bytes (state_of b))))
mixed b s1 s2 s3 e1 e2 e3 =
    e3 ∙ ap (λ (x : List ℕ). block_of (mix_columns (state_of x))) (shifted b s1 s2 e1 e2)
    ∙ mix_columns-block (shift_rows (sub_bytes (state_of b)))

-- one round
pub round_more : (w block b s1 s2 s3 s4 : List ℕ) (n : ℕ) → b ≡ after_rounds w block n
    → s1 ≡ block_of (sub_bytes (state_of b)) → s2 ≡ block_of (shift_rows (state_of s1))
    → s3 ≡ block_of (mix_columns (state_of s2)) → s4 ≡ block_of (add_round_key w (n + 1) (state_of s3))
    → s4 ≡ after_rounds w block (n + 1)
unfolding after_rounds
round_more w block b s1 s2 s3 s4 n e0 e1 e2 e3 e4 =
    rw add-one
    (e4 ∙ ap (λ (x : List ℕ). block_of (add_round_key w (n + 1) (state_of x))) (mixed b s1 s2 s3 e1 e2 e3)
    ∙ add_round_key-block w (n + 1) (mix_columns (shift_rows (sub_bytes (state_of b))))
    ∙ ap (λ (x : List ℕ). block_of (add_round_key w (n + 1) (mix_columns (shift_rows (sub_bytes (state_of x)))))) e0)

-- the last round
pub round_last : (w block b s1 s2 s3 : List ℕ) → b ≡ after_rounds w block 9
    → s1 ≡ block_of (sub_bytes (state_of b)) → s2 ≡ block_of (shift_rows (state_of s1))
    → s3 ≡ block_of (add_round_key w 10 (state_of s2)) → s3 ≡ cipher w block
unfolding cipher
round_last w block b s1 s2 s3 e0 e1 e2 e3 =
    e3 ∙ ap (λ (x : List ℕ). block_of (add_round_key w 10 (state_of x))) (shifted b s1 s2 e1 e2)
    ∙ add_round_key-block w 10 (shift_rows (sub_bytes (state_of b)))
    ∙ ap (λ (x : List ℕ). block_of (add_round_key w 10 (shift_rows (sub_bytes (state_of x))))) e0
