-- Lengths: of a block, and of an expanded key.
use Rattle.std.proofs.Common.{◌≡◌, ℕ, zero, suc, ◌+◌, ◌*◌, ◌≤◌, List, length, take, refl, sym, ap, ◌∙◌, arith, length-append}
use Rattle.std.proofs.lemmas.List.{take_all, take-append-le}
use Rattle.osc_aes.specs.Aes128.{aes128, cipher, expanded_key, key_words, next_word}

-- a block has 16 bytes after the rounds
pub length-aes128 : (key block : List ℕ) → length (aes128 key block) ≡ 16
unfolding aes128 cipher
length-aes128 key block = refl

-- n further words have four bytes each
pub length-key_words : (key : List ℕ) (n : ℕ) → length (key_words key n) ≡ length key + 4 * n
unfolding key_words
length-key_words key zero = omega arith
length-key_words key (suc n) =
    length-append (key_words key n) (next_word (key_words key n) (n + 4)) ∙ omega (arith, length-key_words key n)

-- the words begin with the key
pub take-key_words : (key : List ℕ) (m n : ℕ) → m ≡ length key → take m (key_words key n) ≡ key
unfolding key_words
take-key_words key m zero e = take_all m key (omega arith)
take-key_words key m (suc n) e =
    let long : m ≤ length (key_words key n) = omega (arith, length-key_words key n) in
    take-append-le m (key_words key n) (next_word (key_words key n) (n + 4)) long ∙ take-key_words key m n e

-- an expanded key begins with its key
pub take-expanded_key : (words key : List ℕ) → length key ≡ 16 → words ≡ expanded_key key → take 16 words ≡ key
take-expanded_key words key long e = ap (take 16) e ∙ take-key_words key 16 40 (sym long)
