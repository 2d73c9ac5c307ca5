-- Words read from bytes and written as bytes, and the key among the words of an expanded key.
use Rattle.std.proofs.Common.{◌≡◌, ℕ, zero, suc, ◌+◌, ◌*◌, ◌<◌, ◌≤◌, List, [], ◌∷◌, ◌++◌, length, get_or, take, drop, refl, ap, ap₂, ◌∙◌, sym, subst, arith, w32, get_or-drop, get_or-take}
use Rattle.std.specs.Int.{to_be_bytes, from_be_bytes}
use Rattle.std.specs.List.{flat_map}
use Rattle.std.proofs.lemmas.Nat.{be_bytes_4}
use Rattle.std.proofs.lemmas.List.{length-take-le}
use Rattle.std.proofs.lemmas.List.FromFn.{fill_by_all}
use Rattle.byteorder.specs.Endian.{big_bytes, big_number}
use Rattle.osc_aes.specs.Aes128.{expanded_key, word_at}
use Rattle.osc_aes.specs.RoundWords.{AreWordsOf, block_of_words}
use Rattle.osc_aes.specs.Views.{key_of_words}
use Rattle.osc_aes.proofs.Lengths.{length-key_words, take-key_words}

-- the number that the four bytes of word i spell
big_number-word : (bytes : List ℕ) (i : ℕ) → big_number 4 (drop (4 * i) bytes) ≡ from_be_bytes w32 (word_at bytes i)
big_number-word bytes i =
    let b0 = get_or-drop (4 * i) bytes 0 0 in
    let b1 = get_or-drop (4 * i) bytes 1 0 in
    let b2 = get_or-drop (4 * i) bytes 2 0 in
    let b3 = get_or-drop (4 * i) bytes 3 0 in
    let first : 4 * i + 0 ≡ 4 * i = omega arith in
    let place = ap (λ (j : ℕ). get_or bytes j 0) first in
    omega (arith, b0, b1, b2, b3, place)

-- the bytes of a word are bytes
word_at-fits : (bytes : List ℕ) (i : ℕ) → ((k : ℕ) → get_or bytes k 0 < 256) → (k : ℕ) → get_or (word_at bytes i) k 0 < 256
word_at-fits bytes i fit zero = fit (4 * i)
word_at-fits bytes i fit (suc zero) = fit (4 * i + 1)
word_at-fits bytes i fit (suc (suc zero)) = fit (4 * i + 2)
word_at-fits bytes i fit (suc (suc (suc zero))) = fit (4 * i + 3)
word_at-fits bytes i fit (suc (suc (suc (suc k)))) = omega arith

-- a number read at word i has that word's bytes
pub read_word-bytes : (bytes : List ℕ) (i n : ℕ) → ((k : ℕ) → get_or bytes k 0 < 256) → n ≡ big_number 4 (drop (4 * i) bytes)
    → to_be_bytes w32 n ≡ word_at bytes i
read_word-bytes bytes i n fit e = be_bytes_4 (word_at bytes i) n refl (word_at-fits bytes i fit) (e ∙ big_number-word bytes i)

-- four words written one after the other are the block with these columns
pub flat_map-block : (words : List ℕ) → length words ≡ 4 → flat_map (big_bytes 4) words ≡ block_of_words words
flat_map-block [] e = absurd (omega arith)
flat_map-block (a ∷ []) e = absurd (omega arith)
flat_map-block (a ∷ b ∷ []) e = absurd (omega arith)
flat_map-block (a ∷ b ∷ c ∷ []) e = absurd (omega arith)
flat_map-block (a ∷ b ∷ c ∷ d ∷ []) e = refl
flat_map-block (a ∷ b ∷ c ∷ d ∷ more ∷ words) e = absurd (omega arith)

-- the first 16 bytes of a longer list, word by word
first_words : (w : List ℕ) → 16 ≤ length w → word_at w 0 ++ (word_at w 1 ++ (word_at w 2 ++ word_at w 3)) ≡ take 16 w
first_words w long =
    sym (fill_by_all (λ k. get_or w k 0) (take 16 w) 16 0 (length-take-le 16 w long) (λ k lt. get_or-take 16 w k 0 lt))

-- the words of an expanded key hold the key
pub key_of_words-expanded : (words key : List ℕ) → length key ≡ 16 → AreWordsOf words (expanded_key key) → key_of_words words ≡ key
unfolding key_of_words
key_of_words-expanded words key long held =
    ap₂ (λ (x y : List ℕ). x ++ y) (held 0 (omega arith))
    (ap₂ (λ (x y : List ℕ). x ++ y) (held 11 (omega arith))
    (ap₂ (λ (x y : List ℕ). x ++ y) (held 22 (omega arith)) (held 33 (omega arith))))
    ∙ first_words (expanded_key key) (omega (arith, length-key_words key 40))
    ∙ take-key_words key 16 40 (sym long)

-- words of a key are words of the key that they hold
pub words_of_own_key : (words key : List ℕ) → length key ≡ 16 → AreWordsOf words (expanded_key key)
    → AreWordsOf words (expanded_key (key_of_words words))
words_of_own_key words key long held =
    let P : List ℕ → Type 0 = λ k. AreWordsOf words (expanded_key k) in
    subst P (sym (key_of_words-expanded words key long held)) held
