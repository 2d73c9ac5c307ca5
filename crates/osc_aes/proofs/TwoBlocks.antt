-- The key among the round keys, and a block that went through the rounds in planes.
use Rattle.std.proofs.Common.{◌≡◌, ℕ, ◌+◌, ◌*◌, ◌/◌, ◌%◌, List, [], length, get_or, refl, ap, ◌∙◌, sym, subst, arith, get_or-take}
use Rattle.std.proofs.lemmas.List.FromFn.{fill_by_all}
use Rattle.osc_aes.specs.Aes128.{aes128, cipher, expanded_key}
use Rattle.osc_aes.proofs.Lengths.{take-expanded_key}
use Rattle.osc_aes.specs.Views.{key_of_planes, lane}
use Rattle.osc_aes.specs.Lanes.{AreKeysOf, block_in, lane_of}

-- the key of the round keys of a key
pub key-known : (keys : List (List ℕ)) (key : List ℕ) → length key ≡ 16 → AreKeysOf keys (expanded_key key) → key_of_planes keys ≡ key
unfolding key_of_planes
key-known keys key long held =
    sym (fill_by_all (λ n. lane (get_or keys 0 []) (8 * (n % 4) + 2 * (n / 4))) key 16 0 long (λ n lt.
    let back : 16 * 0 + (n % 4 + 4 * (n / 4)) ≡ n = omega arith in
    let seat : lane_of 0 0 (n % 4) (n / 4) ≡ 8 * (n % 4) + 2 * (n / 4) = omega (arith, lt) in
    sym (ap (lane (get_or keys 0 [])) (sym seat) ∙ held 0 (omega arith) 0 (n % 4) (n / 4) (omega arith) (omega arith) (omega (arith, lt))
    ∙ ap (λ (j : ℕ). get_or (expanded_key key) j 0) back
    ∙ sym (get_or-take 16 (expanded_key key) n 0 lt) ∙ ap (λ (x : List ℕ). get_or x n 0) (take-expanded_key (expanded_key key) key long refl))))

-- round keys of a key are round keys of the key that they hold
pub own_keys : (keys : List (List ℕ)) (key : List ℕ) → length key ≡ 16 → AreKeysOf keys (expanded_key key) → AreKeysOf keys (expanded_key (key_of_planes keys))
own_keys keys key long held =
    let P : List ℕ → Type 0 = λ k. AreKeysOf keys (expanded_key k) in
    subst P (sym (key-known keys key long held)) held

-- a block of planes that went through the rounds
pub planes-encrypted : (key old new p q : List ℕ) (b : ℕ) → block_in 0 p b ≡ old → new ≡ block_in 10 q b
    → block_in 10 q b ≡ cipher (expanded_key key) (block_in 0 p b) → new ≡ aes128 key old
unfolding aes128
planes-encrypted key old new p q b packed unpacked done = unpacked ∙ done ∙ ap (cipher (expanded_key key)) packed
