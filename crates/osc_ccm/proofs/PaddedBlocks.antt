-- Blocks of a list, and the fold over them.
use Rattle.std.proofs.Common.{◌≡◌, ℕ, suc, ◌+◌, ◌-◌, ◌*◌, ◌<◌, ◌≤◌, min, List, [], ◌∷◌, length, get_or, take, drop, map, fold, bit_xor, refl, ap, ap₂, ◌∙◌, sym, arith, inl, inr, length-take, length-drop, get_or-take, get_or-drop}
use Rattle.std.proofs.lemmas.Bool.{cases_lt}
use Rattle.std.proofs.lemmas.List.{get_or_past}
use Rattle.std.proofs.lemmas.List.FromFn.{fill_by_all, get_or-map-range_with_len, length-map-range_with_len, map-range_with_len_more}
use Rattle.std.proofs.lemmas.List.Sums.{fold_push}
use Rattle.std.specs.List.{range_with_len}
use Rattle.osc_ccm.specs.Ccm.{block_count, mac_step, padded_block, padded_blocks, xor_bytes}
use Rattle.osc_ccm.proofs.Xor.{is_xor_bytes}

-- two functions that agree below n list the same values there
pub same_map : {X : Type 0} (f g : ℕ → X) (n : ℕ) → ((k : ℕ) → k < n → f k ≡ g k) → map f (range_with_len 0 n) ≡ map g (range_with_len 0 n)
same_map f g n same =
    fill_by_all g (map f (range_with_len 0 n)) n (g 0) (length-map-range_with_len f 0 n)
    (λ k lt. get_or-map-range_with_len f 0 n k k (g 0) lt (omega arith) ∙ same k lt)

-- a list by its elements
pub by_places : (n : ℕ) (xs : List ℕ) → length xs ≡ n → xs ≡ map (λ k. get_or xs k 0) (range_with_len 0 n)
by_places n xs long = fill_by_all (λ k. get_or xs k 0) xs n 0 long (λ k lt. refl)

-- a list of 16 whose elements are those of another, as far as that goes, is its first block
pub is_padded_block : (block xs : List ℕ) → length block ≡ 16 → ((k : ℕ) → k < 16 → get_or block k 0 ≡ get_or xs k 0) → block ≡ padded_block xs 0
is_padded_block block xs long same =
    by_places 16 block long ∙ same_map (λ k. get_or block k 0) (λ k. get_or xs (16 * 0 + k) 0) 16
    (λ k lt. let at : k ≡ 16 * 0 + k = omega arith in same k lt ∙ ap (λ (i : ℕ). get_or xs i 0) at)

-- a block is its own padded block
pub padded_whole : (xs : List ℕ) → length xs ≡ 16 → padded_block xs 0 ≡ xs
padded_whole xs long = sym (by_places 16 xs long)

-- the part of a list at block i, as a block
pub part_block : (xs : List ℕ) (i n : ℕ) → n ≡ min (16 * i + 16) (length xs) - 16 * i → padded_block (take n (drop (16 * i) xs)) 0 ≡ padded_block xs i
part_block xs i n e =
    same_map _ (λ k. get_or xs (16 * i + k) 0) 16 (λ k lt.
    let at : 16 * 0 + k ≡ k = omega arith in
    ap (λ (j : ℕ). get_or (take n (drop (16 * i) xs)) j 0) at
    ∙ elim (cases_lt k n) [
      | inl low ↦ get_or-take n (drop (16 * i) xs) k 0 low ∙ get_or-drop (16 * i) xs k 0
      | inr high ↦
          get_or_past (take n (drop (16 * i) xs)) k 0 (omega (arith, length-take n (drop (16 * i) xs)))
          ∙ sym (get_or_past xs (16 * i + k) 0 (omega arith))
    ])

-- blocks from the second on are those of what lies past the first
blocks_past : (xs : List ℕ) (n : ℕ) → map (padded_block xs) (range_with_len 1 n) ≡ map (padded_block (drop 16 xs)) (range_with_len 0 n)
blocks_past xs n =
    fill_by_all (padded_block (drop 16 xs)) (map (padded_block xs) (range_with_len 1 n)) n [] (length-map-range_with_len (padded_block xs) 1 n)
    (λ k lt.
    get_or-map-range_with_len (padded_block xs) 1 n k (1 + k) [] lt refl
    ∙ same_map (λ j. get_or xs (16 * (1 + k) + j) 0) (λ j. get_or (drop 16 xs) (16 * k + j) 0) 16 (λ j low.
    let at : 16 * (1 + k) + j ≡ 16 + (16 * k + j) = omega arith in
    ap (λ (i : ℕ). get_or xs i 0) at ∙ sym (get_or-drop 16 xs (16 * k + j) 0)))

-- the blocks of a list are the first and those of the rest
pub padded_blocks-cons : (xs : List ℕ) → 0 < length xs → padded_blocks xs ≡ padded_block xs 0 ∷ padded_blocks (drop 16 xs)
padded_blocks-cons xs some =
    let n = block_count (length (drop 16 xs)) in
    let more : block_count (length xs) ≡ suc n = omega (arith, length-drop 16 xs) in
    ap (λ (c : ℕ). map (padded_block xs) (range_with_len 0 c)) more
    ∙ ap (λ (l : List (List ℕ)). padded_block xs 0 ∷ l) (blocks_past xs n)

-- the first blocks of lists that agree so far
pub blocks_before : (xs ys : List ℕ) (i : ℕ) → take (16 * i) xs ≡ take (16 * i) ys
    → map (padded_block xs) (range_with_len 0 i) ≡ map (padded_block ys) (range_with_len 0 i)
blocks_before xs ys i e =
    same_map (padded_block xs) (padded_block ys) i (λ k lt.
    same_map (λ j. get_or xs (16 * k + j) 0) (λ j. get_or ys (16 * k + j) 0) 16 (λ j low.
    sym (get_or-take (16 * i) xs (16 * k + j) 0 (omega (arith, lt, low))) ∙ ap (λ (l : List ℕ). get_or l (16 * k + j) 0) e
    ∙ get_or-take (16 * i) ys (16 * k + j) 0 (omega (arith, lt, low))))

-- one more block absorbed
pub absorb_more : (key x0 x x' xs : List ℕ) (i n : ℕ) → n ≡ min (16 * i + 16) (length xs) - 16 * i
    → x ≡ fold (mac_step key) x0 (map (padded_block xs) (range_with_len 0 i))
    → x' ≡ mac_step key x (padded_block (take n (drop (16 * i) xs)) 0)
    → x' ≡ fold (mac_step key) x0 (map (padded_block xs) (range_with_len 0 (i + 1)))
absorb_more key x0 x x' xs i n en e e' =
    e' ∙ ap₂ (mac_step key) e (part_block xs i n en)
    ∙ sym (fold_push (mac_step key) x0 (map (padded_block xs) (range_with_len 0 i)) (padded_block xs i))
    ∙ ap (fold (mac_step key) x0) (sym (map-range_with_len_more (padded_block xs) 0 i i (omega arith)))

-- all blocks absorbed
pub absorb_end : (key x0 x xs : List ℕ) (i : ℕ) → i ≡ block_count (length xs)
    → x ≡ fold (mac_step key) x0 (map (padded_block xs) (range_with_len 0 i)) → x ≡ fold (mac_step key) x0 (padded_blocks xs)
absorb_end key x0 x xs i ei e = e ∙ ap (λ (n : ℕ). fold (mac_step key) x0 (map (padded_block xs) (range_with_len 0 n))) ei

-- the state after the bytes of a part were added to it
pub absorbed : (x part x' : List ℕ) → length x ≡ 16 → length x' ≡ 16 → length part ≤ 16
    → ((k : ℕ) → get_or x' k 0 ≡ bit_xor (get_or x k 0) (get_or part k 0)) → x' ≡ xor_bytes x (padded_block part 0)
absorbed x part x' long long' le at =
    is_xor_bytes x (padded_block part 0) x' (omega arith) (omega arith) (λ k lt.
    let here : k ≡ 16 * 0 + k = omega arith in
    at k ∙ ap (bit_xor (get_or x k 0)) (
    ap (λ (j : ℕ). get_or part j 0) here
    ∙ sym (get_or-map-range_with_len (λ k. get_or part (16 * 0 + k) 0) 0 16 k k 0 (omega arith) (omega arith))
    ))
