-- A memory that takes one more request.
use Rattle.std.proofs.Common.{◌≡◌, ◌≢◌, ◌∙◌, ℕ, zero, suc, ◌<◌, Bool, true, false, None, Some, List, [], ◌∷◌, ◌++◌, ap, arith, drop, get_or, length, refl, subst, sym, take}
use Rattle.std.specs.List.{Contains}
use Rattle.std.specs.Prelude.{cond, map, not, remove, slice_get, slice_set, ◌==◌}
use Rattle.std.specs.List.{refill}
use Rattle.std.proofs.Math.Seq.{take-append_seam}
use Rattle.std.proofs.lemmas.Bool.{eq-eqb, ne_eqb}
use Rattle.std.proofs.lemmas.List.{length-map, length-set, map-set}
use Rattle.std.proofs.lemmas.Option.{get_or_from_slice_get, slice_get-get_or, slice_get-map, slice_get_read, slice_get_within}
use Rattle.std.specs.Option.{option_map}
use Rattle.osc_replies.specs.declared.remembered.Remembered.{Remembered}
use Rattle.osc_replies.specs.Memory.{Kept, others}
use Rattle.osc_replies.specs.Views.{kept_of}

-- a request of another number is left
pub passes : (n : ℕ) (k : Kept) (ks : List Kept) → (k.number == n) ≡ false → others n (k ∷ ks) ≡ k ∷ others n ks
passes n k ks e = ap (λ b. cond (not b) (k ∷ others n ks) (others n ks)) e

-- a request of this number isn't
pub fails : (n : ℕ) (k : Kept) (ks : List Kept) → (k.number == n) ≡ true → others n (k ∷ ks) ≡ others n ks
fails n k ks e = ap (λ b. cond (not b) (k ∷ others n ks) (others n ks)) e

-- where all have other numbers, all are left
pub all_others : (n : ℕ) (ks : List Kept) → ((k : Kept) → Contains ks k → k.number ≢ n) → others n ks ≡ ks
all_others n [] h = refl
all_others n (k ∷ ks) h =
    passes n k ks (ne_eqb k.number n (h k (0, omega arith, refl))) ∙ ap (λ (zs : List Kept). k ∷ zs) (all_others n ks (λ x (i, less, at). h x (suc i, omega (arith, less), at)))

same_behind : (b : Bool) (n : ℕ) (k : Kept) (xs ys : List Kept) → (k.number == n) ≡ b → others n xs ≡ others n ys → others n (k ∷ xs) ≡ others n (k ∷ ys)
same_behind true n k xs ys e h = fails n k xs e ∙ h ∙ sym (fails n k ys e)
same_behind false n k xs ys e h = passes n k xs e ∙ ap (λ (zs : List Kept). k ∷ zs) h ∙ sym (passes n k ys e)

-- a request of this number is none of the others
pub others_removed : {len : ℕ} (xs : List (Remembered len)) (i n : ℕ) (k : Kept) → slice_get (map kept_of xs) i ≡ Some k → k.number ≡ n → others n (map kept_of (remove xs i)) ≡ others n (map kept_of xs)
others_removed [] i n k is same = absurd (let f : None ≡ Some k = is in cc)
others_removed (x ∷ xs) zero n k is same =
    let here : kept_of x ≡ k = let f : Some (kept_of x) ≡ Some k = is in cc in
    sym (fails n (kept_of x) (map kept_of xs) (eq-eqb (kept_of x).number n (ap (λ (q : Kept). q.number) here ∙ same)))
others_removed (x ∷ xs) (suc i) n k is same = same_behind ((kept_of x).number == n) n (kept_of x) (map kept_of (remove xs i)) (map kept_of xs) refl (others_removed xs i n k is same)

-- what stands at a place is there
contains_at : (xs : List Kept) (i : ℕ) (k : Kept) → slice_get xs i ≡ Some k → Contains xs k
contains_at xs i k is = (i, slice_get_within xs i k is, get_or_from_slice_get xs i k k is)

-- an entry that was read at a place is there
pub read_at : {len : ℕ} (items entries : List (Remembered len)) (i : ℕ) (p : Remembered len) → entries ≡ items → i < length entries → p ≡ get_or entries i p → slice_get (map kept_of items) i ≡ Some (kept_of p)
read_at items entries i p same less is =
    slice_get-map kept_of items i ∙ ap (λ (xs : List (Remembered _)). option_map kept_of (slice_get xs i)) (sym same) ∙ ap (option_map kept_of) (slice_get_read entries (length entries) i p refl less is)

pub contains_read : {len : ℕ} (items entries : List (Remembered len)) (i : ℕ) (p : Remembered len) → entries ≡ items → i < length entries → p ≡ get_or entries i p → Contains (map kept_of items) (kept_of p)
contains_read items entries i p same less is = contains_at (map kept_of items) i (kept_of p) (read_at items entries i p same less is)

-- what stands at its place is what was read
pub one_read : {len : ℕ} (items entries : List (Remembered len)) (place i : ℕ) (p : Remembered len) (k : Kept) → i ≡ place → entries ≡ items → place < length entries → p ≡ get_or entries place p
    → slice_get (map kept_of items) i ≡ Some k → k ≡ kept_of p
one_read items entries place i p k here same less is there =
    let found : Some k ≡ Some (kept_of p) = sym there ∙ ap (slice_get (map kept_of items)) here ∙ read_at items entries place p same less is in
    cc

-- what is kept stands at a place of the entries
pub found_at : {len : ℕ} (items entries : List (Remembered len)) (k : Kept) → entries ≡ items → Contains (map kept_of items) k
    → (i : ℕ) × (i < length entries) × (slice_get (map kept_of items) i ≡ Some k)
found_at items entries k same (i, less, at) =
    (i, subst (λ (n : ℕ). i < n) (length-map items kept_of ∙ ap length (sym same)) less, slice_get-get_or (map kept_of items) i k less ∙ ap Some at)

-- a table that is written back
written : {len : ℕ} (n : ℕ) (xs ds : List (Remembered len)) (i : ℕ) (x : Remembered len) → n ≡ length xs → ds ≡ xs → refill n xs (slice_set ds i x) ≡ slice_set xs i x
written n xs ds i x long same =
    let ws = slice_set xs i x in
    ap (λ ys. refill n xs (slice_set ys i x)) same ∙ ap (λ (k : ℕ). take k (ws ++ drop (length ws) xs)) (long ∙ sym (length-set xs i x)) ∙ take-append_seam ws (drop (length ws) xs)

-- a request that got its reply
pub answered_at : {len : ℕ} (n : ℕ) (xs ds : List (Remembered len)) (i : ℕ) (x p : Remembered len) (k : Kept) (reply : List ℕ) → n ≡ length xs → ds ≡ xs
    → slice_get (map kept_of xs) i ≡ Some k → i < length ds → p ≡ get_or ds i p → kept_of x ≡ record (kept_of (get_or ds i p)) { reply = reply }
    → map kept_of (refill n xs (slice_set ds i x)) ≡ slice_set (map kept_of xs) i (record k { reply = reply })
answered_at n xs ds i x p k reply long same there less p-is x-is =
    let one : k ≡ kept_of p = one_read xs ds i i p k refl same less p-is there in
    ap (map kept_of) (written n xs ds i x long same) ∙ map-set kept_of xs i x
    ∙ ap (slice_set (map kept_of xs) i) (x-is ∙ ap (λ (q : Remembered _). record (kept_of q) { reply = reply }) (sym p-is) ∙ ap (λ (q : Kept). record q { reply = reply }) (sym one))
