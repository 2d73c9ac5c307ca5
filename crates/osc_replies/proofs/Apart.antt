-- A memory whose requests have numbers apart.
use Rattle.std.proofs.Common.{◌≡◌, ◌≢◌, ◌∙◌, ℕ, zero, suc, ◌+◌, ◌<◌, Bool, true, false, List, [], ◌∷◌, ◌++◌, ap, arith, drop, get_or, inl, inr, length, length-drop, refl, subst, sym}
use Rattle.std.specs.Prelude.{Some, not, slice_get, slice_set, ◌==◌}
use Rattle.std.proofs.lemmas.Bool.{cases_eq, eqb-false}
use Rattle.std.proofs.lemmas.List.{get_or-drop, get_or-set_other, get_or-set_same, length-set}
use Rattle.std.proofs.lemmas.List.Kept.{AllPairs-filter}
use Rattle.std.proofs.lemmas.List.Quantifiers.{all_pairs_push}
use Rattle.std.proofs.lemmas.Option.{get_or_from_slice_get, slice_get_within}
use Rattle.osc_replies.specs.Memory.{Kept, IsReplyKept, NumbersDiffer, kept_after, others}
use Rattle.osc_replies.proofs.Keeping.{fails, passes}

other_by : (b : Bool) (n : ℕ) (k : Kept) (ks : List Kept) (i : ℕ) (d : Kept) → (k.number == n) ≡ b → ((j : ℕ) → j < length (others n ks) → (get_or (others n ks) j d).number ≢ n)
    → i < length (others n (k ∷ ks)) → (get_or (others n (k ∷ ks)) i d).number ≢ n
other_by true n k ks i d e h less =
    let same = fails n k ks e in
    let within : i < length (others n ks) = subst (λ (zs : List Kept). i < length zs) same less in
    subst (λ (zs : List Kept). (get_or zs i d).number ≢ n) (sym same) (h i within)
other_by false n k ks zero d e h less = subst (λ (zs : List Kept). (get_or zs zero d).number ≢ n) (sym (passes n k ks e)) (eqb-false k.number n e)
other_by false n k ks (suc i) d e h less =
    let same = passes n k ks e in
    let long : suc i < length (k ∷ others n ks) = subst (λ (zs : List Kept). suc i < length zs) same less in
    subst (λ (zs : List Kept). (get_or zs (suc i) d).number ≢ n) (sym same) (h i (omega arith))

-- the others have other numbers
others_other : (n : ℕ) (ks : List Kept) (i : ℕ) (d : Kept) → i < length (others n ks) → (get_or (others n ks) i d).number ≢ n
others_other n [] i d less = absurd (omega arith)
others_other n (k ∷ ks) i d less = other_by (k.number == n) n k ks i d refl (λ j within. others_other n ks j d within) less

drop_apart : (m : ℕ) (ks : List Kept) → NumbersDiffer ks → NumbersDiffer (drop m ks)
drop_apart m ks h i j d below less =
    let far : m + j < length ks = omega (arith, length-drop m ks) in
    subst (λ (x : Kept). x.number ≢ (get_or (drop m ks) j d).number) (sym (get_or-drop m ks i d))
    (subst (λ (x : Kept). (get_or ks (m + i) d).number ≢ x.number) (sym (get_or-drop m ks j d)) (h (m + i) (m + j) d (omega arith) far))

-- one more request keeps the numbers apart
pub kept_apart : (count : ℕ) (ks : List Kept) (k : Kept) → NumbersDiffer ks → NumbersDiffer (kept_after count ks k)
kept_apart count ks k h =
    drop_apart _ (others k.number ks ++ k ∷ [])
    (all_pairs_push (λ (x y : Kept). x.number ≢ y.number) (others k.number ks) k (AllPairs-filter (λ (x y : Kept). x.number ≢ y.number) (λ (x : Kept). not (x.number == k.number)) ks h)
    (λ i d less. others_other k.number ks i d less))

number_by : (ks : List Kept) (place i : ℕ) (k d : Kept) (reply : List ℕ) → slice_get ks place ≡ Some k → i < length ks
    → (get_or (slice_set ks place (record k { reply = reply })) i d).number ≡ (get_or ks i d).number
number_by ks place i k d reply there less = elim (cases_eq i place) [
  | inl here ↦
      ap (λ (x : Kept). x.number) (ap (λ (n : ℕ). get_or (slice_set ks place (record k { reply = reply })) n d) here ∙ get_or-set_same ks place (record k { reply = reply }) d (slice_get_within ks place k there))
      ∙ sym (ap (λ (x : Kept). x.number) (ap (λ (n : ℕ). get_or ks n d) here ∙ get_or_from_slice_get ks place k d there))
  | inr other ↦ ap (λ (x : Kept). x.number) (get_or-set_other ks place i (record k { reply = reply }) d other)
]

-- a reply keeps the numbers apart
pub answered_apart : (n : ℕ) (reply : List ℕ) (old new : List Kept) → IsReplyKept n reply old new → NumbersDiffer old → NumbersDiffer new
answered_apart n reply old new is h = subst NumbersDiffer (sym is.is) (λ i j d below less.
    let within : j < length old = subst (λ (m : ℕ). j < m) (length-set old is.place (record is.kept { reply = reply })) less in
    λ same. h i j d below within (sym (number_by old is.place i is.kept d reply is.there (omega arith)) ∙ same ∙ number_by old is.place j is.kept d reply is.there within))
