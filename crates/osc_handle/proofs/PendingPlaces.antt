-- The pending requests of a client, as bytes and as what they stand for.
use Rattle.std.proofs.Common.{◌≡◌, ◌≢◌, ◌∙◌, ◌<◌, ◌≤◌, ◌+◌, ◌-◌, sym, ap, subst, refl, arith, ℕ, zero, suc, List, [], ◌∷◌, ◌++◌, Option, Some, None, length, map, take, slice_set, slice_index_or, inl, inr}
use Rattle.std.specs.List.{copy_within}
use Rattle.std.specs.Prelude.{Bool, true, false, cond, drop, remove, slice_get, unwrap_or}
use Rattle.std.specs.Option.{option_map}
use Rattle.std.proofs.lemmas.Bool.{cases_eq}
use Rattle.std.proofs.Math.Seq.{take-set-lt}
use Rattle.std.proofs.lemmas.List.{drop-map, length-map, length-set, length-take, map-append, map-set, drop-take, append-nil, take-map, take-take, take_more_set}
use Rattle.std.proofs.lemmas.List.Edits.{take-paste}
use Rattle.std.proofs.lemmas.List.Elements.{filter-append}
use Rattle.std.proofs.lemmas.Option.{get_or_from_slice_get, none-some, slice_get-get_or, slice_get-map, slice_get_within}
use Rattle.osc_client.proofs.ClientRequests.{differ_sent}
use Rattle.osc_endpoint.proofs.Places.{slice_get-set_other, slice_get-set_same}
use Rattle.osc_client.specs.Agrees.{TokensDiffer}
use Rattle.osc_client.specs.ClientAnswer.{IsAmong}
use Rattle.osc_client.specs.ClientHistory.{Asked, alive, is_alive}
use Rattle.osc_client.specs.declared.pending.Wait.{Wait}
use Rattle.osc_handle.specs.PendingBytes.{ArePlaced, IsPending, asked_at}
use Rattle.osc_handle.specs.declared.pending_handle.PendingHandle.{PendingHandle}

-- an element of the front of a list is one of the list
pub in_front : {A : Type 0} → (xs : List A) (n i : ℕ) (x : A) → slice_get (take n xs) i ≡ Some x → (i < n) × (slice_get xs i ≡ Some x)
in_front [] zero i x h = absurd (none-some x h)
in_front [] (suc n) i x h = absurd (none-some x h)
in_front (z ∷ xs) zero i x h = absurd (none-some x h)
in_front (z ∷ xs) (suc n) zero x h = (omega arith, h)
in_front (z ∷ xs) (suc n) (suc i) x h = let there = in_front xs n i x h in (omega (arith, there.0), there.1)

-- an element of a list that stands in its front
pub front_has : {A : Type 0} → (xs : List A) (n i : ℕ) → i < n → slice_get (take n xs) i ≡ slice_get xs i
front_has xs zero i h = absurd (omega (arith, h))
front_has [] (suc n) i h = refl
front_has (x ∷ xs) (suc n) zero h = refl
front_has (x ∷ xs) (suc n) (suc i) h = front_has xs n i (omega (arith, h))

one_more : (i : ℕ) → i + 1 ≡ suc i
one_more i = omega arith

more_by : {A : Type 0} → (xs : List A) (i : ℕ) (x : A) → slice_get xs i ≡ Some x → take (suc i) xs ≡ take i xs ++ x ∷ []
more_by [] i x h = absurd (none-some x h)
more_by (y ∷ xs) zero x h = ap (λ o. unwrap_or o x ∷ []) h
more_by (y ∷ xs) (suc i) x h = ap (λ zs. y ∷ zs) (more_by xs i x h)

-- one element more of a list
pub more : {A : Type 0} → (xs : List A) (i : ℕ) (x : A) → slice_get xs i ≡ Some x → take (i + 1) xs ≡ take i xs ++ x ∷ []
more xs i x h = ap (λ n. take n xs) (one_more i) ∙ more_by xs i x h

-- a request more is placed
pub placed_more : (ps : List PendingHandle) (i : ℕ) (b : PendingHandle) → i < length ps → map asked_at (take (i + 1) (slice_set ps i b)) ≡ map asked_at (take i ps) ++ asked_at b ∷ []
placed_more ps i b within = ap (map asked_at) (take_more_set ps i b within) ∙ map-append asked_at (take i ps) (b ∷ [])

-- its bytes are ones that a call may have written
pub each_placed : (ps : List PendingHandle) (i : ℕ) (b : PendingHandle) → i < length ps → IsPending b → ((j : ℕ) (c : PendingHandle) → j < i → slice_get ps j ≡ Some c → IsPending c)
    → (j : ℕ) (c : PendingHandle) → j < i + 1 → slice_get (slice_set ps i b) j ≡ Some c → IsPending c
each_placed ps i b within is before j c less there = elim (cases_eq j i) [
  | inl same ↦
      let one : Some b ≡ Some c = sym (slice_get-set_same ps i b within) ∙ (ap (slice_get (slice_set ps i b)) (sym same) ∙ there) in
      subst IsPending (ap (λ (o : Option PendingHandle). unwrap_or o c) one) is
  | inr other ↦ before j c (omega (arith, less, other)) (sym (slice_get-set_other ps i j b other) ∙ there)
]

-- the requests of one place more
pub asked_more : (ps : List PendingHandle) (i : ℕ) (b : PendingHandle) → slice_get ps i ≡ Some b → map asked_at (take (i + 1) ps) ≡ map asked_at (take i ps) ++ asked_at b ∷ []
asked_more ps i b there = ap (map asked_at) (more ps i b there) ∙ map-append asked_at (take i ps) (b ∷ [])

-- the request at a place that has the token
pub found_at : (ps : List PendingHandle) (i : ℕ) (other : PendingHandle) (token : List ℕ) → i < length ps → (asked_at (slice_index_or ps i other)).token ≡ token
    → (r : Asked) × (slice_get (map asked_at ps) i ≡ Some r) × (r.token ≡ token)
found_at ps i other token within same =
    let b = slice_index_or ps i other in
    (asked_at b, slice_get-map asked_at ps i ∙ ap (option_map asked_at) (slice_get-get_or ps i other within), same)

-- no place up to one more has the token
pub unlike_more : (ps : List PendingHandle) (i : ℕ) (other : PendingHandle) (token : List ℕ) → i < length ps → (asked_at (slice_index_or ps i other)).token ≢ token
    → ((j : ℕ) (r : Asked) → j < i → slice_get (map asked_at ps) j ≡ Some r → r.token ≡ token → ⊥)
    → (j : ℕ) (r : Asked) → j < i + 1 → slice_get (map asked_at ps) j ≡ Some r → r.token ≡ token → ⊥
unlike_more ps i other token within unlike before j r less there is = elim (cases_eq j i) [
  | inl same ↦
      let b = slice_index_or ps i other in
      let found : Some r ≡ Some (asked_at b) =
      sym there ∙ (ap (slice_get (map asked_at ps)) same ∙ (slice_get-map asked_at ps i ∙ ap (option_map asked_at) (slice_get-get_or ps i other within))) in
      unlike (ap (λ (o : Option Asked). (unwrap_or o r).token) (sym found) ∙ is)
  | inr not ↦ before j r (omega (arith, not, less)) there is
]

-- where no place has it, it is not among them
pub none_among : (ps : List PendingHandle) (i : ℕ) (token : List ℕ) → length ps ≤ i
    → ((j : ℕ) (r : Asked) → j < i → slice_get (map asked_at ps) j ≡ Some r → r.token ≡ token → ⊥) → IsAmong token (map asked_at ps) → ⊥
none_among ps i token over unlike (r, (k, less, at), is) =
    let within : k < length ps = subst (λ n. k < n) (length-map ps asked_at) less in
    unlike k r (omega (arith, within, over)) (slice_get-get_or (map asked_at ps) k r less ∙ ap Some at) is

-- its token is none of those before
pub apart_more : (ps : List PendingHandle) (i : ℕ) (b : PendingHandle) → slice_get ps i ≡ Some b → TokensDiffer (map asked_at (take i ps))
    → (IsAmong (asked_at b).token (map asked_at (take i ps)) → ⊥) → TokensDiffer (map asked_at (take (i + 1) ps))
apart_more ps i b there d new = differ_sent (map asked_at (take i ps)) _ (asked_at b) (asked_at b).token (asked_more ps i b there) refl new d

-- its bytes are ones that a call may have written
pub each_read : (ps : List PendingHandle) (i : ℕ) (b : PendingHandle) → slice_get ps i ≡ Some b → IsPending b → ((j : ℕ) (c : PendingHandle) → j < i → slice_get ps j ≡ Some c → IsPending c)
    → (j : ℕ) (c : PendingHandle) → j < i + 1 → slice_get ps j ≡ Some c → IsPending c
each_read ps i b at is before j c less there = elim (cases_eq j i) [
  | inl same ↦
      let one : Some b ≡ Some c = sym at ∙ (ap (slice_get ps) (sym same) ∙ there) in
      subst IsPending (ap (λ (o : Option PendingHandle). unwrap_or o c) one) is
  | inr other ↦ before j c (omega (arith, less, other)) there
]

placed : (ps : List PendingHandle) (n k : ℕ) (c : PendingHandle) → k < n → slice_get ps k ≡ Some c → slice_get (map asked_at (take n ps)) k ≡ Some (asked_at c)
placed ps n k c less there = slice_get-map asked_at (take n ps) k ∙ ap (option_map asked_at) (front_has ps n k less ∙ there)

from_map : (o : Option PendingHandle) (r : Asked) → option_map asked_at o ≡ Some r → (b : PendingHandle) × (o ≡ Some b) × (asked_at b ≡ r)
from_map None r e = absurd (none-some r e)
from_map (Some b) r e = (b, refl, ap (λ (o : Option Asked). unwrap_or o r) e)

-- a token that comes again is one of two
pub met : (ps : List PendingHandle) (n i : ℕ) (b : PendingHandle) (token : List ℕ) → i < n → slice_get ps i ≡ Some b → (asked_at b).token ≡ token
    → IsAmong token (map asked_at (take i ps)) → TokensDiffer (map asked_at (take n ps)) → ⊥
met ps n i b token used there named (r, (k, less, at), same) differ =
    let xs = map asked_at (take i ps) in
    let ys = map asked_at (take n ps) in
    let early : slice_get xs k ≡ Some r = slice_get-get_or xs k r less ∙ ap Some at in
    let (c, at_k, is) = from_map (slice_get (take i ps) k) r (sym (slice_get-map asked_at (take i ps) k) ∙ early) in
    let front = in_front ps i k c at_k in
    let before : k < i = front.0 in
    let first : slice_get ys k ≡ Some (asked_at c) = placed ps n k c (omega (arith, before, used)) front.1 in
    let second : slice_get ys i ≡ Some (asked_at b) = placed ps n i b used there in
    differ k i r before (slice_get_within ys i (asked_at b) second)
    (ap (λ (a : Asked). a.token) (get_or_from_slice_get ys k (asked_at c) r first ∙ is) ∙ (same ∙ (sym named ∙ ap (λ (a : Asked). a.token) (sym (get_or_from_slice_get ys i (asked_at b) r second)))))

-- ---- changes of the table

-- the request that stands at a place
at_read : (ps : List PendingHandle) (n i : ℕ) (d : PendingHandle) (r : Asked) → slice_get (map asked_at (take n ps)) i ≡ Some r → asked_at (slice_index_or ps i d) ≡ r
at_read ps n i d r there =
    let (b, at, is) = from_map (slice_get (take n ps) i) r (sym (slice_get-map asked_at (take n ps) i) ∙ there) in
    ap asked_at (get_or_from_slice_get ps i b d (in_front ps n i b at).1) ∙ is

-- the request at a place waits otherwise
pub waits_at : (ps : List PendingHandle) (n i : ℕ) (b d : PendingHandle) (wait : Wait) (r : Asked) → i < n → slice_get (map asked_at (take n ps)) i ≡ Some r
    → asked_at b ≡ record (asked_at (slice_index_or ps i d)) { wait = wait } → map asked_at (take n (slice_set ps i b)) ≡ slice_set (map asked_at (take n ps)) i (record r { wait = wait })
waits_at ps n i b d wait r within there is =
    ap (map asked_at) (take-set-lt n ps i b within) ∙ map-set asked_at (take n ps) i b
    ∙ ap (slice_set (map asked_at (take n ps)) i) (is ∙ ap (λ (a : Asked). record a { wait = wait }) (at_read ps n i d r there))

-- the later ones move up over a place
moved_up : (ps : List PendingHandle) (n i : ℕ) → i < n → n ≤ length ps → take (n - 1) (copy_within ps (i + 1) n i) ≡ remove (take n ps) i
moved_up ps n i less fits =
    let behind = n - (i + 1) in
    let few : n - 1 ≡ i + behind = omega (arith, less) in
    let all : i + 1 + behind ≡ n = omega (arith, less) in
    ap (λ k. take k (copy_within ps (i + 1) n i)) few
    ∙ take-paste ps i (drop (i + 1) ps) behind (omega (arith, less, fits)) (many ps (i + 1) n fits)
    ∙ ap (λ xs. xs ++ take behind (drop (i + 1) ps)) (sym (take-take i n ps (omega (arith, less))))
    ∙ ap (λ xs. take i (take n ps) ++ xs) (sym (drop-take (i + 1) behind ps) ∙ ap (λ k. drop (i + 1) (take k ps)) all ∙ ap (λ k. drop k (take n ps)) (one_more i))
  where
    many : (xs : List PendingHandle) (a m : ℕ) → m ≤ length xs → m - a ≤ length (drop a xs)
    many [] zero m h = omega (arith, h)
    many (x ∷ xs) zero m h = omega (arith, h)
    many [] (suc a) m h = omega (arith, h)
    many (x ∷ xs) (suc a) m h = let h' = many xs a (m - 1) (omega (arith, h)) in omega (arith, h')

-- one is taken out
pub taken_out : (ps : List PendingHandle) (n i : ℕ) → i < n → n ≤ length ps → map asked_at (take (n - 1) (copy_within ps (i + 1) n i)) ≡ remove (map asked_at (take n ps)) i
taken_out ps n i less fits =
    let zs = take n ps in
    ap (map asked_at) (moved_up ps n i less fits) ∙ map-append asked_at (take i zs) (drop (suc i) zs)
    ∙ (λ j. sym (take-map asked_at i zs) j ++ sym (drop-map asked_at (suc i) zs) j)

each_but : (zs : List PendingHandle) (i : ℕ) → ((j : ℕ) (b : PendingHandle) → slice_get zs j ≡ Some b → IsPending b) → (j : ℕ) (b : PendingHandle) → slice_get (remove zs i) j ≡ Some b → IsPending b
each_but [] zero each j b there = absurd (none-some b there)
each_but [] (suc i) each j b there = absurd (none-some b there)
each_but (z ∷ zs) zero each j b there = each (suc j) b there
each_but (z ∷ zs) (suc i) each zero b there = each zero b there
each_but (z ∷ zs) (suc i) each (suc j) b there = each_but zs i (λ k c at. each (suc k) c at) j b there

-- those that are left are ones that a call may have written
pub each_left : (ps : List PendingHandle) (n i : ℕ) → i < n → n ≤ length ps → ((j : ℕ) (b : PendingHandle) → slice_get (take n ps) j ≡ Some b → IsPending b)
    → (j : ℕ) (b : PendingHandle) → slice_get (take (n - 1) (copy_within ps (i + 1) n i)) j ≡ Some b → IsPending b
each_left ps n i less fits each j b there = each_but (take n ps) i each j b (ap (λ xs. slice_get xs j) (sym (moved_up ps n i less fits)) ∙ there)

-- ---- requests whose time has passed

one_alive : (moment ms : ℕ) (xs : List Asked) (a : Asked) (b : Bool) → is_alive moment ms a ≡ b → alive moment ms (xs ++ a ∷ []) ≡ alive moment ms xs ++ cond b (a ∷ []) []
one_alive moment ms xs a b is = filter-append (is_alive moment ms) xs (a ∷ []) ∙ ap (λ t. alive moment ms xs ++ cond t (a ∷ []) []) is

-- one more is looked at: it is kept
pub kept_more : (ps qs : List PendingHandle) (kept place moment ms : ℕ) (b : PendingHandle) → kept < length ps → slice_get qs place ≡ Some b → is_alive moment ms (asked_at b) ≡ true
    → map asked_at (take kept ps) ≡ alive moment ms (map asked_at (take place qs)) → map asked_at (take (kept + 1) (slice_set ps kept b)) ≡ alive moment ms (map asked_at (take (place + 1) qs))
kept_more ps qs kept place moment ms b within there lives so_far =
    placed_more ps kept b within ∙ ap (λ xs. xs ++ asked_at b ∷ []) so_far ∙ sym (one_alive moment ms (map asked_at (take place qs)) (asked_at b) true lives)
    ∙ ap (alive moment ms) (sym (asked_more qs place b there))

-- or it isn't
pub kept_less : (ps qs : List PendingHandle) (kept place moment ms : ℕ) (b : PendingHandle) → slice_get qs place ≡ Some b → is_alive moment ms (asked_at b) ≡ false
    → map asked_at (take kept ps) ≡ alive moment ms (map asked_at (take place qs)) → map asked_at (take kept ps) ≡ alive moment ms (map asked_at (take (place + 1) qs))
kept_less ps qs kept place moment ms b there gone so_far =
    so_far ∙ sym (append-nil (alive moment ms (map asked_at (take place qs)))) ∙ sym (one_alive moment ms (map asked_at (take place qs)) (asked_at b) false gone)
    ∙ ap (alive moment ms) (sym (asked_more qs place b there))

-- there is a place more
pub one_fits : (ps : List PendingHandle) (n : ℕ) → n ≤ length ps → length (map asked_at (take n ps)) < length ps → n < length ps
one_fits ps n fits less = let l = subst (λ k. k < length ps) (length-map (take n ps) asked_at) less in let m = length-take n ps in omega (arith, l, m, fits)

-- a place of the front is below its length
pub within_front : (ps : List PendingHandle) (n i : ℕ) → i < length (map asked_at (take n ps)) → i < n
within_front ps n i less = let l = subst (λ k. i < k) (length-map (take n ps) asked_at) less in let m = length-take n ps in omega (arith, l, m)

-- the bytes of the requests with one that was changed are ones that a call may have written
pub each_set : (ps : List PendingHandle) (n i : ℕ) (b d : PendingHandle) → i < n → i < length ps → ((j : ℕ) (c : PendingHandle) → slice_get (take n ps) j ≡ Some c → IsPending c)
    → (IsPending (slice_index_or ps i d) → IsPending b) → (j : ℕ) (c : PendingHandle) → slice_get (take n (slice_set ps i b)) j ≡ Some c → IsPending c
each_set ps n i b d less within each whole j c there =
    let front = in_front (slice_set ps i b) n j c there in
    elim (cases_eq j i) [
      | inl same ↦
          let one : Some b ≡ Some c = sym (slice_get-set_same ps i b within) ∙ (ap (slice_get (slice_set ps i b)) (sym same) ∙ front.1) in
          subst IsPending (ap (λ (o : Option PendingHandle). unwrap_or o c) one) (whole (each i (slice_index_or ps i d) (front_has ps n i less ∙ slice_get-get_or ps i d within)))
      | inr other ↦ each j c (front_has ps n j front.0 ∙ (sym (slice_get-set_other ps i j b other) ∙ front.1))
    ]

-- of the requests before a place those are kept that are still pending, in the first places; the later ones lie where they lay
abbrev pub Keeping : List PendingHandle → ℕ → ℕ → List PendingHandle → ℕ → ℕ → Type 0
Keeping qs moment ms ps kept place =
    (length ps ≡ length qs) × (kept ≤ place) × (map asked_at (take kept ps) ≡ alive moment ms (map asked_at (take place qs)))
    × ((i : ℕ) (b : PendingHandle) → place ≤ i → slice_get ps i ≡ Some b → slice_get qs i ≡ Some b)
    × ((i : ℕ) (b : PendingHandle) → i < kept → slice_get ps i ≡ Some b → IsPending b)

pub same_keeping : (qs ps new : List PendingHandle) (moment ms kept kept_now place : ℕ) → new ≡ ps → kept_now ≡ kept → Keeping qs moment ms ps kept place → Keeping qs moment ms new kept_now place
same_keeping qs ps new moment ms kept kept_now place is kept_is k =
    subst (λ x. Keeping qs moment ms x kept_now place) (sym is) (subst (λ n. Keeping qs moment ms ps n place) (sym kept_is) k)

-- the request at that place is kept
pub one_kept : (qs ps : List PendingHandle) (n moment ms kept place : ℕ) (b : PendingHandle) → ArePlaced n qs → place < n → Keeping qs moment ms ps kept place
    → slice_get ps place ≡ Some b → is_alive moment ms (asked_at b) ≡ true → Keeping qs moment ms (slice_set ps kept b) (kept + 1) (place + 1)
one_kept qs ps n moment ms kept place b w less (long, most, so_far, later, each) there lives =
    let was = later place b (omega arith) there in
    let within : kept < length ps = let fits = w.fits in omega (arith, less, most, long, fits) in (
      length-set ps kept b ∙ long,
      omega (arith, most),
      kept_more ps qs kept place moment ms b within was lives so_far,
      λ i c past at. later i c (omega (arith, past)) (sym (slice_get-set_other ps kept i b (λ is. omega (arith, is, most, past))) ∙ at),
      each_placed ps kept b within (w.each place b (front_has qs n place less ∙ was)) each,
    )

-- it isn't
pub one_dropped : (qs ps : List PendingHandle) (moment ms kept place : ℕ) (b : PendingHandle) → Keeping qs moment ms ps kept place → slice_get ps place ≡ Some b
    → is_alive moment ms (asked_at b) ≡ false → Keeping qs moment ms ps kept (place + 1)
one_dropped qs ps moment ms kept place b (long, most, so_far, later, each) there gone = (
  long,
  omega (arith, most),
  kept_less ps qs kept place moment ms b (later place b (omega arith) there) gone so_far,
  λ i c past at. later i c (omega (arith, past)) at,
  each,
)
