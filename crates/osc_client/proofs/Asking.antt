-- The table of a client's pending requests, and the requests that it stands for.
use Rattle.std.proofs.Common.{◌≡◌, ◌≢◌, ℕ, zero, suc, ◌+◌, ◌<◌, ◌≤◌, ◌-◌, ◌∙◌, sym, ap, subst, refl, arith, Bool, true, false, Some, None, List, [], ◌∷◌, ◌++◌, length, take, inl, inr}
use Rattle.std.specs.Prelude.{◌||◌, All, AllPairs, Contains, if◌then◌else◌, bytes_eq, cond, drop, filter, map, max, nat_le, nat_lt, not, remove, slice_get, slice_index_or, slice_set}
use Rattle.std.proofs.lemmas.Bool.{cases_order, false_from_ne_true, not_from_false, not_from_true}
use Rattle.std.proofs.lemmas.Bool.Decides.{nat_tests}
use Rattle.std.specs.List.{refill}
use Rattle.std.proofs.Math.Seq.{take-append_seam}
use Rattle.std.proofs.lemmas.List.{get_or-map, get_or_default, length-map, length-set, map-set}
use Rattle.std.proofs.lemmas.Option.{get_or_from_slice_get, slice_get_within}
use Rattle.std.proofs.lemmas.Slice.Eq.{bytes_eq-Decides}
use Rattle.std.proofs.lemmas.List.Elements.{All-contains, All-contains_itself, All-filter}
use Rattle.std.proofs.lemmas.List.Filters.{length-filter_more}
use Rattle.std.proofs.lemmas.List.Kept.{AllPairs-filter}
use Rattle.std.proofs.lemmas.List.Quantifiers.{all_pairs_remove}
use Rattle.osc_client.specs.declared.pending.Pending.{Pending}
use Rattle.osc_client.specs.declared.pending.Wait.{Wait}
use Rattle.osc_client.specs.declared.pending.Wait.TheVariants.{Once, Observing}
use Rattle.osc_client.specs.Agrees.{ClientParts, PartsAgree, TokensDiffer}
use Rattle.osc_client.specs.ClientAnswer.{IsAmong, is_of_kind, of_kind}
use Rattle.osc_client.specs.ClientHistory.{Advance, Advanced, Asked, Entry, Event, History, Then, after_place, after_response, alive, apart, asked, clock, first_place, is_alive, life_ms, next, pending, pending_at, without}
use Rattle.osc_client.specs.Views.{asked_of}

-- the requests, after a response at this place to those of this token
abbrev pub heard : List ℕ → ℕ → List Asked → List Asked
heard token place requests = map (after_response token place) requests

step : (b : Bool) (x : Pending) (xs : List Pending) (ys : List Asked) → map asked_of xs ≡ ys → map asked_of (cond b (x ∷ xs) xs) ≡ cond b (asked_of x ∷ ys) ys
step true x xs ys h = ap (λ zs. asked_of x ∷ zs) h
step false x xs ys h = h

-- what is kept of the table is what is kept of its requests
pub map_filter : (p : Asked → Bool) (xs : List Pending) → map asked_of (filter (λ x. p (asked_of x)) xs) ≡ filter p (map asked_of xs)
map_filter p [] = refl
map_filter p (x ∷ xs) = step (p (asked_of x)) x _ _ (map_filter p xs)

pub passes : {X : Type 0} (p : X → Bool) (x : X) (xs : List X) → p x ≡ true → filter p (x ∷ xs) ≡ x ∷ filter p xs
passes p x xs e = ap (λ b. cond b (x ∷ filter p xs) (filter p xs)) e

fails : (p : Asked → Bool) (x : Asked) (xs : List Asked) → p x ≡ false → filter p (x ∷ xs) ≡ filter p xs
fails p x xs e = ap (λ b. cond b (x ∷ filter p xs) (filter p xs)) e

-- where all pass, all are kept
pub kept : {X : Type 0} (p : X → Bool) (xs : List X) → All (λ r. p r ≡ true) xs → filter p xs ≡ xs
kept p [] h = refl
kept p (x ∷ xs) h = passes p x xs (h 0 x (omega arith)) ∙ ap (λ zs. x ∷ zs) (kept p xs (λ k d less. h (suc k) d (omega (arith, less))))

swap_by : (b c : Bool) (p q : Asked → Bool) (x : Asked) (xs : List Asked) → p x ≡ b → q x ≡ c → filter p (filter q xs) ≡ filter q (filter p xs)
    → filter p (filter q (x ∷ xs)) ≡ filter q (filter p (x ∷ xs))
swap_by true true p q x xs e f h =
    ap (filter p) (passes q x xs f) ∙ passes p x (filter q xs) e ∙ ap (λ zs. x ∷ zs) h ∙ sym (passes q x (filter p xs) f) ∙ ap (filter q) (sym (passes p x xs e))
swap_by true false p q x xs e f h = ap (filter p) (fails q x xs f) ∙ h ∙ sym (fails q x (filter p xs) f) ∙ ap (filter q) (sym (passes p x xs e))
swap_by false true p q x xs e f h = ap (filter p) (passes q x xs f) ∙ fails p x (filter q xs) e ∙ h ∙ ap (filter q) (sym (fails p x xs e))
swap_by false false p q x xs e f h = ap (filter p) (fails q x xs f) ∙ h ∙ ap (filter q) (sym (fails p x xs e))

-- two filters can be taken in either order
pub filter_swap : (p q : Asked → Bool) (xs : List Asked) → filter p (filter q xs) ≡ filter q (filter p xs)
filter_swap p q [] = refl
filter_swap p q (x ∷ xs) = swap_by (p x) (q x) p q x xs refl refl (filter_swap p q xs)

later : (heard : Bool) (a b r ms : ℕ) → a ≤ b → (heard || nat_le (b - r) ms) ≡ true → (heard || nat_le (a - r) ms) ≡ true
later true a b r ms h k = refl
later false a b r ms h k = grind (arith, nat_tests)

alive_by : (c d : Bool) (a b ms : ℕ) (x : Asked) (xs : List Asked) → is_alive a ms x ≡ c → is_alive b ms x ≡ d → a ≤ b
    → alive b ms (alive a ms xs) ≡ alive b ms xs → alive b ms (alive a ms (x ∷ xs)) ≡ alive b ms (x ∷ xs)
alive_by true true a b ms x xs e f h k =
    ap (alive b ms) (passes (is_alive a ms) x xs e) ∙ passes (is_alive b ms) x (alive a ms xs) f ∙ ap (λ zs. x ∷ zs) k ∙ sym (passes (is_alive b ms) x xs f)
alive_by true false a b ms x xs e f h k =
    ap (alive b ms) (passes (is_alive a ms) x xs e) ∙ fails (is_alive b ms) x (alive a ms xs) f ∙ k ∙ sym (fails (is_alive b ms) x xs f)
alive_by false true a b ms x xs e f h k = absurd (let l = later (nat_lt 0 (first_place x.wait)) a b x.moment ms h f in cc)
alive_by false false a b ms x xs e f h k = ap (alive b ms) (fails (is_alive a ms) x xs e) ∙ k ∙ sym (fails (is_alive b ms) x xs f)

-- those that are left at a later moment are left of those that are left at an earlier one
pub alive_again : (a b ms : ℕ) (xs : List Asked) → a ≤ b → alive b ms (alive a ms xs) ≡ alive b ms xs
alive_again a b ms [] h = refl
alive_again a b ms (x ∷ xs) h = alive_by (is_alive a ms x) (is_alive b ms x) a b ms x xs refl refl h (alive_again a b ms xs h)

-- ---- tokens

-- what stands at a place is there
pub contains_at : (xs : List Asked) (i : ℕ) (r : Asked) → slice_get xs i ≡ Some r → Contains xs r
contains_at xs i r is = (i, slice_get_within xs i r is, get_or_from_slice_get xs i r r is)

is_other : (token : List ℕ) (r : Asked) → r.token ≢ token → not (bytes_eq r.token token) ≡ true
is_other token r other = not_from_false _ (false_from_ne_true _ (λ is. other ((bytes_eq-Decides r.token token).0 is)))

is_that : (token : List ℕ) (r : Asked) → r.token ≡ token → not (bytes_eq r.token token) ≡ false
is_that token r same = not_from_true _ ((bytes_eq-Decides r.token token).1 same)

-- where none has the token, none is taken out
pub untouched : (xs : List Asked) (token : List ℕ) → (IsAmong token xs → ⊥) → without token xs ≡ xs
untouched xs token none =
    kept (λ q. not (bytes_eq q.token token)) xs (λ k d less. is_other token (slice_index_or xs k d) (λ e. none (slice_index_or xs k d, (k, less, get_or_default xs k (slice_index_or xs k d) d less), e)))

-- where no two have one token, the requests but that of a token are those but that at its place
pub removed : (xs : List Asked) (i : ℕ) (r : Asked) (token : List ℕ) → TokensDiffer xs → slice_get xs i ≡ Some r → r.token ≡ token → remove xs i ≡ without token xs
removed [] i r token differ is same = absurd (let f : None ≡ Some r = is in cc)
removed (x ∷ xs) zero r token differ is same =
    let here : x ≡ r = let f : Some x ≡ Some r = is in cc in
    let that : x.token ≡ token = ap (λ (q : Asked). q.token) here ∙ same in
    let rest = kept (λ q. not (bytes_eq q.token token)) xs (λ k d less. is_other token (slice_index_or xs k d) (λ e. differ 0 (suc k) d (omega arith) (omega (arith, less)) (that ∙ sym e))) in
    sym (fails (λ q. not (bytes_eq q.token token)) x xs (is_that token x that) ∙ rest)
removed (x ∷ xs) (suc i) r token differ is same =
    let less = slice_get_within xs i r is in
    let apart : x.token ≢ (slice_index_or xs i r).token = differ 0 (suc i) r (omega arith) (omega (arith, less)) in
    let other : x.token ≢ token = λ e. apart (e ∙ sym same ∙ ap (λ (q : Asked). q.token) (sym (get_or_from_slice_get xs i r r is))) in
    ap (λ zs. x ∷ zs) (removed xs i r token (λ j k d below within. differ (suc j) (suc k) d (omega (arith, below)) (omega (arith, within))) is same)
    ∙ sym (passes (λ q. not (bytes_eq q.token token)) x xs (is_other token x other))

-- what is left of the requests is some of them
pub contains_filter : (p : Asked → Bool) (xs : List Asked) (r : Asked) → Contains (filter p xs) r → Contains xs r
contains_filter p xs r h = All-contains (Contains xs) (filter p xs) r (All-filter p (Contains xs) xs (All-contains_itself xs)) h

-- no two of those that are left have one token
pub differ_filter : (p : Asked → Bool) (xs : List Asked) → TokensDiffer xs → TokensDiffer (filter p xs)
differ_filter p xs h = AllPairs-filter (λ (r q : Asked). r.token ≢ q.token) p xs h

-- nor one of those that are alive
pub differ_alive : (moment ms : ℕ) (xs ys : List Asked) → ys ≡ alive moment ms xs → TokensDiffer xs → TokensDiffer ys
differ_alive moment ms xs ys is d = subst TokensDiffer (sym is) (differ_filter (is_alive moment ms) xs d)

-- what is left of the table stands for what is left of its requests
pub map_remove : (xs : List Pending) (i : ℕ) → map asked_of (remove xs i) ≡ remove (map asked_of xs) i
map_remove [] zero = refl
map_remove [] (suc i) = refl
map_remove (x ∷ xs) zero = refl
map_remove (x ∷ xs) (suc i) = ap (λ zs. asked_of x ∷ zs) (map_remove xs i)

-- nor one of those but that at a place
pub differ_removed : (xs ys : List Asked) (i : ℕ) → ys ≡ remove xs i → i < length xs → TokensDiffer xs → TokensDiffer ys
differ_removed xs ys i is less d = subst TokensDiffer (sym is) (all_pairs_remove (λ (r q : Asked). r.token ≢ q.token) xs i less d)

pub differ_later : (h : History) (now : ℕ) → TokensDiffer (pending h) → TokensDiffer (pending_at h (max (clock h) now))
differ_later h now d =
    subst TokensDiffer (alive_again (clock h) (max (clock h) now) (life_ms h) (asked h) (omega arith))
    (differ_filter (is_alive (max (clock h) now) (life_ms h)) (pending h) d)

-- where no two have the same value of f, such a value names one of them
pub one_of : {A : Type 0} (f : Asked → A) (xs : List Asked) (r q : Asked) → AllPairs (λ x y. f x ≢ f y) xs → Contains xs r → Contains xs q → f r ≡ f q → r ≡ q
one_of f xs r q d (i, i_less, i_is) (j, j_less, j_is) same = elim (cases_order i j) [
  | inl equal ↦ sym i_is ∙ ap (λ k. slice_index_or xs k r) equal ∙ get_or_default xs j r q j_less ∙ j_is
  | inr (inl below) ↦
      let apart : f (slice_index_or xs i r) ≢ f (slice_index_or xs j r) = d i j r below j_less in
      absurd (apart (ap f i_is ∙ same ∙ ap f (sym j_is ∙ get_or_default xs j q r j_less)))
  | inr (inr above) ↦
      let apart : f (slice_index_or xs j q) ≢ f (slice_index_or xs i q) = d j i q above i_less in
      absurd (apart (ap f j_is ∙ sym same ∙ ap f (sym i_is ∙ get_or_default xs i r q i_less)))
]

-- where no two have one token, a token names one of them
pub one_of_token : (xs : List Asked) (r q : Asked) → TokensDiffer xs → Contains xs r → Contains xs q → r.token ≡ q.token → r ≡ q
one_of_token xs r q d x y same = one_of (λ z. z.token) xs r q d x y same

-- where no two have the same value of f, no two have what leaves it as it is
pub differ_mapped : {A : Type 0} (f : Asked → A) (g : Asked → Asked) → ((r : Asked) → f (g r) ≡ f r) → (xs : List Asked) → AllPairs (λ x y. f x ≢ f y) xs
    → AllPairs (λ x y. f x ≢ f y) (map g xs)
differ_mapped f g stays xs differ = λ i j d below within.
    let less : j < length xs = subst (λ n. j < n) (length-map xs g) within in
    let at_i = get_or-map g xs i d d (omega (arith, below, less)) in
    let at_j = get_or-map g xs j d d less in
    λ same. differ i j d below less
    (sym (stays (slice_index_or xs i d)) ∙ ap f (sym at_i) ∙ same ∙ ap f at_j ∙ stays (slice_index_or xs j d))

-- ---- a notification

-- the request, which waits as f says if it has this token
abbrev rewaited : List ℕ → (Wait → Wait) → Asked → Asked
rewaited token f r = if bytes_eq r.token token then record r { wait = f r.wait } else r

-- that leaves each token as it is
same_token : (token : List ℕ) (f : Wait → Wait) (r : Asked) → (rewaited token f r).token ≡ r.token
same_token token f r = by_test (bytes_eq r.token token) refl
  where
    by_test : (b : Bool) → bytes_eq r.token token ≡ b → (rewaited token f r).token ≡ r.token
    by_test true e = rw (e) refl
    by_test false e = rw (e) refl

positive : (n : ℕ) → nat_lt 0 (n + 1) ≡ true
positive n = grind (arith, nat_tests)

-- a response leaves each request alive that is
still_alive : (moment ms place : ℕ) (token : List ℕ) (r : Asked) → is_alive moment ms r ≡ true → is_alive moment ms (after_response token place r) ≡ true
still_alive moment ms place token r h = by_test (bytes_eq r.token token) refl
  where
    by_wait : (wait : Wait) → r.wait ≡ wait → is_alive moment ms (record r { wait = after_place place r.wait }) ≡ true
    by_wait Once e = rw (e) (subst (λ w. (nat_lt 0 (first_place w) || nat_le (moment - r.moment) ms) ≡ true) e h)
    by_wait (Observing from) e = rw (e) (ap (λ b. b || nat_le (moment - r.moment) ms) (positive place))

    by_test : (b : Bool) → bytes_eq r.token token ≡ b → is_alive moment ms (after_response token place r) ≡ true
    by_test true e = rw (e) (by_wait r.wait refl)
    by_test false e = rw (e) h

heard_by : (b : Bool) (moment ms place : ℕ) (token : List ℕ) (x : Asked) (xs : List Asked) → is_alive moment ms x ≡ b
    → alive moment ms (heard token place (alive moment ms xs)) ≡ heard token place (alive moment ms xs)
    → alive moment ms (heard token place (alive moment ms (x ∷ xs))) ≡ heard token place (alive moment ms (x ∷ xs))
heard_by true moment ms place token x xs e h =
    let kept_x = passes (is_alive moment ms) x xs e in
    ap (λ zs. alive moment ms (heard token place zs)) kept_x
    ∙ passes (is_alive moment ms) (after_response token place x) (heard token place (alive moment ms xs)) (still_alive moment ms place token x e)
    ∙ ap (λ zs. after_response token place x ∷ zs) h ∙ sym (ap (heard token place) kept_x)
heard_by false moment ms place token x xs e h =
    let dropped = fails (is_alive moment ms) x xs e in
    ap (λ zs. alive moment ms (heard token place zs)) dropped ∙ h ∙ sym (ap (heard token place) dropped)

-- at that moment all requests stay pending
pub heard_alive : (moment ms place : ℕ) (token : List ℕ) (xs : List Asked) → alive moment ms (heard token place (alive moment ms xs)) ≡ heard token place (alive moment ms xs)
heard_alive moment ms place token [] = refl
heard_alive moment ms place token (x ∷ xs) = heard_by (is_alive moment ms x) moment ms place token x xs refl (heard_alive moment ms place token xs)

-- where no two have one token, no two have one then
differ_rewaited : (token : List ℕ) (f : Wait → Wait) (xs : List Asked) → TokensDiffer xs → TokensDiffer (map (rewaited token f) xs)
differ_rewaited token f xs differ = differ_mapped (λ z. z.token) (rewaited token f) (same_token token f) xs differ

pub differ_heard : (token : List ℕ) (place : ℕ) (xs : List Asked) → TokensDiffer xs → TokensDiffer (heard token place xs)
differ_heard token place xs differ = differ_rewaited token (after_place place) xs differ

unheard : (token : List ℕ) (f : Wait → Wait) (xs : List Asked) → All (λ (r : Asked). r.token ≢ token) xs → map (rewaited token f) xs ≡ xs
unheard token f [] others = refl
unheard token f (x ∷ xs) others =
    let other = false_from_ne_true _ (λ is. others 0 x (omega arith) ((bytes_eq-Decides x.token token).0 is)) in
    ap (λ b. (if b then record x { wait = f x.wait } else x) ∷ map (rewaited token f) xs) other
    ∙ ap (λ zs. x ∷ zs) (unheard token f xs (λ k d less. others (suc k) d (omega (arith, less))))

-- where no two have one token, the requests of which that at a place waits otherwise are those that wait so
noted : (xs : List Asked) (i : ℕ) (f : Wait → Wait) (r : Asked) → TokensDiffer xs → slice_get xs i ≡ Some r
    → slice_set xs i (record r { wait = f r.wait }) ≡ map (rewaited r.token f) xs
noted [] i f r differ is = absurd (let e : None ≡ Some r = is in cc)
noted (y ∷ ys) zero f r differ is =
    let here : y ≡ r = let e : Some y ≡ Some r = is in cc in
    let that : rewaited r.token f r ≡ record r { wait = f r.wait } =
    ap (λ b. if b then record r { wait = f r.wait } else r) ((bytes_eq-Decides r.token r.token).1 refl) in
    let rest = unheard r.token f ys (λ k d less same. differ 0 (suc k) d (omega arith) (omega (arith, less)) (ap (λ (q : Asked). q.token) here ∙ sym same)) in
    ap (λ q. q ∷ ys) (sym that ∙ ap (rewaited r.token f) (sym here)) ∙ ap (λ qs. rewaited r.token f y ∷ qs) (sym rest)
noted (y ∷ ys) (suc i) f r differ is =
    let less = slice_get_within ys i r is in
    let apart : y.token ≢ (slice_index_or ys i r).token = differ 0 (suc i) r (omega arith) (omega (arith, less)) in
    let other = false_from_ne_true _ (λ same. apart ((bytes_eq-Decides y.token r.token).0 same ∙ ap (λ (q : Asked). q.token) (sym (get_or_from_slice_get ys i r r is)))) in
    ap (λ qs. y ∷ qs) (noted ys i f r (λ j k d below within. differ (suc j) (suc k) d (omega (arith, below)) (omega (arith, within))) is)
    ∙ ap (λ b. (if b then record y { wait = f y.wait } else y) ∷ map (rewaited r.token f) ys) (sym other)

-- a response to the request at a place
pub heard_at : (xs : List Asked) (i place : ℕ) (wait : Wait) (r : Asked) → TokensDiffer xs → slice_get xs i ≡ Some r → wait ≡ after_place place r.wait
    → slice_set xs i (record r { wait = wait }) ≡ heard r.token place xs
heard_at xs i place wait r differ is wait_is = ap (λ w. slice_set xs i (record r { wait = w })) wait_is ∙ noted xs i (after_place place) r differ is

there_is : (xs : List Asked) (i : ℕ) → i < length xs → (r : Asked) × (slice_get xs i ≡ Some r)
there_is [] i less = absurd (omega (arith, less))
there_is (x ∷ xs) zero less = (x, refl)
there_is (x ∷ xs) (suc i) less = there_is xs i (omega (arith, less))

-- one request more is counted, if it is of this kind
pub counted_more : (registering : Bool) (xs : List Asked) (i count : ℕ) (wait : Wait) (is : Bool) → i < length xs → ((r : Asked) → slice_get xs i ≡ Some r → wait ≡ r.wait)
    → is ≡ is_of_kind registering wait → count ≡ length (of_kind registering (take i xs)) → length (of_kind registering (take (i + 1) xs)) ≡ count + cond is 1 0
counted_more registering xs i count wait is less waits kind counted =
    let (r, there) = there_is xs i less in
    length-filter_more (λ (q : Asked). is_of_kind registering q.wait) xs i r less
    ∙ ap (λ (q : Asked). length (of_kind registering (take i xs)) + cond (is_of_kind registering q.wait) 1 0) (get_or_from_slice_get xs i r r there)
    ∙ ap (λ w. length (of_kind registering (take i xs)) + cond (is_of_kind registering w) 1 0) (sym (waits r there))
    ∙ ap (λ b. length (of_kind registering (take i xs)) + cond b 1 0) (sym kind)
    ∙ ap (λ n. n + cond is 1 0) (sym counted)

-- then no two have one token
pub differ_at : (xs ys : List Asked) (i : ℕ) (wait : Wait) → i < length xs → ((r : Asked) → slice_get xs i ≡ Some r → ys ≡ slice_set xs i (record r { wait = wait }))
    → TokensDiffer xs → TokensDiffer ys
differ_at xs ys i wait less set differ =
    let (r, is) = there_is xs i less in
    subst TokensDiffer (sym (set r is ∙ noted xs i (λ w. wait) r differ is)) (differ_rewaited r.token (λ w. wait) xs differ)

-- what stands at a place of the table stands for the request there
at_index : (xs : List Pending) (i : ℕ) (d : Pending) (r : Asked) → slice_get (map asked_of xs) i ≡ Some r → asked_of (slice_index_or xs i d) ≡ r
at_index [] i d r is = absurd (let f : None ≡ Some r = is in cc)
at_index (x ∷ xs) zero d r is = let f : Some (asked_of x) ≡ Some r = is in cc
at_index (x ∷ xs) (suc i) d r is = at_index xs i d r is

-- the same of a table that is written back
pub written : (n : ℕ) (xs ds : List Pending) (i : ℕ) (x d : Pending) (wait : Wait) (r : Asked) → n ≡ length xs → ds ≡ xs → slice_get (map asked_of xs) i ≡ Some r
    → asked_of x ≡ record (asked_of (slice_index_or ds i d)) { wait = wait } → map asked_of (refill n xs (slice_set ds i x)) ≡ slice_set (map asked_of xs) i (record r { wait = wait })
written n xs ds i x d wait r len same is x_is =
    let ws = slice_set xs i x in
    let back : refill n xs (slice_set ds i x) ≡ ws =
    ap (λ ys. refill n xs (slice_set ys i x)) same ∙ ap (λ k. take k (ws ++ drop (length ws) xs)) (len ∙ sym (length-set xs i x)) ∙ take-append_seam ws (drop (length ws) xs) in
    let before : asked_of (slice_index_or ds i d) ≡ r = ap (λ ys. asked_of (slice_index_or ys i d)) same ∙ at_index xs i d r is in
    ap (map asked_of) back ∙ map-set asked_of xs i x ∙ ap (slice_set (map asked_of xs) i) (x_is ∙ ap (λ (q : Asked). record q { wait = wait }) before)

-- ---- steps of a client

-- without the requests of a token, in either order with those whose time has passed
pub ended : (h : History) (moment : ℕ) (token : List ℕ) → without token (pending_at h moment) ≡ alive moment (life_ms h) (without token (asked h))
ended h moment token = filter_swap (λ r. not (bytes_eq r.token token)) (is_alive moment (life_ms h)) (asked h)

-- the clock moves, and those whose time has passed are dropped
pub advanced : (c new : ClientParts) (h : History) (now : ℕ) → PartsAgree c h → new.context ≡ c.context → new.life_ms ≡ c.life_ms → new.next ≡ c.next → new.apart ≡ c.apart → new.clock ≡ max c.clock now
    → new.pending ≡ alive new.clock c.life_ms c.pending → PartsAgree new (Then h (Advance now) Advanced)
advanced c new h now a same_context same_life same_next same_apart clock_is table =
    let moment : new.clock ≡ max (clock h) now = clock_is ∙ ap (λ x. max x now) a.clock_is in
    record {
      context_is = same_context ∙ a.context_is;
      life_is = same_life ∙ a.life_is;
      clock_is = moment;
      next_is = same_next ∙ a.next_is;
      apart_is = same_apart ∙ a.apart_is;
      table =
          table ∙ ap (alive new.clock c.life_ms) a.table ∙ ap (λ x. alive x c.life_ms (pending h)) moment ∙ ap (λ x. alive (max (clock h) now) x (pending h)) a.life_is
          ∙ alive_again (clock h) (max (clock h) now) (life_ms h) (asked h) (omega arith);
      differ = differ_later h now a.differ;
    }

-- an event at a moment, after which no more is asked and nothing more is waited for
pub moved : (c : ClientParts) (h : History) (now : ℕ) (event : Event) (entry : Entry)
    → clock (Then h event entry) ≡ max (clock h) now → next (Then h event entry) ≡ next h → asked (Then h event entry) ≡ asked h
    → apart (Then h event entry) ≡ apart h → PartsAgree c (Then h (Advance now) Advanced) → PartsAgree c (Then h event entry)
moved c h now event entry same_clock same_next same_asked same_apart a =
    let same : pending (Then h event entry) ≡ pending_at h (max (clock h) now) = λ i. alive (same_clock i) (life_ms h) (same_asked i) in
    record {
      context_is = a.context_is;
      life_is = a.life_is;
      clock_is = a.clock_is ∙ sym same_clock;
      next_is = a.next_is ∙ sym same_next;
      apart_is = a.apart_is ∙ sym same_apart;
      table = a.table ∙ sym same;
      differ = subst TokensDiffer (sym same) a.differ;
    }
