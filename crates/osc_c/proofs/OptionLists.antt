-- Options in the order in which they are written. xs are options as C hands them in, entries are options, d is the number before the first,
-- i the index of one.
use Rattle.std.proofs.Common.{◌≡◌, ◌≢◌, ℕ, ◌+◌, ◌-◌, ◌<◌, ◌≤◌, List, [], ◌∷◌, ◌++◌, length, map, take, drop, get_or, refl, sym, ap, subst, ◌∙◌, arith, append_assoc, Result, Err, IsOk, suc, get_or-take, length-take}
use Rattle.std.proofs.lemmas.List.{take-map, take-append-drop, drop_more, length-map}
use Rattle.std.proofs.lemmas.List.Elements.{All-more}
use Rattle.std.proofs.Math.ListN.{get_or-map}
use Rattle.std.proofs.Math.Seq.{take-suc}
use Rattle.osc_coap.specs.OptionSpelling.{Ascends, Entry, last_number, option_length, spelling_length}
use Rattle.osc_coap.specs.Writing.{Draft, Datagram, Plaintext, IsEmptyMessage, TakesOption, options_of, payload_of, length_of, with_option, with_options}
use Rattle.osc_c.specs.Opened.{option_in}
use Rattle.osc_c.specs.Writing.{HaveLengths, IsFirstBad}
use Rattle.osc_c.specs.WritingSteps.{TakesAll}
use Rattle.osc_c.specs.declared.opened_view.OptionView.{OptionView}

-- what is read where no option is
abbrev pub no_option : OptionView
no_option = record { number = 0; value = record { ref_ptr = (0, 0); now = [] } }

-- ---- one option more

-- the options up to one, and that one
pub one_more : (xs : List OptionView) (i : ℕ) → i < length xs → take (i + 1) (map option_in xs) ≡ take i (map option_in xs) ++ option_in (get_or xs i no_option) ∷ []
one_more xs i less =
    take-map option_in (i + 1) xs
    ∙ ap (λ (z : List OptionView). map option_in z) (take_more xs i less)
    ∙ map_push (take i xs) (get_or xs i no_option)
    ∙ ap (λ (z : List Entry). z ++ option_in (get_or xs i no_option) ∷ []) (sym (take-map option_in i xs))
  where
    take_more : (zs : List OptionView) (k : ℕ) → k < length zs → take (k + 1) zs ≡ take k zs ++ get_or zs k no_option ∷ []
    take_more zs k lt = let up : k + 1 ≡ suc k = omega arith in ap (λ (n : ℕ). take n zs) up ∙ take-suc zs k no_option lt

    map_push : (zs : List OptionView) (z : OptionView) → map option_in (zs ++ z ∷ []) ≡ map option_in zs ++ option_in z ∷ []
    map_push [] z = refl
    map_push (y ∷ zs) z = ap (λ (w : List Entry). option_in y ∷ w) (map_push zs z)

-- all options, parted before one
pub parted : (xs : List OptionView) (i : ℕ) → i < length xs → map option_in xs ≡ take i (map option_in xs) ++ option_in (get_or xs i no_option) ∷ drop (i + 1) (map option_in xs)
parted xs i less =
    let long : i < length (map option_in xs) = omega (arith, length-map xs option_in) in
    sym (take-append-drop i (map option_in xs))
    ∙ ap (λ (z : List Entry). take i (map option_in xs) ++ z) (drop_more (map option_in xs) i (option_in no_option) long)
    ∙ ap (λ (e : Entry). take i (map option_in xs) ++ e ∷ drop (i + 1) (map option_in xs)) (get_or-map option_in xs i no_option)

-- ---- their order

ascends_more : (d : ℕ) (entries : List Entry) (e : Entry) → Ascends d entries → last_number d entries ≤ e.0 → e.0 ≤ 65535 → Ascends d (entries ++ e ∷ [])
ascends_more d [] e up le small = (le, small, tt)
ascends_more d (x ∷ entries) e up le small = (up.0, up.1, ascends_more x.0 entries e up.2 le small)

comes_after : (d : ℕ) (done : List Entry) (e : Entry) (rest : List Entry) → Ascends d (done ++ e ∷ rest) → last_number d done ≤ e.0
comes_after d [] e rest up = up.0
comes_after d (x ∷ done) e rest up = comes_after x.0 done e rest up.2

last_append : (d : ℕ) (ys zs : List Entry) → last_number d (ys ++ zs) ≡ last_number (last_number d ys) zs
last_append d [] zs = refl
last_append d (y ∷ ys) zs = last_append y.0 ys zs

-- the number of the last of the options up to and with one
pub last_more : (xs : List OptionView) (i : ℕ) → i < length xs → (get_or xs i no_option).number ≡ last_number 0 (take (i + 1) (map option_in xs))
last_more xs i less = sym (ap (last_number 0) (one_more xs i less) ∙ last_append 0 (take i (map option_in xs)) (option_in (get_or xs i no_option) ∷ []))

-- the options up to and with one ascend
pub in_order : (xs : List OptionView) (i number : ℕ) → i < length xs → Ascends 0 (take i (map option_in xs)) → number ≡ last_number 0 (take i (map option_in xs)) → number ≤ (get_or xs i no_option).number → (get_or xs i no_option).number ≤ 65535
    → Ascends 0 (take (i + 1) (map option_in xs))
in_order xs i number less up last le small =
    subst (Ascends 0) (sym (one_more xs i less)) (ascends_more 0 (take i (map option_in xs)) (option_in (get_or xs i no_option)) up (omega (arith, last, le)) small)

-- one is the first that comes late
pub first_late : (xs : List OptionView) (i number : ℕ) → i < length xs → Ascends 0 (take i (map option_in xs)) → number ≡ last_number 0 (take i (map option_in xs)) → (get_or xs i no_option).number < number
    → IsFirstBad (Ascends 0) (map option_in xs) i
first_late xs i number less up last late = record {
  within = omega (arith, length-map xs option_in);
  before = up;
  bad = λ more. let after = comes_after 0 (take i (map option_in xs)) (option_in (get_or xs i no_option)) [] (subst (Ascends 0) (one_more xs i less) more) in omega (arith, after, last, late);
}

-- ---- their lengths

-- an option can say the lengths of the values up to and with one
pub all_short : (xs : List OptionView) (i : ℕ) → i < length xs → HaveLengths (take i (map option_in xs)) → length (get_or xs i no_option).value.now ≤ 65804 → HaveLengths (take (i + 1) (map option_in xs))
all_short xs i less short this =
    All-more (λ (e : Entry). length e.1 ≤ 65804) (map option_in xs) i (option_in no_option) (omega (arith, length-map xs option_in)) short
    (subst (λ (e : Entry). length e.1 ≤ 65804) (sym (get_or-map option_in xs i no_option)) this)

-- one is the first that is too long
pub first_long : (xs : List OptionView) (i : ℕ) → i < length xs → HaveLengths (take i (map option_in xs)) → 65804 < length (get_or xs i no_option).value.now → IsFirstBad HaveLengths (map option_in xs) i
first_long xs i less short long = record {
  within = omega (arith, length-map xs option_in);
  before = short;
  bad = λ more.
      let among : i < length (take (i + 1) (map option_in xs)) = taken i (map option_in xs) (omega (arith, length-map xs option_in)) in
      let this = subst (λ (e : Entry). length e.1 ≤ 65804) (get_or-take (i + 1) (map option_in xs) i (option_in no_option) (omega arith) ∙ get_or-map option_in xs i no_option) (more i (option_in no_option) among) in
      omega (arith, this, long);
}
  where
    taken : (k : ℕ) (es : List Entry) → k < length es → k < length (take (k + 1) es)
    taken k es lt = omega (arith, length-take (k + 1) es)

-- two lists of options, one after the other
pub spelled_append : (d : ℕ) (ys zs : List Entry) → spelling_length d (ys ++ zs) ≡ spelling_length d ys + spelling_length (last_number d ys) zs
spelled_append d [] zs = omega arith
spelled_append d (y ∷ ys) zs = let rest = spelled_append y.0 ys zs in omega (arith, rest)

-- how many bytes the options up to and with one take
pub spelled_more : (xs : List OptionView) (i len number delta size : ℕ) → i < length xs → len ≡ spelling_length 0 (take i (map option_in xs)) → number ≡ last_number 0 (take i (map option_in xs))
    → delta ≡ (get_or xs i no_option).number - number → size ≡ option_length delta (length (get_or xs i no_option).value.now) → len + size ≡ spelling_length 0 (take (i + 1) (map option_in xs))
spelled_more xs i len number delta size less all last delta_is size_is =
    let sum = ap (spelling_length 0) (one_more xs i less) ∙ spelled_append 0 (take i (map option_in xs)) (option_in (get_or xs i no_option) ∷ []) in
    let this : size ≡ option_length ((get_or xs i no_option).number - last_number 0 (take i (map option_in xs))) (length (get_or xs i no_option).value.now) =
    size_is ∙ ap (λ (k : ℕ). option_length k (length (get_or xs i no_option).value.now)) (delta_is ∙ ap (λ (k : ℕ). (get_or xs i no_option).number - k) last) in
    omega (arith, sum, this, all)

-- all options take no fewer bytes
pub spelled_all : (xs : List OptionView) (i : ℕ) → spelling_length 0 (take i (map option_in xs)) ≤ spelling_length 0 (map option_in xs)
spelled_all xs i =
    let sum = ap (spelling_length 0) (sym (take-append-drop i (map option_in xs))) ∙ spelled_append 0 (take i (map option_in xs)) (drop i (map option_in xs)) in
    omega (arith, sum)

-- nor do they where one has so long a value
pub spelled_long : (xs : List OptionView) (i : ℕ) → i < length xs → length (get_or xs i no_option).value.now ≤ spelling_length 0 (map option_in xs)
spelled_long xs i less =
    let sum = ap (spelling_length 0) (parted xs i less) ∙ spelled_append 0 (take i (map option_in xs)) (option_in (get_or xs i no_option) ∷ drop (i + 1) (map option_in xs)) in
    omega (arith, sum)

-- ---- what a writer takes

-- the last number of a draft with options more
last_with : (draft : Draft) (done : List Entry) → last_number 0 (options_of (with_options draft done)) ≡ last_number (last_number 0 (options_of draft)) done
last_with (Datagram p) done = last_append 0 p.options done
last_with (Plaintext p) done = last_append 0 p.options done

-- options up to one of a list take no more than all
part_fits : (d : ℕ) (done : List Entry) (e : Entry) (rest : List Entry) → spelling_length d (done ++ e ∷ []) ≤ spelling_length d (done ++ e ∷ rest)
part_fits d done e rest = let part = spelled_append d done (e ∷ []) in let whole = spelled_append d done (e ∷ rest) in omega (arith, part, whole)

-- a list with options behind it takes more where these do
grown : (options done : List Entry) (e : Entry) (rest : List Entry) → spelling_length 0 ((options ++ done) ++ e ∷ []) ≤ spelling_length 0 (options ++ (done ++ e ∷ rest))
grown options done e rest =
    let part = ap (spelling_length 0) (append_assoc options done (e ∷ [])) ∙ spelled_append 0 options (done ++ e ∷ []) in
    let whole = spelled_append 0 options (done ++ e ∷ rest) in
    let fits = part_fits (last_number 0 options) done e rest in
    omega (arith, part, whole, fits)

-- the length of a draft with one option more than some
length_with : (draft : Draft) (done : List Entry) (e : Entry) (rest : List Entry) → length_of (with_option (with_options draft done) e.0 e.1) ≤ length_of (with_options draft (done ++ e ∷ rest))
length_with (Datagram p) done e rest = let fits = grown p.options done e rest in omega (arith, fits)
length_with (Plaintext p) done e rest = let fits = grown p.options done e rest in omega (arith, fits)

-- a draft with options more is no other message
still_filled : (draft : Draft) (done : List Entry) → (IsEmptyMessage draft → ⊥) → (IsEmptyMessage (with_options draft done) → ⊥) × (payload_of (with_options draft done) ≡ payload_of draft)
still_filled (Datagram p) done filled = (filled, refl)
still_filled (Plaintext p) done filled = (filled, refl)

-- the next of some options is taken
pub takes_next : (draft : Draft) (xs : List OptionView) (i room : ℕ) → i < length xs → TakesAll room draft (map option_in xs)
    → TakesOption room (with_options draft (take i (map option_in xs))) (get_or xs i no_option).number (get_or xs i no_option).value.now
takes_next draft xs i room less t =
    let done = take i (map option_in xs) in
    let e = option_in (get_or xs i no_option) in
    let rest = drop (i + 1) (map option_in xs) in
    let all = parted xs i less in
    let after = comes_after (last_number 0 (options_of draft)) done e rest (subst (Ascends (last_number 0 (options_of draft))) all t.ascends) in
    let last = last_with draft done in
    let fits = length_with draft done e rest in
    let same = ap (λ (es : List Entry). length_of (with_options draft es)) all in
    let room_in = t.has_room.0 in
    let room_all = t.has_room.1 in
    let some : map option_in xs ≢ [] = λ none. let long = ap length none in omega (arith, less, long, length-map xs option_in) in
    let still = still_filled draft done (t.filled some) in
    (still.0, still.1 ∙ t.unfinished, omega (arith, after, last), (omega (arith, fits, same, room_in), omega (arith, fits, same, room_all)))

-- a draft with the options up to one, and that one
pub with_next : (draft : Draft) (xs : List OptionView) (i : ℕ) → i < length xs
    → with_option (with_options draft (take i (map option_in xs))) (get_or xs i no_option).number (get_or xs i no_option).value.now ≡ with_options draft (take (i + 1) (map option_in xs))
with_next (Datagram p) xs i less = ap (λ (es : List Entry). Datagram (record p { options = es })) (append_assoc p.options (take i (map option_in xs)) (option_in (get_or xs i no_option) ∷ []) ∙ ap (λ (z : List Entry). p.options ++ z) (sym (one_more xs i less)))
with_next (Plaintext p) xs i less = ap (λ (es : List Entry). Plaintext (record p { options = es })) (append_assoc p.options (take i (map option_in xs)) (option_in (get_or xs i no_option) ∷ []) ∙ ap (λ (z : List Entry). p.options ++ z) (sym (one_more xs i less)))

-- what is Ok is no error
pub not_refused : {T E : Type 0} (r : Result T E) (e : E) → r ≡ Err e → IsOk r → ⊥
not_refused {T} {E} r e is ok = let bad : IsOk {T = T} (Err e) = subst (λ (x : Result T E). IsOk x) is ok in cc
