-- How much longer what is sealed is than its plain message. entries are options, x the features of the context, sought says that they have Observe and that none came yet, d is the number before the
-- first of them, o that before the first outside, i that before the first inside, p the plain message, value that of the OSCORE option.
use Rattle.std.proofs.Common.{◌≡◌, ℕ, ◌+◌, ◌-◌, ◌<◌, ◌≤◌, ◌==◌, ◌||◌, ◌⊎◌, Bool, true, false, List, [], ◌∷◌, length, refl, ap, inl, inr, arith}
use Rattle.std.specs.Prelude.{cond, nat_lt, if◌then◌else◌}
use Rattle.std.proofs.lemmas.Bool.Decides.{nat_tests}
use Rattle.osc_coap.specs.Class.{class, inner_options, is_inner, is_outer}
use Rattle.osc_coap.specs.Datagram.{Parts, IsDatagram}
use Rattle.osc_coap.specs.Laws.{DatagramHasItsLength, OptionsAscend}
use Rattle.osc_coap.specs.OptionNumbers.{oscore}
use Rattle.osc_coap.specs.OptionSpelling.{Ascends, Entry, extended_length, last_number, marked, option_length, spelling_length}
use Rattle.osc_coap.specs.Search.{has_number}
use Rattle.osc_coap.specs.declared.class.Class.{Class}
use Rattle.osc_coap.specs.declared.message.Kind.{Kind}
use Rattle.osc_coap.specs.declared.class.Class.TheVariants.{U}
use Rattle.osc_context.specs.declared.features.Features.{Features}
use Rattle.osc_protect.specs.OptionSets.{counts_as_observe, is_behind, is_in_front, is_left_out, is_observe, is_proxy, is_unsupported, sought_behind}
use Rattle.osc_protect.specs.Protection.{as_it_is, as_notified, emptied}
use Rattle.osc_protect.specs.Sealed.{options_behind, options_outside, sealed_length}
use Rattle.osc_room.specs.Room.{observe_room}
use Rattle.osc_protect.proofs.SealedLengths.{spelled_append}
use Rattle.osc_protect.proofs.Splits.{both_false, both_hold, chosen, neither, observe_number}

compared : (m n : ℕ) → (m ≤ n) ⊎ (n < m)
compared m n = grind (arith)

-- ---- the two sides

-- an option outside that can be sealed has a number of at most 21: in front of the OSCORE option of at most 7
low : (x : Features) (n : ℕ) → is_outer (class n) ≡ true → is_unsupported x n ≡ false → (n ≤ 7) ⊎ ((9 < n) × (n ≤ 21))
low x n u s =
    let last = neither (is_left_out x n || is_proxy n) (n == oscore) s in
    let proxy = (neither (is_left_out x n) (is_proxy n) last.0).1 in
    let other = last.1 in
    grind (arith, u, proxy, other)

outside_alone : (c : Class) → is_outer c ≡ true → is_inner c ≡ false
outside_alone U h = refl
outside_alone c h = absurd (cc)

inside_alone : (c : Class) → is_outer c ≡ false → is_inner c ≡ true
inside_alone U h = absurd (cc)
inside_alone c h = refl

or_left : (a b : Bool) → a ≡ true → (a || b) ≡ true
or_left a b h = rw h refl

or_right : (a b : Bool) → b ≡ true → (a || b) ≡ true
or_right true b h = refl
or_right false b h = h

-- a lower number, and one that isn't
lower : (m n : ℕ) → m < n → nat_lt m n ≡ true
lower m n h = grind (arith, nat_tests)

not_lower : (m n : ℕ) → n ≤ m → nat_lt m n ≡ false
not_lower m n h = grind (arith, nat_tests)

-- where an option of class U stands, by its number
in_front : (n : ℕ) → is_outer (class n) ≡ true → n ≤ 7 → (is_in_front n ≡ true) × (is_behind n ≡ false)
in_front n u small = let low = lower n oscore (omega (arith, small)) in let high = not_lower oscore n (omega (arith, small)) in (rw (u, low) refl, rw (u, high) refl)

behind : (n : ℕ) → is_outer (class n) ≡ true → 9 < n → (is_in_front n ≡ false) × (is_behind n ≡ true)
behind n u large = let low = not_lower n oscore (omega (arith, large)) in let high = lower oscore n large in (rw (u, low) refl, rw (u, high) refl)

nowhere : (n : ℕ) → is_outer (class n) ≡ false → (is_in_front n ≡ false) × (is_behind n ≡ false)
nowhere n u = (rw u refl, rw u refl)

-- where the next option goes: one of class U, the Observe that counts, and any other
record Goes (sought : Bool) (e : Entry) (entries outer back inner : List Entry) : Type 0 where
  pub outer_is : options_outside sought (e ∷ entries) ≡ outer
  pub back_is : options_behind (e ∷ entries) ≡ back
  pub inner_is : inner_options (e ∷ entries) ≡ inner

one_outside : (sought : Bool) (e : Entry) (entries : List Entry) → is_outer (class e.0) ≡ true → e.0 ≤ 7
    → Goes sought e entries (e ∷ options_outside (sought_behind sought e) entries) (options_behind entries) (inner_options entries)
one_outside sought e entries is small =
    let isnt = outside_alone (class e.0) is in
    let place = in_front e.0 is small in
    let front = place.0 in
    let back = place.1 in
    let out = or_right (counts_as_observe sought e) (is_in_front e.0) front in
    record { outer_is = rw out refl; back_is = rw back refl; inner_is = rw isnt refl }

one_behind : (sought : Bool) (e : Entry) (entries : List Entry) → is_outer (class e.0) ≡ true → 9 < e.0
    → Goes sought e entries (options_outside (sought_behind sought e) entries) (e ∷ options_behind entries) (inner_options entries)
one_behind sought e entries is large =
    let isnt = outside_alone (class e.0) is in
    let place = behind e.0 is large in
    let back = place.1 in
    let unseen : counts_as_observe sought e ≡ false = elim (chosen (counts_as_observe sought e)) [
      | inl seen ↦ let six = observe_number sought e seen in absurd (omega (arith, six, large))
      | inr other ↦ other
    ] in
    let out = both_false (counts_as_observe sought e) (is_in_front e.0) unseen place.0 in
    record { outer_is = rw out refl; back_is = rw back refl; inner_is = rw isnt refl }

one_twice : (sought : Bool) (e : Entry) (entries : List Entry) → is_outer (class e.0) ≡ false → counts_as_observe sought e ≡ true
    → Goes sought e entries (e ∷ options_outside (sought_behind sought e) entries) (options_behind entries) (e ∷ inner_options entries)
one_twice sought e entries isnt seen =
    let is = inside_alone (class e.0) isnt in
    let back = (nowhere e.0 isnt).1 in
    let out = or_left (counts_as_observe sought e) (is_in_front e.0) seen in
    record { outer_is = rw out refl; back_is = rw back refl; inner_is = rw is refl }

one_inside : (sought : Bool) (e : Entry) (entries : List Entry) → is_outer (class e.0) ≡ false → counts_as_observe sought e ≡ false
    → Goes sought e entries (options_outside (sought_behind sought e) entries) (options_behind entries) (e ∷ inner_options entries)
one_inside sought e entries isnt unseen =
    let is = inside_alone (class e.0) isnt in
    let place = nowhere e.0 isnt in
    let back = place.1 in
    let out = both_false (counts_as_observe sought e) (is_in_front e.0) unseen place.0 in
    record { outer_is = rw out refl; back_is = rw back refl; inner_is = rw is refl }

-- ---- Observe

-- behind an option it takes no more
room_behind : (sought : Bool) (e : Entry) → observe_room (sought_behind sought e) ≤ observe_room sought
room_behind true e = elim (chosen (is_observe e.0)) [
  | inl is ↦ rw is (omega arith)
  | inr isnt ↦ rw isnt (omega arith)
]
room_behind false e = omega arith

-- what counts takes 3 bytes, and behind it there is none
one_counts : (sought : Bool) (e : Entry) → counts_as_observe sought e ≡ true → (length e.1 ≤ 3) × (observe_room sought ≡ 4) × (observe_room (sought_behind sought e) ≡ 0)
one_counts false e seen = absurd (cc)
one_counts true e seen =
    let (is, valid) = both_hold (is_observe e.0) _ seen in
    (grind (arith, valid), refl, rw is refl)

-- ---- how long they are

-- a small delta takes no further byte
none_extended : (n : ℕ) → n < 13 → extended_length n ≡ 0
none_extended n less = grind (arith)

-- a delta that is up to 21 more takes one byte more at most
one_extended : (n m : ℕ) → n ≤ m + 21 → extended_length n ≤ extended_length m + 1
one_extended n m le = grind (arith)

-- how many options inside may yet take a byte more, behind the one with this number: between two that do lie 13 numbers or more, and the
-- second of them comes behind an option of class U, and so behind one with a number of at most 20
abbrev credit : ℕ → ℕ
credit i = if nat_lt i 13 then 2 else (if nat_lt i 21 then 1 else 0)

credit_two : (i : ℕ) → i < 13 → credit i ≡ 2
credit_two i h = let first = lower i 13 h in rw first refl

credit_one : (i : ℕ) → 13 ≤ i → i < 21 → credit i ≡ 1
credit_one i h k = let first = not_lower i 13 h in let second = lower i 21 k in rw (first, second) refl

credit_none : (i : ℕ) → 21 ≤ i → credit i ≡ 0
credit_none i h = let first = not_lower i 13 (omega (arith, h)) in let second = not_lower i 21 h in rw (first, second) refl

-- by its size
credit_is : (i : ℕ) → ((i < 13) × (credit i ≡ 2)) ⊎ (((13 ≤ i) × (i < 21) × (credit i ≡ 1)) ⊎ ((21 ≤ i) × (credit i ≡ 0)))
credit_is i = elim (compared 13 i) [
  | inl more ↦ elim (compared 21 i) [
    | inl large ↦ inr (inr (large, credit_none i large))
    | inr less ↦ inr (inl (more, less, credit_one i more less))
  ]
  | inr small ↦ inl (small, credit_two i small)
]

credit_falls : (i e : ℕ) → i ≤ e → credit e ≤ credit i
credit_falls i e le = elim (credit_is i) [
  | inl (a, b) ↦ elim (credit_is e) [ inl (c, f) ↦ omega arith | inr (inl (c, g, f)) ↦ omega arith | inr (inr (c, f)) ↦ omega arith ]
  | inr (inl (a, h, b)) ↦ elim (credit_is e) [ inl (c, f) ↦ absurd (omega arith) | inr (inl (c, g, f)) ↦ omega arith | inr (inr (c, f)) ↦ omega arith ]
  | inr (inr (a, b)) ↦ elim (credit_is e) [ inl (c, f) ↦ absurd (omega arith) | inr (inl (c, g, f)) ↦ absurd (omega arith) | inr (inr (c, f)) ↦ omega arith ]
]

credit_pays : (i e : ℕ) → i < 21 → i + 13 ≤ e → credit e + 1 ≤ credit i
credit_pays i e low far = elim (credit_is i) [
  | inl (a, b) ↦ elim (credit_is e) [ inl (c, f) ↦ absurd (omega arith) | inr (inl (c, g, f)) ↦ omega arith | inr (inr (c, f)) ↦ omega arith ]
  | inr (inl (a, h, b)) ↦ let none = credit_none e (omega arith) in omega arith
  | inr (inr (a, b)) ↦ absurd (omega arith)
]

-- the three sides take two bytes more at most than the whole, and what Observe takes outside. d is the number before the first option, o, b and i
-- those before the first one in front of the OSCORE option, behind it and inside; where that inside isn't the last, an option of class U is
sides_grow : (x : Features) (sought : Bool) (d o b i : ℕ) (entries : List Entry) → o ≤ d → 9 ≤ b → i ≤ d → (i < d → d ≤ 21) → Ascends d entries → has_number (is_unsupported x) entries ≡ false
    → spelling_length o (options_outside sought entries) + spelling_length b (options_behind entries) + spelling_length i (inner_options entries) ≤ spelling_length d entries + (credit i + observe_room sought)
sides_grow x sought d o b i [] le_o le_b le_i lag up none = omega arith
sides_grow x sought d o b i (e ∷ entries) le_o le_b le_i lag up none =
    let both = neither (is_unsupported x e.0) (has_number (is_unsupported x) entries) none in
    let first = up.0 in
    let after = sought_behind sought e in
    let less = room_behind sought e in
    let falls = credit_falls i e.0 (omega (arith, first, le_i)) in
    elim (chosen (is_outer (class e.0))) [
      | inl is ↦ elim (low x e.0 is both.0) [
        | inl small ↦
            let here = one_outside sought e entries is small in
            let rest = sides_grow x after e.0 e.0 b i entries (omega arith) le_b (omega (arith, first, le_i)) (λ _. omega (arith, small)) up.2 both.1 in
            let part = none_extended (e.0 - o) (omega (arith, small)) in
            omega (arith, ap (spelling_length o) here.outer_is, ap (spelling_length b) here.back_is, ap (spelling_length i) here.inner_is, rest, part, less)
        | inr (large, most) ↦
            let here = one_behind sought e entries is large in
            let rest = sides_grow x after e.0 o e.0 i entries (omega (arith, first, le_o)) (omega (arith, large)) (omega (arith, first, le_i)) (λ _. most) up.2 both.1 in
            let part = none_extended (e.0 - b) (omega (arith, most, le_b)) in
            omega (arith, ap (spelling_length o) here.outer_is, ap (spelling_length b) here.back_is, ap (spelling_length i) here.inner_is, rest, part, less)
      ]
      | inr isnt ↦ elim (chosen (counts_as_observe sought e)) [
        | inl seen ↦
            let six = observe_number sought e seen in
            let here = one_twice sought e entries isnt seen in
            let rest = sides_grow x after e.0 e.0 b e.0 entries (omega arith) le_b (omega arith) (λ more. absurd (omega (arith, more))) up.2 both.1 in
            let part = none_extended (e.0 - o) (omega (arith, six)) in
            let within = none_extended (e.0 - i) (omega (arith, six)) in
            let (short, four, gone) = one_counts sought e seen in
            let long = none_extended (length e.1) (omega (arith, short)) in
            omega (arith, ap (spelling_length o) here.outer_is, ap (spelling_length b) here.back_is, ap (spelling_length i) here.inner_is, rest, part, within, short, four, gone, long, falls)
        | inr unseen ↦
            let here = one_inside sought e entries isnt unseen in
            let rest = sides_grow x after e.0 o b e.0 entries (omega (arith, first, le_o)) le_b (omega arith) (λ more. absurd (omega (arith, more))) up.2 both.1 in
            let outer = ap (spelling_length o) here.outer_is in
            let back = ap (spelling_length b) here.back_is in
            let inner = ap (spelling_length i) here.inner_is in
            elim (compared d i) [
              | inl same ↦
                  let as_far = ap extended_length (alike e.0 i d (omega (arith, same, le_i))) in
                  omega (arith, outer, back, inner, rest, as_far, falls, less)
              | inr apart ↦
                  let few = lag apart in
                  elim (compared (i + 13) e.0) [
                    | inl far ↦
                        let more = one_extended (e.0 - i) (e.0 - d) (omega (arith, first, few)) in
                        let pays = credit_pays i e.0 (omega (arith, apart, few)) far in
                        omega (arith, outer, back, inner, rest, more, pays, less)
                    | inr near ↦
                        let within = none_extended (e.0 - i) (omega (arith, near)) in
                        omega (arith, outer, back, inner, rest, within, falls, less)
                  ]
            ]
      ]
    ]
  where
    alike : (e i d : ℕ) → i ≡ d → e - i ≡ e - d
    alike e i d h = ap (λ (k : ℕ). e - k) h

-- an OSCORE option of a short value takes 2 bytes more at most
option_size : (last len : ℕ) → len ≤ 46 → option_length (9 - last) len ≤ 2 + len
option_size last len short =
    let delta = none_extended (9 - last) (omega arith) in
    let length_byte : extended_length len ≤ 1 = small len short in
    omega (arith, delta, length_byte)
  where
    small : (n : ℕ) → n ≤ 46 → extended_length n ≤ 1
    small n le = grind (arith)

-- ---- the inner part of a notification

-- what a message says inside takes no more than the message itself
pub IsShort : (Parts → Parts) → Type 0
IsShort says = (p : Parts) → spelling_length 0 (inner_options (says p).options) + length (marked (says p).payload) ≤ spelling_length 0 (inner_options p.options) + length (marked p.payload)

pub short_as_it_is : IsShort as_it_is
unfolding IsShort
short_as_it_is p = omega arith

-- an option of a shorter value takes no more, and what comes after it neither
shorter : (d n : ℕ) (v w : List ℕ) (xs ys : List Entry) → option_length (n - d) (length v) ≤ option_length (n - d) (length w) → spelling_length d (inner_options xs) ≤ spelling_length d (inner_options ys)
    → spelling_length n (inner_options xs) ≤ spelling_length n (inner_options ys) → spelling_length d (inner_options ((n, v) ∷ xs)) ≤ spelling_length d (inner_options ((n, w) ∷ ys))
shorter d n v w xs ys one rest more = step (is_inner (class n)) where
  step : (b : Bool) → spelling_length d (cond b ((n, v) ∷ inner_options xs) (inner_options xs)) ≤ spelling_length d (cond b ((n, w) ∷ inner_options ys) (inner_options ys))
  step true = omega (arith, one, more)
  step false = rest

emptied_all : (sought : Bool) (d : ℕ) (entries : List Entry) → spelling_length d (inner_options (emptied sought entries)) ≤ spelling_length d (inner_options entries)
emptied_all sought d [] = omega arith
emptied_all sought d ((n, w) ∷ entries) = step (counts_as_observe sought (n, w)) (emptied_all (sought_behind sought (n, w)) d entries) (emptied_all (sought_behind sought (n, w)) n entries) where
  rest : List Entry
  rest = emptied (sought_behind sought (n, w)) entries

  step : (b : Bool) → spelling_length d (inner_options rest) ≤ spelling_length d (inner_options entries) → spelling_length n (inner_options rest) ≤ spelling_length n (inner_options entries)
      → spelling_length d (inner_options (cond b (n, []) (n, w) ∷ rest)) ≤ spelling_length d (inner_options ((n, w) ∷ entries))
  step true less more = shorter d n [] w rest entries (omega arith) less more
  step false less more = shorter d n w w rest entries (omega arith) less more

pub short_as_notified : IsShort as_notified
unfolding IsShort
short_as_notified p = let less = emptied_all true 0 p.options in omega (arith, less)

-- ---- the whole

-- how much longer what is sealed with a short value is than the plain message, also under another head: 14 bytes, the value, what the token
-- grows by, and what Observe takes outside
pub sealed_growth : DatagramHasItsLength → OptionsAscend → (x : Features) (says : Parts → Parts) (p : Parts) (bytes value : List ℕ) → IsShort says → IsDatagram p bytes → has_number (is_unsupported x) p.options ≡ false
    → length value ≤ 46 → (kind : Kind) (message_id : ℕ) (token : List ℕ)
    → sealed_length x says (record p { kind = kind; message_id = message_id; token = token }) value + length p.token ≤ length bytes + (length token + (14 + length value + observe_room x.observe))
unfolding IsShort
sealed_growth long ascend x says p bytes value small h none short kind message_id token =
    let all = long p bytes h in
    let sides = sides_grow x x.observe 0 0 oscore 0 p.options (omega arith) (omega arith) (omega arith) (λ more. absurd (omega (arith, more))) (ascend p bytes h) none in
    let two = credit_two 0 (omega arith) in
    let outside = spelled_append 0 (options_outside x.observe p.options) ((oscore, value) ∷ options_behind p.options) in
    let option = option_size (last_number 0 (options_outside x.observe p.options)) (length value) short in
    let inner = small (record p { kind = kind; message_id = message_id; token = token }) in
    omega (arith, all, sides, two, outside, option, inner)
