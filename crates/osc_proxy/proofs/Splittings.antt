-- A request with its Proxy-Uri split is counted and written, piece by piece.
use Rattle.std.proofs.Common.{◌≡◌, ◌≢◌, ℕ, ◌+◌, ◌≤◌, true, List, [], ◌∷◌, ◌++◌, min, inl, inr, refl, sym, ap, subst, ◌∙◌, arith}
use Rattle.std.proofs.lemmas.Bool.Decides.{nat_tests}
use Rattle.osc_coap.specs.Datagram.{Parts, datagram_length}
use Rattle.osc_coap.specs.OptionSpelling.{Entry, Ascends, last_number, spelling_length}
use Rattle.osc_coap.specs.Writing.{Draft, Datagram, TakesPayload, bare, length_of, with_options, with_payload}
use Rattle.osc_proxy.specs.Between.{TakesAll}
use Rattle.osc_proxy.specs.Splitting.{between, in_place, is_between, part_options}
use Rattle.osc_proxy.proofs.Sequences.{chosen, takes_more, weaker, with_options-append}

-- a list that ascends up to a number, and one that ascends from it on
join : (d e : ℕ) (xs ys : List Entry) → Ascends d xs × (last_number d xs ≤ e) → Ascends e ys → Ascends d (xs ++ ys)
join d e [] ys h up = weaker d e ys h.1 up
join d e (x ∷ xs) ys h up = (h.0.0, h.0.1, join x.0 e xs ys (h.0.2, h.1) up)

-- what is in a range
in_range : (least most n : ℕ) → is_between least most n ≡ true → (least ≤ n) × (n ≤ most)
in_range least most n h = (grind (arith, nat_tests, h), grind (arith, nat_tests, h))

-- the options of a range ascend up to a number that isn't below it
range : (least most e : ℕ) (os : List Entry) (k d : ℕ) → Ascends k os → ((n : ℕ) → k ≤ n → least ≤ n → d ≤ n) → d ≤ e → most ≤ e → Ascends d (between least most os) × (last_number d (between least most os) ≤ e)
range least most e [] k d up from fits high = (tt, fits)
range least most e (x ∷ os) k d up from fits high = elim (chosen (is_between least most x.0)) [
  | inl is ↦
      let within = in_range least most x.0 is in
      let low = within.1 in
      let rest = range least most e os x.0 x.0 up.2 (λ n above _. above) (omega (arith, low, high)) high in
      rw is ((from x.0 up.0 within.0, up.1, rest.0), rest.1)
  | inr isnt ↦
      let low = up.0 in
      rw isnt (range least most e os x.0 d up.2 (λ n above least_above. from n (omega (arith, low, above)) least_above) fits high)
]

-- parts ascend, each with the same number
parts_run : (n d : ℕ) (parts : List (List ℕ)) → d ≤ n → n ≤ 65535 → Ascends d (part_options n parts) × (last_number d (part_options n parts) ≤ n)
parts_run n d [] low fits = (tt, low)
parts_run n d (part ∷ parts) low fits = let rest = parts_run n n parts (omega arith) fits in ((low, fits, rest.0), rest.1)

-- the options in place ascend
in_place_ascends : (host port : List ℕ) (path query : List (List ℕ)) (os : List Entry) → Ascends 0 os → Ascends 0 (in_place host port path query os)
in_place_ascends host port path query os up =
    let a10 : Ascends 34 (between 36 65535 os) = (range 36 65535 65535 os 0 34 up (λ n _ l. omega (arith, l)) (omega arith) (omega arith)).0 in
    let l9 : List Entry = between 16 34 os ++ between 36 65535 os in
    let a9 : Ascends 15 l9 = join 15 34 (between 16 34 os) (between 36 65535 os) (range 16 34 34 os 0 15 up (λ n _ l. omega (arith, l)) (omega arith) (omega arith)) a10 in
    let l8 : List Entry = part_options 15 query ++ l9 in
    let a8 : Ascends 15 l8 = join 15 15 (part_options 15 query) l9 (parts_run 15 15 query (omega arith) (omega arith)) a9 in
    let l7 : List Entry = between 12 15 os ++ l8 in
    let a7 : Ascends 11 l7 = join 11 15 (between 12 15 os) l8 (range 12 15 15 os 0 11 up (λ n _ l. omega (arith, l)) (omega arith) (omega arith)) a8 in
    let l6 : List Entry = part_options 11 path ++ l7 in
    let a6 : Ascends 11 l6 = join 11 11 (part_options 11 path) l7 (parts_run 11 11 path (omega arith) (omega arith)) a7 in
    let l5 : List Entry = between 8 11 os ++ l6 in
    let a5 : Ascends 7 l5 = join 7 11 (between 8 11 os) l6 (range 8 11 11 os 0 7 up (λ n _ l. omega (arith, l)) (omega arith) (omega arith)) a6 in
    let l3 : List Entry = between 4 7 os ++ (7, port) ∷ l5 in
    let a3 : Ascends 3 l3 = join 3 7 (between 4 7 os) ((7, port) ∷ l5) (range 4 7 7 os 0 3 up (λ n _ l. omega (arith, l)) (omega arith) (omega arith)) (omega arith, omega arith, a5) in
    join 0 3 (between 0 3 os) ((3, host) ∷ l3) (range 0 3 3 os 0 0 up (λ n _ l. omega (arith, l)) (omega arith) (omega arith)) (omega arith, omega arith, a3)

module _ (p : Parts) (host port : List ℕ) (path query : List (List ℕ)) (os : List Entry) where
  -- the lists that are left, piece by piece
  abbrev pub left9 : List Entry
  left9 = between 16 34 os ++ between 36 65535 os

  abbrev pub left8 : List Entry
  left8 = part_options 15 query ++ left9

  abbrev pub left7 : List Entry
  left7 = between 12 15 os ++ left8

  abbrev pub left6 : List Entry
  left6 = part_options 11 path ++ left7

  abbrev pub left5 : List Entry
  left5 = between 8 11 os ++ left6

  abbrev pub left3 : List Entry
  left3 = between 4 7 os ++ (7, port) ∷ left5

  -- the drafts, piece by piece
  abbrev pub draft0 : Draft
  draft0 = Datagram (bare p.kind p.code p.message_id p.token)

  abbrev pub draft1 : Draft
  draft1 = with_options draft0 (between 0 3 os)

  abbrev pub draft2 : Draft
  draft2 = with_options draft1 ((3, host) ∷ [])

  abbrev pub draft3 : Draft
  draft3 = with_options draft2 (between 4 7 os)

  abbrev pub draft4 : Draft
  draft4 = with_options draft3 ((7, port) ∷ [])

  abbrev pub draft5 : Draft
  draft5 = with_options draft4 (between 8 11 os)

  abbrev pub draft6 : Draft
  draft6 = with_options draft5 (part_options 11 path)

  abbrev pub draft7 : Draft
  draft7 = with_options draft6 (between 12 15 os)

  abbrev pub draft8 : Draft
  draft8 = with_options draft7 (part_options 15 query)

  abbrev pub draft9 : Draft
  draft9 = with_options draft8 (between 16 34 os)

  abbrev pub draft10 : Draft
  draft10 = with_options draft9 (between 36 65535 os)

  -- what the request says then
  abbrev pub split_parts : Parts
  split_parts = record p { options = in_place host port path query p.options }

  -- all pieces are taken where there is room
  pub takes0 : (room : ℕ) → os ≡ p.options → Ascends 0 p.options → p.code ≢ 0 → datagram_length split_parts ≤ room → datagram_length split_parts ≤ 65535 → TakesAll room draft0 (in_place host port path query os)
  takes0 room e up some in_room in_all = subst (λ (es : List Entry). TakesAll room draft0 (in_place host port path query es)) (sym e) (record {
    filled = some;
    unfinished = refl;
    ascends = in_place_ascends host port path query p.options up;
    has_room = (omega (arith, in_room), omega (arith, in_all));
  })

  pub takes1 : (room : ℕ) → TakesAll room draft0 (in_place host port path query os) → TakesAll room draft1 ((3, host) ∷ left3)
  takes1 room t = takes_more room draft0 (between 0 3 os) ((3, host) ∷ left3) t

  pub takes2 : (room : ℕ) → TakesAll room draft0 (in_place host port path query os) → TakesAll room draft2 left3
  takes2 room t = takes_more room draft1 ((3, host) ∷ []) left3 (takes1 room t)

  pub takes3 : (room : ℕ) → TakesAll room draft0 (in_place host port path query os) → TakesAll room draft3 ((7, port) ∷ left5)
  takes3 room t = takes_more room draft2 (between 4 7 os) ((7, port) ∷ left5) (takes2 room t)

  pub takes4 : (room : ℕ) → TakesAll room draft0 (in_place host port path query os) → TakesAll room draft4 left5
  takes4 room t = takes_more room draft3 ((7, port) ∷ []) left5 (takes3 room t)

  pub takes5 : (room : ℕ) → TakesAll room draft0 (in_place host port path query os) → TakesAll room draft5 left6
  takes5 room t = takes_more room draft4 (between 8 11 os) left6 (takes4 room t)

  pub takes6 : (room : ℕ) → TakesAll room draft0 (in_place host port path query os) → TakesAll room draft6 left7
  takes6 room t = takes_more room draft5 (part_options 11 path) left7 (takes5 room t)

  pub takes7 : (room : ℕ) → TakesAll room draft0 (in_place host port path query os) → TakesAll room draft7 left8
  takes7 room t = takes_more room draft6 (between 12 15 os) left8 (takes6 room t)

  pub takes8 : (room : ℕ) → TakesAll room draft0 (in_place host port path query os) → TakesAll room draft8 left9
  takes8 room t = takes_more room draft7 (part_options 15 query) left9 (takes7 room t)

  pub takes9 : (room : ℕ) → TakesAll room draft0 (in_place host port path query os) → TakesAll room draft9 (between 36 65535 os)
  takes9 room t = takes_more room draft8 (between 16 34 os) (between 36 65535 os) (takes8 room t)

  -- together they are the request
  pub split_whole : (pay : List ℕ) → os ≡ p.options → pay ≡ p.payload → with_payload draft10 pay ≡ Datagram split_parts
  split_whole pay e k =
      let all : draft10 ≡ with_options draft0 (in_place host port path query os) =
      with_options-append draft8 (between 16 34 os) (between 36 65535 os)
      ∙ with_options-append draft7 (part_options 15 query) left9
      ∙ with_options-append draft6 (between 12 15 os) left8
      ∙ with_options-append draft5 (part_options 11 path) left7
      ∙ with_options-append draft4 (between 8 11 os) left6
      ∙ with_options-append draft3 ((7, port) ∷ []) left5
      ∙ with_options-append draft2 (between 4 7 os) ((7, port) ∷ left5)
      ∙ with_options-append draft1 ((3, host) ∷ []) left3
      ∙ with_options-append draft0 (between 0 3 os) ((3, host) ∷ left3) in
      ap (λ (d : Draft). with_payload d pay) all
      ∙ ap (λ (es : List Entry). Datagram (record p { options = in_place host port path query es; payload = pay })) e
      ∙ ap (λ (bytes : List ℕ). Datagram (record split_parts { payload = bytes })) k

  -- the payload is taken
  pub split_payload : (pay : List ℕ) (room : ℕ) → os ≡ p.options → pay ≡ p.payload → p.code ≢ 0 → datagram_length split_parts ≤ room → datagram_length split_parts ≤ 65535 → TakesPayload room draft10 pay
  split_payload pay room e k some in_room in_all =
      let same = ap length_of (split_whole pay e k) in
      (some, refl, (omega (arith, same, in_room), omega (arith, same, in_all)))

-- nothing behind some
pub nothing_behind : (es : List Entry) → es ++ [] ≡ es
nothing_behind [] = refl
nothing_behind (e ∷ es) = ap (λ (xs : List Entry). e ∷ xs) (nothing_behind es)

-- a sum from nothing
pub from_nothing : (n l : ℕ) (es : List Entry) → n ≡ 0 → l ≡ 0 → min (l + spelling_length n es) 65536 ≡ min (spelling_length 0 es) 65536
from_nothing n l es en el = ap (λ (k : ℕ). min (l + spelling_length k es) 65536) en ∙ plain l (spelling_length 0 es) el
  where
    plain : (l s : ℕ) → l ≡ 0 → min (l + s) 65536 ≡ min s 65536
    plain l s h = omega (arith, h)

-- a sum of nothing more
pub and_nothing : (l : ℕ) → min l 65536 ≡ min (l + 0) 65536
and_nothing l = omega arith
