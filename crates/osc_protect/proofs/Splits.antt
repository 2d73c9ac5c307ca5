-- The options of one side, and that a writer takes them.
use Rattle.std.proofs.Common.{◌≡◌, ◌≢◌, ℕ, ◌+◌, ◌≤◌, ◌==◌, ◌&&◌, ◌||◌, ◌⊎◌, Bool, true, false, List, [], ◌∷◌, ◌++◌, Option, refl, sym, ap, subst, ◌∙◌, arith, inl, inr, append_assoc, Result, Err, IfNone, IfSome, None, Some, IsOk}
use Rattle.std.proofs.lemmas.Bool.{eqb-true}
use Rattle.std.proofs.lemmas.Bool.Decides.{nat_tests}
use Rattle.osc_coap.specs.Class.{class, is_outer}
use Rattle.osc_coap.specs.Datagram.{Parts, datagram_length}
use Rattle.osc_coap.specs.Inner.{InnerParts, inner_length}
use Rattle.osc_coap.specs.OptionSpelling.{Entry, Ascends, last_number, spelling_length}
use Rattle.osc_coap.specs.Writing.{Draft, Datagram, Plaintext, TakesOption, TakesPayload, bare, bare_inner, options_of, length_of, with_option, with_options, with_payload}
use Rattle.osc_coap.specs.Writer.{Holds}
use Rattle.osc_coap.specs.declared.writer.Writer.{Writer}
use Rattle.osc_coap.specs.OptionNumbers.{observe, oscore}
use Rattle.osc_context.specs.declared.features.Features.{Features}
use Rattle.osc_protect.specs.OptionSets.{counts_as_observe, is_behind, is_in_front, is_left_out, is_outside, is_proxy, is_unsupported, sought_behind}
use Rattle.osc_protect.specs.Sealed.{inside, options_behind, options_outside, outside}
use Rattle.osc_protect.specs.Split.{Behind, Inside, Outside, Side, TakesAll, entry_on, option_with, options_on, said, side_behind, stands_on, value_on}
use Rattle.osc_protect.proofs.SealedLengths.{spelled_append}
use Rattle.osc_protect.proofs.Sides.{behind_options, behind_read, inside_length, inside_read, number_on, outside_options, outside_read}

-- one of two
pub chosen : (b : Bool) → (b ≡ true) ⊎ (b ≡ false)
chosen true = inl refl
chosen false = inr refl

-- neither of two
pub neither : (a b : Bool) → (a || b) ≡ false → (a ≡ false) × (b ≡ false)
neither true b h = absurd (cc)
neither false b h = (refl, h)

pub both_false : (a b : Bool) → a ≡ false → b ≡ false → (a || b) ≡ false
both_false true b h k = h
both_false false b h k = k

-- one or none
pub or_none : (b : Bool) → (b || false) ≡ b
or_none true = refl
or_none false = refl

-- an option that can be sealed isn't left out, is for no proxy, and isn't the OSCORE option
pub supported : (x : Features) (n : ℕ) → is_unsupported x n ≡ false → (is_left_out x n ≡ false) × (is_proxy n ≡ false) × ((n == oscore) ≡ false)
supported x n h =
    let last = neither (is_left_out x n || is_proxy n) (n == oscore) h in
    let first = neither (is_left_out x n) (is_proxy n) last.0 in
    (first.0, first.1, last.1)

-- one of two
pub one_of : (a b : Bool) → (a || b) ≡ true → (a ≡ true) ⊎ (b ≡ true)
one_of true b h = inl refl
one_of false b h = inr h

-- both of two
pub both_hold : (a b : Bool) → (a && b) ≡ true → (a ≡ true) × (b ≡ true)
both_hold true b h = (refl, h)
both_hold false b h = absurd (cc)

-- what counts as Observe has its number
pub observe_number : (sought : Bool) (entry : Entry) → counts_as_observe sought entry ≡ true → entry.0 ≡ observe
observe_number sought entry h = eqb-true _ _ (both_hold (entry.0 == observe) _ (both_hold sought _ h).1).0

-- an option in front of the OSCORE option has a lower number
below : (sought : Bool) (entry : Entry) → is_outside sought entry ≡ true → entry.0 ≤ oscore
below sought entry u = elim (one_of (counts_as_observe sought entry) (is_in_front entry.0) u) [
  | inl h ↦ let e = observe_number sought entry h in omega (arith, e)
  | inr h ↦ let low = (both_hold (is_outer (class entry.0)) _ h).1 in grind (arith, nat_tests, low)
]

-- so do all of them
pub all_below : (sought : Bool) (d : ℕ) (entries : List Entry) → d ≤ oscore → last_number d (options_outside sought entries) ≤ oscore
all_below sought d [] le = le
all_below sought d (entry ∷ entries) le = elim (chosen (is_outside sought entry)) [
  | inl is ↦ rw is (all_below (sought_behind sought entry) entry.0 entries (below sought entry is))
  | inr isnt ↦ rw isnt (all_below (sought_behind sought entry) d entries le)
]

-- ---- order

weaker : (d k : ℕ) (entries : List Entry) → d ≤ k → Ascends k entries → Ascends d entries
weaker d k [] le up = tt
weaker d k (entry ∷ entries) le up = let low = up.0 in (omega (arith, low), up.1, up.2)

-- an option comes after those before it
comes_after : (d : ℕ) (done : List Entry) (entry : Entry) (rest : List Entry) → Ascends d (done ++ entry ∷ rest) → last_number d done ≤ entry.0
comes_after d [] entry rest up = up.0
comes_after d (x ∷ done) entry rest up = comes_after x.0 done entry rest up.2

-- the last number of two lists
pub last_append : (d : ℕ) (xs ys : List Entry) → last_number d (xs ++ ys) ≡ last_number (last_number d xs) ys
last_append d [] ys = refl
last_append d (x ∷ xs) ys = last_append x.0 xs ys

-- options up to one of a list take no more than all
part_fits : (d : ℕ) (done : List Entry) (entry : Entry) (rest : List Entry)
    → spelling_length d (done ++ entry ∷ []) ≤ spelling_length d (done ++ entry ∷ rest)
part_fits d done entry rest = sums _ _ _ _ _ (spelled_append d done (entry ∷ [])) (spelled_append d done (entry ∷ rest))
  where
    sums : (f s a k r : ℕ) → f ≡ a + (k + 0) → s ≡ a + (k + r) → f ≤ s
    sums f s a k r h1 h2 = omega arith

-- ---- what a writer takes

-- the options of a side with one of them in front
pub step : (side : Side) (entry : Entry) (entries : List Entry) → options_on side (entry ∷ entries) ≡ option_with entry.0 (value_on side entry) ++ options_on (side_behind side entry) entries
step side entry entries = elim (chosen (stands_on side entry)) [
  | inl is ↦ rw is (ap (λ (n : ℕ). (n, (entry_on side entry).1) ∷ options_on (side_behind side entry) entries) (number_on side entry))
  | inr isnt ↦ rw isnt refl
]

-- what is counted of the options of a side: of the next one, if it stands there, and of those behind it
pub counted : {A : Type 0} (f : List Entry → A) (side behind : Side) (entry : Entry) (placed : Option (List ℕ)) (before rest : List Entry) → placed ≡ value_on side entry → behind ≡ side_behind side entry → before ≡ entry ∷ rest
    → f (option_with entry.0 placed ++ options_on behind rest) ≡ f (options_on side before)
counted f side behind entry placed before rest is next e =
    ap (λ (p : Option (List ℕ)). f (option_with entry.0 p ++ options_on behind rest)) is
    ∙ ap (λ (s : Side). f (option_with entry.0 (value_on side entry) ++ options_on s rest)) next
    ∙ sym (ap f (step side entry rest))
    ∙ ap (λ (es : List Entry). f (options_on side es)) (sym e)

-- the last number of a draft with options more
last_with : (draft : Draft) (done : List Entry) → last_number 0 (options_of (with_options draft done)) ≡ last_number (last_number 0 (options_of draft)) done
last_with (Datagram p) done = last_append 0 p.options done
last_with (Plaintext p) done = last_append 0 p.options done

-- the length of a draft with one option more than some
length_with : (draft : Draft) (done : List Entry) (entry : Entry) (rest : List Entry)
    → length_of (with_option (with_options draft done) entry.0 entry.1) ≤ length_of (with_options draft (done ++ entry ∷ rest))
length_with (Datagram p) done entry rest =
    let part = spelled_append 0 p.options (done ++ entry ∷ []) in
    let whole = spelled_append 0 p.options (done ++ entry ∷ rest) in
    let fits = part_fits (last_number 0 p.options) done entry rest in
    let same = ap (spelling_length 0) (append_assoc p.options done (entry ∷ [])) in
    omega (arith, part, whole, fits, same)
length_with (Plaintext p) done entry rest =
    let part = spelled_append 0 p.options (done ++ entry ∷ []) in
    let whole = spelled_append 0 p.options (done ++ entry ∷ rest) in
    let fits = part_fits (last_number 0 p.options) done entry rest in
    let same = ap (spelling_length 0) (append_assoc p.options done (entry ∷ [])) in
    omega (arith, part, whole, fits, same)

-- the next of some options is taken
pub takes_next : (draft : Draft) (done : List Entry) (room : ℕ) (all : List Entry) (t : TakesAll room draft all) (number : ℕ) (value : List ℕ) (rest : List Entry)
    → all ≡ done ++ (number, value) ∷ rest → TakesOption room (with_options draft done) number value
takes_next (Datagram p) done room all t number value rest e =
    let up = subst (Ascends (last_number 0 p.options)) e t.ascends in
    let after = comes_after (last_number 0 p.options) done (number, value) rest up in
    let last = last_with (Datagram p) done in
    let fits = length_with (Datagram p) done (number, value) rest in
    let same = ap (λ (es : List Entry). length_of (with_options (Datagram p) es)) e in
    let room_in = t.has_room.0 in
    let room_all = t.has_room.1 in
    (t.filled, t.unfinished, omega (arith, after, last), (omega (arith, fits, same, room_in), omega (arith, fits, same, room_all)))
takes_next (Plaintext p) done room all t number value rest e =
    let up = subst (Ascends (last_number 0 p.options)) e t.ascends in
    let after = comes_after (last_number 0 p.options) done (number, value) rest up in
    let last = last_with (Plaintext p) done in
    let fits = length_with (Plaintext p) done (number, value) rest in
    let same = ap (λ (es : List Entry). length_of (with_options (Plaintext p) es)) e in
    let room_in = t.has_room.0 in
    let room_all = t.has_room.1 in
    (t.filled, t.unfinished, omega (arith, after, last), (omega (arith, fits, same, room_in), omega (arith, fits, same, room_all)))

-- further options behind some
pub with_options-append : (draft : Draft) (done more : List Entry) → with_options (with_options draft done) more ≡ with_options draft (done ++ more)
with_options-append (Datagram p) done more = ap (λ (es : List Entry). Datagram (record p { options = es })) (append_assoc p.options done more)
with_options-append (Plaintext p) done more = ap (λ (es : List Entry). Plaintext (record p { options = es })) (append_assoc p.options done more)

-- the options that are written, the next one among them if it stands there, and those that are left
pub grown : (all done : List Entry) (side behind : Side) (entry : Entry) (placed : Option (List ℕ)) (before rest : List Entry) → all ≡ done ++ options_on side before → placed ≡ value_on side entry → behind ≡ side_behind side entry → before ≡ entry ∷ rest
    → all ≡ (done ++ option_with entry.0 placed) ++ options_on behind rest
grown all done side behind entry placed before rest e is next steps =
    e ∙ ap (λ (es : List Entry). done ++ es) (sym (counted (λ (es : List Entry). es) side behind entry placed before rest is next steps)) ∙ sym (append_assoc done _ _)

-- the next option is taken, if it stands there
pub takes_on : (draft : Draft) (room : ℕ) (all done : List Entry) (side : Side) (entry : Entry) (placed : Option (List ℕ)) (before rest : List Entry) → TakesAll room draft all → all ≡ done ++ options_on side before → placed ≡ value_on side entry → before ≡ entry ∷ rest
    → IfSome placed (TakesOption room (with_options draft done) entry.0)
takes_on draft room all done side entry placed before rest t e is steps =
    subst (λ (p : Option (List ℕ)). IfSome p (TakesOption room (with_options draft done) entry.0)) (sym is) (elim (chosen (stands_on side entry)) [
      | inl stands ↦ rw stands (takes_next draft done room all t entry.0 (entry_on side entry).1 (options_on (side_behind side entry) rest)
          (e ∙ ap (λ (es : List Entry). done ++ options_on side es) steps ∙ ap (λ (es : List Entry). done ++ es) (step side entry rest) ∙ rw stands refl))
      | inr isnt ↦ rw isnt tt
    ])

-- what holds anyway holds where there is nothing
pub at_none : {T : Type 0} {P : Type 0} (r : Option T) → P → IfNone r P
at_none None p = p
at_none (Some x) p = tt

-- what is Ok is no error
pub not_err : {T E : Type 0} (r : Result T E) (e : E) → r ≡ Err e → IsOk r → ⊥
not_err {T} {E} r e is ok = let bad : IsOk {T = T} (Err e) = subst (λ (x : Result T E). IsOk x) is ok in cc

-- what is Ok for no bytes and for some is Ok
pub taken_either : {T E : Type 0} (bytes : List ℕ) (r : Result T E) → (bytes ≡ [] → IsOk r) → (bytes ≢ [] → IsOk r) → IsOk r
taken_either [] r empty some = empty refl
taken_either (x ∷ bytes) r empty some = some (λ e. cc)

-- the options of a side ascend
side_ascends : (side : Side) (d : ℕ) (entries : List Entry) → Ascends d entries → Ascends d (options_on side entries)
side_ascends side d [] up = tt
side_ascends side d (entry ∷ entries) up = elim (chosen (stands_on side entry)) [
  | inl is ↦ rw is (subst (λ (n : ℕ). (d ≤ n) × (n ≤ 65535) × Ascends n (options_on (side_behind side entry) entries)) (sym (number_on side entry)) (up.0, up.1, side_ascends (side_behind side entry) entry.0 entries up.2))
  | inr isnt ↦ rw isnt (side_ascends (side_behind side entry) d entries (weaker d entry.0 entries up.0 up.2))
]

-- the options outside have their room behind a head
pub outside_takes : (x : Features) (p : Parts) (code : ℕ) (value : List ℕ) (os : List Entry) (sought : Bool) (room : ℕ) → os ≡ p.options → sought ≡ x.observe → code ≢ 0 → Ascends 0 p.options
    → datagram_length (outside x p code value []) ≤ room → datagram_length (outside x p code value []) ≤ 65535
    → TakesAll room (Datagram (bare p.kind code p.message_id p.token)) (options_on (Outside sought) os)
outside_takes x p code value os sought room e is some up in_room in_all =
    let all = spelled_append 0 (options_outside x.observe p.options) ((oscore, value) ∷ options_behind p.options) in
    let same = ap (λ (b : Bool). options_on (Outside b) os) is ∙ outside_read x.observe p os e in
    subst (λ (es : List Entry). TakesAll room (Datagram (bare p.kind code p.message_id p.token)) es) (sym same) (record {
      filled = some;
      unfinished = refl;
      ascends = subst (Ascends 0) (outside_options x.observe p.options) (side_ascends (Outside x.observe) 0 p.options up);
      has_room = (omega (arith, all, in_room), omega (arith, all, in_all));
    })

-- the OSCORE option has its room behind them
pub oscore_takes : (x : Features) (p : Parts) (code : ℕ) (value : List ℕ) (os : List Entry) (sought : Bool) (room : ℕ) → os ≡ p.options → sought ≡ x.observe → code ≢ 0
    → datagram_length (outside x p code value []) ≤ room → datagram_length (outside x p code value []) ≤ 65535
    → TakesOption room (with_options (Datagram (bare p.kind code p.message_id p.token)) (options_on (Outside sought) os)) oscore value
oscore_takes x p code value os sought room e is some in_room in_all =
    let same = ap (λ (b : Bool). options_on (Outside b) os) is ∙ outside_read x.observe p os e in
    let part = part_fits 0 (options_outside x.observe p.options) (oscore, value) (options_behind p.options) in
    subst (λ (es : List Entry). TakesOption room (with_options (Datagram (bare p.kind code p.message_id p.token)) es) 9 value) (sym same)
    (some, refl, all_below x.observe 0 p.options (omega arith), (omega (arith, part, in_room), omega (arith, part, in_all)))

-- the options behind it ascend from it on
behind_ascends : (d : ℕ) (entries : List Entry) → Ascends d entries → Ascends oscore (options_behind entries)
behind_ascends d [] up = tt
behind_ascends d (entry ∷ entries) up = elim (chosen (is_behind entry.0)) [
  | inl is ↦
      let high = (both_hold (is_outer (class entry.0)) _ is).1 in
      let above : oscore ≤ entry.0 = grind (arith, nat_tests, high) in
      rw is (above, up.1, subst (Ascends entry.0) (behind_options entries) (side_ascends Behind entry.0 entries up.2))
  | inr isnt ↦ rw isnt (behind_ascends entry.0 entries up.2)
]

-- what stands outside in front of them and the OSCORE option
abbrev pub front : Features → Parts → ℕ → List ℕ → Draft
front x p code value = with_option (with_options (Datagram (bare p.kind code p.message_id p.token)) (options_outside x.observe p.options)) oscore value

-- they have their room behind that
pub behind_takes : (x : Features) (p : Parts) (code : ℕ) (value : List ℕ) (os qs : List Entry) (sought : Bool) (room : ℕ) → os ≡ p.options → qs ≡ p.options → sought ≡ x.observe → code ≢ 0 → Ascends 0 p.options
    → datagram_length (outside x p code value []) ≤ room → datagram_length (outside x p code value []) ≤ 65535
    → TakesAll room (with_option (with_options (Datagram (bare p.kind code p.message_id p.token)) (options_on (Outside sought) os)) oscore value) (options_on Behind qs)
behind_takes x p code value os qs sought room e f is some up in_room in_all =
    let same = ap (λ (b : Bool). options_on (Outside b) os) is ∙ outside_read x.observe p os e in
    let last = last_append 0 (options_outside x.observe p.options) ((oscore, value) ∷ []) in
    let whole = ap (spelling_length 0) (append_assoc (options_outside x.observe p.options) ((oscore, value) ∷ []) (options_behind p.options)) in
    subst (λ (es : List Entry). TakesAll room (with_option (with_options (Datagram (bare p.kind code p.message_id p.token)) es) oscore value) (options_on Behind qs)) (sym same)
    (subst (λ (es : List Entry). TakesAll room (front x p code value) es) (sym (behind_read p qs f)) (record {
      filled = some;
      unfinished = refl;
      ascends = subst (λ (n : ℕ). Ascends n (options_behind p.options)) (sym last) (behind_ascends 0 p.options up);
      has_room = (omega (arith, whole, in_room), omega (arith, whole, in_all));
    }))

-- what is written then stands outside
pub outside_held : (x : Features) (p : Parts) (code : ℕ) (value : List ℕ) (os qs : List Entry) (sought : Bool) (w : Writer) (old : List ℕ) → os ≡ p.options → qs ≡ p.options → sought ≡ x.observe
    → Holds w (with_options (with_option (with_options (Datagram (bare p.kind code p.message_id p.token)) (options_on (Outside sought) os)) oscore value) (options_on Behind qs)) old → Holds w (Datagram (outside x p code value [])) old
outside_held x p code value os qs sought w old e f is held =
    let all = append_assoc (options_outside x.observe p.options) ((oscore, value) ∷ []) (options_behind p.options) in
    subst (λ (es : List Entry). Holds w (Datagram (record (outside x p code value []) { options = es })) old) all
    (subst (λ (es : List Entry). Holds w (with_options (front x p code value) es) old) (behind_read p qs f)
    (subst (λ (es : List Entry). Holds w (with_options (with_option (with_options (Datagram (bare p.kind code p.message_id p.token)) es) 9 value) (options_on Behind qs)) old) (ap (λ (b : Bool). options_on (Outside b) os) is ∙ outside_read x.observe p os e) held))

-- the options inside have their room behind the code
pub inside_takes : (notifies : Bool) (p : Parts) (os : List Entry) (sought : Bool) (room : ℕ) → os ≡ p.options → sought ≡ notifies → Ascends 0 p.options
    → inner_length (inside (said notifies p)) ≤ room → inner_length (inside (said notifies p)) ≤ 65535
    → TakesAll room (Plaintext (bare_inner p.code)) (options_on (Inside sought) os)
inside_takes notifies p os sought room e is up in_room in_all =
    let long = inside_length notifies p in
    let same = ap (λ (b : Bool). options_on (Inside b) os) is ∙ ap (options_on (Inside notifies)) e in
    subst (λ (es : List Entry). TakesAll room (Plaintext (bare_inner p.code)) es) (sym same) (record {
      filled = λ x. x;
      unfinished = refl;
      ascends = side_ascends (Inside notifies) 0 p.options up;
      has_room = (omega (arith, long, in_room), omega (arith, long, in_all));
    })

-- the payload inside has its room behind them
pub payload_takes : (notifies : Bool) (p : Parts) (os : List Entry) (pay : List ℕ) (sought : Bool) (room : ℕ) → os ≡ p.options → pay ≡ p.payload → sought ≡ notifies
    → inner_length (inside (said notifies p)) ≤ room → inner_length (inside (said notifies p)) ≤ 65535
    → TakesPayload room (with_options (Plaintext (bare_inner p.code)) (options_on (Inside sought) os)) pay
payload_takes notifies p os pay sought room e k is in_room in_all =
    let same = ap inner_length (inside_read notifies p os pay e k) in
    subst (λ (b : Bool). TakesPayload room (with_options (Plaintext (bare_inner p.code)) (options_on (Inside b) os)) pay) (sym is)
    (λ x. x, refl, (omega (arith, same, in_room), omega (arith, same, in_all)))

-- what is written then stands inside
pub inside_held : (notifies : Bool) (p : Parts) (os : List Entry) (pay : List ℕ) (sought : Bool) (w : Writer) (old : List ℕ) → os ≡ p.options → pay ≡ p.payload → sought ≡ notifies
    → Holds w (with_payload (with_options (Plaintext (bare_inner p.code)) (options_on (Inside sought) os)) pay) old → Holds w (Plaintext (inside (said notifies p))) old
inside_held notifies p os pay sought w old e k is held =
    subst (λ (m : InnerParts). Holds w (Plaintext m) old) (inside_read notifies p os pay e k)
    (subst (λ (b : Bool). Holds w (with_payload (with_options (Plaintext (bare_inner p.code)) (options_on (Inside b) os)) pay) old) is held)
