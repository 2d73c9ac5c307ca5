-- The options on both sides of an Echo option, and that a writer takes them. b is a side, value the value of the Echo option, room the length of a buffer.
use Rattle.std.proofs.Common.{◌≡◌, ◌≢◌, ℕ, suc, ◌+◌, ◌<◌, ◌≤◌, Bool, true, false, List, [], ◌∷◌, ◌++◌, length, take, refl, sym, ap, subst, ◌∙◌, arith, inl, inr, append_assoc, Result, Ok, Err}
use Rattle.std.specs.Prelude.{cond, nat_le, nat_lt, OnOk}
use Rattle.std.proofs.lemmas.Bool.{cases_lt, leb-true, true≢false}
use Rattle.std.proofs.lemmas.List.{append-nil, length-take-le}
use Rattle.osc_coap.specs.Datagram.{IsDatagram, Parts, datagram_length}
use Rattle.osc_coap.specs.OptionNumbers as options
use Rattle.osc_coap.specs.OptionSpelling.{Ascends, Entry, last_number, spelling_length}
use Rattle.osc_coap.specs.Writer.{Holds}
use Rattle.osc_coap.specs.Writing.{Datagram, Draft, HasRoom, IsFirstReason, LacksRoom, Plaintext, TakesOption, TakesPayload, length_of, options_of, with_option, with_options, with_payload}
use Rattle.osc_coap.specs.declared.write_error.WriteError.{WriteError}
use Rattle.osc_coap.specs.declared.write_error.WriteError.TheVariants.{EmptyWithRest, NoRoom, Order, ValueTooLong}
use Rattle.osc_coap.specs.declared.writer.Writer.{Writer}
use Rattle.osc_coap.proofs.Refusals.{IsExact, err_exact, first_empty, first_full, first_none, first_one, ok_exact, room_apart}
use Rattle.osc_protect.specs.Split.{TakesAll}
use Rattle.osc_protect.proofs.SealedLengths.{spelled_append}
use Rattle.osc_protect.proofs.Splits.{takes_next}
use Rattle.osc_fresh.specs.Sides.{head_only, is_on, side}
use Rattle.osc_fresh.specs.WithEcho.{RefusesEcho, TakesEcho, placed, with_echo}

-- ---- the options of a side

-- one option in front of the others of a side
pub side-cons : (b : Bool) (entry : Entry) (entries : List Entry) → side b (entry ∷ entries) ≡ side b (entry ∷ []) ++ side b entries
side-cons b entry entries = one (is_on b entry.0) entry (side b entries)
  where
    one : (t : Bool) (e : Entry) (rest : List Entry) → cond t (e ∷ rest) rest ≡ cond t (e ∷ []) [] ++ rest
    one true e rest = refl
    one false e rest = refl

-- one option that stands on it
pub on_side : (b : Bool) (number : ℕ) (value : List ℕ) → is_on b number ≡ true → side b ((number, value) ∷ []) ≡ (number, value) ∷ []
on_side b number value is = ap (λ (t : Bool). cond t ((number, value) ∷ []) []) is

-- one that doesn't
pub off_side : (b : Bool) (number : ℕ) (value : List ℕ) → is_on b number ≡ false → side b ((number, value) ∷ []) ≡ []
off_side b number value is = ap (λ (t : Bool). cond t ((number, value) ∷ []) []) is

-- ---- their order

lower : (d k : ℕ) (entries : List Entry) → d ≤ k → Ascends k entries → Ascends d entries
lower d k [] le up = tt
lower d k (entry ∷ entries) le up = let low = up.0 in (omega (arith, le, low), up.1, up.2)

one_kept : (t : Bool) (d : ℕ) (entry : Entry) (rest : List Entry) → d ≤ entry.0 → entry.0 ≤ 65535 → Ascends entry.0 rest → Ascends d (cond t (entry ∷ rest) rest)
one_kept true d entry rest low high up = (low, high, up)
one_kept false d entry rest low high up = lower d entry.0 rest low up

side_ascends : (b : Bool) (d : ℕ) (entries : List Entry) → Ascends d entries → Ascends d (side b entries)
side_ascends b d [] up = tt
side_ascends b d (entry ∷ entries) up = one_kept (is_on b entry.0) d entry (side b entries) up.0 up.1 (side_ascends b entry.0 entries up.2)

one_low : (t : Bool) (d : ℕ) (entry : Entry) (rest : List Entry) → nat_le entry.0 options.echo ≡ t → ((k : ℕ) → k ≤ 252 → last_number k rest ≤ 252) → d ≤ 252
    → last_number d (cond t (entry ∷ rest) rest) ≤ 252
one_low true d entry rest is all le = all entry.0 (leb-true entry.0 252 is)
one_low false d entry rest is all le = all d le

-- in front of the Echo option none has a greater number
front_low : (entries : List Entry) (d : ℕ) → d ≤ 252 → last_number d (side false entries) ≤ 252
front_low [] d le = le
front_low (entry ∷ entries) d le = one_low (nat_le entry.0 options.echo) d entry (side false entries) refl (λ k h. front_low entries k h) le

one_high : (t : Bool) (entry : Entry) (rest : List Entry) → nat_lt options.echo entry.0 ≡ t → entry.0 ≤ 65535 → Ascends entry.0 rest → Ascends 252 rest → Ascends 252 (cond t (entry ∷ rest) rest)
one_high true entry rest is high up all = let above : suc 252 ≤ entry.0 = leb-true (suc 252) entry.0 is in (omega (arith, above), high, up)
one_high false entry rest is high up all = all

-- behind it the numbers go on from its own
back_ascends : (d : ℕ) (entries : List Entry) → Ascends d entries → Ascends 252 (side true entries)
back_ascends d [] up = tt
back_ascends d (entry ∷ entries) up =
    one_high (nat_lt options.echo entry.0) entry (side true entries) refl up.1 (side_ascends true entry.0 entries up.2) (back_ascends entry.0 entries up.2)

join_ascends : (d : ℕ) (xs ys : List Entry) → Ascends d xs → Ascends (last_number d xs) ys → Ascends d (xs ++ ys)
join_ascends d [] ys front back = back
join_ascends d (x ∷ xs) ys front back = (front.0, front.1, join_ascends x.0 xs ys front.2 back)

front_ascends : (d : ℕ) (xs ys : List Entry) → Ascends d (xs ++ ys) → Ascends d xs
front_ascends d [] ys up = tt
front_ascends d (x ∷ xs) ys up = (up.0, up.1, front_ascends x.0 xs ys up.2)

rest_ascends : (d : ℕ) (xs ys : List Entry) → Ascends d (xs ++ ys) → Ascends (last_number d xs) ys
rest_ascends d [] ys up = up
rest_ascends d (x ∷ xs) ys up = rest_ascends x.0 xs ys up.2

last_append : (d : ℕ) (xs ys : List Entry) → last_number d (xs ++ ys) ≡ last_number (last_number d xs) ys
last_append d [] ys = refl
last_append d (x ∷ xs) ys = last_append x.0 xs ys

-- the options with the Echo option among them
placed_ascends : (value : List ℕ) (entries : List Entry) → Ascends 0 entries → Ascends 0 (placed (options.echo, value) entries)
placed_ascends value entries up =
    let low : last_number 0 (side false entries) ≤ 252 = front_low entries 0 (omega arith) in
    let small : 252 ≤ 65535 = omega arith in
    join_ascends 0 (side false entries) ((options.echo, value) ∷ side true entries) (side_ascends false 0 entries up) (low, small, back_ascends 0 entries up)

-- ---- what a writer takes

-- a draft with no option more
pub with_options-nil : (draft : Draft) → with_options draft [] ≡ draft
with_options-nil (Datagram p) = ap (λ (es : List Entry). Datagram (record p { options = es })) (append-nil p.options)
with_options-nil (Plaintext p) = ap (λ (es : List Entry). Plaintext (record p { options = es })) (append-nil p.options)

-- options in front of others take no more than all
fits_in : (written all done some rest : List Entry) → all ≡ done ++ (some ++ rest) → spelling_length 0 ((written ++ done) ++ some) ≤ spelling_length 0 (written ++ all)
fits_in written all done some rest e =
    let same : written ++ all ≡ ((written ++ done) ++ some) ++ rest =
    ap (λ (es : List Entry). written ++ es) e ∙ sym (append_assoc written done (some ++ rest)) ∙ sym (append_assoc (written ++ done) some rest) in
    let long : spelling_length 0 (written ++ all) ≡ spelling_length 0 ((written ++ done) ++ some) + spelling_length (last_number 0 ((written ++ done) ++ some)) rest =
    ap (spelling_length 0) same ∙ spelled_append 0 ((written ++ done) ++ some) rest in
    omega (arith, long)

part_ascends : (written all done some rest : List Entry) → Ascends (last_number 0 written) all → all ≡ done ++ (some ++ rest) → Ascends (last_number 0 (written ++ done)) some
part_ascends written all done some rest up e =
    subst (λ (k : ℕ). Ascends k some) (sym (last_append 0 written done))
    (front_ascends (last_number (last_number 0 written) done) some rest (rest_ascends (last_number 0 written) done (some ++ rest) (subst (Ascends (last_number 0 written)) e up)))

-- a part of the options that a writer takes is taken, behind those in front of it
pub takes_part : (draft : Draft) (room : ℕ) (all done some rest : List Entry) → TakesAll room draft all → all ≡ done ++ (some ++ rest) → TakesAll room (with_options draft done) some
takes_part (Datagram p) room all done some rest t e =
    let fits = fits_in p.options all done some rest e in
    let in_room = t.has_room.0 in
    let in_all = t.has_room.1 in
    record {
      filled = t.filled;
      unfinished = t.unfinished;
      ascends = part_ascends p.options all done some rest t.ascends e;
      has_room = (omega (arith, fits, in_room), omega (arith, fits, in_all));
    }
takes_part (Plaintext p) room all done some rest t e =
    let fits = fits_in p.options all done some rest e in
    let in_room = t.has_room.0 in
    let in_all = t.has_room.1 in
    record {
      filled = t.filled;
      unfinished = t.unfinished;
      ascends = part_ascends p.options all done some rest t.ascends e;
      has_room = (omega (arith, fits, in_room), omega (arith, fits, in_all));
    }

-- one option of a side is taken where all of one are
pub takes_one : (draft : Draft) (room : ℕ) (b : Bool) (number : ℕ) (value : List ℕ) → TakesAll room draft (side b ((number, value) ∷ [])) → is_on b number ≡ true → TakesOption room draft number value
takes_one draft room b number value t is =
    let same = on_side b number value is in
    let up = subst (Ascends (last_number 0 (options_of draft))) same t.ascends in
    (t.filled, t.unfinished, up.0, subst (λ (es : List Entry). HasRoom room (length_of (with_options draft es))) same t.has_room)

-- what was written with an option of a side
pub holds_on : (w : Writer) (draft : Draft) (old : List ℕ) (b : Bool) (number : ℕ) (value : List ℕ) → is_on b number ≡ true → Holds w (with_option draft number value) old
    → Holds w (with_options draft (side b ((number, value) ∷ []))) old
holds_on w draft old b number value is held = subst (λ (es : List Entry). Holds w (with_options draft es) old) (sym (on_side b number value is)) held

-- what was written without one
pub holds_off : (w : Writer) (draft : Draft) (old : List ℕ) (b : Bool) (number : ℕ) (value : List ℕ) → is_on b number ≡ false → Holds w draft old
    → Holds w (with_options draft (side b ((number, value) ∷ []))) old
holds_off w draft old b number value is held =
    subst (λ (d : Draft). Holds w d old) (sym (ap (with_options draft) (off_side b number value is) ∙ with_options-nil draft)) held

-- what holds of an Ok, seen in another way
pub on_ok : {T E : Type 0} {P Q : Type 0} (r : Result T E) → OnOk r P → (P → Q) → OnOk r Q
on_ok (Ok x) h f = f h
on_ok (Err e) h f = tt

-- an error isn't Ok
pub no_ok : {P : Type 0} → false ≡ true → P
no_ok e = absurd (true≢false (sym e))

-- ---- the whole message

module _ (p : Parts) (value : List ℕ) (room : ℕ) (takes : TakesEcho room value p) (up : Ascends 0 p.options) where
  -- all its options are taken behind its head
  takes_all : TakesAll room (head_only p) (placed (options.echo, value) p.options)
  takes_all =
      let in_room = takes.1.0 in
      let in_all = takes.1.1 in
      record {
        filled = takes.0;
        unfinished = refl;
        ascends = placed_ascends value p.options up;
        has_room = (omega (arith, in_room), omega (arith, in_all));
      }

  pub takes_front : (entries : List Entry) → entries ≡ p.options → TakesAll room (head_only p) (side false entries)
  takes_front entries e =
      subst (λ (es : List Entry). TakesAll room (head_only p) (side false es)) (sym e)
      (takes_part (head_only p) room (placed (options.echo, value) p.options) [] (side false p.options) ((options.echo, value) ∷ side true p.options) takes_all refl)

  pub takes_value : (entries : List Entry) → entries ≡ p.options → TakesOption room (with_options (head_only p) (side false entries)) options.echo value
  takes_value entries e =
      subst (λ (es : List Entry). TakesOption room (with_options (head_only p) (side false es)) options.echo value) (sym e)
      (takes_next (head_only p) (side false p.options) room (placed (options.echo, value) p.options) takes_all options.echo value (side true p.options) refl)

  pub takes_back : (entries : List Entry) → entries ≡ p.options → TakesAll room (with_option (with_options (head_only p) (side false entries)) options.echo value) (side true entries)
  takes_back entries e =
      let same : placed (options.echo, value) p.options ≡ (side false p.options ++ (options.echo, value) ∷ []) ++ (side true p.options ++ []) =
      sym (append_assoc (side false p.options) ((options.echo, value) ∷ []) (side true p.options))
      ∙ ap (λ (es : List Entry). (side false p.options ++ (options.echo, value) ∷ []) ++ es) (sym (append-nil (side true p.options))) in
      subst (λ (es : List Entry). TakesAll room (with_option (with_options (head_only p) (side false es)) options.echo value) (side true es)) (sym e)
      (takes_part (head_only p) room (placed (options.echo, value) p.options) (side false p.options ++ (options.echo, value) ∷ []) (side true p.options) [] takes_all same)

-- what is written then is the message
whole : (p : Parts) (value : List ℕ) (entries : List Entry) (payload : List ℕ) → entries ≡ p.options → payload ≡ p.payload
    → with_payload (with_options (with_option (with_options (head_only p) (side false entries)) options.echo value) (side true entries)) payload ≡ Datagram (with_echo value p)
whole p value entries payload e k =
    ap (λ (es : List Entry). with_payload (with_options (with_option (with_options (head_only p) (side false es)) options.echo value) (side true es)) payload) e
    ∙ ap (λ (bytes : List ℕ). with_payload (with_options (with_option (with_options (head_only p) (side false p.options)) options.echo value) (side true p.options)) bytes) k
    ∙ ap (λ (es : List Entry). Datagram (record p { options = es })) (append_assoc (side false p.options) ((options.echo, value) ∷ []) (side true p.options))

pub takes_payload : (p : Parts) (value : List ℕ) (room : ℕ) (entries : List Entry) (payload : List ℕ) → TakesEcho room value p → entries ≡ p.options → payload ≡ p.payload
    → TakesPayload room (with_options (with_option (with_options (head_only p) (side false entries)) options.echo value) (side true entries)) payload
takes_payload p value room entries payload takes e k =
    (takes.0, refl, subst (λ (d : Draft). HasRoom room (length_of d)) (sym (whole p value entries payload e k)) takes.1)

pub is_whole : (p : Parts) (value : List ℕ) (entries : List Entry) (payload : List ℕ) (w : Writer) (old : List ℕ) → entries ≡ p.options → payload ≡ p.payload
    → Holds w (with_payload (with_options (with_option (with_options (head_only p) (side false entries)) options.echo value) (side true entries)) payload) old
    → Holds w (Datagram (with_echo value p)) old
is_whole p value entries payload w old e k held = subst (λ (d : Draft). Holds w d old) (whole p value entries payload e k) held

-- ---- the answers

apart : (room : ℕ) (value : List ℕ) (p : Parts) (e : WriteError) → TakesEcho room value p → IsFirstReason (RefusesEcho room value p) e → ⊥
apart room value p e t r = first_none t.0 (λ (n : ⊥). n) (λ (n : ⊥). n) (room_apart room (datagram_length (with_echo value p)) t.1) e r

lacks : (room size : ℕ) → (HasRoom room size → ⊥) → LacksRoom room size
lacks room size none = elim (cases_lt room size) [
  | inl less ↦ inl less
  | inr fits ↦ elim (cases_lt 65535 size) [
    | inl over ↦ inr over
    | inr under ↦ absurd (none (fits, under))
  ]
]

-- the answer to an Empty message
pub empty_exact : (room : ℕ) (value : List ℕ) (p : Parts) → p.code ≡ 0 → IsExact {X = ℕ} (Err EmptyWithRest) (TakesEcho room value p) (IsFirstReason (RefusesEcho room value p))
empty_exact room value p empty =
    let first : IsFirstReason (RefusesEcho room value p) EmptyWithRest = first_empty _ _ _ _ empty in
    err_exact (Err EmptyWithRest) EmptyWithRest refl first (λ f other. first_one _ EmptyWithRest f first other) (apart room value p)

-- the answer where there is no room
pub room_exact : (room : ℕ) (value : List ℕ) (p : Parts) → p.code ≢ 0 → (TakesEcho room value p → ⊥) → IsExact {X = ℕ} (Err NoRoom) (TakesEcho room value p) (IsFirstReason (RefusesEcho room value p))
room_exact room value p some none =
    let first : IsFirstReason (RefusesEcho room value p) NoRoom =
    first_full _ _ _ _ some (λ (n : ⊥). n) (λ (n : ⊥). n) (lacks room (datagram_length (with_echo value p)) (λ has. none (some, has))) in
    err_exact (Err NoRoom) NoRoom refl first (λ f other. first_one _ NoRoom f first other) (apart room value p)

-- the answer to what is written
pub written_exact : (room : ℕ) (value : List ℕ) (p : Parts) (n : ℕ) → TakesEcho room value p → IsExact (Ok n) (TakesEcho room value p) (IsFirstReason (RefusesEcho room value p))
written_exact room value p n takes = ok_exact n takes (apart room value p)

-- what is written had room
pub had_room : (p : Parts) (n room : ℕ) (bytes : List ℕ) → IsDatagram p (take n bytes) → n ≤ length bytes → n ≡ datagram_length p → length bytes ≡ room → HasRoom room (datagram_length p)
had_room p n room bytes d within is same =
    let fits : length (take n bytes) ≤ 65535 = d.fits in
    let long : length (take n bytes) ≡ n = length-take-le n bytes within in
    (omega (arith, within, is, same), omega (arith, fits, long, is))

-- a head that has no room leaves none for the message
pub no_head : (p : Parts) (value : List ℕ) (room : ℕ) → room < 4 + length p.token → TakesEcho room value p → ⊥
no_head p value room short takes = let in_room = takes.1.0 in omega (arith, short, in_room)

-- a refusal for want of room says so
pub lacks_room : (room : ℕ) (value : List ℕ) (p : Parts) (e : WriteError) → p.code ≢ 0 → IsFirstReason (RefusesEcho room value p) e → LacksRoom room (datagram_length (with_echo value p))
lacks_room room value p EmptyWithRest some first = absurd (some first.holds)
lacks_room room value p NoRoom some first = first.holds
lacks_room room value p Order some first = absurd first.holds
lacks_room room value p ValueTooLong some first = absurd first.holds
