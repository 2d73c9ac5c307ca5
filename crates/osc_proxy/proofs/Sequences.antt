-- Options one after the other, and that a writer takes them.
use Rattle.std.proofs.Common.{◌≡◌, ℕ, ◌+◌, ◌≤◌, ◌⊎◌, Bool, true, false, List, [], ◌∷◌, ◌++◌, inl, inr, refl, sym, ap, subst, arith, append_assoc}
use Rattle.osc_coap.specs.OptionSpelling.{Entry, Ascends, last_number, spelling_length}
use Rattle.osc_coap.specs.Writing.{Draft, Datagram, Plaintext, TakesOption, options_of, length_of, with_options}
use Rattle.osc_proxy.specs.Between.{TakesAll}

-- one of two
pub chosen : (b : Bool) → (b ≡ true) ⊎ (b ≡ false)
chosen true = inl refl
chosen false = inr refl

-- the last number of two lists
pub last_append : (d : ℕ) (xs ys : List Entry) → last_number d (xs ++ ys) ≡ last_number (last_number d xs) ys
last_append d [] ys = refl
last_append d (x ∷ xs) ys = last_append x.0 xs ys

-- two lists, one after the other
pub spelled_append : (d : ℕ) (xs ys : List Entry) → spelling_length d (xs ++ ys) ≡ spelling_length d xs + spelling_length (last_number d xs) ys
spelled_append d [] ys = omega arith
spelled_append d (x ∷ xs) ys = let rest = spelled_append x.0 xs ys in omega (arith, rest)

-- the parts of a list that ascends
pub ascends_apart : (d : ℕ) (xs ys : List Entry) → Ascends d (xs ++ ys) → Ascends d xs × Ascends (last_number d xs) ys
ascends_apart d [] ys up = (tt, up)
ascends_apart d (x ∷ xs) ys up = let rest = ascends_apart x.0 xs ys up.2 in ((up.0, up.1, rest.0), rest.1)

-- what ascends from a number ascends from a lower one
pub weaker : (d k : ℕ) (entries : List Entry) → d ≤ k → Ascends k entries → Ascends d entries
weaker d k [] le up = tt
weaker d k (entry ∷ entries) le up = let low = up.0 in (omega (arith, low), up.1, up.2)

-- further options behind some
pub with_options-append : (draft : Draft) (done more : List Entry) → with_options (with_options draft done) more ≡ with_options draft (done ++ more)
with_options-append (Datagram p) done more = ap (λ (es : List Entry). Datagram (record p { options = es })) (append_assoc p.options done more)
with_options-append (Plaintext p) done more = ap (λ (es : List Entry). Plaintext (record p { options = es })) (append_assoc p.options done more)

-- a part of some options takes no more than all
length_part : (draft : Draft) (done more : List Entry) → length_of (with_options draft done) ≤ length_of (with_options draft (done ++ more))
length_part (Datagram p) done more =
    let whole = spelled_append 0 p.options (done ++ more) in
    let part = spelled_append 0 p.options done in
    let both = spelled_append (last_number 0 p.options) done more in
    omega (arith, whole, part, both)
length_part (Plaintext p) done more =
    let whole = spelled_append 0 p.options (done ++ more) in
    let part = spelled_append 0 p.options done in
    let both = spelled_append (last_number 0 p.options) done more in
    omega (arith, whole, part, both)

-- the last number of a draft with options more
last_with : (draft : Draft) (done : List Entry) → last_number 0 (options_of (with_options draft done)) ≡ last_number (last_number 0 (options_of draft)) done
last_with (Datagram p) done = last_append 0 p.options done
last_with (Plaintext p) done = last_append 0 p.options done

-- the first of the options are taken
pub takes_part : (room : ℕ) (draft : Draft) (done more : List Entry) → TakesAll room draft (done ++ more) → TakesAll room draft done
takes_part room draft done more t =
    let fits = length_part draft done more in
    let in_room = t.has_room.0 in
    let in_all = t.has_room.1 in
    record {
      filled = t.filled;
      unfinished = t.unfinished;
      ascends = (ascends_apart (last_number 0 (options_of draft)) done more t.ascends).0;
      has_room = (omega (arith, fits, in_room), omega (arith, fits, in_all));
    }

-- the others are taken behind them
pub takes_more : (room : ℕ) (draft : Draft) (done more : List Entry) → TakesAll room draft (done ++ more) → TakesAll room (with_options draft done) more
takes_more room (Datagram p) done more t = record {
  filled = t.filled;
  unfinished = t.unfinished;
  ascends = subst (λ (n : ℕ). Ascends n more) (sym (last_with (Datagram p) done)) (ascends_apart (last_number 0 p.options) done more t.ascends).1;
  has_room = subst (λ (d : Draft). (length_of d ≤ room) × (length_of d ≤ 65535)) (sym (with_options-append (Datagram p) done more)) t.has_room;
}
takes_more room (Plaintext p) done more t = record {
  filled = t.filled;
  unfinished = t.unfinished;
  ascends = subst (λ (n : ℕ). Ascends n more) (sym (last_with (Plaintext p) done)) (ascends_apart (last_number 0 p.options) done more t.ascends).1;
  has_room = subst (λ (d : Draft). (length_of d ≤ room) × (length_of d ≤ 65535)) (sym (with_options-append (Plaintext p) done more)) t.has_room;
}

-- the first option is taken
pub takes_first : (room : ℕ) (draft : Draft) (number : ℕ) (value : List ℕ) (rest : List Entry) → TakesAll room draft ((number, value) ∷ rest) → TakesOption room draft number value
takes_first room draft number value rest t =
    let first = takes_part room draft ((number, value) ∷ []) rest t in
    (first.filled, first.unfinished, first.ascends.0, first.has_room)

-- the next of some options is taken
pub takes_next : (room : ℕ) (draft : Draft) (all done : List Entry) (number : ℕ) (value : List ℕ) (rest : List Entry) → TakesAll room draft all → all ≡ done ++ (number, value) ∷ rest
    → TakesOption room (with_options draft done) number value
takes_next room draft all done number value rest t e =
    takes_first room (with_options draft done) number value rest (takes_more room draft done ((number, value) ∷ rest) (subst (TakesAll room draft) e t))
