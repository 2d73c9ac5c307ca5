-- One option among others, and the options of a range of numbers.
use Rattle.std.proofs.Common.{◌≡◌, ℕ, ◌+◌, ◌<◌, ◌≤◌, ◌==◌, ◌||◌, ◌&&◌, Bool, true, false, List, [], ◌∷◌, ◌++◌, filter, not, inl, inr, refl, sym, ap, ◌∙◌, arith}
use Rattle.std.proofs.lemmas.Bool.Decides.{nat_tests}
use Rattle.std.specs.Prelude.{nat_le}
use Rattle.osc_coap.specs.OptionNumbers.{proxy_scheme}
use Rattle.osc_coap.specs.OptionSpelling.{Entry, Ascends}
use Rattle.osc_coap.specs.Search.{has_number}
use Rattle.osc_proxy.specs.Asking.{SchemeIsTakenOut, asks_proxy, inserted}
use Rattle.osc_proxy.specs.Splitting.{between, is_between, part_options, parts_fit}
use Rattle.osc_proxy.specs.Uri.{decoded}
use Rattle.osc_proxy.proofs.Sequences.{chosen}

-- what is between
yes_between : (least most n : ℕ) → least ≤ n → n ≤ most → is_between least most n ≡ true
yes_between least most n low high = grind (arith, nat_tests, low, high)

-- no number is below 0
from_zero : (n : ℕ) → nat_le 0 n ≡ true
from_zero n = grind (arith, nat_tests)

-- what is below
not_below : (least most n : ℕ) → n < least → is_between least most n ≡ false
not_below least most n low = grind (arith, nat_tests, low)

-- what is above
not_above : (least most n : ℕ) → most < n → is_between least most n ≡ false
not_above least most n high = grind (arith, nat_tests, high)

-- options that ascend from above a number are none up to it
none_up_to : (k d : ℕ) (entries : List Entry) → k < d → Ascends d entries → between 0 k entries ≡ []
none_up_to k d [] above up = refl
none_up_to k d (x ∷ entries) above up =
    let low = up.0 in
    let more : k < x.0 = omega (arith, low) in
    rw (not_above 0 k x.0 more) (none_up_to k x.0 entries more up.2)

-- they are all above it
all_above : (k d : ℕ) (entries : List Entry) → k < d → Ascends d entries → between (k + 1) 65535 entries ≡ entries
all_above k d [] above up = refl
all_above k d (x ∷ entries) above up =
    let low = up.0 in
    let more : k < x.0 = omega (arith, low) in
    rw (yes_between (k + 1) 65535 x.0 (omega (arith, more)) up.1) (ap (λ (es : List Entry). x ∷ es) (all_above k x.0 entries more up.2))

-- the options up to a number, then the one more, then those above
pub inserted_apart : (d : ℕ) (entry : Entry) (entries : List Entry) → Ascends d entries → inserted entry entries ≡ between 0 entry.0 entries ++ entry ∷ between (entry.0 + 1) 65535 entries
inserted_apart d entry [] up = refl
inserted_apart d entry (x ∷ entries) up = elim (chosen (nat_le x.0 entry.0)) [
  | inl is ↦
      let low : x.0 ≤ entry.0 = grind (arith, nat_tests, is) in
      rw is (rw (from_zero x.0) (rw (not_below (entry.0 + 1) 65535 x.0 (omega (arith, low)))
      (ap (λ (es : List Entry). x ∷ es) (inserted_apart x.0 entry entries up.2))))
  | inr isnt ↦
      let high : entry.0 < x.0 = grind (arith, nat_tests, isnt) in
      let none = none_up_to entry.0 x.0 (x ∷ entries) high (omega arith, up.1, up.2) in
      let all = all_above entry.0 x.0 (x ∷ entries) high (omega arith, up.1, up.2) in
      let before : inserted entry (x ∷ entries) ≡ entry ∷ x ∷ entries = rw isnt refl in
      before ∙ sym (ap (λ (es : List Entry). es ++ entry ∷ between (entry.0 + 1) 65535 (x ∷ entries)) none ∙ ap (λ (es : List Entry). entry ∷ es) all)
]

-- with one option more they ascend as well
pub inserted_ascends : (d : ℕ) (entry : Entry) (entries : List Entry) → d ≤ entry.0 → entry.0 ≤ 65535 → Ascends d entries → Ascends d (inserted entry entries)
inserted_ascends d entry [] low fits up = (low, fits, tt)
inserted_ascends d entry (x ∷ entries) low fits up = elim (chosen (nat_le x.0 entry.0)) [
  | inl is ↦
      let lower : x.0 ≤ entry.0 = grind (arith, nat_tests, is) in
      rw is (up.0, up.1, inserted_ascends x.0 entry entries lower fits up.2)
  | inr isnt ↦
      let higher : entry.0 < x.0 = grind (arith, nat_tests, isnt) in
      rw isnt (low, fits, (omega (arith, higher), up.1, up.2))
]

-- what isn't Proxy-Scheme
kept : (n : ℕ) → asks_proxy n ≡ false → not (n == proxy_scheme) ≡ true
kept n h = grind (arith, nat_tests, h)

-- neither of two
pub neither : (a b : Bool) → (a || b) ≡ false → (a ≡ false) × (b ≡ false)
neither true b h = absurd (cc)
neither false b h = (refl, h)

-- options without Proxy-Scheme stay
none_taken : (entries : List Entry) → has_number asks_proxy entries ≡ false → filter (λ entry. not (entry.0 == proxy_scheme)) entries ≡ entries
none_taken [] h = refl
none_taken (x ∷ entries) h =
    let both = neither (asks_proxy x.0) (has_number asks_proxy entries) h in
    rw (kept x.0 both.0) (ap (λ (es : List Entry). x ∷ es) (none_taken entries both.1))

-- one Proxy-Scheme among them is taken out
taken_out : (scheme : List ℕ) (entries : List Entry) → has_number asks_proxy entries ≡ false → filter (λ entry. not (entry.0 == proxy_scheme)) (inserted (proxy_scheme, scheme) entries) ≡ entries
taken_out scheme [] h = refl
taken_out scheme (x ∷ entries) h =
    let both = neither (asks_proxy x.0) (has_number asks_proxy entries) h in
    elim (chosen (nat_le x.0 proxy_scheme)) [
      | inl is ↦ rw is (rw (kept x.0 both.0) (ap (λ (es : List Entry). x ∷ es) (taken_out scheme entries both.1)))
      | inr isnt ↦ rw isnt (none_taken (x ∷ entries) h)
    ]

-- a proxy that takes Proxy-Scheme out has what was sealed
pub scheme_taken_out : SchemeIsTakenOut
scheme_taken_out p scheme h = ap (λ (es : List Entry). record p { options = es }) (taken_out scheme p.options h)

-- the options that are written, the next one among them, and those that are left
pub grown : (least most : ℕ) (all done : List Entry) (number : ℕ) (value : List ℕ) (before rest : List Entry) → all ≡ done ++ between least most before → before ≡ (number, value) ∷ rest → least ≤ number → number ≤ most
    → all ≡ done ++ (number, value) ∷ between least most rest
grown least most all done number value before rest e steps low high =
    let first : between least most ((number, value) ∷ rest) ≡ (number, value) ∷ between least most rest = rw (yes_between least most number low high) refl in
    e ∙ ap (λ (es : List Entry). done ++ between least most es) steps ∙ ap (λ (es : List Entry). done ++ es) first

-- the parts that are written, the next one among them, and those that are left
pub grown_parts : (n : ℕ) (all done : List Entry) (value part : List ℕ) (before rest : List (List ℕ)) → all ≡ done ++ part_options n before → before ≡ part ∷ rest → value ≡ decoded false part
    → all ≡ done ++ (n, value) ∷ part_options n rest
grown_parts n all done value part before rest e steps is =
    e ∙ ap (λ (ps : List (List ℕ)). done ++ part_options n ps) steps ∙ ap (λ (bytes : List ℕ). done ++ (n, bytes) ∷ part_options n rest) (sym is)

-- where all parts fit, those that are left do
pub fits_on : (all before rest : List (List ℕ)) (part : List ℕ) → parts_fit all ≡ parts_fit before → before ≡ part ∷ rest → parts_fit all ≡ true → parts_fit all ≡ parts_fit rest
fits_on all before rest part same steps fits =
    let now : parts_fit (part ∷ rest) ≡ true = sym (ap parts_fit steps) ∙ sym same ∙ fits in
    fits ∙ sym (second _ (parts_fit rest) now)
  where
    second : (a b : Bool) → (a && b) ≡ true → b ≡ true
    second true b h = h
    second false b h = absurd (cc)
