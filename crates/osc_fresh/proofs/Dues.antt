-- The Echo value that is added to a plain message, and that the message then has no other. p is a plain message, heard the value that was heard last.
use Rattle.std.proofs.Common.{◌≡◌, ◌≢◌, ℕ, Bool, true, false, List, [], ◌∷◌, ◌++◌, Option, Some, None, refl, sym, ap, ◌∙◌, ◌==◌}
use Rattle.std.specs.Prelude.{cond, filter, nat_le, nat_lt, if◌then◌else◌}
use Rattle.std.proofs.lemmas.Bool.{eqb-false}
use Rattle.osc_coap.specs.Datagram.{Parts}
use Rattle.osc_coap.specs.OptionNumbers as options
use Rattle.osc_coap.specs.OptionSpelling.{Entry}
use Rattle.osc_coap.specs.Search.{first_of, values_at}
use Rattle.osc_fresh.specs.Echoing.{EchoesOnly, echo_in}
use Rattle.osc_fresh.specs.WithEcho.{due, echoing, with_echo, with_value}

one_due : (b : Bool) (heard : Option (List ℕ)) (value : List ℕ) → (if b then None else heard) ≡ Some value → (b ≡ false) × (heard ≡ Some value)
one_due true heard value e = let bad : None ≡ Some value = e in cc
one_due false heard value e = (refl, e)

-- a value is added to a message that isn't Empty, and it was heard
pub due_some : (heard : Option (List ℕ)) (p : Parts) (value : List ℕ) → due heard p ≡ Some value → (p.code ≢ 0) × (heard ≡ Some value)
due_some heard p value e = let x = one_due (p.code == 0) heard value e in (eqb-false p.code 0 x.0, x.1)

-- the message with a value that is added
pub with_some : (heard : Option (List ℕ)) (p : Parts) (value : List ℕ) → due heard p ≡ Some value → echoing heard p ≡ with_echo value p
with_some heard p value e = ap (λ (o : Option (List ℕ)). with_value o p) e

-- the message where none is
pub with_none : (heard : Option (List ℕ)) (p : Parts) → due heard p ≡ None → echoing heard p ≡ p
with_none heard p e = ap (λ (o : Option (List ℕ)). with_value o p) e

-- ---- the values of an option

not_it : (b : Bool) (value : List ℕ) (values : List (List ℕ)) → (if b then value ∷ values else values) ≡ [] → (b ≡ false) × (values ≡ [])
not_it true value values e = let bad : value ∷ values ≡ [] = e in cc
not_it false value values e = (refl, e)

still_none : (n : ℕ) (t : Bool) (entry : Entry) (rest : List Entry) → (entry.0 == n) ≡ false → values_at n rest ≡ [] → values_at n (cond t (entry ∷ rest) rest) ≡ []
still_none n true entry rest other none = rw other none
still_none n false entry rest other none = none

-- a part of options without it has none
none_kept : (n : ℕ) (q : Entry → Bool) (entries : List Entry) → values_at n entries ≡ [] → values_at n (filter q entries) ≡ []
none_kept n q [] none = refl
none_kept n q (entry ∷ entries) none =
    let x = not_it (entry.0 == n) entry.1 (values_at n entries) none in
    still_none n (q entry) entry (filter q entries) x.0 (none_kept n q entries x.1)

-- nor does one stand before the others then
none_before : (n : ℕ) (xs ys : List Entry) → values_at n xs ≡ [] → values_at n (xs ++ ys) ≡ values_at n ys
none_before n [] ys none = refl
none_before n (x ∷ xs) ys none =
    let both = not_it (x.0 == n) x.1 (values_at n xs) none in
    let other = both.0 in
    rw other (none_before n xs ys both.1)

first_none : (values : List (List ℕ)) → first_of values ≡ None → values ≡ []
first_none [] e = refl
first_none (value ∷ values) e = let bad : Some value ≡ None = e in cc

-- the Echo value of a message to which one was added
pub echo_added : (value : List ℕ) (p : Parts) → echo_in p ≡ None → echo_in (with_echo value p) ≡ Some value
echo_added value p none =
    let empty = first_none (values_at options.echo p.options) none in
    ap first_of (none_before options.echo (filter (λ (other : Entry). nat_le other.0 options.echo) p.options)
    ((options.echo, value) ∷ filter (λ (other : Entry). nat_lt options.echo other.0) p.options) (none_kept options.echo (λ other. nat_le other.0 options.echo) p.options empty))

only_value : (d : Option (List ℕ)) (heard : Option (List ℕ)) (p : Parts) → due heard p ≡ d → echo_in p ≡ None → EchoesOnly heard (with_value d p)
only_value None heard p is none = λ value e. let bad : None ≡ Some value = sym none ∙ e in cc
only_value (Some v) heard p is none = λ value e. (due_some heard p v is).1 ∙ (sym (echo_added v p none) ∙ e)

-- the message that is sealed has no Echo value but the one that was heard last
pub only_due : (heard : Option (List ℕ)) (p : Parts) → echo_in p ≡ None → EchoesOnly heard (echoing heard p)
only_due heard p none = only_value (due heard p) heard p refl none
