-- A URI that was read is its parts, one behind the other.
use Rattle.std.proofs.Common.{◌≡◌, ℕ, ◌==◌, ◌&&◌, Bool, true, false, List, [], ◌∷◌, ◌++◌, Option, None, Some, Result, Ok, Err, IfErr, IfOk, IsErrOf, IsOkAnd, inl, inr, refl, sym, ap, subst, ◌∙◌, append_assoc, take, drop, arith}
use Rattle.std.proofs.lemmas.Bool.{eqb-true}
use Rattle.std.proofs.lemmas.Bool.Decides.{nat_tests}
use Rattle.std.proofs.lemmas.List.{take-append-drop}
use Rattle.std.specs.Prelude.{if◌then◌else◌}
use Rattle.osc_proxy.specs.Uri.{UriParts, and_then, authority_at, before, behind, behind_scheme, decomposed, extended, hierarchy_at, host_at, host_length, is_absent, or_fault, parts_between, port_at, scheme_at, text_at}
use Rattle.osc_proxy.specs.UriLaws.{IsUri, Lacks, PartsAreJoined, UrisAreTheirParts, front_text, joined, marked_by}
use Rattle.osc_proxy.specs.UriViews.{Gives, uri_parts_of}
use Rattle.osc_proxy.specs.declared.uri.ProxyUri.{ProxyUri}
use Rattle.osc_proxy.specs.declared.uri_error.UriError.{UriError}
use Rattle.osc_proxy.specs.declared.uri_error.UriError.TheVariants.{Authority, Host, Userinfo}
use Rattle.osc_proxy.proofs.Sequences.{chosen}

-- both of two
both_hold : (a b : Bool) → (a && b) ≡ true → (a ≡ true) × (b ≡ true)
both_hold true b h = (refl, h)
both_hold false b h = absurd (cc)

-- equal answers
same_answer : {A : Type 0} (x y : A) → ◌≡◌ {A = Result A UriError} (Ok x) (Ok y) → x ≡ y
same_answer x y h = cc

-- two steps that found no fault
then_ok : {A B : Type 0} (r : Result A UriError) (f : A → Result B UriError) (y : B) → and_then r f ≡ Ok y → (x : A) × (r ≡ Ok x) × (f x ≡ Ok y)
then_ok (Ok x) f y h = (x, refl, h)
then_ok (Err e) f y h = absurd (cc)

-- a test that found no fault
fine_ok : {A : Type 0} (b : Bool) (x y : A) (e : UriError) → or_fault b x e ≡ Ok y → (b ≡ true) × (x ≡ y)
fine_ok true x y e h = (refl, same_answer x y h)
fine_ok false x y e h = absurd (cc)

-- the bytes in front of a delimiter, and then the others
cut_whole : (d : ℕ) (bytes : List ℕ) → bytes ≡ before d bytes ++ marked_by d (behind d bytes)
cut_whole d [] = refl
cut_whole d (x ∷ xs) = elim (chosen (x == d)) [
  | inl is ↦ let e = eqb-true x d is in rw is (ap (λ (n : ℕ). n ∷ xs) e)
  | inr isnt ↦ rw isnt (ap (λ (ys : List ℕ). x ∷ ys) (cut_whole d xs))
]

-- two slashes
hierarchy_ok : (bytes hierarchy : List ℕ) → hierarchy_at bytes ≡ Ok hierarchy → bytes ≡ 47 ∷ 47 ∷ hierarchy
hierarchy_ok [] hierarchy h = absurd (cc)
hierarchy_ok (x ∷ []) hierarchy h = absurd (cc)
hierarchy_ok (x ∷ y ∷ rest) hierarchy h =
    let fine = fine_ok ((x == 47) && (y == 47)) rest hierarchy Authority h in
    let both = both_hold (x == 47) (y == 47) fine.0 in
    ap (λ (n : ℕ). n ∷ y ∷ rest) (eqb-true x 47 both.0) ∙ ap (λ (n : ℕ). 47 ∷ n ∷ rest) (eqb-true y 47 both.1) ∙ ap (λ (r : List ℕ). 47 ∷ 47 ∷ r) fine.1

-- a colon stands in front of them
colon_ok : (rest : Option (List ℕ)) (hierarchy : List ℕ) → behind_scheme rest ≡ 47 ∷ 47 ∷ hierarchy → marked_by 58 rest ≡ 58 ∷ 47 ∷ 47 ∷ hierarchy
colon_ok None hierarchy h = absurd (cc)
colon_ok (Some bytes) hierarchy h = ap (λ (r : List ℕ). 58 ∷ r) h

-- host, and what follows it
authority_ok : (authority : List ℕ) (place : List ℕ × List ℕ) → authority_at authority ≡ Ok place → authority ≡ place.0 ++ place.1
authority_ok authority place h = go (is_absent (behind 64 authority)) h
  where
    go : (b : Bool) → (if b then host_at authority else Err Userinfo) ≡ Ok place → authority ≡ place.0 ++ place.1
    go true k =
        let fine = fine_ok _ (take (host_length authority) authority, drop (host_length authority) authority) place Host k in
        sym (take-append-drop (host_length authority) authority) ∙ ap (λ (p : List ℕ × List ℕ). p.0 ++ p.1) fine.1
    go false k = absurd (cc)

-- the pieces in a row
in_a_row : (front name rest hierarchy authority host port path : List ℕ) → front ≡ name ++ rest → rest ≡ 58 ∷ 47 ∷ 47 ∷ hierarchy → hierarchy ≡ authority ++ path → authority ≡ host ++ port
    → front ≡ name ++ (58 ∷ 47 ∷ 47 ∷ (host ++ (port ++ path)))
in_a_row front name rest hierarchy authority host port path h1 h2 h3 h4 =
    let inner : hierarchy ≡ host ++ (port ++ path) = h3 ∙ ap (λ (a : List ℕ). a ++ path) h4 ∙ append_assoc host port path in
    h1 ∙ ap (λ (r : List ℕ). name ++ r) (h2 ∙ ap (λ (r : List ℕ). 58 ∷ 47 ∷ 47 ∷ r) inner)

-- no delimiter stands in front of the first one
none_before : (d : ℕ) (bytes : List ℕ) → Lacks d (before d bytes)
none_before d [] = refl
none_before d (x ∷ xs) = elim (chosen (x == d)) [
  | inl is ↦ rw is refl
  | inr isnt ↦ let front : before d (x ∷ xs) ≡ x ∷ before d xs = rw isnt refl in subst (λ (bytes : List ℕ). Lacks d bytes) (sym front) (rw isnt (none_before d xs))
]

-- a URI that is read is its parts
is_its_parts : (text : List ℕ) (u : UriParts) → decomposed text ≡ Ok u → IsUri u text
is_its_parts text u h =
    let front : List ℕ = before 63 text in
    let scheme = then_ok (scheme_at (before 58 front)) _ u h in
    let fine = then_ok (text_at text) _ u scheme.2 in
    let hierarchy = then_ok (hierarchy_at (behind_scheme (behind 58 front))) _ u fine.2 in
    let place = then_ok (authority_at (before 47 hierarchy.0)) _ u hierarchy.2 in
    let port = then_ok (port_at place.0.1) _ u place.2 in
    let host_port = authority_ok (before 47 hierarchy.0) place.0 place.1 in
    let row = in_a_row front (before 58 front) (marked_by 58 (behind 58 front)) hierarchy.0 (before 47 hierarchy.0) place.0.0 place.0.1 (marked_by 47 (behind 47 hierarchy.0))
    (cut_whole 58 front) (colon_ok (behind 58 front) hierarchy.0 (hierarchy_ok _ hierarchy.0 hierarchy.1)) (cut_whole 47 hierarchy.0) host_port in
    subst (λ (v : UriParts). IsUri v text) (same_answer _ u port.2) (record {
      name = before 58 front;
      port_text = place.0.1;
      whole = cut_whole 63 text ∙ ap (λ (f : List ℕ). f ++ marked_by 63 (behind 63 text)) row;
      characters = fine.1;
      scheme = scheme.1;
      authority = subst (λ (a : List ℕ). authority_at a ≡ Ok place.0) host_port place.1;
      port = port.1;
      no_colon = none_before 58 front;
      no_slash = subst (λ (a : List ℕ). Lacks 47 a) host_port (none_before 47 hierarchy.0);
      no_question_mark = subst (λ (f : List ℕ). Lacks 63 f) row (none_before 63 text);
    })

-- a byte of bytes without a delimiter isn't that, and neither are the others
lacks_apart : (d x : ℕ) (xs : List ℕ) → Lacks d (x ∷ xs) → ((x == d) ≡ false) × Lacks d xs
lacks_apart d x xs h = elim (chosen (x == d)) [
  | inl is ↦ let some : behind d (x ∷ xs) ≡ Some xs = rw is refl in absurd (cc)
  | inr isnt ↦ let same : behind d (x ∷ xs) ≡ behind d xs = rw isnt refl in (isnt, sym same ∙ h)
]

-- a number is itself
itself : (d : ℕ) → (d == d) ≡ true
itself d = grind (arith, nat_tests)

-- what stands in front of the first delimiter
before_marked : (d : ℕ) (bytes : List ℕ) (rest : Option (List ℕ)) → Lacks d bytes → before d (bytes ++ marked_by d rest) ≡ bytes
before_marked d [] None h = refl
before_marked d [] (Some rest) h = rw (itself d) refl
before_marked d (x ∷ xs) rest h = let apart = lacks_apart d x xs h in rw apart.0 (ap (λ (ys : List ℕ). x ∷ ys) (before_marked d xs rest apart.1))

-- what stands behind it
behind_marked : (d : ℕ) (bytes : List ℕ) (rest : Option (List ℕ)) → Lacks d bytes → behind d (bytes ++ marked_by d rest) ≡ rest
behind_marked d [] None h = refl
behind_marked d [] (Some rest) h = rw (itself d) refl
behind_marked d (x ∷ xs) rest h = let apart = lacks_apart d x xs h in rw apart.0 (behind_marked d xs rest apart.1)

-- one step after another
then_both : {A B : Type 0} (r : Result A UriError) (x : A) (f : A → Result B UriError) (y : B) → r ≡ Ok x → f x ≡ Ok y → and_then r f ≡ Ok y
then_both {A} r x f y h k = ap (λ (s : Result A UriError). and_then s f) h ∙ k

-- a URI is read as what it says
read_as_parts : (text : List ℕ) (u : UriParts) → IsUri u text → decomposed text ≡ Ok u
read_as_parts text u is =
    let front = front_text is.name is.port_text u in
    let hierarchy = u.host ++ (is.port_text ++ marked_by 47 u.path) in
    let front_is : before 63 text ≡ front = ap (before 63) is.whole ∙ before_marked 63 front u.query is.no_question_mark in
    let query_is : behind 63 text ≡ u.query = ap (behind 63) is.whole ∙ behind_marked 63 front u.query is.no_question_mark in
    let name_is : before 58 (before 63 text) ≡ is.name = ap (before 58) front_is ∙ before_marked 58 is.name (Some (47 ∷ 47 ∷ hierarchy)) is.no_colon in
    let rest_is : behind 58 (before 63 text) ≡ Some (47 ∷ 47 ∷ hierarchy) = ap (behind 58) front_is ∙ behind_marked 58 is.name (Some (47 ∷ 47 ∷ hierarchy)) is.no_colon in
    let apart : hierarchy ≡ (u.host ++ is.port_text) ++ marked_by 47 u.path = sym (append_assoc u.host is.port_text (marked_by 47 u.path)) in
    let authority_is : before 47 hierarchy ≡ u.host ++ is.port_text = ap (before 47) apart ∙ before_marked 47 (u.host ++ is.port_text) u.path is.no_slash in
    let path_is : behind 47 hierarchy ≡ u.path = ap (behind 47) apart ∙ behind_marked 47 (u.host ++ is.port_text) u.path is.no_slash in
    then_both _ u.scheme _ u (ap scheme_at name_is ∙ is.scheme)
    (then_both _ tt _ u is.characters
    (then_both _ hierarchy _ u (ap (λ (r : Option (List ℕ)). hierarchy_at (behind_scheme r)) rest_is)
    (then_both _ (u.host, is.port_text) _ u (ap authority_at authority_is ∙ is.authority)
    (then_both _ u.port _ u is.port
    (ap (λ (p : Option (List ℕ)). Ok (record u { path = p; query = behind 63 text })) path_is ∙ ap (λ (q : Option (List ℕ)). Ok (record u { query = q })) query_is)))))

pub uris_are_their_parts : UrisAreTheirParts
uris_are_their_parts text u = (is_its_parts text u, read_as_parts text u)

-- what is read is a URI that says it
pub read_accepted : (text : List ℕ) (r : Result ProxyUri UriError) → Gives uri_parts_of r (decomposed text) → IfOk r (λ u. IsUri (uri_parts_of u) text)
read_accepted text (Ok u) h = is_its_parts text (uri_parts_of u) h
read_accepted text (Err e) h = tt

-- a URI is read
pub read_accepts : (text : List ℕ) (r : Result ProxyUri UriError) → Gives uri_parts_of r (decomposed text) → (u : UriParts) → IsUri u text → IsOkAnd r (λ v. uri_parts_of v ≡ u)
read_accepts text (Ok v) h u is = same_answer (uri_parts_of v) u (sym h ∙ read_as_parts text u is)
read_accepts text (Err e) h u is = let both : ◌≡◌ {A = Result UriParts UriError} (Err e) (Ok u) = sym h ∙ read_as_parts text u is in absurd (cc)

-- what is refused has that fault
pub read_refused : (text : List ℕ) (r : Result ProxyUri UriError) → Gives uri_parts_of r (decomposed text) → IfErr r (λ e. decomposed text ≡ Err e)
read_refused text (Ok u) h = tt
read_refused text (Err e) h = h

-- a fault is refused
pub read_refuses : (text : List ℕ) (r : Result ProxyUri UriError) → Gives uri_parts_of r (decomposed text) → (e : UriError) → decomposed text ≡ Err e → IsErrOf r e
read_refuses text (Ok u) h e k = let both : ◌≡◌ {A = Result UriParts UriError} (Ok (uri_parts_of u)) (Err e) = sym h ∙ k in absurd (cc)
read_refuses text (Err f) h e k =
    let both : ◌≡◌ {A = Result UriParts UriError} (Err f) (Err e) = sym h ∙ k in
    let same : f ≡ e = cc in
    ap Err same

-- a byte more in front of the first part
joined_more : (d x : ℕ) (parts : List (List ℕ)) → joined d (extended x parts) ≡ x ∷ joined d parts
joined_more d x [] = refl
joined_more d x (part ∷ []) = refl
joined_more d x (part ∷ other ∷ parts) = refl

-- an empty part in front of some
joined_empty : (d x : ℕ) (xs : List ℕ) → joined d ([] ∷ parts_between d xs) ≡ d ∷ joined d (parts_between d xs)
joined_empty d x [] = refl
joined_empty d x (y ∷ ys) = elim (chosen (y == d)) [
  | inl is ↦ rw is refl
  | inr isnt ↦ rw isnt (go (parts_between d ys))
]
  where
    go : (parts : List (List ℕ)) → joined d ([] ∷ extended y parts) ≡ d ∷ joined d (extended y parts)
    go [] = refl
    go (part ∷ parts) = refl

pub parts_are_joined : PartsAreJoined
parts_are_joined d [] = refl
parts_are_joined d (x ∷ xs) = elim (chosen (x == d)) [
  | inl is ↦ rw is (joined_empty d x xs ∙ ap (λ (ys : List ℕ). d ∷ ys) (parts_are_joined d xs) ∙ ap (λ (n : ℕ). n ∷ xs) (sym (eqb-true x d is)))
  | inr isnt ↦ rw isnt (joined_more d x (parts_between d xs) ∙ ap (λ (ys : List ℕ). x ∷ ys) (parts_are_joined d xs))
]
