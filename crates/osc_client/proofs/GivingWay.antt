-- Which of the pending requests give way to a message.
use Rattle.std.proofs.Common.{◌≡◌, ℕ, zero, suc, ◌∙◌, sym, ap, subst, refl, arith, Bool, true, false, Some, List, [], ◌∷◌}
use Rattle.std.specs.Prelude.{◌||◌, ◌&&◌, All, Contains, bytes_eq, cond, filter, not, remove, slice_get, slice_index_or}
use Rattle.std.proofs.lemmas.Bool.{not_from_true}
use Rattle.std.proofs.lemmas.List.{get_or_default}
use Rattle.std.proofs.lemmas.List.Elements.{All-contains, All-filter, filter_passes}
use Rattle.std.proofs.lemmas.Slice.Eq.{bytes_eq-Decides}
use Rattle.osc_coap.specs.Datagram.{Parts}
use Rattle.osc_context.specs.declared.features.Features.{Features}
use Rattle.osc_observe.specs.Observing.{cancels, registers}
use Rattle.osc_client.specs.Agrees.{TokensDiffer}
use Rattle.osc_client.specs.ClientAnswer.{IsAmong}
use Rattle.osc_client.specs.ClientHistory.{Asked, beside, gives_way, observes, without}
use Rattle.osc_client.proofs.Asking.{differ_filter, kept, one_of_token, passes, removed, untouched}

-- ---- lists

more : {X : Type 0} (b : Bool) (x r : X) (ys : List X) → Contains ys r → Contains (cond b (x ∷ ys) ys) r
more true x r ys (i, less, is) = (suc i, omega (arith, less), is)
more false x r ys has = has

-- what is there, and passes, is left
pub stays : (p : Asked → Bool) (xs : List Asked) (r : Asked) → Contains xs r → p r ≡ true → Contains (filter p xs) r
stays p [] r (i, less, is) e = absurd (omega (arith, less))
stays p (x ∷ xs) r (zero, less, is) e = subst (λ ys. Contains ys r) (sym (passes p x xs (ap p is ∙ e))) (zero, omega arith, is)
stays p (x ∷ xs) r (suc i, less, is) e = more (p x) x r (filter p xs) (stays p xs r (i, omega (arith, less), is) e)

-- two tests that agree on the elements leave the same ones
filter_alike : (p q : Asked → Bool) (xs : List Asked) → All (λ r. p r ≡ q r) xs → filter p xs ≡ filter q xs
filter_alike p q [] h = refl
filter_alike p q (x ∷ xs) h =
    ap (λ b. cond b (x ∷ filter p xs) (filter p xs)) (h 0 x (omega arith))
    ∙ ap (λ zs. cond (q x) (x ∷ zs) zs) (filter_alike p q xs (λ k d less. h (suc k) d (omega (arith, less))))

-- ---- who gives way

not_and : (a b : Bool) → not a ≡ true → not (a && b) ≡ true
not_and true b e = let f : false ≡ true = e in cc
not_and false b e = refl

-- what holds of all holds of those that are left
pub All-beside : (P : Asked → Type 0) (x : Features) (p : Parts) (xs : List Asked) → All P xs → All P (beside x p xs)
All-beside P x p xs h = All-filter (λ r. not (gives_way x p r)) P xs h

-- no two of those that are left have one token
pub differ_beside : (x : Features) (p : Parts) (xs : List Asked) → TokensDiffer xs → TokensDiffer (beside x p xs)
differ_beside x p xs differ = differ_filter (λ r. not (gives_way x p r)) xs differ

other_stays : (x : Features) (p : Parts) (r : Asked) → not (bytes_eq r.token p.token) ≡ true → not (gives_way x p r) ≡ true
other_stays x p r e = not_and (bytes_eq r.token p.token) (observes r.wait && (registers x p.code p.options || cancels x p.code p.options)) e

-- where none has the token, all stay
pub none_gives_way : (x : Features) (p : Parts) (xs : List Asked) → (IsAmong p.token xs → ⊥) → xs ≡ beside x p xs
none_gives_way x p xs none =
    sym (kept (λ r. not (gives_way x p r)) xs (λ k d less. other_stays x p (slice_index_or xs k d)
    (subst (λ ys. All (λ (r : Asked). not (bytes_eq r.token p.token) ≡ true) ys) (untouched xs p.token none) (filter_passes (λ (r : Asked). not (bytes_eq r.token p.token)) xs) k d less)))

-- the token is none's but the one that was taken out
gone : (xs : List Asked) (token : List ℕ) → IsAmong token (without token xs) → ⊥
gone xs token (r, has, same) =
    let passes = All-contains (λ (q : Asked). not (bytes_eq q.token token) ≡ true) (without token xs) r (filter_passes (λ (q : Asked). not (bytes_eq q.token token)) xs) has in
    let fails = not_from_true _ ((bytes_eq-Decides r.token token).1 same) in
    let e : true ≡ false = sym passes ∙ fails in cc

module _ (x : Features) (p : Parts) (xs : List Asked) (r : Asked) (differ : TokensDiffer xs) (there : Contains xs r) (that : r.token ≡ p.token) where
  alike : (observes r.wait && (registers x p.code p.options || cancels x p.code p.options)) ≡ true → (q : Asked) → Contains xs q → (b : Bool) → bytes_eq q.token p.token ≡ b
      → not (bytes_eq q.token p.token) ≡ not (gives_way x p q)
  alike given q has true e =
      let same : r ≡ q = one_of_token xs r q differ there has (that ∙ sym ((bytes_eq-Decides q.token p.token).0 e)) in
      let gives = ap (λ (z : Asked). observes z.wait && (registers x p.code p.options || cancels x p.code p.options)) (sym same) ∙ given in
      ap not (e ∙ sym (ap (λ b. b && (observes q.wait && (registers x p.code p.options || cancels x p.code p.options))) e ∙ gives))
  alike given q has false e = ap not (e ∙ sym (ap (λ b. b && (observes q.wait && (registers x p.code p.options || cancels x p.code p.options))) e))

  -- where it gives way, all others stay
  pub one_gives_way : (i : ℕ) → slice_get xs i ≡ Some r → (observes r.wait && (registers x p.code p.options || cancels x p.code p.options)) ≡ true
      → (remove xs i ≡ beside x p xs) × (IsAmong p.token (remove xs i) → ⊥)
  one_gives_way i at given =
      let left = removed xs i r p.token differ at that in (
        left ∙ filter_alike (λ q. not (bytes_eq q.token p.token)) (λ q. not (gives_way x p q)) xs
            (λ k d less. let q = slice_index_or xs k d in alike given q (k, less, get_or_default xs k q d less) (bytes_eq q.token p.token) refl),
        λ among. gone xs p.token (subst (IsAmong p.token) left among),
      )

-- where it doesn't, its token stays
pub in_use : (x : Features) (p : Parts) (xs : List Asked) (r : Asked) → Contains xs r → r.token ≡ p.token
    → (observes r.wait && (registers x p.code p.options || cancels x p.code p.options)) ≡ false → IsAmong p.token (beside x p xs)
in_use x p xs r there that kept_back =
    let gives : gives_way x p r ≡ false = ap (λ b. b && (observes r.wait && (registers x p.code p.options || cancels x p.code p.options))) ((bytes_eq-Decides r.token p.token).1 that) ∙ kept_back in
    (r, stays (λ q. not (gives_way x p q)) xs r there (ap not gives), that)
