-- Requests of a client: their rows, and the table with one request more.
use Rattle.std.proofs.Common.{◌≡◌, ◌≢◌, ℕ, ◌+◌, ◌-◌, ◌∙◌, sym, ap, subst, refl, arith, Bool, true, false, List, [], ◌∷◌, ◌++◌, length, get_or, take, inl, inr}
use Rattle.std.specs.Prelude.{◌||◌, cond, max, nat_le, nat_lt, not}
use Rattle.std.proofs.lemmas.Bool.Decides.{nat_tests}
use Rattle.std.proofs.lemmas.List.{get_or_default}
use Rattle.std.proofs.lemmas.List.Elements.{filter-append}
use Rattle.std.proofs.lemmas.List.Quantifiers.{all_pairs_push}
use Rattle.osc_coap.specs.Datagram.{Parts}
use Rattle.osc_context.specs.SecurityContext.{SecurityContext}
use Rattle.osc_context.specs.declared.features.Features.{Features}
use Rattle.osc_protect.specs.Protection.{requests}
use Rattle.osc_protect.specs.Sealed.{SealsRequest}
use Rattle.osc_protect.specs.SealRefusals.{IsPlainRequest, RefusesPlainRequest, RefusesToSeal}
use Rattle.osc_protect.specs.declared.protect_error.ProtectError.{ProtectError}
use Rattle.osc_protect.specs.declared.protect_error.ProtectError.TheVariants as protects
use Rattle.osc_client.specs.declared.client_outcome.RequestError.{RequestError}
use Rattle.osc_client.specs.declared.client_outcome.RequestError.TheVariants.{NotThatKind, Unsupported, TokenInUse, PendingFull, SequenceExhausted, TooLong, NoRoom, KeeperFailed}
use Rattle.osc_client.specs.Agrees.{ClientParts, PartsAgree, TokensDiffer}
use Rattle.osc_client.specs.ClientAnswer.{CanAsk, IsAmong, RequestAnswer}
use Rattle.osc_client.specs.ClientHistory.{Asked, Entry, History, Then, Request, Advance, Advanced, Sent, NotSent, alive, asked, beside, clock, context, first_place, gives_way, is_alive, life_ms, next, pending_at, wait_of}
use Rattle.osc_client.specs.Requesting.{IsFirstReason, lifted}
use Rattle.osc_client.proofs.Asking.{filter_swap}
use Rattle.osc_client.proofs.GivingWay.{differ_beside}
use Rattle.osc_observe.proofs.Fronts.{front_fits}

-- ---- refusals

-- what is refused once the clock has moved is refused by a request that moves it
pub refused_now : (n : ℕ) (h : History) (now room : ℕ) (p : Parts) (e : RequestError)
    → RequestAnswer n (Then h (Advance now) Advanced) (max (clock h) now) p room (NotSent e) → RequestAnswer n h (max (clock h) now) p room (NotSent e)
refused_now n h now room p NotThatKind r = r
refused_now n h now room p (Unsupported k) r = r
refused_now n h now room p TokenInUse r = r
refused_now n h now room p PendingFull r = r
refused_now n h now room p SequenceExhausted r = r
refused_now n h now room p TooLong r = r
refused_now n h now room p NoRoom r = r
refused_now n h now room p KeeperFailed r = r

module _ (n : ℕ) (h : History) (moment room : ℕ) (p : Parts) where
  plain_refused : (e : ProtectError) → RefusesPlainRequest (context h).features p e → RequestAnswer n h moment p room (NotSent (lifted e))
  plain_refused protects.NotThatKind r = r
  plain_refused (protects.Unsupported k) r = r
  plain_refused protects.TooLong r = absurd r
  plain_refused protects.NoRoom r = absurd r

  -- what keeps it from being sealed comes first, and else the other reason
  pub first_refused : (x : Features) (other reason : RequestError) → x ≡ (context h).features
      → (IsPlainRequest (context h).features p → RequestAnswer n h moment p room (NotSent other)) → IsFirstReason x p other reason → RequestAnswer n h moment p room (NotSent reason)
  first_refused x other reason same row (inl first) = subst (λ e. RequestAnswer n h moment p room (NotSent e)) (sym first.1) (row (subst (λ y. IsPlainRequest y p) same first.0))
  first_refused x other reason same row (inr first) =
      subst (λ e. RequestAnswer n h moment p room (NotSent e)) (sym first.2) (plain_refused (first.0) (subst (λ y. RefusesPlainRequest y p (first.0)) same first.1))

  pub seal_refused : (e : ProtectError) → (IsPlainRequest (context h).features p → CanAsk n h moment p)
      → RefusesToSeal (requests (context h)) (next h) p room e → RequestAnswer n h moment p room (NotSent (lifted e))
  seal_refused protects.NotThatKind can r = r
  seal_refused (protects.Unsupported k) can r = r
  seal_refused protects.TooLong can r = (can r.0, r)
  seal_refused protects.NoRoom can r = (can r.0, r)

-- ---- the table with one request more

young : (heard : Bool) (moment ms at : ℕ) → at ≡ moment → (heard || nat_le (moment - at) ms) ≡ true
young true moment ms at e = refl
young false moment ms at e = grind (arith, nat_tests)

-- the newest is alive
alive_more : (moment ms : ℕ) (xs : List Asked) (a : Asked) → a.moment ≡ moment → alive moment ms (xs ++ a ∷ []) ≡ alive moment ms xs ++ a ∷ []
alive_more moment ms xs a e =
    filter-append (is_alive moment ms) xs (a ∷ []) ∙ ap (λ b. alive moment ms xs ++ cond b (a ∷ []) []) (young (nat_lt 0 (first_place a.wait)) moment ms a.moment e)

-- a new token is none of those before
differ_more : (xs : List Asked) (a : Asked) → TokensDiffer xs → (IsAmong a.token xs → ⊥) → TokensDiffer (xs ++ a ∷ [])
differ_more xs a h new =
    all_pairs_push (λ (r q : Asked). r.token ≢ q.token) xs a h (λ k d within same. new (get_or xs k d, (k, within, get_or_default xs k (get_or xs k d) d within), same))

-- the newest is alive, whichever gives way to it
pub beside_more : (moment ms : ℕ) (x : Features) (p : Parts) (xs : List Asked) (a : Asked) → a.moment ≡ moment
    → alive moment ms (beside x p xs ++ a ∷ []) ≡ beside x p (alive moment ms xs) ++ a ∷ []
beside_more moment ms x p xs a e =
    alive_more moment ms (beside x p xs) a e ∙ ap (λ qs. qs ++ a ∷ []) (filter_swap (is_alive moment ms) (λ q. not (gives_way x p q)) xs)

-- and its token is none of those that stay
pub differ_beside_more : (x : Features) (p : Parts) (xs : List Asked) (a : Asked) → TokensDiffer xs → (IsAmong a.token (beside x p xs) → ⊥) → TokensDiffer (beside x p xs ++ a ∷ [])
differ_beside_more x p xs a differ new = differ_more (beside x p xs) a (differ_beside x p xs differ) new

-- the answer by a client with as much room
pub in_room : (n k : ℕ) (h : History) (now room : ℕ) (p : Parts) (entry : Entry) → n ≡ k → RequestAnswer n h (max (clock h) now) p room entry → RequestAnswer k h (max (clock h) now) p room entry
in_room n k h now room p entry same row = subst (λ m. RequestAnswer m h (max (clock h) now) p room entry) same row

-- ---- a request that is sealed

-- what was sealed can be sealed
pub plainly_sealed : (c : ClientParts) (h : History) (number : ℕ) (p : Parts) (bytes : List ℕ) → PartsAgree c h → SealsRequest c.context number p bytes
    → IsPlainRequest (context h).features p
plainly_sealed c h number p bytes a sealed = subst (λ (s : SecurityContext). IsPlainRequest s.features p) a.context_is (sealed.used, sealed.supported)

-- a row of the sealed request, by the clock's move before it
pub sealed_now : (n : ℕ) (c : ClientParts) (h : History) (now number len : ℕ) (p : Parts) (new old : List ℕ)
    → PartsAgree c (Then h (Advance now) Advanced) → CanAsk n (Then h (Advance now) Advanced) (max (clock h) now) p → number ≡ next h → length new ≡ length old
    → SealsRequest c.context number p (take len new) → RequestAnswer n h (max (clock h) now) p (length old) (Sent (take len new))
sealed_now n c h now number len p new old a can is room sealed =
    let by_context = subst (λ s. SealsRequest s number p (take len new)) a.context_is sealed in
    (can, subst (λ k. SealsRequest (context h) k p (take len new)) is by_context, front_fits len new old room)

-- the table holds it
pub agrees_sent : (n : ℕ) (c new : ClientParts) (h : History) (now room : ℕ) (p : Parts) (bytes : List ℕ) (rest : List Asked) (r : Asked)
    → PartsAgree c (Then h (Advance now) Advanced) → CanAsk n (Then h (Advance now) Advanced) (max (clock h) now) p
    → new.context ≡ c.context → new.life_ms ≡ c.life_ms → new.clock ≡ c.clock → new.next ≡ c.next + 1 → new.apart ≡ c.apart → rest ≡ beside c.context.features p c.pending → new.pending ≡ rest ++ r ∷ []
    → r.token ≡ p.token → r.number ≡ next h → r.moment ≡ c.clock → r.wait ≡ wait_of c.context.features p
    → PartsAgree new (Then h (Request now p room) (Sent bytes))
agrees_sent n c new h now room p bytes rest r a can same_context same_life same_clock counted same_apart left more token number moment wait =
    let asked_now : Asked = record { token = p.token; number = next h; moment = max (clock h) now; wait = wait_of (context h).features p } in
    let is : r ≡ asked_now = λ i. record { token = token i; number = number i; moment = (moment ∙ a.clock_is) i; wait = (wait ∙ ap (λ (s : SecurityContext). wait_of s.features p) a.context_is) i } in
    let x = (context h).features in
    let grows = beside_more (max (clock h) now) (life_ms h) x p (asked h) asked_now refl in
    let stay : rest ≡ beside x p (pending_at h (max (clock h) now)) = left ∙ ap (λ (s : SecurityContext). beside s.features p c.pending) a.context_is ∙ ap (beside x p) a.table in
    record {
      context_is = same_context ∙ a.context_is;
      life_is = same_life ∙ a.life_is;
      clock_is = same_clock ∙ a.clock_is;
      next_is = counted ∙ ap (λ k. k + 1) a.next_is;
      apart_is = same_apart ∙ a.apart_is;
      table = more ∙ ap (λ xs. xs ++ r ∷ []) stay ∙ ap (λ q. beside x p (pending_at h (max (clock h) now)) ++ q ∷ []) is ∙ sym grows;
      differ = subst TokensDiffer (sym grows) (differ_beside_more x p (pending_at h (max (clock h) now)) asked_now a.differ can.0.1);
    }

-- its token is none of those before
pub differ_sent : (xs ys : List Asked) (r : Asked) (token : List ℕ) → ys ≡ xs ++ r ∷ [] → r.token ≡ token → (IsAmong token xs → ⊥) → TokensDiffer xs → TokensDiffer ys
differ_sent xs ys r token more same new d =
    subst TokensDiffer (sym more) (differ_more xs r d (subst (λ t. IsAmong t xs → ⊥) (sym same) new))
