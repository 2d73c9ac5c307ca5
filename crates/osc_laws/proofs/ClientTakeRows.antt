-- That a client has one answer to a datagram.
use Rattle.std.proofs.Common.{◌≡◌, ℕ, ◌⊎◌, ◌∙◌, sym, ap, subst, refl, arith, Bool, true, false, Option, Some, None, List, inl, inr}
use Rattle.std.specs.Prelude.{max}
use Rattle.std.proofs.lemmas.Bool.{both_ways}
use Rattle.osc_coap.specs.Code.{is_response}
use Rattle.osc_coap.specs.Datagram.{Parts}
use Rattle.osc_context.specs.SecurityContext.{SecurityContext}
use Rattle.osc_protect.specs.Head.{HasNoResponseHead}
use Rattle.osc_protect.specs.Refusals.{RefusesToOpen}
use Rattle.osc_protect.specs.declared.head_error.HeadError.{HeadError}
use Rattle.osc_protect.specs.declared.head_error.HeadError.TheVariants as heads
use Rattle.osc_protect.specs.declared.unprotect_error.UnprotectError.{UnprotectError}
use Rattle.osc_protect.specs.declared.unprotect_error.UnprotectError.TheVariants as opens
use Rattle.osc_client.specs.Agrees.{TokensDiffer}
use Rattle.osc_laws.specs.AnswerLaws.{ClientAnswerLaws}
use Rattle.osc_client.specs.ClientAnswer.{AskedAnswer, IsAmong, IsFirstAgain, IsInPlace, IsPassed, IsResponseWith, MayAwait, PendingAnswer, ResponseAnswer, SaysAwaited, SaysOwn, awaited, continues}
use Rattle.osc_client.specs.ClientHistory.{Answer, Asked, History, BadInner, BadTag, Deliver, Malformed, NotResponse, Notified, Old, Undecodable, UnknownToken, Unprotected, clock, context, observes, pending, pending_at}
use Rattle.osc_observe.specs.Received.{Received, Receives}
use Rattle.osc_client.proofs.ClientDecisions.{same_own}
use Rattle.osc_client.proofs.ClientDeliveries.{first_in_place, in_place_once, same_request}
use Rattle.osc_laws.proofs.OneReceived.{one_received}

-- ---- the answer by a pending request

-- the answer where a response doesn't open
abbrev unopened : UnprotectError → Answer
unopened (opens.Format e) = Malformed e.fault e.place
unopened opens.NotThatKind = NotResponse
unopened opens.NoOscore = Unprotected
unopened opens.Undecodable = Undecodable
unopened opens.WrongContext = Undecodable
unopened opens.Tag = BadTag
unopened opens.Inner = BadInner

record IsUnopened (s : SecurityContext) (r : Asked) (d : List ℕ) (answer : Answer) : Type 0 where
  pub refusal : UnprotectError
  pub refuses : RefusesToOpen (awaited s r) d refusal
  pub answer_is : answer ≡ unopened refusal

-- its place is before the first that the request waits for
record IsOld (s : SecurityContext) (r : Asked) (d : List ℕ) (answer : Answer) : Type 0 where
  pub is : ((own : Option ℕ) × SaysOwn s r d own × IsPassed r.wait own) ⊎ IsFirstAgain s r d
  pub answer_is : answer ≡ Old

-- the answer where it opens
abbrev opened : Bool → Received → ℕ → Answer
opened true received n = Notified received n
opened false received n = Deliver received n

record IsOpened (s : SecurityContext) (r : Asked) (d : List ℕ) (answer : Answer) : Type 0 where
  pub received : Received
  pub own : Option ℕ
  pub later : IsInPlace r own received.message
  pub receives : Receives (awaited s r) own d received
  pub answer_is : answer ≡ opened (continues r.wait received.message) received r.number

module _ (laws : ClientAnswerLaws) (s : SecurityContext) (r : Asked) (d : List ℕ) where
  abbrev Rest : Answer → Type 0
  Rest x = IsOld s r d x ⊎ IsOpened s r d x

  -- one that isn't opened isn't old, where it has a head that says so
  abbrev Sort : Answer → Type 0
  Sort x = (IsUnopened s r d x × ((own : Option ℕ) → SaysOwn s r d own → MayAwait r.wait own)) ⊎ Rest x

  none_says : (e : HeadError) → HasNoResponseHead d e → (own : Option ℕ) → SaysOwn s r d own → MayAwait r.wait own
  none_says e none own (head, has, names) = absurd (laws.head.never_both d head e has none)

  awaited_alone : SaysAwaited s r d → (own : Option ℕ) → SaysOwn s r d own → MayAwait r.wait own
  awaited_alone (other, says, later) own too = subst (MayAwait r.wait) (same_own s r r d other own laws.head says too) later

  sort_by : (x : Answer) → AskedAnswer s r d x → Sort x
  sort_by Unprotected row = inl (record { refusal = opens.NoOscore; refuses = row; answer_is = refl }, none_says heads.NoOscore row)
  sort_by Undecodable row = inl (record { refusal = opens.Undecodable; refuses = row; answer_is = refl }, none_says heads.Undecodable row)
  sort_by BadTag row = inl (record { refusal = opens.Tag; refuses = row.1; answer_is = refl }, awaited_alone row.0)
  sort_by BadInner row = inl (record { refusal = opens.Inner; refuses = row.1; answer_is = refl }, awaited_alone row.0)
  sort_by Old row = inr (inl (record { is = row; answer_is = refl }))
  sort_by (Notified received n) (is, own, later, receives, wait) =
      inr (inr (record { received = received; own = own; later = inl later; receives = receives; answer_is = ap (Notified received) is ∙ ap (λ b. opened b received r.number) (sym wait) }))
  sort_by (Deliver received n) (is, own, later, receives, wait) =
      inr (inr (record { received = received; own = own; later = later; receives = receives; answer_is = ap (Deliver received) is ∙ ap (λ b. opened b received r.number) (sym wait) }))
  sort_by x row = absurd row

  not_both : (x y : Answer) → IsUnopened s r d x → IsOpened s r d y → ⊥
  not_both x y a b = (laws.response s (observes r.wait) r.number).never_both d b.own b.received.message a.refusal b.receives.protects a.refuses

  not_passed : (own : Option ℕ) → IsPassed r.wait own → MayAwait r.wait own → ⊥
  not_passed None passed may = passed
  not_passed (Some own) passed may = omega (arith, passed, may)

  not_old : (x y : Answer) → IsOld s r d x → IsUnopened s r d y → ((own : Option ℕ) → SaysOwn s r d own → MayAwait r.wait own) → ⊥
  not_old x y a b may = elim a.is [
    | inl passed ↦ not_passed passed.0 passed.2 (may passed.0 passed.1)
    | inr first ↦ (laws.response s (observes r.wait) r.number).never_both d None first.0 b.refusal first.1 b.refuses
  ]

  not_opened : (x y : Answer) → IsOld s r d x → IsOpened s r d y → ⊥
  not_opened x y a b = elim a.is [
    | inl passed ↦
        let says = (laws.shows s (observes r.wait) r.number).protects d b.own b.received.message b.receives.protects in
        in_place_once r b.own b.received.message (subst (IsPassed r.wait) (same_own s r r d passed.0 b.own laws.head passed.1 says) passed.2) b.later
    | inr first ↦
        let law = laws.response s (observes r.wait) r.number in
        let own_is : None ≡ b.own = law.number d None b.own first.0 b.received.message first.1 b.receives.protects in
        let message : first.0 ≡ b.received.message = law.message d None b.own first.0 b.received.message first.1 b.receives.protects in
        first_in_place r b.own b.received.message (sym own_is) (subst (λ m. continues r.wait m ≡ true) message first.2) first.3 b.later
  ]

  one_rest : (x y : Answer) → Rest x → Rest y → x ≡ y
  one_rest x y (inl a) (inl b) = a.answer_is ∙ sym b.answer_is
  one_rest x y (inl a) (inr b) = absurd (not_opened x y a b)
  one_rest x y (inr a) (inl b) = absurd (not_opened y x b a)
  one_rest x y (inr a) (inr b) =
      let same = one_received (awaited s r) laws.one (laws.response s (observes r.wait) r.number) d a.own b.own a.received b.received a.receives b.receives in
      a.answer_is ∙ ap (λ (k : Received). opened (continues r.wait k.message) k r.number) same ∙ sym b.answer_is

  no_rest : (x y : Answer) → IsUnopened s r d x × ((own : Option ℕ) → SaysOwn s r d own → MayAwait r.wait own) → Rest y → ⊥
  no_rest x y a (inl b) = not_old y x b a.0 a.1
  no_rest x y a (inr b) = not_both x y a.0 b

  one_sort : (x y : Answer) → Sort x → Sort y → x ≡ y
  one_sort x y (inl a) (inl b) =
      a.0.answer_is ∙ ap unopened ((laws.response s (observes r.wait) r.number).refusal d a.0.refusal b.0.refusal a.0.refuses b.0.refuses) ∙ sym b.0.answer_is
  one_sort x y (inl a) (inr b) = absurd (no_rest x y a b)
  one_sort x y (inr a) (inl b) = absurd (no_rest y x b a)
  one_sort x y (inr a) (inr b) = one_rest x y a b

  one_asked : (x y : Answer) → AskedAnswer s r d x → AskedAnswer s r d y → x ≡ y
  one_asked x y row other = one_sort x y (sort_by x row) (sort_by y other)

-- ---- the answer to any datagram

-- the answer where a datagram is no response
abbrev no_answer : HeadError → Answer
no_answer (heads.Format e) = Malformed e.fault e.place
no_answer heads.NotThatKind = NotResponse
no_answer heads.NoOscore = Unprotected
no_answer heads.Undecodable = Undecodable

record IsNoResponse (d : List ℕ) (answer : Answer) : Type 0 where
  pub refusal : HeadError
  pub refuses : HasNoResponseHead d refusal
  pub never : (token : List ℕ) → IsResponseWith d token → ⊥
  pub answer_is : answer ≡ no_answer refusal

-- its token is none of a pending request
record IsUnknown (h : History) (moment : ℕ) (d : List ℕ) (answer : Answer) : Type 0 where
  pub token : List ℕ
  pub has : IsResponseWith d token
  pub none : IsAmong token (pending_at h moment) → ⊥
  pub answer_is : answer ≡ UnknownToken

module _ (laws : ClientAnswerLaws) (h : History) (now : ℕ) (d : List ℕ) where
  -- each row is one of these three
  sort_of : (x : Answer) → ResponseAnswer h (max (clock h) now) d x → IsNoResponse d x ⊎ (IsUnknown h (max (clock h) now) d x ⊎ PendingAnswer h (max (clock h) now) d x)
  sort_of (Malformed fault place) row = inl (record {
    refusal = heads.Format (record { fault = fault; place = place });
    refuses = row;
    never = λ token r. laws.no_fault r.0 d fault place r.1 row;
    answer_is = refl;
  })
  sort_of NotResponse row = inl (record {
    refusal = heads.NotThatKind;
    refuses = row;
    never = λ token r. both_ways (is_response r.0.kind r.0.code) (subst (λ (p : Parts). is_response p.kind p.code ≡ false) (laws.one row.0 r.0 d row.1 r.1) row.2) r.2;
    answer_is = refl;
  })
  sort_of UnknownToken row = inr (inl (record { token = row.0; has = row.1; none = row.2; answer_is = refl }))
  sort_of x row = inr (inr row)

  -- a datagram has one token
  known : (x y : Answer) → IsUnknown h (max (clock h) now) d x → PendingAnswer h (max (clock h) now) d y → ⊥
  known x y a ((r, (has, among), row)) =
      a.none (r, among, sym has.3 ∙ ap (λ (p : Parts). p.token) (laws.one has.0 a.has.0 d has.1 a.has.1) ∙ a.has.3)

  one_pending : (x y : Answer) → TokensDiffer (pending h) → PendingAnswer h (max (clock h) now) d x → PendingAnswer h (max (clock h) now) d y → x ≡ y
  one_pending x y differ (r, at, row) (q, there, other) =
      one_asked laws (context h) r d x y row
      (subst (λ (z : Asked). AskedAnswer (context h) z d y) (same_request h now d q r laws.one differ there at) other)

  -- the three don't overlap, and each fixes its answer
  pub one_take_answer : (x y : Answer) → TokensDiffer (pending h) → ResponseAnswer h (max (clock h) now) d x → ResponseAnswer h (max (clock h) now) d y → x ≡ y
  one_take_answer x y differ row other = elim (sort_of x row) [
    | inl a ↦ elim (sort_of y other) [
      | inl b ↦ a.answer_is ∙ ap no_answer (laws.head.refusal d a.refusal b.refusal a.refuses b.refuses) ∙ sym b.answer_is
      | inr c ↦ elim c [
        | inl b ↦ absurd (a.never b.token b.has)
        | inr b ↦ absurd (a.never b.0.token b.1.0)
      ]
    ]
    | inr e ↦ elim e [
      | inl a ↦ elim (sort_of y other) [
        | inl b ↦ absurd (b.never a.token a.has)
        | inr c ↦ elim c [
          | inl b ↦ a.answer_is ∙ sym b.answer_is
          | inr b ↦ absurd (known x y a b)
        ]
      ]
      | inr a ↦ elim (sort_of y other) [
        | inl b ↦ absurd (b.never a.0.token a.1.0)
        | inr c ↦ elim c [
          | inl b ↦ absurd (known y x b a)
          | inr b ↦ one_pending x y differ a b
        ]
      ]
    ]
  ]
