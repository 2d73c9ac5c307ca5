-- That a server has one answer to an event.
use Rattle.std.proofs.Common.{◌≡◌, ℕ, ◌⊎◌, ◌∙◌, sym, ap, subst, refl, arith, Bool, true, false, Option, Some, None, List, inl, inr}
use Rattle.std.proofs.lemmas.Bool.{both_ways}
use Rattle.osc_coap.specs.Datagram.{Parts}
use Rattle.osc_context.specs.SecurityContext.{SecurityContext}
use Rattle.osc_protect.specs.Head.{Head, HasNoRequestHead, HasRequestHead}
use Rattle.osc_protect.specs.Protection.{requests}
use Rattle.osc_protect.specs.Refusals.{Names}
use Rattle.osc_protect.specs.declared.head_error.HeadError.{HeadError}
use Rattle.osc_protect.specs.declared.head_error.HeadError.TheVariants as heads
use Rattle.osc_life.specs.declared.server_error.AddError.TheVariants.{Full, SameLookup}
use Rattle.osc_life.specs.declared.server_error.ReplaceError.TheVariants as replaces
use Rattle.osc_life.specs.declared.server_error.ReplyError.TheVariants.{NotObserving, StaleTicket}
use Rattle.osc_life.specs.declared.server_error.RestartError.TheVariants.{NoSuchContext, LivesExhausted}
use Rattle.osc_endpoint.specs.Agrees.{OneEach}
use Rattle.osc_laws.specs.AnswerLaws.{AnswerLaws}
use Rattle.osc_laws.specs.Laws.{OneServerAnswer}
use Rattle.osc_life.specs.Life.{Life}
use Rattle.osc_life.specs.Replies.{as_reply, bad_tag, no_context, replay, undecodable}
use Rattle.osc_endpoint.specs.ServerAnswer.{AddAnswer, IsPresent, IsRequestOf, MeetsNamedRow, MeetsRow, NamesNone, NotifyAnswer, OfTicket, ReplaceAnswer, ReplyAnswer, SaysReply, ServerAnswer, TakeAnswer, arrival}
use Rattle.osc_life.specs.declared.server_error.ReplaceError.{ReplaceError}
use Rattle.osc_life.specs.declared.server_error.SkipError.TheVariants as skips
use Rattle.osc_life.specs.LifeAnswer.{Arrival, LifeNotify, LifeReplace, LifeReply, LifeRestart, LifeSkip, MeetsLifeRow, SaysChallenge, as_notification}
use Rattle.osc_life.specs.ServerHistory.{Add, Added, Advance, Advanced, Answer, BadTag, Challenge, Datagram, Entry, Event, History, Malformed, NoContext, NotAdded, NotReplaced, NotReplied, NotRequest, NotRestarted, NotSkipped, Notify, Plain, Replace, Replaced, Replay, Reply, Restart, Restarted, Skip, Skipped, TicketValues, Took, Undecodable, life}
use Rattle.osc_endpoint.proofs.Deliveries.{IsSame, same_named}
use Rattle.osc_laws.proofs.ContextsApart.{contexts_differ}
use Rattle.osc_laws.proofs.DeliveredNumbers.{no_other}
use Rattle.osc_laws.proofs.LifeAnswers.{one_challenge, one_error, one_life_row}
use Rattle.osc_laws.proofs.LifeReplies.{one_life_notification, one_life_reply}

-- ---- additions and restarts

one_add : (h : History) (s : SecurityContext) (places : ℕ) (x y : Entry) → AddAnswer h s places x → AddAnswer h s places y → x ≡ y
one_add h s places (NotAdded Full) (NotAdded Full) x y = refl
one_add h s places (NotAdded Full) (NotAdded SameLookup) x y = absurd (omega (arith, x, y.0))
one_add h s places (NotAdded Full) (Added j) x y = absurd (omega (arith, x, y.0))
one_add h s places (NotAdded SameLookup) (NotAdded Full) x y = absurd (omega (arith, x.0, y))
one_add h s places (NotAdded SameLookup) (NotAdded SameLookup) x y = refl
one_add h s places (NotAdded SameLookup) (Added j) x y = absurd (y.1 x.1)
one_add h s places (Added i) (NotAdded Full) x y = absurd (omega (arith, x.0, y))
one_add h s places (Added i) (NotAdded SameLookup) x y = absurd (x.1 y.1)
one_add h s places (Added i) (Added j) x y = ap Added (x.2 ∙ sym y.2)
one_add h s places (NotAdded Full) entry x y = absurd y
one_add h s places (NotAdded SameLookup) entry x y = absurd y
one_add h s places (Added i) entry x y = absurd y
one_add h s places entry other x y = absurd x

one_restart : (o : Option Life) (x y : Entry) → LifeRestart o x → LifeRestart o y → x ≡ y
one_restart None (NotRestarted NoSuchContext) (NotRestarted NoSuchContext) x y = refl
one_restart (Some of) (NotRestarted LivesExhausted) (NotRestarted LivesExhausted) x y = refl
one_restart (Some of) (NotRestarted LivesExhausted) Restarted x y = absurd (omega (arith, x, y))
one_restart (Some of) Restarted (NotRestarted LivesExhausted) x y = absurd (omega (arith, x, y))
one_restart (Some of) Restarted Restarted x y = refl
one_restart None (NotRestarted NoSuchContext) entry x y = absurd y
one_restart (Some of) (NotRestarted LivesExhausted) entry x y = absurd y
one_restart (Some of) Restarted entry x y = absurd y
one_restart o entry other x y = absurd x

-- the row of a life, and the other rows of a replacement, which stand behind it
one_life_replaced : (o : Option Life) (x y : Entry) → LifeReplace o x → LifeReplace o y → x ≡ y
one_life_replaced None (NotReplaced replaces.NoSuchContext) (NotReplaced replaces.NoSuchContext) x y = refl
one_life_replaced (Some of) (NotReplaced replaces.LivesExhausted) (NotReplaced replaces.LivesExhausted) x y = refl
one_life_replaced (Some of) (NotReplaced replaces.LivesExhausted) Replaced x y = absurd (omega (arith, x, y))
one_life_replaced (Some of) Replaced (NotReplaced replaces.LivesExhausted) x y = absurd (omega (arith, x, y))
one_life_replaced (Some of) Replaced Replaced x y = refl
one_life_replaced None (NotReplaced replaces.NoSuchContext) entry x y = absurd y
one_life_replaced (Some of) (NotReplaced replaces.LivesExhausted) entry x y = absurd y
one_life_replaced (Some of) Replaced entry x y = absurd y
one_life_replaced o entry other x y = absurd x

-- a life that can begin isn't refused
none_refused : {A : Type 0} (o : Option Life) (e : ReplaceError) → LifeReplace o Replaced → LifeReplace o (NotReplaced e) → A
none_refused o e left row = absurd (let same : Replaced ≡ NotReplaced e = one_life_replaced o Replaced (NotReplaced e) left row in cc)

one_replace : (lives : ℕ → Option Life) (i : ℕ) (s : SecurityContext) (x y : Entry) → ReplaceAnswer lives i s x → ReplaceAnswer lives i s y → x ≡ y
one_replace lives i s (NotReplaced replaces.NoSuchContext) (NotReplaced replaces.NoSuchContext) x y = refl
one_replace lives i s (NotReplaced replaces.NoSuchContext) (NotReplaced replaces.LivesExhausted) x y = one_life_replaced (lives i) (NotReplaced replaces.NoSuchContext) (NotReplaced replaces.LivesExhausted) x y
one_replace lives i s (NotReplaced replaces.NoSuchContext) (NotReplaced replaces.SameLookup) x y = none_refused (lives i) replaces.NoSuchContext y.0 x
one_replace lives i s (NotReplaced replaces.NoSuchContext) (NotReplaced replaces.SameSender) x y = none_refused (lives i) replaces.NoSuchContext y.0 x
one_replace lives i s (NotReplaced replaces.NoSuchContext) Replaced x y = none_refused (lives i) replaces.NoSuchContext y.0 x
one_replace lives i s (NotReplaced replaces.NoSuchContext) entry x y = absurd (no_other (lives i) entry tt y)
one_replace lives i s (NotReplaced replaces.LivesExhausted) (NotReplaced replaces.NoSuchContext) x y = one_life_replaced (lives i) (NotReplaced replaces.LivesExhausted) (NotReplaced replaces.NoSuchContext) x y
one_replace lives i s (NotReplaced replaces.LivesExhausted) (NotReplaced replaces.LivesExhausted) x y = refl
one_replace lives i s (NotReplaced replaces.LivesExhausted) (NotReplaced replaces.SameLookup) x y = none_refused (lives i) replaces.LivesExhausted y.0 x
one_replace lives i s (NotReplaced replaces.LivesExhausted) (NotReplaced replaces.SameSender) x y = none_refused (lives i) replaces.LivesExhausted y.0 x
one_replace lives i s (NotReplaced replaces.LivesExhausted) Replaced x y = none_refused (lives i) replaces.LivesExhausted y.0 x
one_replace lives i s (NotReplaced replaces.LivesExhausted) entry x y = absurd (no_other (lives i) entry tt y)
one_replace lives i s (NotReplaced replaces.SameLookup) (NotReplaced replaces.NoSuchContext) x y = none_refused (lives i) replaces.NoSuchContext x.0 y
one_replace lives i s (NotReplaced replaces.SameLookup) (NotReplaced replaces.LivesExhausted) x y = none_refused (lives i) replaces.LivesExhausted x.0 y
one_replace lives i s (NotReplaced replaces.SameLookup) (NotReplaced replaces.SameLookup) x y = refl
one_replace lives i s (NotReplaced replaces.SameLookup) (NotReplaced replaces.SameSender) x y = absurd (y.1 x.1)
one_replace lives i s (NotReplaced replaces.SameLookup) Replaced x y = absurd (y.1 x.1)
one_replace lives i s (NotReplaced replaces.SameLookup) entry x y = absurd (no_other (lives i) entry tt y)
one_replace lives i s (NotReplaced replaces.SameSender) (NotReplaced replaces.NoSuchContext) x y = none_refused (lives i) replaces.NoSuchContext x.0 y
one_replace lives i s (NotReplaced replaces.SameSender) (NotReplaced replaces.LivesExhausted) x y = none_refused (lives i) replaces.LivesExhausted x.0 y
one_replace lives i s (NotReplaced replaces.SameSender) (NotReplaced replaces.SameLookup) x y = absurd (x.1 y.1)
one_replace lives i s (NotReplaced replaces.SameSender) (NotReplaced replaces.SameSender) x y = refl
one_replace lives i s (NotReplaced replaces.SameSender) Replaced x y = absurd (y.2 x.2)
one_replace lives i s (NotReplaced replaces.SameSender) entry x y = absurd (no_other (lives i) entry tt y)
one_replace lives i s Replaced (NotReplaced replaces.NoSuchContext) x y = none_refused (lives i) replaces.NoSuchContext x.0 y
one_replace lives i s Replaced (NotReplaced replaces.LivesExhausted) x y = none_refused (lives i) replaces.LivesExhausted x.0 y
one_replace lives i s Replaced (NotReplaced replaces.SameLookup) x y = absurd (x.1 y.1)
one_replace lives i s Replaced (NotReplaced replaces.SameSender) x y = absurd (x.2 y.2)
one_replace lives i s Replaced Replaced x y = refl
one_replace lives i s Replaced entry x y = absurd (no_other (lives i) entry tt y)
one_replace lives i s entry other x y = absurd (no_other (lives i) entry tt x)

one_skip : (o : Option Life) (count : ℕ) (x y : Entry) → LifeSkip o count x → LifeSkip o count y → x ≡ y
one_skip None count (NotSkipped skips.NoSuchContext) (NotSkipped skips.NoSuchContext) x y = refl
one_skip (Some of) count (NotSkipped skips.TooFewLeft) (NotSkipped skips.TooFewLeft) x y = refl
one_skip (Some of) count (NotSkipped skips.TooFewLeft) Skipped x y = absurd (omega (arith, x, y))
one_skip (Some of) count Skipped (NotSkipped skips.TooFewLeft) x y = absurd (omega (arith, x, y))
one_skip (Some of) count Skipped Skipped x y = refl
one_skip None count (NotSkipped skips.NoSuchContext) entry x y = absurd y
one_skip (Some of) count (NotSkipped skips.TooFewLeft) entry x y = absurd y
one_skip (Some of) count Skipped entry x y = absurd y
one_skip o count entry other x y = absurd x

-- ---- replies

-- the ticket is stale, or its life answers
stale_or_not : (h : History) (t : TicketValues) (own : Bool) (p : Parts) (room : ℕ) (x : Entry) → ReplyAnswer h t own p room x
    → ((x ≡ NotReplied StaleTicket) × ((of : Life) → IsPresent h t of → ⊥)) ⊎ OfTicket h t (λ of. LifeReply of t.number own p room x)
stale_or_not h t own p room (NotReplied StaleTicket) row = inl (refl, row)
stale_or_not h t own p room x row = inr row

-- the life of a ticket is one
one_present : (h : History) (t : TicketValues) (of other : Life) → IsPresent h t of → IsPresent h t other → other ≡ of
one_present h t of other x y = let e : Some other ≡ Some of = sym y.0 ∙ x.0 in cc

one_reply : AnswerLaws → (h : History) (t : TicketValues) (own : Bool) (p : Parts) (room : ℕ) (x y : Entry)
    → ReplyAnswer h t own p room x → ReplyAnswer h t own p room y → x ≡ y
one_reply laws h t own p room x y row other = elim (stale_or_not h t own p room x row) [
  | inl a ↦ elim (stale_or_not h t own p room y other) [
    | inl b ↦ a.0 ∙ sym b.0
    | inr b ↦ absurd (a.1 b.0 b.1)
  ]
  | inr a ↦ elim (stale_or_not h t own p room y other) [
    | inl b ↦ absurd (b.1 a.0 a.1)
    | inr b ↦ one_life_reply laws a.0 t.number own p room x y a.2 (subst (λ of. LifeReply of t.number own p room y) (one_present h t a.0 b.0 a.1 b.1) b.2)
  ]
]

-- ---- notifications

-- the ticket is stale
abbrev IsStale : History → TicketValues → Entry → Type 0
IsStale h t x = (x ≡ NotReplied StaleTicket) × ((of : Life) → IsPresent h t of → ⊥)

-- its request registers nothing
abbrev ObservesNothing : History → TicketValues → Entry → Type 0
ObservesNothing h t x = (x ≡ NotReplied NotObserving) × (t.observes ≡ false) × (of : Life) × IsPresent h t of

-- each row is one of these three
sort_of_notify : (h : History) (t : TicketValues) (p : Parts) (room : ℕ) (x : Entry) → NotifyAnswer h t p room x
    → IsStale h t x ⊎ (ObservesNothing h t x ⊎ ((t.observes ≡ true) × OfTicket h t (λ of. LifeNotify of t.number p room x)))
sort_of_notify h t p room (NotReplied StaleTicket) row = inl (refl, row)
sort_of_notify h t p room (NotReplied NotObserving) row = inr (inl (refl, row.2, row.0, row.1))
sort_of_notify h t p room x row = inr (inr row)

one_notify : AnswerLaws → (h : History) (t : TicketValues) (p : Parts) (room : ℕ) (x y : Entry) → NotifyAnswer h t p room x → NotifyAnswer h t p room y → x ≡ y
one_notify laws h t p room x y row other = elim (sort_of_notify h t p room x row) [
  | inl a ↦ elim (sort_of_notify h t p room y other) [
    | inl b ↦ a.0 ∙ sym b.0
    | inr c ↦ elim c [
      | inl b ↦ absurd (a.1 b.2 b.3)
      | inr b ↦ absurd (a.1 b.1.0 b.1.1)
    ]
  ]
  | inr d ↦ elim d [
    | inl a ↦ elim (sort_of_notify h t p room y other) [
      | inl b ↦ absurd (b.1 a.2 a.3)
      | inr c ↦ elim c [
        | inl b ↦ a.0 ∙ sym b.0
        | inr b ↦ absurd (both_ways _ a.1 b.0)
      ]
    ]
    | inr a ↦ elim (sort_of_notify h t p room y other) [
      | inl b ↦ absurd (b.1 a.1.0 a.1.1)
      | inr c ↦ elim c [
        | inl b ↦ absurd (both_ways _ b.1 a.0)
        | inr b ↦ one_life_notification laws a.1.0 t.number p room x y a.1.2 (subst (λ of. LifeNotify of t.number p room y) (one_present h t a.1.0 b.1.0 a.1.1 b.1.1) b.1.2)
      ]
    ]
  ]
]

-- ---- datagrams

-- the answer to a datagram without a head of a request
abbrev refused_answer : HeadError → Answer
refused_answer (heads.Format e) = Malformed e.fault e.place
refused_answer heads.NotThatKind = NotRequest
refused_answer heads.NoOscore = Plain
refused_answer heads.Undecodable = Undecodable

-- the datagram has no head of a request
record HasRefusal (a : Arrival) (answer : Answer) : Type 0 where
  pub refusal : HeadError
  pub refuses : HasNoRequestHead a.bytes refusal
  pub answer_is : answer ≡ refused_answer refusal

-- its head names no context
record IsUnnamed (h : History) (a : Arrival) (answer : Answer) : Type 0 where
  pub names_none : NamesNone h a.bytes
  pub answer_is : answer ≡ NoContext

module _ (laws : AnswerLaws) (h : History) (a : Arrival) where
  -- each row is one of these three
  sort_of : (x : Answer) → MeetsRow h a x → HasRefusal a x ⊎ (IsUnnamed h a x ⊎ MeetsNamedRow h a x)
  sort_of (Malformed fault place) row = inl (record { refusal = heads.Format (record { fault = fault; place = place }); refuses = row; answer_is = refl })
  sort_of NotRequest row = inl (record { refusal = heads.NotThatKind; refuses = row; answer_is = refl })
  sort_of Plain row = inl (record { refusal = heads.NoOscore; refuses = row; answer_is = refl })
  sort_of Undecodable row = inl (record { refusal = heads.Undecodable; refuses = row; answer_is = refl })
  sort_of NoContext row = inr (inl (record { names_none = row; answer_is = refl }))
  sort_of x row = inr (inr row)

  no_head : (x : Answer) (head : Head) → HasRefusal a x → HasRequestHead a.bytes head → ⊥
  no_head x head b has = laws.head.never_both a.bytes head b.refusal has b.refuses

  no_name : (x y : Answer) → IsUnnamed h a x → MeetsNamedRow h a y → ⊥
  no_name x y b (i, n, of, request, row) =
      let same : request.head ≡ b.names_none.0 = laws.head.head a.bytes request.head b.names_none.0 request.has_head b.names_none.1 in
      b.names_none.2 i of request.life_is n (subst (λ k. Names (requests of.context) k n) same request.names)

  -- a datagram names one context and one number
  same_request : (i j n k : ℕ) (of other : Life) → OneEach h → IsRequestOf h a.bytes i n of → IsRequestOf h a.bytes j k other → IsSame i j n k of other
  same_request i j n k of other each x y =
      let heads_are : x.head ≡ y.head = laws.head.head a.bytes x.head y.head x.has_head y.has_head in
      let parts : (requests of.context).parts n ≡ (requests other.context).parts k = sym x.names ∙ ap (λ (head : Head). head.parts) heads_are ∙ y.names in
      same_named h i j n k of other each x.life_is y.life_is parts

  one_named : (x y : Answer) → OneEach h → MeetsNamedRow h a x → MeetsNamedRow h a y → x ≡ y
  one_named x y each (i, n, of, request, row) (j, k, other, asked, again) =
      let same = same_request j i k n other of each asked request in
      one_life_row laws of i n a x y row
      (subst (λ z. MeetsLifeRow z i n a y) same.life (subst (λ z. MeetsLifeRow other z n a y) same.index (subst (λ z. MeetsLifeRow other j z a y) same.number again)))

  -- the rows exclude each other, and each fixes its answer
  pub one_row : (x y : Answer) → OneEach h → MeetsRow h a x → MeetsRow h a y → x ≡ y
  one_row x y each row other = elim (sort_of x row) [
    | inl b ↦ elim (sort_of y other) [
      | inl c ↦ b.answer_is ∙ ap refused_answer (laws.head.refusal a.bytes b.refusal c.refusal b.refuses c.refuses) ∙ sym c.answer_is
      | inr d ↦ elim d [
        | inl c ↦ absurd (no_head x c.names_none.0 b c.names_none.1)
        | inr c ↦ absurd (no_head x c.3.head b c.3.has_head)
      ]
    ]
    | inr e ↦ elim e [
      | inl b ↦ elim (sort_of y other) [
        | inl c ↦ absurd (no_head y b.names_none.0 c b.names_none.1)
        | inr d ↦ elim d [
          | inl c ↦ b.answer_is ∙ sym c.answer_is
          | inr c ↦ absurd (no_name x y b c)
        ]
      ]
      | inr b ↦ elim (sort_of y other) [
        | inl c ↦ absurd (no_head y b.3.head c b.3.has_head)
        | inr d ↦ elim d [
          | inl c ↦ absurd (no_name y x c b)
          | inr c ↦ one_named x y each b c
        ]
      ]
    ]
  ]

  -- a row has one reply
  one_take_reply : (x : Answer) (r s : List ℕ) → SaysReply h a x r → SaysReply h a x s → r ≡ s
  one_take_reply Undecodable r s x y = one_error laws a.bytes a.mid undecodable r s x y
  one_take_reply NoContext r s x y = one_error laws a.bytes a.mid no_context r s x y
  one_take_reply Replay r s x y = one_error laws a.bytes a.mid replay r s x y
  one_take_reply BadTag r s x y = one_error laws a.bytes a.mid bad_tag r s x y
  one_take_reply (Challenge i n given issued) r s (of, life_is, x) (other, is, y) =
      let same : other ≡ of = let e : Some other ≡ Some of = sym is ∙ life_is in cc in
      one_challenge laws of n a.bytes a.mid given r s x (subst (λ z. SaysChallenge z n a.bytes a.mid given s) same y)
  one_take_reply answer r s x y = x ∙ sym y

  one_take : (x y : Answer) (r s : List ℕ) → OneEach h → TakeAnswer h a x r → TakeAnswer h a y s → Took x r ≡ Took y s
  one_take x y r s each row other =
      let answers : x ≡ y = one_row x y each row.0 other.0 in
      let bytes : r ≡ s = one_take_reply y r s (subst (λ z. SaysReply h a z r) answers row.1) other.1 in
      cc

-- ---- events

one_answer : AnswerLaws → (h : History) (event : Event) (x y : Entry) → OneEach h → ServerAnswer h event x → ServerAnswer h event y → x ≡ y
one_answer laws h (Add s start size places) x y each row other = one_add h s places x y row.1 other.1
one_answer laws h (Datagram now echo mid d) (Took x r) (Took y s) each row other =
    one_take laws h (arrival h now echo mid d) x y r s each row other
one_answer laws h (Datagram now echo mid d) (Took x r) y each row other = absurd other
one_answer laws h (Datagram now echo mid d) x y each row other = absurd row
one_answer laws h (Reply t own mid plain room) x y each row other = one_reply laws h t own (as_reply t.kind t.message_id t.token mid plain) room x y row other
one_answer laws h (Notify t plain room) x y each row other = one_notify laws h t (as_notification t.token plain) room x y row other
one_answer laws h (Restart i next) x y each row other = one_restart (life h i) x y row other
one_answer laws h (Replace i s start size) x y each row other = one_replace (life h) i s x y row.1 other.1
one_answer laws h (Skip i count) x y each row other = one_skip (life h i) count x y row other
one_answer laws h (Advance now) Advanced Advanced each row other = refl
one_answer laws h (Advance now) Advanced y each row other = absurd other
one_answer laws h (Advance now) x y each row other = absurd row

pub answers_once : AnswerLaws → OneServerAnswer
answers_once laws h event x y all row other = one_answer laws h event x y (contexts_differ h all) row other
