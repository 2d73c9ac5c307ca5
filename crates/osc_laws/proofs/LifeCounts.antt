-- The lives of a server's contexts as its texts see them, and what each answer makes of them. a is what a history shows, b what it shows one
-- answer later, k a life, i the index of a context, c the count of its lives before one.
use Rattle.std.proofs.Common.{◌≡◌, ℕ, ◌+◌, ◌<◌, ◌^◌, ◌∙◌, sym, ap, subst, refl, Bool, true, false, Option, Some, None, List, [], ◌∷◌, ◌++◌, option_map, if◌then◌else◌, ◌==◌, ◌⊎◌, inl, inr}
use Rattle.std.proofs.lemmas.Bool.{eqb-true}
use Rattle.osc_coap.specs.Datagram.{Parts}
use Rattle.osc_context.specs.OscoreValue.{IsOscoreValue}
use Rattle.osc_context.specs.SecurityContext.{SecurityContext}
use Rattle.osc_window.specs.declared.window_size.WindowSize.{WindowSize}
use Rattle.osc_protect.specs.Laws.{ProtectionsShowHeads}
use Rattle.osc_protect.specs.Protection.{responses_to}
use Rattle.osc_protect.specs.Sealed.{IsSealed}
use Rattle.osc_life.specs.declared.server_error.ReplaceError.{ReplaceError}
use Rattle.osc_life.specs.declared.server_error.RestartError.{RestartError}
use Rattle.osc_life.specs.declared.server_error.SkipError.{SkipError}
use Rattle.osc_life.specs.declared.start.Start.{Start}
use Rattle.osc_life.specs.declared.start.Start.TheVariants as starts
use Rattle.osc_laws.specs.AnswerLaws.{SealedHeads}
use Rattle.osc_laws.specs.Laws.{Text, HasOwnNumber, texts, text_in, passed_over}
use Rattle.osc_life.specs.Life.{HasOwn, Mark, Delivered, Spoiled, Challenged, Answered, PassedOver, Life, own_count, next_own, marked, born, renewed, succeeding}
use Rattle.osc_endpoint.specs.ServerAnswer.{IsContext, ServerAnswer}
use Rattle.osc_life.specs.LifeAnswer.{LifeReplace, LifeRestart, LifeSkip}
use Rattle.osc_life.specs.ServerHistory.{History, Begin, Then, Event, Entry, TicketValues, Add, Datagram, Reply, Notify, Restart, Replace, Skip, Advance, BadInner, Challenge, Deliver, Added, NotAdded, Took, Replied, NotReplied, Restarted, NotRestarted, Replaced, NotReplaced, Skipped, NotSkipped, Advanced, added, life}
use Rattle.osc_laws.proofs.DeliveredNumbers.{no_other}

-- of a life: its context, how many were before it, its first Sender Sequence Number, how many are behind that, and how many of those were passed over
pub record Kept : Type 0 where
  pub context : SecurityContext
  pub count : ℕ
  pub first : ℕ
  pub used : ℕ
  pub passed : ℕ

abbrev pub kept : Life → Kept
kept l = record { context = l.context; count = l.count; first = l.first; used = own_count l.marks; passed = passed_over l.marks }

-- one Sender Sequence Number more is used
abbrev pub used_one : Kept → Kept
used_one k = record { context = k.context; count = k.count; first = k.first; used = k.used + 1; passed = k.passed }

-- so many are passed over
abbrev pub skipped : ℕ → Kept → Kept
skipped n k = record { context = k.context; count = k.count; first = k.first; used = k.used + n; passed = k.passed + n }

-- the tickets of all accepted replies without a Partial IV of their own
abbrev pub answered_plainly : History → List TicketValues
answered_plainly Begin = []
answered_plainly (Then h (Reply ticket own mid plain room) (Replied bytes)) = if own then answered_plainly h else ticket ∷ answered_plainly h
answered_plainly (Then h event entry) = answered_plainly h

-- of a history: how many contexts were added, their lives, what was sealed, and those tickets
pub record Image : Type 0 where
  pub added : ℕ
  pub lives : ℕ → Option Kept
  pub texts : List Text
  pub answered : List TicketValues

abbrev pub image : History → Image
image h = record { added = added h; lives = λ i. option_map kept (life h i); texts = texts h; answered = answered_plainly h }

-- ---- what an answer makes of it

pub record IsSame (a b : Image) : Type 0 where
  pub added : b.added ≡ a.added
  pub lives : (i : ℕ) → b.lives i ≡ a.lives i
  pub texts : b.texts ≡ a.texts
  pub answered : b.answered ≡ a.answered

-- the life of the context at i is k now
abbrev pub Changes : Image → Image → ℕ → Kept → Type 0
Changes a b i k = (j : ℕ) → b.lives j ≡ (if j == i then Some k else a.lives j)

pub record IsAddition (a b : Image) : Type 0 where
  pub first : Kept
  pub context : IsContext first.context
  pub used : first.used ≡ 0
  pub passed : first.passed ≡ 0
  pub added : b.added ≡ a.added + 1
  pub changes : Changes a b a.added first
  pub texts : b.texts ≡ a.texts
  pub answered : b.answered ≡ a.answered

-- one life more begins in the place of a context, of that context or of another
pub record IsRestart (a b : Image) : Type 0 where
  pub index : ℕ
  pub old : Kept
  pub was : a.lives index ≡ Some old
  pub begins : Kept
  pub context : IsContext old.context → IsContext begins.context
  pub count : begins.count ≡ old.count + 1
  pub used : begins.used ≡ 0
  pub passed : begins.passed ≡ 0
  pub added : b.added ≡ a.added
  pub changes : Changes a b index begins
  pub texts : b.texts ≡ a.texts
  pub answered : b.answered ≡ a.answered

pub record IsSkip (a b : Image) : Type 0 where
  pub index : ℕ
  pub old : Kept
  pub was : a.lives index ≡ Some old
  pub over : ℕ
  pub added : b.added ≡ a.added
  pub changes : Changes a b index (skipped over old)
  pub texts : b.texts ≡ a.texts
  pub answered : b.answered ≡ a.answered

-- the text is of this life of the context at i
pub record IsTextOf (t : Text) (i : ℕ) (k : Kept) : Type 0 where
  pub context : t.context ≡ i
  pub life : t.life ≡ k.count
  pub keys : t.keys ≡ k.context

-- a text with the next Sender Sequence Number, a challenge, a reply or a notification
pub record SealsNumbered (a b : Image) : Type 0 where
  pub index : ℕ
  pub old : Kept
  pub was : a.lives index ≡ Some old
  pub text : Text
  pub of : IsTextOf text index old
  pub own : HasOwnNumber text (old.first + old.used)
  pub less : old.first + old.used < 2 ^ 40
  pub added : b.added ≡ a.added
  pub changes : Changes a b index (used_one old)
  pub texts : b.texts ≡ text ∷ a.texts
  pub answered : b.answered ≡ a.answered

-- a reply without a Partial IV of its own, by a ticket of the present life
pub record SealsPlain (a b : Image) : Type 0 where
  pub ticket : TicketValues
  pub old : Kept
  pub was : a.lives ticket.context ≡ Some old
  pub present : ticket.life ≡ old.count
  pub text : Text
  pub of : IsTextOf text ticket.context old
  pub own : text.own ≡ None
  pub request : text.request ≡ ticket.number
  pub added : b.added ≡ a.added
  pub lives : (i : ℕ) → b.lives i ≡ a.lives i
  pub texts : b.texts ≡ text ∷ a.texts
  pub answered : b.answered ≡ ticket ∷ a.answered

pub data Steps (a b : Image) : Type 0 where
  Stays : IsSame a b → Steps a b
  Adds : IsAddition a b → Steps a b
  Restarts : IsRestart a b → Steps a b
  Skips : IsSkip a b → Steps a b
  Numbers : SealsNumbered a b → Steps a b
  Replies : SealsPlain a b → Steps a b

-- ---- marks

abbrev UsesNone : Option Mark → Type 0
UsesNone None = Unit {0}
UsesNone (Some (Delivered n)) = Unit {0}
UsesNone (Some (Spoiled n)) = Unit {0}
UsesNone (Some (Challenged echo issued)) = ⊥
UsesNone (Some Answered) = ⊥
UsesNone (Some (PassedOver count)) = ⊥

abbrev UsesOne : Mark → Type 0
UsesOne (Delivered n) = ⊥
UsesOne (Spoiled n) = ⊥
UsesOne (Challenged echo issued) = Unit {0}
UsesOne Answered = Unit {0}
UsesOne (PassedOver count) = ⊥

kept_same : (o : Option Life) (m : Option Mark) → UsesNone m → option_map kept (option_map (marked m) o) ≡ option_map kept o
kept_same None m u = refl
kept_same (Some l) None u = refl
kept_same (Some l) (Some (Delivered n)) u = refl
kept_same (Some l) (Some (Spoiled n)) u = refl
kept_same (Some l) (Some (Challenged echo issued)) u = absurd u
kept_same (Some l) (Some Answered) u = absurd u
kept_same (Some l) (Some (PassedOver count)) u = absurd u

uses_none : (b : Bool) (m : Mark) → UsesNone (Some m) → UsesNone (if b then Some m else None)
uses_none true m u = u
uses_none false m u = tt

kept_used : (m : Mark) (l : Life) → UsesOne m → kept (marked (Some m) l) ≡ used_one (kept l)
kept_used (Delivered n) l u = absurd u
kept_used (Spoiled n) l u = absurd u
kept_used (Challenged echo issued) l u = refl
kept_used Answered l u = refl
kept_used (PassedOver count) l u = absurd u

kept_here : (b : Bool) (m : Mark) (o : Option Life) (l : Life) → (b ≡ true → o ≡ Some l) → UsesOne m
    → option_map kept (option_map (marked (if b then Some m else None)) o) ≡ (if b then Some (used_one (kept l)) else option_map kept o)
kept_here true m o l is u = ap (λ (x : Option Life). option_map kept (option_map (marked (Some m)) x)) (is refl) ∙ ap (λ (k : Kept). Some k) (kept_used m l u)
kept_here false m o l is u = kept_same o None tt

kept_skipped : (b : Bool) (count : ℕ) (o : Option Life) (l : Life) → (b ≡ true → o ≡ Some l)
    → option_map kept (option_map (marked (if b then Some (PassedOver count) else None)) o) ≡ (if b then Some (skipped count (kept l)) else option_map kept o)
kept_skipped true count o l is = ap (λ (x : Option Life). option_map kept (option_map (marked (Some (PassedOver count))) x)) (is refl)
kept_skipped false count o l is = kept_same o None tt

kept_followed : (f : Life → Life) (b : Bool) (o : Option Life) (l : Life) → (b ≡ true → o ≡ Some l)
    → option_map kept (if b then option_map f o else o) ≡ (if b then Some (kept (f l)) else option_map kept o)
kept_followed f true o l is = ap (λ (x : Option Life). option_map kept (option_map f x)) (is refl)
kept_followed f false o l is = refl

kept_added : (b : Bool) (l : Life) (o : Option Life) → option_map kept (if b then Some l else o) ≡ (if b then Some (kept l) else option_map kept o)
kept_added true l o = refl
kept_added false l o = refl

born_context : (s : SecurityContext) (start : Start) (size : WindowSize) → (born s start size).context ≡ s
born_context s (starts.Fresh next) size = refl
born_context s (starts.Restarted next) size = refl
born_context s (starts.Received next highest) size = refl
born_context s (starts.Reserved next highest ahead) size = refl

born_unused : (s : SecurityContext) (start : Start) (size : WindowSize) → own_count (born s start size).marks ≡ 0
born_unused s (starts.Fresh next) size = refl
born_unused s (starts.Restarted next) size = refl
born_unused s (starts.Received next highest) size = refl
born_unused s (starts.Reserved next highest ahead) size = refl

born_over : (s : SecurityContext) (start : Start) (size : WindowSize) → passed_over (born s start size).marks ≡ 0
born_over s (starts.Fresh next) size = refl
born_over s (starts.Restarted next) size = refl
born_over s (starts.Received next highest) size = refl
born_over s (starts.Reserved next highest ahead) size = refl

-- ---- each answer is a step

-- a text that was sealed with a Partial IV of its own has it, and its bytes say so
numbered : (t : Text) (s : SecurityContext) (registers : Bool) (n own : ℕ) (p : Parts) → ProtectionsShowHeads (responses_to s registers n) → t.own ≡ Some own
    → IsSealed (responses_to s registers n) (Some own) p t.bytes → HasOwnNumber t own
numbered t s registers n own p shows is sealed =
    let head = shows.sealed t.bytes (Some own) p sealed in
    record {
      own = is;
      outer = head.1.0;
      datagram = head.1.1;
      value = head.1.2.value;
      single = head.1.2.single;
      reads = subst (λ v. IsOscoreValue v head.1.2.value) head.2 head.1.2.reads;
    }

same : (a : Image) → Steps a a
same a = Stays (record { added = refl; lives = λ i. refl; texts = refl; answered = refl })

restart_rows : (o : Option Life) (entry : Entry) → LifeRestart o entry → ((l : Life) × (o ≡ Some l) × (entry ≡ Restarted)) ⊎ ((e : RestartError) × (entry ≡ NotRestarted e))
restart_rows None (NotRestarted e) r = inr (e, refl)
restart_rows (Some l) (NotRestarted e) r = inr (e, refl)
restart_rows (Some l) Restarted r = inl (l, refl, refl)
restart_rows o entry r = absurd r

restarted : (h : History) (i next : ℕ) (l : Life) → life h i ≡ Some l → Steps (image h) (image (Then h (Restart i next) Restarted))
restarted h i next l is = Restarts (record {
  index = i;
  old = kept l;
  was = ap (option_map kept) is;
  begins = kept (renewed next l);
  context = λ is. is;
  count = refl;
  used = refl;
  passed = refl;
  added = refl;
  changes = λ j. kept_followed (renewed next) (j == i) (life h j) l (λ e. ap (life h) (eqb-true j i e) ∙ is);
  texts = refl;
  answered = refl;
})

replace_rows : (o : Option Life) (P : Entry → Type 0) (entry : Entry) → LifeReplace o entry → ((l : Life) → o ≡ Some l → P Replaced) → ((e : ReplaceError) → P (NotReplaced e)) → P entry
replace_rows None P (NotReplaced e) r here none = none e
replace_rows (Some l) P (NotReplaced e) r here none = none e
replace_rows (Some l) P Replaced r here none = here l refl
replace_rows o P entry r here none = absurd r

replaced : (h : History) (i : ℕ) (s : SecurityContext) (start : Start) (size : WindowSize) (l : Life) → life h i ≡ Some l → IsContext s
    → Steps (image h) (image (Then h (Replace i s start size) Replaced))
replaced h i s start size l is context = Restarts (record {
  index = i;
  old = kept l;
  was = ap (option_map kept) is;
  begins = kept (succeeding s start size l);
  context = λ _. subst IsContext (sym (born_context s start size)) context;
  count = refl;
  used = born_unused s start size;
  passed = born_over s start size;
  added = refl;
  changes = λ j. kept_followed (succeeding s start size) (j == i) (life h j) l (λ e. ap (life h) (eqb-true j i e) ∙ is);
  texts = refl;
  answered = refl;
})

skip_rows : (o : Option Life) (count : ℕ) (entry : Entry) → LifeSkip o count entry → ((l : Life) × (o ≡ Some l) × (entry ≡ Skipped)) ⊎ ((e : SkipError) × (entry ≡ NotSkipped e))
skip_rows None count (NotSkipped e) r = inr (e, refl)
skip_rows (Some l) count (NotSkipped e) r = inr (e, refl)
skip_rows (Some l) count Skipped r = inl (l, refl, refl)
skip_rows o count entry r = absurd r

over : (h : History) (i count : ℕ) (l : Life) → life h i ≡ Some l → Steps (image h) (image (Then h (Skip i count) Skipped))
over h i count l is = Skips (record {
  index = i;
  old = kept l;
  was = ap (option_map kept) is;
  over = count;
  added = refl;
  changes = λ j. kept_skipped (j == i) count (life h j) l (λ e. ap (life h) (eqb-true j i e) ∙ is);
  texts = refl;
  answered = refl;
})

-- what is sealed in a life that is there
text_at : (h : History) (i n : ℕ) (own : Bool) (l : Life) (bytes : List ℕ) → life h i ≡ Some l → text_in (life h i) i n own bytes ++ texts h ≡ text_in (Some l) i n own bytes ++ texts h
text_at h i n own l bytes is = ap (λ (o : Option Life). text_in o i n own bytes ++ texts h) is

pub steps : SealedHeads → (h : History) (event : Event) (entry : Entry) → ServerAnswer h event entry → Steps (image h) (image (Then h event entry))
steps shows h (Add s start size places) (Added index) (context, (room, free, is)) = Adds (record {
  first = kept (born s start size);
  context = subst IsContext (sym (born_context s start size)) context;
  used = born_unused s start size;
  passed = born_over s start size;
  added = refl;
  changes = λ j. kept_added (j == index) (born s start size) (life h j) ∙ ap (λ (n : ℕ). if j == n then Some (kept (born s start size)) else option_map kept (life h j)) is;
  texts = refl;
  answered = refl;
})
steps shows h (Add s start size places) (NotAdded e) row = same (image h)
steps shows h (Add s start size places) entry row = absurd row.1
steps shows h (Datagram now echo mid d) (Took (Challenge i n given issued) reply) ((j, m, l, request, (wants, has, given_is, index, number)), (of, is, says)) =
    let same_life : l ≡ of = let e : Some l ≡ Some of = sym request.life_is ∙ ap (life h) (sym index) ∙ is in cc in
    let text : Text = record { context = i; life = of.count; keys = of.context; request = n; own = Some (next_own of); bytes = reply } in
    Numbers (record {
      index = i;
      old = kept of;
      was = ap (option_map kept) is;
      text = text;
      of = record { context = refl; life = refl; keys = refl };
      own = numbered text of.context false n (next_own of) _ (shows.response of.context n) refl says.2;
      less = subst HasOwn same_life has;
      added = refl;
      changes = λ k. kept_here (k == i) (Challenged given issued) (life h k) of (λ e. ap (life h) (eqb-true k i e) ∙ is) tt;
      texts = text_at h i n true of reply is;
      answered = refl;
    })
steps shows h (Datagram now echo mid d) (Took (BadInner i n) reply) row =
    Stays (record { added = refl; lives = λ j. kept_same (life h j) (if j == i then Some (Spoiled n) else None) (uses_none (j == i) (Spoiled n) tt); texts = refl; answered = refl })
steps shows h (Datagram now echo mid d) (Took (Deliver received ticket) reply) row =
    Stays (record {
      added = refl;
      lives = λ j. kept_same (life h j) (if j == ticket.context then Some (Delivered ticket.number) else None) (uses_none (j == ticket.context) (Delivered ticket.number) tt);
      texts = refl;
      answered = refl;
    })
steps shows h (Datagram now echo mid d) (Took answer reply) row = Stays (record { added = refl; lives = λ j. kept_same (life h j) None tt; texts = refl; answered = refl })
steps shows h (Reply ticket true mid plain room) (Replied bytes) (of, (is, present), (asked, sealed, fits)) =
    let text : Text = record { context = ticket.context; life = of.count; keys = of.context; request = ticket.number; own = Some (next_own of); bytes = bytes } in
    Numbers (record {
      index = ticket.context;
      old = kept of;
      was = ap (option_map kept) is;
      text = text;
      of = record { context = refl; life = refl; keys = refl };
      own = numbered text of.context false ticket.number (next_own of) _ (shows.response of.context ticket.number) refl sealed;
      less = asked refl;
      added = refl;
      changes = λ k. kept_here (k == ticket.context) Answered (life h k) of (λ e. ap (life h) (eqb-true k ticket.context e) ∙ is) tt;
      texts = text_at h ticket.context ticket.number true of bytes is;
      answered = refl;
    })
steps shows h (Reply ticket false mid plain room) (Replied bytes) (of, (is, present), row) =
    Replies (record {
      ticket = ticket;
      old = kept of;
      was = ap (option_map kept) is;
      present = present;
      text = record { context = ticket.context; life = of.count; keys = of.context; request = ticket.number; own = None; bytes = bytes };
      of = record { context = refl; life = refl; keys = refl };
      own = refl;
      request = refl;
      added = refl;
      lives = λ j. kept_same (life h j) None tt;
      texts = text_at h ticket.context ticket.number false of bytes is;
      answered = refl;
    })
steps shows h (Reply ticket own mid plain room) (NotReplied e) row = same (image h)
steps shows h (Reply ticket own mid plain room) entry row = absurd row.2
steps shows h (Notify ticket plain room) (Replied bytes) (observes, (of, (is, present), (notifies, has, sealed, fits))) =
    let text : Text = record { context = ticket.context; life = of.count; keys = of.context; request = ticket.number; own = Some (next_own of); bytes = bytes } in
    Numbers (record {
      index = ticket.context;
      old = kept of;
      was = ap (option_map kept) is;
      text = text;
      of = record { context = refl; life = refl; keys = refl };
      own = numbered text of.context true ticket.number (next_own of) _ (shows.notification of.context ticket.number) refl sealed;
      less = has;
      added = refl;
      changes = λ k. kept_here (k == ticket.context) Answered (life h k) of (λ e. ap (life h) (eqb-true k ticket.context e) ∙ is) tt;
      texts = text_at h ticket.context ticket.number true of bytes is;
      answered = refl;
    })
steps shows h (Notify ticket plain room) (NotReplied e) row = same (image h)
steps shows h (Notify ticket plain room) entry row = absurd row.1.2
steps shows h (Restart i next) entry row = elim (restart_rows (life h i) entry row) [
  | inl r ↦ subst (λ (x : Entry). Steps (image h) (image (Then h (Restart i next) x))) (sym r.2) (restarted h i next r.0 r.1)
  | inr r ↦
      subst (λ (x : Entry). Steps (image h) (image (Then h (Restart i next) x))) (sym r.1)
      (same (image h))
]
steps shows h (Replace i s start size) Replaced (context, (left, free, differs)) =
    replace_rows (life h i) (λ x. Steps (image h) (image (Then h (Replace i s start size) x))) Replaced left (λ l is. replaced h i s start size l is context) (λ e. same (image h))
steps shows h (Replace i s start size) (NotReplaced e) row = same (image h)
steps shows h (Replace i s start size) entry row = absurd (no_other (life h i) entry tt row.1)
steps shows h (Skip i count) entry row = elim (skip_rows (life h i) count entry row) [
  | inl r ↦ subst (λ (x : Entry). Steps (image h) (image (Then h (Skip i count) x))) (sym r.2) (over h i count r.0 r.1)
  | inr r ↦
      subst (λ (x : Entry). Steps (image h) (image (Then h (Skip i count) x))) (sym r.1)
      (same (image h))
]
steps shows h (Advance now) Advanced row = same (image h)
steps shows h event entry row = absurd row
