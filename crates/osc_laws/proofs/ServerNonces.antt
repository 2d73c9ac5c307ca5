-- The nonces of what a server seals: two in one life of a context differ. a is what a history shows, b what it shows one answer later, t and u
-- texts, x and y their own Partial IVs, n and m the numbers of their requests, s a security context, ws tickets.
use Rattle.std.proofs.Common.{◌≡◌, ◌≢◌, ℕ, ◌+◌, ◌<◌, ◌≤◌, ◌^◌, ◌∙◌, sym, ap, subst, refl, arith, Bool, true, false, Option, Some, None, IfSome, List, [], ◌∷◌, is_some, ◌==◌, ◌&&◌, ◌⊎◌, inl, inr}
use Rattle.std.proofs.lemmas.Bool.{cases_Bool, eq-eqb}
use Rattle.std.proofs.lemmas.Option.{none-some, same_Some}
use Rattle.std.specs.List.{AllByRecursion}
use Rattle.osc_context.specs.Laws.{OneNonce, ValueNumberInRange}
use Rattle.osc_context.specs.SecurityContext.{SecurityContext}
use Rattle.osc_protect.specs.Protection.{requests, response_nonce}
use Rattle.osc_laws.specs.AnswerLaws.{SealedHeads}
use Rattle.osc_laws.specs.Laws.{AllAnswers, AreApart, DeliveredOnce, HaveTwoNonces, Pairwise, Rises, ServerNoncesOnce, Text, answered, delivered, nonce_of_text, own_texts, texts}
use Rattle.osc_life.specs.Life.{Life}
use Rattle.osc_endpoint.specs.ServerAnswer.{IsContext}
use Rattle.osc_life.specs.LifeAnswer.{LifeRestart, LifeSkip}
use Rattle.osc_life.specs.ServerHistory.{History, Begin, Then, Add, Datagram, Reply, Notify, Restart, Replace, Skip, Advance, Deliver, Took, Replied, Answer, TicketValues, life}
use Rattle.osc_laws.proofs.DeliveredNumbers.{no_other}
use Rattle.osc_laws.proofs.LifeCounts.{Kept, Image, answered_plainly, image, SealsNumbered, SealsPlain, Steps, Stays, Adds, Restarts, Skips, Numbers, Replies, steps}
use Rattle.osc_laws.proofs.OwnNumbers.{IsCounted, IsOfLife, all_weaker, counted, is_own, passed_over, taken_up}
use Rattle.osc_laws.proofs.Tickets.{all_answered, pairs_behind, tickets_once}

-- ---- nonces of one context

-- the number that a response's nonce is of is one that a nonce has room for
abbrev IsInRange : Option ℕ → ℕ → Type 0
IsInRange None n = n < 2 ^ 40
IsInRange (Some own) n = own < 2 ^ 40

-- the numbers that two nonces are of differ, where they are of one identifier
abbrev Differ : Option ℕ → Option ℕ → ℕ → ℕ → Type 0
Differ None None n m = n ≡ m → ⊥
Differ None (Some y) n m = Unit {0}
Differ (Some x) None n m = Unit {0}
Differ (Some x) (Some y) n m = x ≡ y → ⊥

nonces_differ : OneNonce → (s : SecurityContext) → IsContext s → (x y : Option ℕ) (n m : ℕ) → IsInRange x n → IsInRange y m → Differ x y n m
    → response_nonce s.common_iv s.client s.server n x ≡ response_nonce s.common_iv s.client s.server m y → ⊥
nonces_differ one s c None None n m p q differ e = differ (one s.common_iv s.client s.client n m c.client c.client p q e).1
nonces_differ one s c None (Some y) n m p q differ e = c.differ (one s.common_iv s.client s.server n y c.client c.server p q e).0
nonces_differ one s c (Some x) None n m p q differ e = c.differ (sym (one s.common_iv s.server s.client x m c.server c.client p q e).0)
nonces_differ one s c (Some x) (Some y) n m p q differ e = differ (one s.common_iv s.server s.server x y c.server c.server p q e).1

-- two texts under one context
two_nonces : OneNonce → (s : SecurityContext) → IsContext s → (t u : Text) → t.keys ≡ s → u.keys ≡ s → IsInRange t.own t.request → IsInRange u.own u.request
    → Differ t.own u.own t.request u.request → nonce_of_text t ≢ nonce_of_text u
two_nonces one s c t u here there p q differ e =
    let nonce : SecurityContext → Text → List ℕ = λ k v. response_nonce k.common_iv k.client k.server v.request v.own in
    let same : nonce s t ≡ nonce s u = sym (ap (λ (k : SecurityContext). nonce k t) here) ∙ e ∙ ap (λ (k : SecurityContext). nonce k u) there in
    nonces_differ one s c t.own u.own t.request u.request p q differ same

-- ---- Sender Sequence Numbers that were used

abbrev IsBelow : ℕ → ℕ → ℕ → Text → Type 0
IsBelow i c n u = u.context ≡ i → u.life ≡ c → IfSome u.own (λ own. own < n)

no_own : (o : Option ℕ) → is_some o ≡ false → o ≡ None
no_own None none = refl
no_own (Some x) none = cc

-- whether the newest text is one of those
own_cases : (i c : ℕ) (t : Text) (ts : List Text) → (own_texts i c (t ∷ ts) ≡ t ∷ own_texts i c ts) ⊎ ((own_texts i c (t ∷ ts) ≡ own_texts i c ts) × (t.context ≡ i → t.life ≡ c → t.own ≡ None))
own_cases i c t ts = elim (cases_Bool (is_own i c t)) [
  | inl own ↦ inl (taken_up i c t ts own)
  | inr other ↦
      inr (
        passed_over i c t ts other,
        λ context life. no_own t.own (sym (ap (λ (b : Bool). b && ((t.life == c) && is_some t.own)) (eq-eqb t.context i context) ∙ ap (λ (b : Bool). b && is_some t.own) (eq-eqb t.life c life)) ∙ other),
      )
]

own_below : (i c n m : ℕ) → n ≤ m → (u : Text) → IsBelow i c n u → IsBelow i c m u
own_below i c n m less u below = λ e f. own_less u.own (below e f)
  where
    own_less : (o : Option ℕ) → IfSome o (λ own. own < n) → IfSome o (λ own. own < m)
    own_less None h = tt
    own_less (Some own) h = omega (arith, h, less)

all_below : (i c first limit : ℕ) (ts : List Text) → Rises first limit (own_texts i c ts) → AllByRecursion (IsBelow i c limit) ts
all_below i c first limit [] rises = tt
all_below i c first limit (t ∷ ts) rises = elim (own_cases i c t ts) [
  | inl up ↦
      let (n, has, least, less, earlier) = subst (Rises first limit) up rises in
      (λ e f. subst (λ (o : Option ℕ). IfSome o (λ own. own < limit)) (sym has.own) less, all_weaker (IsBelow i c n) (IsBelow i c limit) (own_below i c n limit (omega (arith, less))) ts (all_below i c first n ts earlier))
  | inr over ↦ (λ e f. subst (λ (o : Option ℕ). IfSome o (λ own. own < limit)) (sym (over.1 e f)) tt, all_below i c first limit ts (subst (Rises first limit) over.0 rises))
]

-- ---- tickets

pub record IsReplyTo (u : Text) (w : TicketValues) : Type 0 where
  pub context : w.context ≡ u.context
  pub life : w.life ≡ u.life
  pub number : w.number ≡ u.request

-- one of the tickets is that of the request
abbrev HasTicket : Text → List TicketValues → Type 0
HasTicket u [] = ⊥
HasTicket u (w ∷ ws) = IsReplyTo u w ⊎ HasTicket u ws

ticket_of : (P : TicketValues → Type 0) (u : Text) (ws : List TicketValues) → AllByRecursion P ws → HasTicket u ws → (w : TicketValues) × P w × IsReplyTo u w
ticket_of P u [] all has = absurd has
ticket_of P u (w ∷ ws) all (inl is) = (w, all.0, is)
ticket_of P u (w ∷ ws) all (inr later) = ticket_of P u ws all.1 later

-- the number of the request is one that a nonce has room for
abbrev pub IsFor : TicketValues → Type 0
IsFor w = w.number < 2 ^ 40

-- tickets of one request each, with numbers that a nonce has room for
abbrev AreFine : List TicketValues → Type 0
AreFine ws = Pairwise AreApart ws × AllByRecursion IsFor ws

-- ---- what holds of each history

-- the text's numbers have room in a nonce, and where it has no Partial IV of its own, it is to a ticket
pub record IsSound (ws : List TicketValues) (u : Text) : Type 0 where
  pub in_range : IsInRange u.own u.request
  pub by_ticket : u.own ≡ None → HasTicket u ws

pub record AreSound (a : Image) : Type 0 where
  pub each : AllByRecursion (IsSound a.answered) a.texts
  pub pairs : Pairwise HaveTwoNonces a.texts

all_both : {A : Type 0} (P Q : A → Type 0) (xs : List A) → AllByRecursion P xs → AllByRecursion Q xs → AllByRecursion (λ x. P x × Q x) xs
all_both P Q [] p q = tt
all_both P Q (x ∷ xs) p q = ((p.0, q.0), all_both P Q xs p.1 q.1)

differ_own : (x : ℕ) (y : Option ℕ) (n m : ℕ) → IfSome y (λ own. own < x) → Differ (Some x) y n m
differ_own x None n m below = tt
differ_own x (Some y) n m below = λ e. omega arith

differ_plain : (y : Option ℕ) (n m : ℕ) → (y ≡ None → n ≡ m → ⊥) → Differ None y n m
differ_plain None n m apart = apart refl
differ_plain (Some y) n m apart = tt

-- a text with a Partial IV of its own, and an earlier one
numbered_apart : OneNonce → (a b : Image) → IsCounted a → (s : SealsNumbered a b) (ws : List TicketValues) (u : Text) → IsOfLife a.lives u → IsSound ws u
    → IsBelow s.index s.old.count (s.old.first + s.old.used) u → HaveTwoNonces s.text u
numbered_apart one a b c s ws u of sound below context life =
    let same : of.present ≡ s.old = same_Some of.present s.old (sym of.is ∙ ap a.lives (sym context ∙ s.of.context) ∙ s.was) in
    let less = below (sym context ∙ s.of.context) (sym life ∙ s.of.life) in
    two_nonces one s.old.context (c.contexts s.index s.old s.was) s.text u s.of.keys (of.keys (sym life ∙ s.of.life ∙ sym (ap (λ (k : Kept). k.count) same)) ∙ ap (λ (k : Kept). k.context) same)
    (subst (λ (o : Option ℕ). IsInRange o s.text.request) (sym s.own.own) s.less) sound.in_range
    (subst (λ (o : Option ℕ). Differ o u.own s.text.request u.request) (sym s.own.own) (differ_own (s.old.first + s.old.used) u.own s.text.request u.request less))

-- a reply without a Partial IV of its own, and an earlier text
plain_apart : OneNonce → (a b : Image) → IsCounted a → (s : SealsPlain a b) → IsFor s.ticket → AllByRecursion (AreApart s.ticket) a.answered
    → (u : Text) → IsOfLife a.lives u → IsSound a.answered u → HaveTwoNonces s.text u
plain_apart one a b c s less apart u of sound context life =
    let same : of.present ≡ s.old = same_Some of.present s.old (sym of.is ∙ ap a.lives (sym context ∙ s.of.context) ∙ s.was) in
    let differ : u.own ≡ None → s.text.request ≡ u.request → ⊥ =
    λ none number.
    let found = ticket_of (AreApart s.ticket) u a.answered apart (sound.by_ticket none) in
    found.1 (sym s.of.context ∙ context ∙ sym found.2.context) (s.present ∙ sym s.of.life ∙ life ∙ sym found.2.life) (sym s.request ∙ number ∙ sym found.2.number) in
    two_nonces one s.old.context (c.contexts s.ticket.context s.old s.was) s.text u s.of.keys (of.keys (sym life ∙ s.of.life ∙ sym (ap (λ (k : Kept). k.count) same)) ∙ ap (λ (k : Kept). k.context) same)
    (subst (λ (o : Option ℕ). IsInRange o s.text.request) (sym s.own) (subst (λ (n : ℕ). n < 2 ^ 40) (sym s.request) less)) sound.in_range
    (subst (λ (o : Option ℕ). Differ o u.own s.text.request u.request) (sym s.own) (differ_plain u.own s.text.request u.request differ))

-- ---- each step

same_sound : (a b : Image) → b.texts ≡ a.texts → b.answered ≡ a.answered → (AreFine a.answered → AreSound a) → AreFine b.answered → AreSound b
same_sound a b texts_are answered_are before fine =
    let old = before (subst AreFine answered_are fine) in
    record {
      each =
          subst (AllByRecursion (IsSound b.answered)) (sym texts_are)
          (subst (λ (ws : List TicketValues). AllByRecursion (IsSound ws) a.texts) (sym answered_are) old.each);
      pairs = subst (Pairwise HaveTwoNonces) (sym texts_are) old.pairs;
    }

-- earlier texts are to tickets still
grown : (a b : Image) (ticket : TicketValues) → b.answered ≡ ticket ∷ a.answered → AllByRecursion (IsSound a.answered) a.texts → AllByRecursion (IsSound b.answered) a.texts
grown a b ticket is =
    all_weaker (IsSound a.answered) (IsSound b.answered)
    (λ u k. record { in_range = k.in_range; by_ticket = λ none. subst (HasTicket u) (sym is) (inr (k.by_ticket none)) }) a.texts

numbered_sound : OneNonce → (a b : Image) → IsCounted a → SealsNumbered a b → (AreFine a.answered → AreSound a) → AreFine b.answered → AreSound b
numbered_sound one a b c s before fine =
    let old = before (subst AreFine s.answered fine) in
    let counts = c.numbered s.index s.old s.was in
    let below = all_below s.index s.old.count s.old.first (s.old.first + s.old.used) a.texts counts.0 in
    let IsOld : Text → Type 0 = λ u. IsSound a.answered u × IsBelow s.index s.old.count (s.old.first + s.old.used) u in
    let known = all_both (IsSound a.answered) (IsBelow s.index s.old.count (s.old.first + s.old.used)) a.texts old.each below in
    let apart : AllByRecursion (HaveTwoNonces s.text) a.texts =
    all_weaker (λ u. IsOfLife a.lives u × IsOld u) (HaveTwoNonces s.text) (λ u k. numbered_apart one a b c s a.answered u k.0 k.1.0 k.1.1) a.texts
    (all_both (IsOfLife a.lives) IsOld a.texts c.told known) in
    let sound : IsSound b.answered s.text =
    record { in_range = subst (λ (o : Option ℕ). IsInRange o s.text.request) (sym s.own.own) s.less; by_ticket = λ none. absurd (none-some (s.old.first + s.old.used) (sym none ∙ s.own.own)) } in
    record {
      each = subst (AllByRecursion (IsSound b.answered)) (sym s.texts) (sound, subst (λ (ws : List TicketValues). AllByRecursion (IsSound ws) a.texts) (sym s.answered) old.each);
      pairs = subst (Pairwise HaveTwoNonces) (sym s.texts) (apart, old.pairs);
    }

plain_sound : OneNonce → (a b : Image) → IsCounted a → SealsPlain a b → (AreFine a.answered → AreSound a) → AreFine b.answered → AreSound b
plain_sound one a b c s before fine =
    let tickets : AreFine (s.ticket ∷ a.answered) = subst AreFine s.answered fine in
    let old = before (tickets.0.1, tickets.1.1) in
    let apart : AllByRecursion (HaveTwoNonces s.text) a.texts =
    all_weaker (λ u. IsOfLife a.lives u × IsSound a.answered u) (HaveTwoNonces s.text) (λ u k. plain_apart one a b c s tickets.1.0 tickets.0.0 u k.0 k.1) a.texts
    (all_both (IsOfLife a.lives) (IsSound a.answered) a.texts c.told old.each) in
    let is : IsReplyTo s.text s.ticket = record { context = sym s.of.context; life = s.present ∙ sym s.of.life; number = sym s.request } in
    let sound : IsSound b.answered s.text =
    record {
      in_range = subst (λ (o : Option ℕ). IsInRange o s.text.request) (sym s.own) (subst (λ (n : ℕ). n < 2 ^ 40) (sym s.request) tickets.1.0);
      by_ticket = λ none. subst (HasTicket s.text) (sym s.answered) (inl is);
    } in
    record {
      each = subst (AllByRecursion (IsSound b.answered)) (sym s.texts) (sound, grown a b s.ticket s.answered old.each);
      pairs = subst (Pairwise HaveTwoNonces) (sym s.texts) (apart, old.pairs);
    }

sound_on : OneNonce → (a b : Image) → IsCounted a → Steps a b → (AreFine a.answered → AreSound a) → AreFine b.answered → AreSound b
sound_on one a b c (Stays s) = same_sound a b s.texts s.answered
sound_on one a b c (Adds s) = same_sound a b s.texts s.answered
sound_on one a b c (Restarts s) = same_sound a b s.texts s.answered
sound_on one a b c (Skips s) = same_sound a b s.texts s.answered
sound_on one a b c (Numbers s) = numbered_sound one a b c s
sound_on one a b c (Replies s) = plain_sound one a b c s

all_sound : OneNonce → SealedHeads → (h : History) → AllAnswers h → AreFine (answered_plainly h) → AreSound (image h)
all_sound one shows Begin a fine = record { each = tt; pairs = tt }
all_sound one shows (Then h event entry) a fine =
    sound_on one (image h) (image (Then h event entry)) (counted shows h a.0) (steps shows h event entry a.1) (all_sound one shows h a.0) fine

-- no two texts of one life of a context share a nonce, where no request was answered twice without a Partial IV of the reply's own
pub texts_apart : OneNonce → SealedHeads → (h : History) → AllAnswers h → Pairwise AreApart (answered_plainly h) → AllByRecursion IsFor (answered_plainly h) → Pairwise HaveTwoNonces (texts h)
texts_apart one shows h a apart fine = (all_sound one shows h a (apart, fine)).pairs

-- ---- numbers that were delivered

no_restart : (o : Option Life) (answer : Answer) (reply : List ℕ) → LifeRestart o (Took answer reply) → ⊥
no_restart None answer reply row = row
no_restart (Some l) answer reply row = row

no_skip : (o : Option Life) (count : ℕ) (answer : Answer) (reply : List ℕ) → LifeSkip o count (Took answer reply) → ⊥
no_skip None count answer reply row = row
no_skip (Some l) count answer reply row = row

pub all_for : ValueNumberInRange → (h : History) → AllAnswers h → AllByRecursion IsFor (delivered h)
all_for range Begin a = tt
all_for range (Then h (Datagram now echo mid d) (Took (Deliver received ticket) reply)) (before, ((i, n, of, request, (receives, admits, values)), none)) =
    (subst IsFor (sym values) (range ((requests of.context).parts n) receives.protects.value receives.protects.reads), all_for range h before)
all_for range (Then h (Add s start size places) (Took (Deliver received ticket) reply)) a = absurd a.1.1
all_for range (Then h (Reply t own mid plain room) (Took (Deliver received ticket) reply)) a = absurd a.1.2
all_for range (Then h (Notify t plain room) (Took (Deliver received ticket) reply)) a = absurd a.1.1.2
all_for range (Then h (Restart i next) (Took (Deliver received ticket) reply)) a = absurd (no_restart (life h i) (Deliver received ticket) reply a.1)
all_for range (Then h (Replace i s start size) (Took (Deliver received ticket) reply)) a = absurd (no_other (life h i) (Took (Deliver received ticket) reply) tt a.1.1)
all_for range (Then h (Skip i count) (Took (Deliver received ticket) reply)) a = absurd (no_skip (life h i) count (Deliver received ticket) reply a.1)
all_for range (Then h (Advance now) (Took (Deliver received ticket) reply)) a = absurd a.1
all_for range (Then h event entry) a = all_for range h a.0

-- a fact of all tickets that were answered is one of those that were answered so
pub all_plainly : (P : TicketValues → Type 0) (h : History) → AllByRecursion P (answered h) → AllByRecursion P (answered_plainly h)
all_plainly P Begin all = tt
all_plainly P (Then h (Reply ticket true mid plain room) (Replied bytes)) all = all_plainly P h all.1
all_plainly P (Then h (Reply ticket false mid plain room) (Replied bytes)) all = (all.0, all_plainly P h all.1)
all_plainly P (Then h event entry) all = all_plainly P h all

pairs_plainly : (h : History) → Pairwise AreApart (answered h) → Pairwise AreApart (answered_plainly h)
pairs_plainly Begin pairs = tt
pairs_plainly (Then h (Reply ticket true mid plain room) (Replied bytes)) pairs = pairs_plainly h pairs.1
pairs_plainly (Then h (Reply ticket false mid plain room) (Replied bytes)) pairs = (all_plainly (AreApart ticket) h pairs.0, pairs_plainly h pairs.1)
pairs_plainly (Then h event entry) pairs = pairs_plainly h pairs

-- nor where each reply takes a ticket
pub no_shared_nonce : OneNonce → ValueNumberInRange → SealedHeads → DeliveredOnce → ServerNoncesOnce
no_shared_nonce one range shows once h a takes =
    texts_apart one shows h a (pairs_plainly h (pairs_behind AreApart takes.0 (answered h) (tickets_once once h a takes))) (all_plainly IsFor h (all_answered IsFor h takes.0 takes.1 (all_for range h a)))
