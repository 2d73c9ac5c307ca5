-- That no two texts of a server share key and nonce, where no context comes with the Sender Key of another. t and u are texts.
use Rattle.std.proofs.Common.{◌≡◌, ℕ, ◌∙◌, ◌⊎◌, inl, inr, sym, ap, subst, refl, arith, true, Option, Some, None, List, [], ◌∷◌, option_map}
use Rattle.std.specs.Prelude.{◌==◌}
use Rattle.std.specs.List.{AllByRecursion}
use Rattle.std.proofs.lemmas.Bool.{cond_both, eqb-true}
use Rattle.osc_context.specs.SecurityContext.{SecurityContext}
use Rattle.osc_context.specs.Senders.{HaveSameSender}
use Rattle.osc_laws.specs.AnswerLaws.{SealedHeads}
use Rattle.osc_laws.specs.Laws.{AllAnswers, HaveTwoNonces, Pairwise, ServerNoncesOnce, Text, texts}
use Rattle.osc_laws.specs.Senders.{HaveTwoKeysOrNonces, SendersDiffer, ServerKeysOrNoncesOnce, WaitingKeysOrNoncesOnce, WasReplacedAt}
use Rattle.osc_laws.specs.Waiting.{WaitingNoncesOnce}
use Rattle.osc_life.specs.Life.{Life, born, marked, renewed, succeeding}
use Rattle.osc_life.specs.ServerHistory.{Add, Added, Begin, Datagram, Entry, Event, History, Notify, Replace, Replaced, Replied, Reply, Restart, Restarted, Skip, Skipped, Then, Took, life, mark_at, reply_mark_at, skip_mark_at}
use Rattle.osc_endpoint.specs.ServerAnswer.{ServerAnswer}
use Rattle.osc_endpoint.proofs.Additions.{born_context, succeeded_context}
use Rattle.osc_endpoint.proofs.KeptContexts.{kept_context, marked_context, restarted_context}
use Rattle.osc_laws.proofs.DeliveredNumbers.{HasNoneBeyond, none_beyond}
use Rattle.osc_laws.proofs.LifeCounts.{Adds, IsTextOf, Kept, Numbers, Replies, Restarts, Skips, Stays, Steps, image, kept, steps}
use Rattle.osc_laws.proofs.OwnNumbers.{all_weaker}

-- ---- contexts

-- the life is there, and has this context
abbrev HasContext : Option Life → SecurityContext → Type 0
HasContext o s = (of : Life) × (o ≡ Some of) × (of.context ≡ s)

-- the context is or was at that index
abbrev WasAt : History → ℕ → SecurityContext → Type 0
WasAt h i s = HasContext (life h i) s ⊎ WasReplacedAt h i s

-- the context comes to that index
abbrev Comes : Event → Entry → ℕ → SecurityContext → Type 0
Comes (Add by start size places) (Added index) i s = (i ≡ index) × (by ≡ s)
Comes (Replace context by start size) Replaced i s = (i ≡ context) × (by ≡ s)
Comes event entry i s = ⊥

has_mapped : (f : Life → Life) → ((l : Life) → (f l).context ≡ l.context) → (o : Option Life) (s : SecurityContext) → HasContext o s → HasContext (option_map f o) s
has_mapped f keeps o s (of, is, same) = (f of, ap (option_map f) is, keeps of ∙ same)

-- what was there is there, or another one took its place
still_at : (h : History) (event : Event) (entry : Entry) → ServerAnswer h event entry → HasNoneBeyond h → (i : ℕ) (s : SecurityContext) → WasAt h i s → WasAt (Then h event entry) i s
still_at h (Add by start size places) (Added index) row none i s (inl here) =
    cond_both (i == index) (Some (born by start size)) (life h i) (λ o. HasContext o s ⊎ WasReplacedAt h i s)
    (λ e.
    let index_is = row.1.2 in
    let never : None ≡ Some here.0 = sym (none i (omega (arith, eqb-true i index e, index_is))) ∙ here.1 in
    absurd (let absent : None ≡ Some here.0 = never in cc))
    (λ e. inl here)
still_at h (Datagram now echo mid d) (Took answer reply) row none i s (inl here) = inl (has_mapped (marked (mark_at i answer)) (marked_context (mark_at i answer)) (life h i) s here)
still_at h (Reply t own mid plain room) (Replied bytes) row none i s (inl here) = inl (has_mapped (marked (reply_mark_at i t own)) (marked_context (reply_mark_at i t own)) (life h i) s here)
still_at h (Notify t plain room) (Replied bytes) row none i s (inl here) = inl (has_mapped (marked (reply_mark_at i t true)) (marked_context (reply_mark_at i t true)) (life h i) s here)
still_at h (Restart context next) Restarted row none i s (inl here) =
    cond_both (i == context) (option_map (renewed next) (life h i)) (life h i) (λ o. HasContext o s ⊎ WasReplacedAt h i s) (λ e. inl (has_mapped (renewed next) (λ l. refl) (life h i) s here)) (λ e. inl here)
still_at h (Replace context by start size) Replaced row none i s (inl here) =
    cond_both (i == context) (option_map (succeeding by start size) (life h i)) (life h i) (λ o. HasContext o s ⊎ WasReplacedAt (Then h (Replace context by start size) Replaced) i s)
    (λ e. inr (inl (eqb-true i context e, here.0, here.1, here.2))) (λ e. inl here)
still_at h (Skip context count) Skipped row none i s (inl here) = inl (has_mapped (marked (skip_mark_at i context count)) (marked_context (skip_mark_at i context count)) (life h i) s here)
still_at h event entry row none i s (inl here) = inl here
still_at h (Replace context by start size) Replaced row none i s (inr was) = inr (inr was)
still_at h event entry row none i s (inr was) = inr was

has_before : (f : Life → Life) → ((l : Life) → (f l).context ≡ l.context) → (o : Option Life) (s : SecurityContext) → HasContext (option_map f o) s → HasContext o s
has_before f keeps o s (of, is, same) = let (l, l_is, l_same) = kept_context f keeps o of is in (l, l_is, l_same ∙ same)

-- what is there was there before, or comes
was_or_comes : (h : History) (event : Event) (entry : Entry) (i : ℕ) (s : SecurityContext) → WasAt (Then h event entry) i s → WasAt h i s ⊎ Comes event entry i s
was_or_comes h (Add by start size places) (Added index) i s (inl here) =
    cond_both (i == index) (Some (born by start size)) (life h i) (λ o. HasContext o s → WasAt h i s ⊎ ((i ≡ index) × (by ≡ s)))
    (λ e (of, is, same). inr (eqb-true i index e, born_context by start size of is ∙ same)) (λ e there. inl (inl there)) here
was_or_comes h (Datagram now echo mid d) (Took answer reply) i s (inl here) = inl (inl (has_before (marked (mark_at i answer)) (marked_context (mark_at i answer)) (life h i) s here))
was_or_comes h (Reply t own mid plain room) (Replied bytes) i s (inl here) = inl (inl (has_before (marked (reply_mark_at i t own)) (marked_context (reply_mark_at i t own)) (life h i) s here))
was_or_comes h (Notify t plain room) (Replied bytes) i s (inl here) = inl (inl (has_before (marked (reply_mark_at i t true)) (marked_context (reply_mark_at i t true)) (life h i) s here))
was_or_comes h (Restart context next) Restarted i s (inl (of, is, same)) = let (l, l_is, l_same) = restarted_context (i == context) next (life h i) of is in inl (inl (l, l_is, l_same ∙ same))
was_or_comes h (Replace context by start size) Replaced i s (inl here) =
    cond_both (i == context) (option_map (succeeding by start size) (life h i)) (life h i) (λ o. HasContext o s → WasAt h i s ⊎ ((i ≡ context) × (by ≡ s)))
    (λ e (of, is, same). inr (eqb-true i context e, succeeded_context by start size (life h i) of is ∙ same)) (λ e there. inl (inl there)) here
was_or_comes h (Skip context count) Skipped i s (inl here) = inl (inl (has_before (marked (skip_mark_at i context count)) (marked_context (skip_mark_at i context count)) (life h i) s here))
was_or_comes h event entry i s (inl here) = inl (inl here)
was_or_comes h (Replace context by start size) Replaced i s (inr (inl (e, of, is, same))) = inl (inl (of, is, same))
was_or_comes h (Replace context by start size) Replaced i s (inr (inr was)) = inl (inr was)
was_or_comes h event entry i s (inr was) = inl (inr was)

-- what comes has a Sender Key of its own
new_key : (h : History) (event : Event) (entry : Entry) → ServerAnswer h event entry → SendersDiffer (Then h event entry) → (i j : ℕ) (s t : SecurityContext)
    → Comes event entry i s → WasAt h j t → HaveSameSender t s → ⊥
new_key h (Add by start size places) (Added index) row differ i j s t (e, same) (inl (of, is, there)) shares =
    differ.1 (j, of, is, ap (λ (c : SecurityContext). c.server_key) there ∙ shares ∙ sym (ap (λ (c : SecurityContext). c.server_key) same))
new_key h (Add by start size places) (Added index) row differ i j s t (e, same) (inr was) shares = differ.2 (j, t, was, shares ∙ sym (ap (λ (c : SecurityContext). c.server_key) same))
new_key h (Replace context by start size) Replaced row differ i j s t (e, same) (inl (of, is, there)) shares =
    row.1.2 (j, of, is, ap (λ (c : SecurityContext). c.server_key) there ∙ shares ∙ sym (ap (λ (c : SecurityContext). c.server_key) same))
new_key h (Replace context by start size) Replaced row differ i j s t (e, same) (inr was) shares = differ.1 (j, t, was, shares ∙ sym (ap (λ (c : SecurityContext). c.server_key) same))
new_key h event entry row differ i j s t comes was shares = absurd comes

earlier : (h : History) (event : Event) (entry : Entry) → SendersDiffer (Then h event entry) → SendersDiffer h
earlier h (Add by start size places) (Added index) differ = differ.0
earlier h (Replace context by start size) Replaced differ = differ.0
earlier h event entry differ = differ

one_comes : (event : Event) (entry : Entry) (i j : ℕ) (s t : SecurityContext) → Comes event entry i s → Comes event entry j t → (i ≡ j) × (s ≡ t)
one_comes (Add by start size places) (Added index) i j s t here there = (here.0 ∙ sym there.0, sym here.1 ∙ there.1)
one_comes (Replace context by start size) Replaced i j s t here there = (here.0 ∙ sym there.0, sym here.1 ∙ there.1)
one_comes event entry i j s t here there = absurd here

-- two contexts of one Sender Key are one, at one index
one_context : (h : History) → AllAnswers h → SendersDiffer h → (i j : ℕ) (s t : SecurityContext) → WasAt h i s → WasAt h j t → HaveSameSender s t → (i ≡ j) × (s ≡ t)
one_context Begin all differ i j s t (inl (of, is, same)) there shares = absurd (let e : None ≡ Some of = is in cc)
one_context Begin all differ i j s t (inr was) there shares = absurd was
one_context (Then h event entry) all differ i j s t here there shares = elim (was_or_comes h event entry i s here) [
  | inl a ↦ elim (was_or_comes h event entry j t there) [
    | inl b ↦ one_context h all.0 (earlier h event entry differ) i j s t a b shares
    | inr b ↦ absurd (new_key h event entry all.1 differ j i t s b a shares)
  ]
  | inr a ↦ elim (was_or_comes h event entry j t there) [
    | inl b ↦ absurd (new_key h event entry all.1 differ i j s t a b (sym shares))
    | inr b ↦ one_comes event entry i j s t a b
  ]
]

-- ---- texts

-- the text was sealed under a context that is or was at its index
abbrev IsUnder : History → Text → Type 0
IsUnder h t = WasAt h t.context t.keys

-- the context of a life that is there
life_of : (o : Option Life) (k : Kept) → option_map kept o ≡ Some k → HasContext o k.context
life_of None k is = absurd (let e : None ≡ Some k = is in cc)
life_of (Some of) k is = let same : kept of ≡ k = cc in (of, refl, ap (λ (x : Kept). x.context) same)

-- one event more: a text of a life that is there was sealed, or none
module _ (h g : History) (still : (i : ℕ) (s : SecurityContext) → WasAt h i s → WasAt g i s) where
  same_under : (ts : List Text) → ts ≡ texts h → AllByRecursion (IsUnder h) (texts h) → AllByRecursion (IsUnder g) ts
  same_under ts same all = subst (AllByRecursion (IsUnder g)) (sym same) (all_weaker (IsUnder h) (IsUnder g) (λ t. still t.context t.keys) (texts h) all)

  more_under : (t : Text) (i : ℕ) (k : Kept) (ts : List Text) → IsTextOf t i k → option_map kept (life h i) ≡ Some k → ts ≡ t ∷ texts h → AllByRecursion (IsUnder h) (texts h)
      → AllByRecursion (IsUnder g) ts
  more_under t i k ts of was same all =
      let here : WasAt h i k.context = inl (life_of (life h i) k was) in
      let under : IsUnder g t = subst (λ (j : ℕ). WasAt g j t.keys) (sym of.context) (subst (WasAt g i) (sym of.keys) (still i k.context here)) in
      subst (AllByRecursion (IsUnder g)) (sym same) (under, all_weaker (IsUnder h) (IsUnder g) (λ u. still u.context u.keys) (texts h) all)

  under_on : Steps (image h) (image g) → AllByRecursion (IsUnder h) (texts h) → AllByRecursion (IsUnder g) (texts g)
  under_on (Stays s) all = same_under (texts g) s.texts all
  under_on (Adds s) all = same_under (texts g) s.texts all
  under_on (Restarts s) all = same_under (texts g) s.texts all
  under_on (Skips s) all = same_under (texts g) s.texts all
  under_on (Numbers s) all = more_under s.text s.index s.old (texts g) s.of s.was s.texts all
  under_on (Replies s) all = more_under s.text s.ticket.context s.old (texts g) s.of s.was s.texts all

all_under : SealedHeads → (h : History) → AllAnswers h → AllByRecursion (IsUnder h) (texts h)
all_under shows Begin all = tt
all_under shows (Then h event entry) all = under_on h (Then h event entry) (still_at h event entry all.1 (none_beyond h all.0)) (steps shows h event entry all.1) (all_under shows h all.0)

row : {A : Type 0} (K : A → Type 0) (R S : A → A → Type 0) → ((x y : A) → K x → K y → R x y → S x y) → (x : A) → K x → (ys : List A) → AllByRecursion K ys → AllByRecursion (R x) ys
    → AllByRecursion (S x) ys
row K R S f x of [] known apart = tt
row K R S f x of (y ∷ ys) known apart = (f x y of known.0 apart.0, row K R S f x of ys known.1 apart.1)

pairs : {A : Type 0} (K : A → Type 0) (R S : A → A → Type 0) → ((x y : A) → K x → K y → R x y → S x y) → (xs : List A) → AllByRecursion K xs → Pairwise R xs → Pairwise S xs
pairs K R S f [] known apart = tt
pairs K R S f (x ∷ xs) known apart = (row K R S f x known.0 xs known.1 apart.0, pairs K R S f xs known.1 apart.1)

-- where no two texts of one life of a context share a nonce, no two of any contexts share key and nonce
apart_by_keys : SealedHeads → (h : History) → AllAnswers h → SendersDiffer h → Pairwise HaveTwoNonces (texts h) → Pairwise HaveTwoKeysOrNonces (texts h)
apart_by_keys shows h all differ =
    pairs (IsUnder h) HaveTwoNonces HaveTwoKeysOrNonces
    (λ t u here there apart lives keys.
    let (context, same) = one_context h all differ t.context u.context t.keys u.keys here there keys in
    apart context (lives context same)) (texts h) (all_under shows h all)

pub server_once : SealedHeads → ServerNoncesOnce → ServerKeysOrNoncesOnce
server_once shows once h all differ takes = apart_by_keys shows h all differ (once h all takes)

pub waiting_once : SealedHeads → WaitingNoncesOnce → WaitingKeysOrNoncesOnce
waiting_once shows once h all differ waiting = apart_by_keys shows h all differ (once h all waiting)
