-- That the share of a context stays like the history of its server alone, once the clock of that is set. h is the history of a server of many, i the index
-- of the context, f and g are histories that are alike.
use Rattle.std.proofs.Common.{◌≡◌, ℕ, ◌+◌, ◌∙◌, sym, ap, subst, refl, arith, Bool, true, false, Option, Some, None, List, [], if◌then◌else◌, ◌==◌}
use Rattle.std.specs.Option.{option_map}
use Rattle.osc_context.specs.SecurityContext.{SecurityContext}
use Rattle.osc_window.specs.declared.window_size.WindowSize.{WindowSize}
use Rattle.osc_life.specs.declared.start.Start.{Start}
use Rattle.osc_laws.specs.Laws.{AllAnswers}
use Rattle.osc_endpoint.specs.Tickets.{AreLeft}
use Rattle.osc_life.specs.Life.{Life, born, marked, renewed, succeeding}
use Rattle.osc_laws.specs.OneContext.{ContextsStandAlone, share}
use Rattle.osc_life.specs.ServerHistory.{Add, Added, Advance, Advanced, Begin, Datagram, Deliver, Entry, Event, History, Notify, Replace, Replaced, Replied, Reply, Restart, Restarted, Skip, Skipped, Then, TicketValues, Took, added, clock, clock_by, life, mark_at, reply_mark_at, skip_mark_at}
use Rattle.osc_laws.proofs.DeliveredNumbers.{no_other, none_beyond}
use Rattle.osc_laws.proofs.Shares.{none_yet}
use Rattle.osc_kept.specs.Among.{IsLike, StaysLike}
use Rattle.osc_kept.proofs.Among.{like_left}
use Rattle.osc_kept.proofs.Lives.{no_skip, no_took}

-- ---- before the context is added

-- a server without contexts has no life, and gave no ticket
no_life : (f : History) → AllAnswers f → added f ≡ 0 → (j : ℕ) → life f j ≡ None
no_life f all none j = none_beyond f all j (omega (arith, none))

never : (f : History) (j : ℕ) (of : Life) → AllAnswers f → added f ≡ 0 → life f j ≡ Some of → ⊥
never f j of all none e = let g : None ≡ Some of = sym (no_life f all none j) ∙ e in cc

one_more : (k : ℕ) → k + 1 ≡ 0 → ⊥
one_more k e = omega (arith, e)

none_left : (f : History) (ts : List TicketValues) → AllAnswers f → added f ≡ 0 → AreLeft f ts → ts ≡ []
none_left Begin ts all none left = left
none_left (Then f (Datagram now echo mid d) (Took (Deliver received t) reply)) ts all none left =
    absurd (never f all.1.0.0 all.1.0.2 all.0 none all.1.0.3.life_is)
none_left (Then f (Add context start size places) (Took (Deliver received t) reply)) ts all none left = absurd all.1.1
none_left (Then f (Reply t own mid p room) (Took (Deliver received u) reply)) ts all none left = absurd all.1.2
none_left (Then f (Notify t p room) (Took (Deliver received u) reply)) ts all none left = absurd all.1.1.2
none_left (Then f (Restart c next) (Took (Deliver received t) reply)) ts all none left = absurd (no_took (life f c) (Deliver received t) reply all.1)
none_left (Then f (Replace c s start size) (Took (Deliver received t) reply)) ts all none left = absurd (no_other (life f c) (Took (Deliver received t) reply) tt all.1.1)
none_left (Then f (Skip c count) (Took (Deliver received t) reply)) ts all none left = absurd (no_skip (life f c) count (Deliver received t) reply all.1)
none_left (Then f (Advance now) (Took (Deliver received t) reply)) ts all none left = absurd all.1
none_left (Then f (Reply t own mid p room) (Replied bytes)) ts all none left = absurd (never f t.context all.1.0 all.0 none all.1.1.0)
none_left (Then f (Notify t p room) (Replied bytes)) ts all none left = absurd (never f t.context all.1.1.0 all.0 none all.1.1.1.0)
none_left (Then f event (Added index)) ts all none left = absurd (one_more (added f) none)
none_left (Then f event entry) ts all none left = none_left f ts all.0 none left

-- ---- and after

chosen_self : (b : Bool) (x y : History) → b ≡ true → (if b then x else y) ≡ x
chosen_self true x y e = refl
chosen_self false x y e = absurd (let f : false ≡ true = e in cc)

like_life : (f g : History) (event : Event) (entry : Entry) → ((j : ℕ) → life f j ≡ life g j) → (j : ℕ) → life (Then f event entry) j ≡ life (Then g event entry) j
like_life f g (Add context start size places) (Added index) here j = ap (λ (o : Option Life). if j == index then Some (born context start size) else o) (here j)
like_life f g (Datagram now echo mid d) (Took answer reply) here j = ap (option_map (marked (mark_at j answer))) (here j)
like_life f g (Reply t own mid p room) (Replied bytes) here j = ap (option_map (marked (reply_mark_at j t own))) (here j)
like_life f g (Notify t p room) (Replied bytes) here j = ap (option_map (marked (reply_mark_at j t true))) (here j)
like_life f g (Restart context next) Restarted here j = ap (λ (o : Option Life). if j == context then option_map (renewed next) o else o) (here j)
like_life f g (Replace context by start size) Replaced here j = ap (λ (o : Option Life). if j == context then option_map (succeeding by start size) o else o) (here j)
like_life f g (Skip context count) Skipped here j = ap (option_map (marked (skip_mark_at j context count))) (here j)
like_life f g event entry here j = here j

like_on : (f g : History) (event : Event) (entry : Entry) → IsLike f g → IsLike (Then f event entry) (Then g event entry)
like_on f g event entry x = record {
  clock_is = ap (clock_by event) x.clock_is;
  life_is = λ j. like_life f g event entry x.life_is j;
  left_is = λ ts left. like_left f g x.left_is event entry ts left;
}

begins : ContextsStandAlone → (h : History) (i : ℕ) (s : SecurityContext) (start : Start) (size : WindowSize) (places : ℕ) → AllAnswers (Then h (Add s start size places) (Added i))
    → IsLike (share i (Then h (Add s start size places) (Added i))) (Then (Then Begin (Add s start size 1) (Added 0)) (Advance (clock h)) Advanced)
begins alone h i s start size places all =
    let index_is : i ≡ added h = all.1.1.2 in
    let of = alone h i all.0 in
    let none : added (share i h) ≡ 0 = none_yet i h all.0 (omega (arith, index_is)) in
    let f : History = Then (share i h) (Add s start size places) (Added 0) in
    let g : History = Then (Then Begin (Add s start size 1) (Added 0)) (Advance (clock h)) Advanced in
    subst (λ x. IsLike x g) (sym (chosen_self (i == i) f (share i h) (grind arith))) (record {
      clock_is = of.clock_is ∙ omega arith;
      life_is = λ j. ap (λ (o : Option Life). if j == 0 then Some (born s start size) else o) (no_life (share i h) of.answers none j);
      left_is = λ ts left. none_left (share i h) ts of.answers none left;
    })

pub stays_like : ContextsStandAlone → StaysLike
stays_like alone = record { begins = begins alone; goes_on = like_on }
