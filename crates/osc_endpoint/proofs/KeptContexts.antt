-- What keeps the contexts of a server from being related that weren't before. R is a relation of two contexts.
use Rattle.std.proofs.Common.{◌≡◌, ℕ, ◌∙◌, sym, ap, subst, refl, Bool, true, false, Option, Some, None, cond}
use Rattle.std.specs.Prelude.{unwrap_or}
use Rattle.std.specs.Option.{option_map}
use Rattle.osc_context.specs.SecurityContext.{SecurityContext}
use Rattle.osc_endpoint.specs.Agrees.{OneEach}
use Rattle.osc_life.specs.Life.{Life, Mark, marked, renewed}
use Rattle.osc_endpoint.specs.ServerAnswer.{HaveSameLookup}
use Rattle.osc_life.specs.ServerHistory.{History, life}
use Rattle.osc_endpoint.proofs.Additions.{OneBy}

-- a life of the one has the context of a life of the other
abbrev pub HasContextOf : Option Life → Life → Type 0
HasContextOf o of = (l : Life) × (o ≡ Some l) × (l.context ≡ of.context)

-- what leaves the context of each life leaves that of one that is there
pub kept_context : (f : Life → Life) → ((l : Life) → (f l).context ≡ l.context) → (o : Option Life) (of : Life) → option_map f o ≡ Some of → HasContextOf o of
kept_context f same None of e = absurd (let e' : None ≡ Some of = e in cc)
kept_context f same (Some l) of e =
    let is : f l ≡ of = ap (λ (x : Option Life). unwrap_or x of) e in
    (l, refl, sym (same l) ∙ ap (λ (x : Life). x.context) is)

pub marked_context : (m : Option Mark) (l : Life) → (marked m l).context ≡ l.context
marked_context None l = refl
marked_context (Some mark) l = refl

pub restarted_context : (b : Bool) (next : ℕ) (o : Option Life) (of : Life) → cond b (option_map (renewed next) o) o ≡ Some of → HasContextOf o of
restarted_context true next o of e = kept_context (renewed next) (λ l. refl) o of e
restarted_context false next o of e = (of, e, refl)

-- where each life has the context of one before, no two are so related if none were
pub one_kept : (R : SecurityContext → SecurityContext → Type 0) (h g : History) → ((i : ℕ) (of : Life) → life g i ≡ Some of → HasContextOf (life h i) of) → OneBy R h → OneBy R g
one_kept R h g keeps each i j of other e f same =
    let (l, l_is, l_same) = keeps i of e in
    let (k, k_is, k_same) = keeps j other f in
    each i j l k l_is k_is (subst (λ c. R c k.context) (sym l_same) (subst (λ c. R of.context c) (sym k_same) same))

-- so where each life is marked or stays
pub marked_by : (R : SecurityContext → SecurityContext → Type 0) (h g : History) (m : ℕ → Option Mark) → ((i : ℕ) → life g i ≡ option_map (marked (m i)) (life h i)) → OneBy R h → OneBy R g
marked_by R h g m is = one_kept R h g (λ i of e. kept_context (marked (m i)) (marked_context (m i)) (life h i) of (sym (is i) ∙ e))

pub one_marked : (h g : History) (m : ℕ → Option Mark) → ((i : ℕ) → life g i ≡ option_map (marked (m i)) (life h i)) → OneEach h → OneEach g
one_marked = marked_by HaveSameLookup
