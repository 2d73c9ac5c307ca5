-- One source of Sender Sequence Numbers: each that is used is below 2 ^ 40, and above all that were used before, whoever used them and in whatever life. es is
-- what happened to the source, newest first.
use Rattle.std.proofs.Common.{◌≡◌, ℕ, ◌<◌, ◌≤◌, ◌^◌, sym, subst, arith, Some, None, List, [], ◌∷◌, inl, inr}
use Rattle.osc_context.specs.Reserving.{next_limit}
use Rattle.osc_kept_ends.specs.Numbering.{Own, Effect, Stay, Draw, Reserve, Load, Use, after, Allowed}
use Rattle.osc_kept.specs.World.{Has}
use Rattle.osc_kept.proofs.Lives.{some_is}
use Rattle.osc_kept.proofs.Rising.{limit_above, used_after}
use Rattle.osc_peers.specs.Turns.{AreAllowed, after_all}

abbrev pub used_by : List Effect → List ℕ
used_by [] = []
used_by (e ∷ es) = used_after e (used_by es)

pub record SourceInv (ns : List ℕ) (o : Own) : Type 0 where
  pub ordered : o.next ≤ o.limit
  pub covered : o.floor ≤ o.limit
  pub top : o.limit ≤ 2 ^ 40
  pub saved : o.next < o.limit → o.limit ≤ o.floor
  pub low : (n : ℕ) → Has n ns → n < o.next
  pub below : (n : ℕ) → Has n ns → n < o.floor
  pub hand_low : (p : ℕ) → o.hand ≡ Some p → p < o.next
  pub hand_below : (p : ℕ) → o.hand ≡ Some p → p < o.floor
  pub hand_above : (p n : ℕ) → o.hand ≡ Some p → Has n ns → n < p

limit_top : (limit : ℕ) → next_limit limit ≤ 2 ^ 40
limit_top limit = omega arith

source_step : (e : Effect) (o : Own) (ns : List ℕ) → Allowed e o → SourceInv ns o → SourceInv (used_after e ns) (after e o)
source_step Stay o ns a i = i
source_step Draw o ns a i =
    let l : o.next < o.limit = a.1 in
    let s : o.limit ≤ o.floor = i.saved l in
    record {
      ordered = omega (arith, l);
      covered = i.covered;
      top = i.top;
      saved = λ h. s;
      low = λ n h. let k = i.low n h in omega (arith, k);
      below = i.below;
      hand_low = λ p e. let q = some_is e in omega (arith, q);
      hand_below = λ p e. let q = some_is e in omega (arith, q, l, s);
      hand_above = λ p n e h. let q = some_is e in let k = i.low n h in omega (arith, q, k);
    }
source_step Reserve o ns a i =
    let r : o.limit < next_limit o.limit = limit_above o.limit a.2 in
    let t : o.next ≡ o.limit = a.1 in
    record {
      ordered = omega (arith, r, t);
      covered = omega arith;
      top = limit_top o.limit;
      saved = λ h. omega arith;
      low = λ n h. let k = i.low n h in omega (arith, k);
      below = λ n h. let k = i.low n h in omega (arith, k, r, t);
      hand_low = λ p e. let q = some_is e in omega (arith, q);
      hand_below = λ p e. let q = some_is e in omega (arith, q, r, t);
      hand_above = λ p n e h. let q = some_is e in let k = i.low n h in omega (arith, q, k);
    }
source_step (Load v) o ns a i =
    record {
      ordered = omega arith;
      covered = a.0;
      top = omega (arith, a.1);
      saved = λ h. omega (arith, h);
      low = λ n h. let k = i.below n h in omega (arith, k, a.0);
      below = i.below;
      hand_low = λ p e. let f : None ≡ Some p = e in cc;
      hand_below = λ p e. let f : None ≡ Some p = e in cc;
      hand_above = λ p n e h. let f : None ≡ Some p = e in cc;
    }
source_step (Use m) o ns a i =
    record {
      ordered = i.ordered;
      covered = i.covered;
      top = i.top;
      saved = i.saved;
      low = λ n. elim [ inl e ↦ subst (λ x. x < o.next) (sym e) (i.hand_low m a) | inr h ↦ i.low n h ];
      below = λ n. elim [ inl e ↦ subst (λ x. x < o.floor) (sym e) (i.hand_below m a) | inr h ↦ i.below n h ];
      hand_low = λ p e. let f : None ≡ Some p = e in cc;
      hand_below = λ p e. let f : None ≡ Some p = e in cc;
      hand_above = λ p n e h. let f : None ≡ Some p = e in cc;
    }

pub source_inv : (es : List Effect) → AreAllowed es → SourceInv (used_by es) (after_all es)
source_inv [] a =
    record {
      ordered = omega arith;
      covered = omega arith;
      top = omega arith;
      saved = λ h. omega arith;
      low = λ n h. absurd h;
      below = λ n h. absurd h;
      hand_low = λ p e. let f : None ≡ Some p = e in cc;
      hand_below = λ p e. let f : None ≡ Some p = e in cc;
      hand_above = λ p n e h. absurd h;
    }
source_inv (e ∷ es) a = source_step e (after_all es) (used_by es) a.1 (source_inv es a.0)

-- the number in hand is above all that were used, and small
pub hand_above : (es : List Effect) (n m : ℕ) → AreAllowed es → (after_all es).hand ≡ Some n → Has m (used_by es) → m < n
hand_above es n m a u h = (source_inv es a).hand_above n m u h

pub hand_small : (es : List Effect) (n : ℕ) → AreAllowed es → (after_all es).hand ≡ Some n → n < 2 ^ 40
hand_small es n a u =
    let i = source_inv es a in
    let l : n < (after_all es).next = i.hand_low n u in
    let o : (after_all es).next ≤ (after_all es).limit = i.ordered in
    let t : (after_all es).limit ≤ 2 ^ 40 = i.top in
    omega (arith, l, o, t)

pub used_small : (es : List Effect) (n : ℕ) → AreAllowed es → Has n (used_by es) → n < 2 ^ 40
used_small es n a h =
    let i = source_inv es a in
    let l : n < (after_all es).next = i.low n h in
    let o : (after_all es).next ≤ (after_all es).limit = i.ordered in
    let t : (after_all es).limit ≤ 2 ^ 40 = i.top in
    omega (arith, l, o, t)

-- what is loaded is above all that were used
abbrev pub LoadsAbove : Effect → List ℕ → Type 0
LoadsAbove (Load first) ns = (m : ℕ) → Has m ns → m < first
LoadsAbove e ns = Unit {0}

pub loads_above : (e : Effect) (es : List Effect) (ns : List ℕ) → AreAllowed es → Allowed e (after_all es) → ((m : ℕ) → Has m ns → Has m (used_by es)) → LoadsAbove e ns
loads_above (Load first) es ns a b f = λ m h.
    let less : m < (after_all es).floor = (source_inv es a).below m (f m h) in
    let least : (after_all es).floor ≤ first = b.0 in
    omega (arith, less, least)
loads_above e es ns a b f = tt
