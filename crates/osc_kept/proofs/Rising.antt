-- The numbers that a kept end used are below its keeper's floor, over all its lives: from the numbers alone.
use Rattle.std.proofs.Common.{◌≡◌, ℕ, ◌<◌, ◌≤◌, ◌^◌, sym, subst, arith, Some, None, List, [], ◌∷◌, inl, inr}
use Rattle.osc_context.specs.Reserving.{next_limit}
use Rattle.osc_context.specs.SecurityContext.{SecurityContext}
use Rattle.osc_kept_ends.specs.Numbering.{Own, Effect, Stay, Draw, Reserve, Load, Use, after, Allowed}
use Rattle.osc_kept.specs.Premises.{AtEach, NumbersAreKept}
use Rattle.osc_kept.specs.World.{World, Begin, Then, Event, End, Client, Server, Has, effect, numbers}

some_is : {A : Type 0} {a b : A} → Some a ≡ Some b → a ≡ b
some_is e = cc

abbrev pub used_after : Effect → List ℕ → List ℕ
used_after (Use n) ns = n ∷ ns
used_after e ns = ns

abbrev pub used : End → SecurityContext → World → List ℕ
used end s Begin = []
used end s (Then w event) = used_after (effect end s w event) (used end s w)

pub record OwnInv (ns : List ℕ) (o : Own) : Type 0 where
  pub ordered : o.next ≤ o.limit
  pub covered : o.floor ≤ o.limit
  pub saved : o.next < o.limit → o.limit ≤ o.floor
  pub low : (n : ℕ) → Has n ns → n < o.next
  pub below : (n : ℕ) → Has n ns → n < o.floor
  pub hand_low : (p : ℕ) → o.hand ≡ Some p → p < o.next
  pub hand_below : (p : ℕ) → o.hand ≡ Some p → p < o.floor

pub limit_above : (limit : ℕ) → limit < 2 ^ 40 → limit < next_limit limit
limit_above limit h = omega (arith, h)

own_step : (e : Effect) (o : Own) (ns : List ℕ) → Allowed e o → OwnInv ns o → OwnInv (used_after e ns) (after e o)
own_step Stay o ns a i = i
own_step Draw o ns a i =
    let l : o.next < o.limit = a.1 in
    let s : o.limit ≤ o.floor = i.saved l in
    record {
      ordered = omega (arith, l);
      covered = i.covered;
      saved = λ h. s;
      low = λ n h. let k = i.low n h in omega (arith, k);
      below = i.below;
      hand_low = λ p e. let q = some_is e in omega (arith, q);
      hand_below = λ p e. let q = some_is e in omega (arith, q, l, s);
    }
own_step Reserve o ns a i =
    let r : o.limit < next_limit o.limit = limit_above o.limit a.2 in
    let t : o.next ≡ o.limit = a.1 in
    record {
      ordered = omega (arith, r, t);
      covered = omega arith;
      saved = λ h. omega arith;
      low = λ n h. let k = i.low n h in omega (arith, k);
      below = λ n h. let k = i.low n h in omega (arith, k, r, t);
      hand_low = λ p e. let q = some_is e in omega (arith, q);
      hand_below = λ p e. let q = some_is e in omega (arith, q, r, t);
    }
own_step (Load v) o ns a i =
    record {
      ordered = omega arith;
      covered = a.0;
      saved = λ h. omega (arith, h);
      low = λ n h. let k = i.below n h in omega (arith, k, a.0);
      below = i.below;
      hand_low = λ p e. let f : None ≡ Some p = e in cc;
      hand_below = λ p e. let f : None ≡ Some p = e in cc;
    }
own_step (Use m) o ns a i =
    record {
      ordered = i.ordered;
      covered = i.covered;
      saved = i.saved;
      low = λ n. elim [ inl e ↦ subst (λ x. x < o.next) (sym e) (i.hand_low m a) | inr h ↦ i.low n h ];
      below = λ n. elim [ inl e ↦ subst (λ x. x < o.floor) (sym e) (i.hand_below m a) | inr h ↦ i.below n h ];
      hand_low = λ p e. let f : None ≡ Some p = e in cc;
      hand_below = λ p e. let f : None ≡ Some p = e in cc;
    }

pub allowed_at : (end : End) (s : SecurityContext) (w : World) (event : Event) → NumbersAreKept s w event → Allowed (effect end s w event) (numbers end s w)
allowed_at Client s w event a = a.client
allowed_at Server s w event a = a.server

pub own_inv : (end : End) (s : SecurityContext) (w : World) → AtEach (NumbersAreKept s) w → OwnInv (used end s w) (numbers end s w)
own_inv end s Begin a =
    record {
      ordered = omega arith;
      covered = omega arith;
      saved = λ h. omega arith;
      low = λ n h. absurd h;
      below = λ n h. absurd h;
      hand_low = λ p e. let f : None ≡ Some p = e in cc;
      hand_below = λ p e. let f : None ≡ Some p = e in cc;
    }
own_inv end s (Then w event) a = own_step (effect end s w event) (numbers end s w) (used end s w) (allowed_at end s w event a.1) (own_inv end s w a.0)
