-- Windows that keep the same take the same numbers.
use Rattle.std.proofs.Common.{◌≡◌, ◌∙◌, sym, ap, subst, refl, arith, ℕ, List, Bool, IsTrue}
use Rattle.std.specs.Prelude.{◌↔◌}
use Rattle.std.specs.Option.{option_map}
use Rattle.osc_context.specs.Views.{number_of}
use Rattle.osc_window.specs.SpentMask.{taken_by}
use Rattle.osc_window.specs.Taken.{AgreesWith}
use Rattle.osc_window.specs.Views.{parts_of, places_of, size_of, takes}
use Rattle.osc_window.specs.Window.{IsNew}
use Rattle.osc_window.specs.declared.window.Window.{Window}
use Rattle.osc_window.specs.declared.window_size.WindowSize.{WindowSize}
use Rattle.osc_window.specs.declared.window_size.WindowSize.TheVariants.{Place1, Places32, Places64}

-- sizes with as many places are one
pub one_size : (a b : WindowSize) → places_of a ≡ places_of b → a ≡ b
one_size Place1 Place1 e = refl
one_size Place1 Places32 e = absurd (omega (arith, e))
one_size Place1 Places64 e = absurd (omega (arith, e))
one_size Places32 Place1 e = absurd (omega (arith, e))
one_size Places64 Place1 e = absurd (omega (arith, e))
one_size Places32 Places32 e = refl
one_size Places32 Places64 e = absurd (omega (arith, e))
one_size Places64 Places32 e = absurd (omega (arith, e))
one_size Places64 Places64 e = refl

same_takes : (v w : Window) (n : ℕ) → option_map number_of (parts_of v).highest ≡ option_map number_of (parts_of w).highest
    → (parts_of v).spent_mask ≡ (parts_of w).spent_mask → (parts_of v).size ≡ (parts_of w).size → takes v n ≡ takes w n
unfolding takes
same_takes v w n highest mask size =
    ap (λ h. taken_by h v.spent_mask (places_of v.size) n) highest
    ∙ (ap (λ m. taken_by (option_map number_of w.highest) m (places_of v.size) n) mask
    ∙ ap (λ s. taken_by (option_map number_of w.highest) w.spent_mask (places_of s) n) size)

same_size : (v w : Window) → (parts_of v).size ≡ (parts_of w).size → size_of v ≡ size_of w
unfolding size_of
same_size v w size = size

-- what one agrees with, the other does
pub alike : (v w : Window) (size : WindowSize) (floor : ℕ) (spent : List ℕ)
    → option_map number_of (parts_of v).highest ≡ option_map number_of (parts_of w).highest
    → (parts_of v).spent_mask ≡ (parts_of w).spent_mask → (parts_of v).size ≡ (parts_of w).size
    → AgreesWith v size floor spent → AgreesWith w size floor spent
alike v w size floor spent highest mask sizes a =
    record {
      size_is = sym (same_size v w sizes) ∙ a.size_is;
      takes_new = λ n. subst (λ (b : Bool). IsTrue b ↔ IsNew (places_of size) floor spent n) (same_takes v w n highest mask sizes) (a.takes_new n);
    }
