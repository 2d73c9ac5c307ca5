-- A keeper that is there or isn't, and a source that goes to an end.
use Rattle.std.proofs.Common.{◌≡◌, ◌∙◌, ℕ, ◌≤◌, sym, refl, arith, Bool, true, false, List, Option, Some, None, is_some, IsNone}
use Rattle.osc_context.specs.declared.keeper.Keeper as keeper
use Rattle.osc_kept_ends.specs.declared.adopt_error.AdoptError.{AdoptError}
use Rattle.osc_kept_ends.specs.declared.adopt_error.AdoptError.TheVariants.{NoSource, OtherSender, HasSource, Behind}
use Rattle.osc_kept_ends.specs.declared.shared_record.SenderKeeper.{SenderKeeper}
use Rattle.osc_kept_ends.specs.SharedOwning.{keeper_in}
use Rattle.osc_kept_ends.specs.Sharing.{RefusesToAdopt}

pub some_there : {K : Type 0} {k : keeper.Ghosts K} (o : Option (SenderKeeper K k)) → is_some (keeper_in o) ≡ is_some o
some_there (Some s) = refl
some_there None = refl

pub false_if : (b : Bool) → (b ≡ true → false ≡ true) → b ≡ false
false_if true h = sym (h refl)
false_if false h = refl

pub apart : (b : Bool) → b ≡ false → b ≡ true → ⊥
apart b off on = let e : false ≡ true = sym off ∙ on in cc

-- what can be taken isn't refused
pub never_refused : {K : Type 0} (mine theirs : List ℕ) (o : Option K) (next upcoming : ℕ) (e : AdoptError) → mine ≡ theirs → IsNone o → next ≤ upcoming
    → RefusesToAdopt mine theirs o next upcoming e → ⊥
never_refused mine theirs o next upcoming NoSource same none least r = r
never_refused mine theirs o next upcoming OtherSender same none least r = r same
never_refused mine theirs o next upcoming HasSource same none least r = apart (is_some o) none r.1
never_refused mine theirs o next upcoming Behind same none least r = let less = r.2 in omega (arith, least, less)
