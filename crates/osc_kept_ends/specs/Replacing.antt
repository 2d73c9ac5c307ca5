-- To be believed: why the context of an end whose numbers are kept isn't replaced (RFC 8613, 3.3, 7.2.1 and B.1.1). loads says what a load of the keeper may
-- return, and what it leaves; failures counts how often the keeper failed; old and new are the keeper of the new context before and after.
use Rattle.std.specs.Prelude.{◌≡◌, ℕ, List}
use Rattle.osc_life.specs.Text.{replace_error_text}
use Rattle.osc_life.specs.declared.server_error.ReplaceError.{ReplaceError}
use Rattle.osc_kept_ends.specs.declared.replace_refusal.ReplaceRefusal.{ReplaceRefusal}
use Rattle.osc_kept_ends.specs.declared.replace_refusal.ReplaceRefusal.TheVariants.{Refused, Kept}
use Rattle.osc_kept_ends.specs.Refusals.{RefusesAt, RefusesPeer}
use Rattle.osc_kept_ends.specs.Views.{kept_error_text}

-- how a refusal prints, as the name of its reason (own rule)
abbrev pub replace_refusal_text : ReplaceRefusal → List ℕ
replace_refusal_text (Refused e) = replace_error_text e
replace_refusal_text (Kept e) = kept_error_text e

-- the end refuses the context, and its keeper is as it was; or no life begins at what the keeper loads (RFC 8613, 7.2.1)
abbrev pub RefusesReplacement : {K : Type 0} → (ReplaceError → Type 0) → (K → ℕ → K → Type 0) → (K → ℕ) → K → ReplaceRefusal → K → Type 0
RefusesReplacement Reason loads failures old (Refused e) new = Reason e × (new ≡ old)
RefusesReplacement Reason loads failures old (Kept e) new = RefusesAt loads failures old e new

-- the same of a record of two numbers (RFC 8613, 7.2.1 and 7.4)
abbrev pub RefusesPeerReplacement : {R : Type 0} → (ReplaceError → Type 0) → (R → ℕ → ℕ → R → Type 0) → (R → ℕ) → R → ReplaceRefusal → R → Type 0
RefusesPeerReplacement Reason loads failures old (Refused e) new = Reason e × (new ≡ old)
RefusesPeerReplacement Reason loads failures old (Kept e) new = RefusesPeer loads failures old e new
