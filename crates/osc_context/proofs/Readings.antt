-- Reading is exact in both directions.
use Rattle.std.proofs.Common.{◌≡◌, ℕ, List, Result, Ok, Err, IfOk, IfErr, ap}
use Rattle.osc_context.specs.declared.oscore_option.OscoreOption.{OscoreOption}
use Rattle.osc_context.specs.declared.option_error.OptionError.{OptionError}
use Rattle.osc_context.specs.OscoreValue.{OscoreParts, IsOscoreValue}
use Rattle.osc_context.specs.OptionRefusal.{IsFirstValueRefusal}
use Rattle.osc_context.specs.Views.{oscore_parts_of, IsRead}
use Rattle.osc_context.proofs.OneValue.{one_value}
use Rattle.osc_context.proofs.FirstRefusals.{never_refused, one_refusal}

-- what is a value is read
pub accepts_all : (r : Result OscoreOption OptionError) (bytes : List ℕ) → IfOk r (λ o. IsOscoreValue (oscore_parts_of o) bytes) → IfErr r (λ e. IsFirstValueRefusal bytes e)
    → (p : OscoreParts) → IsOscoreValue p bytes → IsRead r p
accepts_all (Ok o) bytes h k p v = one_value (oscore_parts_of o) p bytes h v
accepts_all (Err e) bytes h k p v = absurd (never_refused p bytes v e k.holds)

-- the first refusal is answered
pub refuses_all : (r : Result OscoreOption OptionError) (bytes : List ℕ) → IfOk r (λ o. IsOscoreValue (oscore_parts_of o) bytes) → IfErr r (λ e. IsFirstValueRefusal bytes e)
    → (e : OptionError) → IsFirstValueRefusal bytes e → r ≡ Err e
refuses_all (Ok o) bytes h k e f = absurd (never_refused (oscore_parts_of o) bytes h e f.holds)
refuses_all (Err d) bytes h k e f = ap Err (one_refusal bytes d e k f)
