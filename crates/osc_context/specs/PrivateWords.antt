-- For the proofs: words of private functions. p has the parts that a value says, and g is what a context would be derived
-- from.
use Rattle.std.specs.Prelude.{ℕ, ◌+◌, ◌<◌, length}
use Rattle.osc_context.specs.declared.context_error.ContextError.{ContextError}
use Rattle.osc_context.specs.declared.parameters.Params.{Params}
use Rattle.osc_context.specs.ContextRefusal.{RefusesParams, params_rank}
use Rattle.osc_context.specs.OscoreValue.{OscoreParts, piv_bytes, kid_context_bytes, kid_bytes}

-- how many bytes a flag byte and the parts after it take (RFC 8613, 6.1)
abbrev pub parts_len : OscoreParts → ℕ
parts_len p = 1 + length (piv_bytes p.piv) + length (kid_context_bytes p.kid_context) + length (kid_bytes p.kid)

-- no refusal that is judged before this place holds (own rule)
abbrev pub PassesBelow : ℕ → Params → Type 0
PassesBelow k g = (f : ContextError) → params_rank f < k → ¬ RefusesParams g f
