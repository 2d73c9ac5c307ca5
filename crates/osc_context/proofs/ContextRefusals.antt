-- A context has one first refusal.
use Rattle.std.proofs.Common.{◌≡◌, arith, inl, inr}
use Rattle.std.proofs.lemmas.Bool.{cases_lt}
use Rattle.osc_context.specs.declared.context_error.ContextError.{ContextError}
use Rattle.osc_context.specs.declared.parameters.Params.{Params}
use Rattle.osc_context.specs.ContextRefusal.{IsFirstParamsRefusal, params_rank}

-- no two refusals have one rank
same_rank : (e f : ContextError) → params_rank e ≡ params_rank f → e ≡ f
same_rank e f = grind (arith)

-- two first refusals are one
pub one_context_refusal : (g : Params) (e f : ContextError) → IsFirstParamsRefusal g e → IsFirstParamsRefusal g f → e ≡ f
one_context_refusal g e f he hf = elim (cases_lt (params_rank e) (params_rank f)) [
  | inl lt ↦ absurd (hf.first e lt he.holds)
  | inr le ↦ elim (cases_lt (params_rank f) (params_rank e)) [
    | inl lt ↦ absurd (he.first f lt hf.holds)
    | inr ge ↦ same_rank e f (omega arith)
  ]
]
