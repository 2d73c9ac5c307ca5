-- How the code is seen: what is given to derive a context from, and what it allows.
use Rattle.std.specs.Prelude.{Bool, true, false, List, ℕ, Some, None}
use Rattle.std.specs.Borrow.{Bor}
use Rattle.osc_context.specs.SecurityContext.{SecurityContext}
use Rattle.osc_context.specs.declared.parameters.Params.{Params}

-- what is given to derive a context from, with an ID Context or without (how the code is seen)
abbrev pub given : Bor (List ℕ) → Bor (List ℕ) → Bool → Bor (List ℕ) → Bor (List ℕ) → Bor (List ℕ) → Params
given secret salt true id_context sender recipient = record { secret = secret; salt = salt; id_context = Some id_context; sender = sender; recipient = recipient }
given secret salt false id_context sender recipient = record { secret = secret; salt = salt; id_context = None; sender = sender; recipient = recipient }

-- the same context, which allows block-wise transfer inside or doesn't, and Observe or doesn't (how the code is seen)
abbrev pub allowing : Bool → Bool → SecurityContext → SecurityContext
allowing blocks observe s = record s { features = record { observe = observe; blocks = blocks } }
