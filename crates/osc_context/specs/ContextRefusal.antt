-- To be believed: why no context is derived (RFC 8613, 3.2 and 3.3; own rules: the limits). Each reason has a definition, in
-- the order in which the reasons are judged. g is what a context would be derived from.
use Rattle.std.specs.Prelude.{◌≡◌, ◌⊎◌, ℕ, ◌<◌, List, length, codes}
use Rattle.std.specs.Option.{option_copied, IsSomeAnd}
use Rattle.osc_context.specs.declared.context_error.ContextError.{ContextError}
use Rattle.osc_context.specs.declared.context_error.ContextError.TheVariants.{SecretLength, SaltLength, IdTooLong, SameIds, IdContextLength}
use Rattle.osc_context.specs.declared.parameters.Params.{Params}

-- the Master Secret has no bytes, or more than 64 (own rule)
abbrev pub HasBadSecret : Params → Type 0
HasBadSecret g = (length g.secret.now ≡ 0) ⊎ (64 < length g.secret.now)

-- the Master Salt has more than 64 bytes (own rule)
abbrev pub HasLongSalt : Params → Type 0
HasLongSalt g = 64 < length g.salt.now

-- an identifier doesn't fit in a nonce (RFC 8613, 3.3)
abbrev pub HasLongId : Params → Type 0
HasLongId g = (7 < length g.sender.now) ⊎ (7 < length g.recipient.now)

-- both ends have the same identifier (RFC 8613, 3.3)
abbrev pub HasSameIds : Params → Type 0
HasSameIds g = g.sender.now ≡ g.recipient.now

-- there is an ID Context, and it has no bytes, or more than 32 (own rule)
abbrev pub HasBadIdContext : Params → Type 0
HasBadIdContext g = IsSomeAnd (option_copied g.id_context) (λ bytes. (length bytes ≡ 0) ⊎ (32 < length bytes))

-- the condition of each refusal, whatever else is wrong (RFC 8613, 3.2 and 3.3)
abbrev pub RefusesParams : Params → ContextError → Type 0
RefusesParams g SecretLength = HasBadSecret g
RefusesParams g SaltLength = HasLongSalt g
RefusesParams g IdTooLong = HasLongId g
RefusesParams g SameIds = HasSameIds g
RefusesParams g IdContextLength = HasBadIdContext g

-- the place of a refusal in the order of judging (own rule)
abbrev pub params_rank : ContextError → ℕ
params_rank SecretLength = 0
params_rank SaltLength = 1
params_rank IdTooLong = 2
params_rank SameIds = 3
params_rank IdContextLength = 4

-- the refusal holds for what a context would be derived from, and none judged before it does (own rule)
pub record IsFirstParamsRefusal (g : Params) (e : ContextError) : Type 0 where
  pub holds : RefusesParams g e
  pub first : (f : ContextError) → params_rank f < params_rank e → ¬ RefusesParams g f

-- what a refusal prints as: its name (how the code is seen)
abbrev pub context_error_text : ContextError → List ℕ
context_error_text SecretLength = codes "SecretLength"
context_error_text SaltLength = codes "SaltLength"
context_error_text IdTooLong = codes "IdTooLong"
context_error_text SameIds = codes "SameIds"
context_error_text IdContextLength = codes "IdContextLength"
