-- What several clauses say of a datagram that a peer with a memory takes gives another thing.
use Rattle.std.proofs.Common.{ℕ}
use Rattle.osc_life.specs.declared.outcome.Taken.{Taken}
use Rattle.osc_replies.specs.declared.again.TakenAgain.{TakenAgain}
use Rattle.osc_replies.specs.declared.again.TakenAgain.TheVariants as taken
use Rattle.osc_replies.specs.Taking.{IfTaken, IfTakenAgain}

pub three_again : {P Q S T : ℕ → Type 0} (r : TakenAgain) → ((n : ℕ) → P n → Q n → S n → T n) → IfTakenAgain r P → IfTakenAgain r Q → IfTakenAgain r S → IfTakenAgain r T
three_again (taken.Again n) f p q s = f n p q s
three_again (taken.Taken t) f p q s = tt

pub three_taken : {P Q S T : Taken → Type 0} (r : TakenAgain) → ((t : Taken) → P t → Q t → S t → T t) → IfTaken r P → IfTaken r Q → IfTaken r S → IfTaken r T
three_taken (taken.Again n) f p q s = tt
three_taken (taken.Taken t) f p q s = f t p q s

pub two_taken : {P Q T : Taken → Type 0} (r : TakenAgain) → ((t : Taken) → P t → Q t → T t) → IfTaken r P → IfTaken r Q → IfTaken r T
two_taken (taken.Again n) f p q = tt
two_taken (taken.Taken t) f p q = f t p q
