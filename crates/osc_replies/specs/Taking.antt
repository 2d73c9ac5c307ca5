-- To be believed: a peer with a memory, where it takes a datagram in place (RFC 7252, 4.5; RFC 8613, 8.2). d is the datagram as it came, left as it was left, count
-- and len are the room of the memory, old and new are the memory before and after.
use Rattle.std.specs.Prelude.{ℕ, List}
use Rattle.osc_life.specs.Deciding.{CanShow, ShowsDecided}
use Rattle.osc_life.specs.declared.decision.Decision.{Decision}
use Rattle.osc_life.specs.declared.outcome.Outcome.{Outcome}
use Rattle.osc_life.specs.declared.outcome.Taken.{Taken}
use Rattle.osc_replies.specs.declared.again.TakenAgain.{TakenAgain}
use Rattle.osc_replies.specs.declared.again.TakenAgain.TheVariants as taken
use Rattle.osc_replies.specs.Answering.{Remembers}
use Rattle.osc_replies.specs.Memory.{Kept}

-- if the datagram is answered from the memory, this holds of the reply's length (own rule)
abbrev pub IfTakenAgain : TakenAgain → (ℕ → Type 0) → Type 0
IfTakenAgain (taken.Again n) holds = holds n
IfTakenAgain (taken.Taken t) holds = Unit {0}

-- if the peer takes the datagram, this holds of what it made of it (own rule)
abbrev pub IfTaken : TakenAgain → (Taken → Type 0) → Type 0
IfTaken (taken.Again n) holds = Unit {0}
IfTaken (taken.Taken t) holds = holds t

-- the memory keeps what it keeps of the decision that the outcome shows (own rule)
pub record RemembersShown (count len : ℕ) (d : List ℕ) (outcome : Outcome) (reply : List ℕ) (old new : List Kept) : Type 0 where
  pub decision : Decision
  pub left : List ℕ
  pub can : CanShow decision left
  pub shows : ShowsDecided decision left outcome
  pub remembers : Remembers count len d decision reply old new
