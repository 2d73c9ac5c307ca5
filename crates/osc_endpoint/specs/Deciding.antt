-- How the code is seen: what a server decides about a datagram after a history, and what it leaves of it. h is a history, d is the
-- datagram as it came, new the datagram as it was left.
use Rattle.std.specs.Prelude.{ℕ, List}
use Rattle.osc_life.specs.declared.decision.Decided.{Decided}
use Rattle.osc_life.specs.declared.decision.Decision.{Decision}
use Rattle.osc_life.specs.declared.outcome.Outcome.{Outcome}
use Rattle.osc_endpoint.specs.declared.server.ServerOf.{ServerOf}
use Rattle.osc_life.specs.declared.start.Fresh.{Fresh}
use Rattle.osc_endpoint.specs.Agrees.{Agrees}
use Rattle.osc_endpoint.specs.ServerAnswer.{ServerAnswer}
use Rattle.osc_life.specs.ServerHistory as server
use Rattle.osc_life.specs.Views.{Shows}
use Rattle.osc_life.specs.Deciding.{Decides, Leaves}

-- what a server leaves of the datagram, which it opens under one of its contexts or leaves as it came (RFC 8613, 8.2)
abbrev pub LeavesBy : {N : ℕ} → ServerOf N → Decision → List ℕ → List ℕ → Type 0
LeavesBy s decision d new = Leaves s.slots.items decision d new

-- the decision about a datagram is the answer after the history, and the server agrees with both (how the code is seen)
pub record DecidesTo {N : ℕ} (h : server.History) (now : ℕ) (fresh : Fresh) (d : List ℕ) (result : Decided) (new reply : List ℕ) (s : ServerOf N) : Type 0 where
  pub answer : server.Answer
  pub row : ServerAnswer h (server.Datagram now fresh.echo fresh.mid d) (server.Took answer reply)
  pub decides : Decides result.decision new answer
  pub agrees : Agrees s (server.Then h (server.Datagram now fresh.echo fresh.mid d) (server.Took answer reply))

-- the outcome shows the answer after the history, and the server agrees with both (how the code is seen)
pub record Takes {N : ℕ} (h : server.History) (now : ℕ) (fresh : Fresh) (d : List ℕ) (outcome : Outcome) (reply : List ℕ) (s : ServerOf N) : Type 0 where
  pub answer : server.Answer
  pub row : ServerAnswer h (server.Datagram now fresh.echo fresh.mid d) (server.Took answer reply)
  pub shows : Shows outcome answer
  pub agrees : Agrees s (server.Then h (server.Datagram now fresh.echo fresh.mid d) (server.Took answer reply))
