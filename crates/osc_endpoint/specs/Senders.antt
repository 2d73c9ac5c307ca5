-- To be believed: contexts of a server that seal under one key (RFC 8613, 3.3). h is a history, s a security context that a server sends with.
use Rattle.std.specs.Prelude.{ℕ, ◌<◌}
use Rattle.osc_context.specs.SecurityContext.{SecurityContext}
use Rattle.osc_endpoint.specs.ServerAnswer.{HasSameSender, IsTaken}
use Rattle.osc_life.specs.ServerHistory.{History, added}

-- the server has room for so many contexts, of which one is left, and no request could name two contexts, but one that is there has the same Sender Key (RFC 8613, 3.3)
abbrev pub IsSameSender : History → SecurityContext → ℕ → Type 0
IsSameSender h s places = (added h < places) × (IsTaken h s → ⊥) × HasSameSender h s
