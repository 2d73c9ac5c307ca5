-- To be believed: what a server says of datagrams that it doesn't take, for which it has no protection (RFC 8613, 8.2).
use Rattle.std.specs.Prelude.{ℕ, Bool, true, false, nat_le, if◌then◌else◌}
use Rattle.osc_life.specs.declared.decision.Decided.{Decided}
use Rattle.osc_life.specs.declared.decision.Decision.{Decision}
use Rattle.osc_life.specs.declared.decision.Decision.TheVariants as decisions
use Rattle.osc_life.specs.declared.outcome.Outcome.{Outcome}
use Rattle.osc_life.specs.declared.outcome.Outcome.TheVariants as outcomes
use Rattle.osc_life.specs.declared.outcome.Taken.{Taken}
use Rattle.osc_fresh.specs.declared.error_replies.ErrorReplies.{ErrorReplies}
use Rattle.osc_fresh.specs.declared.error_replies.ErrorReplies.TheVariants.{Silent, NoLonger, Any}

-- so many bytes of an error are sent, of a reply of this length to a datagram of that (own rule)
abbrev pub said : ErrorReplies → ℕ → ℕ → ℕ
said Silent reply asked = 0
said NoLonger reply asked = if nat_le reply asked then reply else 0
said Any reply asked = reply

-- the reply has protection: it is a challenge (RFC 8613, 8.2 and B.1.2)
abbrev pub is_sealed : Decision → Bool
is_sealed (decisions.Challenge echo issued) = true
is_sealed decision = false

-- so many bytes are sent after a decision about a datagram of this length (RFC 8613, 8.2; own rule: none, or none that is longer)
abbrev pub sent_for : ErrorReplies → Decided → ℕ → ℕ
sent_for errors d asked = if is_sealed d.decision then d.reply else said errors d.reply asked

-- the same of an outcome (RFC 8613, 8.2 and B.1.2)
abbrev pub shows_sealed : Outcome → Bool
shows_sealed (outcomes.Challenge echo issued) = true
shows_sealed outcome = false

-- so many bytes are sent after such an outcome (RFC 8613, 8.2; own rule: none, or none that is longer)
abbrev pub sent_after : ErrorReplies → Taken → ℕ → ℕ
sent_after errors t asked = if shows_sealed t.outcome then t.reply else said errors t.reply asked
