-- For the proofs: what a server answers to a message that has no request head. e is the reason.
use Rattle.std.specs.Prelude.{◌≡◌, ℕ, List, []}
use Rattle.osc_protect.specs.declared.head_error.NoHead.{NoHead}
use Rattle.osc_protect.specs.declared.head_error.NoHead.TheVariants.{NotThatKind, NoOscore, Undecodable}
use Rattle.osc_life.specs.Replies.{SaysError, undecodable}
use Rattle.osc_life.specs.ServerHistory as server

-- the answer to such a message (RFC 8613, 8.2)
abbrev pub head_answer : NoHead → server.Answer
head_answer NotThatKind = server.NotRequest
head_answer NoOscore = server.Plain
head_answer Undecodable = server.Undecodable

-- the reply: an error if the head can't be decoded, else none (own rule)
abbrev pub HeadReply : NoHead → List ℕ → ℕ → List ℕ → Type 0
HeadReply NotThatKind d mid reply = reply ≡ []
HeadReply NoOscore d mid reply = reply ≡ []
HeadReply Undecodable d mid reply = SaysError d mid undecodable reply
