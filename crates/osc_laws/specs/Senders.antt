-- To be believed: that no context of a server comes with the Sender Key of another, and what then holds for its texts (RFC 8613, 3.3). h is a
-- history, i the index of a context, s a security context that a server sends with.
use Rattle.std.specs.Prelude.{◌≡◌, ◌≢◌, ◌⊎◌, ℕ, Some}
use Rattle.osc_context.specs.SecurityContext.{SecurityContext}
use Rattle.osc_context.specs.Senders.{HaveSameSender}
use Rattle.osc_laws.specs.Laws.{AllAnswers, Pairwise, Text, nonce_of_text, texts}
use Rattle.osc_endpoint.specs.ServerAnswer.{HasSameSender}
use Rattle.osc_endpoint.specs.Tickets.{TakesTickets}
use Rattle.osc_life.specs.Life.{Life}
use Rattle.osc_life.specs.ServerHistory.{History, Begin, Then, Add, Added, Replace, Replaced, life}
use Rattle.osc_laws.specs.Waiting.{AnswersDue}

-- this context was at that index, until another one took its place (own rule)
abbrev pub WasReplacedAt : History → ℕ → SecurityContext → Type 0
WasReplacedAt Begin i s = ⊥
WasReplacedAt (Then h (Replace context by start size) Replaced) i s = ((i ≡ context) × (of : Life) × (life h i ≡ Some of) × (of.context ≡ s)) ⊎ WasReplacedAt h i s
WasReplacedAt (Then h event entry) i s = WasReplacedAt h i s

-- a context whose place another one took had the same Sender Key as this one (RFC 8613, 3.3)
abbrev pub HadSameSender : History → SecurityContext → Type 0
HadSameSender h s = (i : ℕ) × (t : SecurityContext) × WasReplacedAt h i t × HaveSameSender t s

-- no context was added with the Sender Key of one that was there, and none came that had the Sender Key of one whose place another had taken (RFC 8613, 3.3)
abbrev pub SendersDiffer : History → Type 0
SendersDiffer Begin = Unit {0}
SendersDiffer (Then h (Add s start size places) (Added index)) = SendersDiffer h × (HasSameSender h s → ⊥) × (HadSameSender h s → ⊥)
SendersDiffer (Then h (Replace i s start size) Replaced) = SendersDiffer h × (HadSameSender h s → ⊥)
SendersDiffer (Then h event entry) = SendersDiffer h

-- two texts have different keys or different nonces, unless they are of two lives of one context at one index (RFC 8613, 5.2)
abbrev pub HaveTwoKeysOrNonces : Text → Text → Type 0
HaveTwoKeysOrNonces t u = (t.context ≡ u.context → t.keys ≡ u.keys → t.life ≡ u.life) → t.keys.server_key ≡ u.keys.server_key → nonce_of_text t ≢ nonce_of_text u

-- this holds for any two texts that a server seals, of one life of a context or of two contexts, if each reply takes a ticket (RFC 8613, 5.2)
abbrev pub ServerKeysOrNoncesOnce : Type 0
ServerKeysOrNoncesOnce = (h : History) → AllAnswers h → SendersDiffer h → TakesTickets h → Pairwise HaveTwoKeysOrNonces (texts h)

-- it also holds if each reply was due, whatever ticket it was by (RFC 8613, 5.2)
abbrev pub WaitingKeysOrNoncesOnce : Type 0
WaitingKeysOrNoncesOnce = (h : History) → AllAnswers h → SendersDiffer h → AnswersDue h → Pairwise HaveTwoKeysOrNonces (texts h)
