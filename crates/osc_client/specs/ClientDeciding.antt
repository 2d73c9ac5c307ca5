-- How the code is seen: what a client decides about a datagram before it lends slices of it. h is a history, c the client or what it is made of, d the
-- datagram as it came, new the datagram as it was left.
use Rattle.std.specs.Prelude.{◌≡◌, ◌⊎◌, ℕ, Bool, List, Contains, Option, Some, None, max, slice_get, if◌then◌else◌}
use Rattle.osc_coap.specs.Inner.{InnerParts}
use Rattle.osc_context.specs.SecurityContext.{SecurityContext}
use Rattle.osc_context.specs.Views.{number_of}
use Rattle.osc_protect.specs.Protection.{Protects, responses_to}
use Rattle.osc_protect.specs.Stages.{Decrypts}
use Rattle.osc_protect.specs.StageViews.{CanLendResponse, DecryptsResponse, OpensResponseAfter}
use Rattle.osc_protect.specs.declared.opened.Opened.{Opened}
use Rattle.osc_protect.specs.declared.stages.DecryptedResponse.{DecryptedResponse}
use Rattle.osc_protect.specs.declared.stages.ReadResponse.{ReadResponse}
use Rattle.osc_client.specs.declared.client.Client.{Client}
use Rattle.osc_client.specs.declared.client_outcome.ClientOutcome.{ClientOutcome}
use Rattle.osc_client.specs.declared.decision.ClientDecision.{ClientDecision}
use Rattle.osc_client.specs.declared.decision.ClientDecision.TheVariants as decisions
use Rattle.osc_client.specs.declared.pending.Found.{Found}
use Rattle.osc_client.specs.Agrees.{ClientAgrees, ClientParts, PartsAgree, client_parts}
use Rattle.osc_client.specs.ClientAnswer.{ClientAnswer, IsAnswerTo, ResponseAnswer, SaysAwaited, awaited, continues}
use Rattle.osc_client.specs.ClientHistory as client
use Rattle.osc_client.specs.ClientHistory.{after_place}
use Rattle.osc_observe.specs.Observing.{place_of}
use Rattle.osc_client.specs.declared.pending.Wait.{Wait}
use Rattle.osc_observe.specs.Received.{Received}
use Rattle.osc_client.specs.Views.{ClientShows}
use Rattle.osc_observe.specs.Views.{received_of}

-- what was read from the datagram as it was left says this (RFC 8613, 8.4)
abbrev pub ReadsAs : ReadResponse → List ℕ → Received → Type 0
ReadsAs x new r = (of : DecryptedResponse) × CanLendResponse new of x × ((o : Opened) → OpensResponseAfter new of o → received_of o ≡ r)

-- a fact about the Partial IV, or none, and the message of what was read from the datagram as it was left (how the code is seen)
abbrev pub OfWhatWasRead : List ℕ → ReadResponse → (Option ℕ → InnerParts → Type 0) → Type 0
OfWhatWasRead new x holds = (of : DecryptedResponse) (s : SecurityContext) (r : Bool) (n : ℕ) (d : List ℕ) (own : Option ℕ) (m : InnerParts) → CanLendResponse new of x
    → DecryptsResponse (responses_to s r n) d of new → Protects (responses_to s r n) own m d → holds own m

-- what a request waits for after a response, if the response continues the wait (RFC 8613, 7.4.1)
abbrev pub wait_after : Wait → Option ℕ → InnerParts → Option Wait
wait_after wait own m = if continues wait m then Some (after_place (place_of own) wait) else None

-- the decision can be shown from the datagram as it was left (how the code is seen)
abbrev pub CanShow : ClientDecision → List ℕ → Type 0
CanShow (decisions.Notified x number) new = (of : DecryptedResponse) × CanLendResponse new of x
CanShow (decisions.Deliver x number) new = (of : DecryptedResponse) × CanLendResponse new of x
CanShow decision new = Unit {0}

-- the decision is this answer, with the delivered message as it can be read from the datagram that was left (how the code is seen)
abbrev pub Decides : ClientDecision → List ℕ → client.Answer → Type 0
Decides (decisions.Malformed e) new (client.Malformed fault place) = (e.fault ≡ fault) × (e.place ≡ place)
Decides decisions.NotResponse new client.NotResponse = Unit {0}
Decides decisions.UnknownToken new client.UnknownToken = Unit {0}
Decides decisions.Unprotected new client.Unprotected = Unit {0}
Decides decisions.Undecodable new client.Undecodable = Unit {0}
Decides decisions.BadTag new client.BadTag = Unit {0}
Decides decisions.BadInner new client.BadInner = Unit {0}
Decides decisions.Old new client.Old = Unit {0}
Decides (decisions.Notified x piv) new (client.Notified received number) = ReadsAs x new received × (number_of piv ≡ number)
Decides (decisions.Deliver x piv) new (client.Deliver received number) = ReadsAs x new received × (number_of piv ≡ number)
Decides decision new answer = ⊥

-- the outcome shows the decision, read from the datagram as it was left (how the code is seen)
abbrev pub ClientShowsDecided : ClientDecision → List ℕ → ClientOutcome → Type 0
ClientShowsDecided decision new outcome = (answer : client.Answer) → Decides decision new answer → ClientShows outcome answer

-- for a response to a pending request, the payload became the plaintext, followed by the old tag; all else stayed (RFC 8613, 8.4)
abbrev pub IsOpenedAmong : ClientParts → List ℕ → List ℕ → Type 0
IsOpenedAmong c d new = (r : client.Asked) × Contains c.pending r × (own : Option ℕ) × (len : ℕ) × Decrypts (awaited c.context r) d own len new

-- what is left of the datagram: it is opened in the rows from a bad plaintext on, and as it came in the others; an old one is one or the other (RFC 8613, 8.4)
abbrev pub LeavesAmong : ClientParts → ClientDecision → List ℕ → List ℕ → Type 0
LeavesAmong c decisions.BadInner d new = IsOpenedAmong c d new
LeavesAmong c decisions.Old d new = (new ≡ d) ⊎ IsOpenedAmong c d new
LeavesAmong c (decisions.Notified x number) d new = IsOpenedAmong c d new
LeavesAmong c (decisions.Deliver x number) d new = IsOpenedAmong c d new
LeavesAmong c decision d new = new ≡ d

-- the same of a client (RFC 8613, 8.4)
abbrev pub LeavesBy : {N : ℕ} → Client N → ClientDecision → List ℕ → List ℕ → Type 0
LeavesBy c decision d new = LeavesAmong (client_parts c) decision d new

-- the decision about a datagram is the answer after the history, and what the client is made of agrees with both (how the code is seen)
pub record DecidesAmong (h : client.History) (now : ℕ) (d : List ℕ) (result : ClientDecision) (new : List ℕ) (c : ClientParts) : Type 0 where
  pub answer : client.Answer
  pub row : ResponseAnswer h (max (client.clock h) now) d answer
  pub decides : Decides result new answer
  pub agrees : PartsAgree c (client.Then h (client.Datagram now d) (client.Took answer))

-- the decision about a datagram is the answer after the history, and the client agrees with both (how the code is seen)
pub record ClientDecidesTo {N : ℕ} (h : client.History) (now : ℕ) (d : List ℕ) (result : ClientDecision) (new : List ℕ) (c : Client N) : Type 0 where
  pub answer : client.Answer
  pub row : ClientAnswer N h (client.Datagram now d) (client.Took answer)
  pub decides : Decides result new answer
  pub agrees : ClientAgrees c (client.Then h (client.Datagram now d) (client.Took answer))

-- the outcome shows the answer after the history, and the client agrees with both (how the code is seen)
pub record ClientTakes {N : ℕ} (h : client.History) (now : ℕ) (d : List ℕ) (outcome : ClientOutcome) (c : Client N) : Type 0 where
  pub answer : client.Answer
  pub row : ClientAnswer N h (client.Datagram now d) (client.Took answer)
  pub shows : ClientShows outcome answer
  pub agrees : ClientAgrees c (client.Then h (client.Datagram now d) (client.Took answer))

-- the request with this token that stands at a place of the table, with its number and what it waits for (RFC 7252, 5.3.2)
abbrev pub IsFoundIn : List client.Asked → List ℕ → Found → Type 0
IsFoundIn requests token f = (r : client.Asked) × (slice_get requests f.place ≡ Some r) × (r.token ≡ token) × (r.number ≡ number_of f.number) × (r.wait ≡ f.wait)

-- the datagram answers this pending request, which is in a place of the table and waits for it, and was decrypted as a response to it (RFC 8613, 8.4)
pub record IsDecryptedFor (h : client.History) (now : ℕ) (d : List ℕ) (x : DecryptedResponse) (f : Found) (new : List ℕ) (c : ClientParts) : Type 0 where
  pub agrees : PartsAgree c (client.Then h (client.Advance now) client.Advanced)
  pub to : client.Asked
  pub at_place : slice_get c.pending f.place ≡ Some to
  pub number_is : to.number ≡ number_of f.number
  pub wait_is : to.wait ≡ f.wait
  pub answers : IsAnswerTo h (max (client.clock h) now) d to
  pub awaits : SaysAwaited (client.context h) to d
  pub decrypts : DecryptsResponse (awaited (client.context h) to) d x new
