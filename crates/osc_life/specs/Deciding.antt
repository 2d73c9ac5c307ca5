-- How the code is seen: what a server decides about a datagram before it lends slices of it. slots are the places of the table, d is the
-- datagram as it came, new the datagram as it was left.
use Rattle.std.specs.Prelude.{◌≡◌, ℕ, List, Option, Some, slice_get}
use Rattle.osc_context.specs.Views.{as_server}
use Rattle.osc_protect.specs.Protection.{requests}
use Rattle.osc_protect.specs.Stages.{Decrypts}
use Rattle.osc_protect.specs.StageViews.{CanLendRequest, OpensRequestAfter}
use Rattle.osc_protect.specs.Views.{context_of}
use Rattle.osc_protect.specs.declared.opened.Opened.{Opened}
use Rattle.osc_protect.specs.declared.stages.DecryptedRequest.{DecryptedRequest}
use Rattle.osc_protect.specs.declared.stages.ReadRequest.{ReadRequest}
use Rattle.osc_life.specs.declared.decision.Decision.{Decision}
use Rattle.osc_life.specs.declared.decision.Decision.TheVariants as decisions
use Rattle.osc_life.specs.declared.outcome.Outcome.{Outcome}
use Rattle.osc_life.specs.declared.slot.Slot.{Slot}
use Rattle.osc_observe.specs.Received.{Received}
use Rattle.osc_life.specs.ServerHistory as server
use Rattle.osc_life.specs.Views.{Shows, values_of}
use Rattle.osc_observe.specs.Views.{received_of}

-- what was read from the datagram as it was left says this (RFC 8613, 8.2)
abbrev pub ReadsAs : ReadRequest → List ℕ → Received → Type 0
ReadsAs x new r = (of : DecryptedRequest) × CanLendRequest new of x × ((o : Opened) → OpensRequestAfter new of o → received_of o ≡ r)

-- the decision can be shown from the datagram as it was left (how the code is seen)
abbrev pub CanShow : Decision → List ℕ → Type 0
CanShow (decisions.Deliver x ticket) new = (of : DecryptedRequest) × CanLendRequest new of x
CanShow decision new = Unit {0}

-- the decision is this answer, with the delivered message as it can be read from the datagram that was left (how the code is seen)
abbrev pub Decides : Decision → List ℕ → server.Answer → Type 0
Decides (decisions.Malformed e) new (server.Malformed fault place) = (e.fault ≡ fault) × (e.place ≡ place)
Decides decisions.NotRequest new server.NotRequest = Unit {0}
Decides decisions.Plain new server.Plain = Unit {0}
Decides decisions.Undecodable new server.Undecodable = Unit {0}
Decides decisions.NoContext new server.NoContext = Unit {0}
Decides decisions.Replay new server.Replay = Unit {0}
Decides decisions.BadTag new server.BadTag = Unit {0}
Decides decisions.BadInner new (server.BadInner i n) = Unit {0}
Decides (decisions.Challenge echo issued) new (server.Challenge i n given moment) = (echo ≡ given) × (issued ≡ moment)
Decides decisions.SequenceExhausted new server.SequenceExhausted = Unit {0}
Decides (decisions.Deliver x t) new (server.Deliver received ticket) = ReadsAs x new received × (values_of t ≡ ticket)
Decides decision new answer = ⊥

-- the outcome shows the decision, read from the datagram as it was left (how the code is seen)
abbrev pub ShowsDecided : Decision → List ℕ → Outcome → Type 0
ShowsDecided decision new outcome = (answer : server.Answer) → Decides decision new answer → Shows outcome answer

-- under a context of the table, the payload became the plaintext, followed by the old tag; all else stayed (RFC 8613, 8.2)
abbrev pub IsOpenedIn : List (Option Slot) → List ℕ → List ℕ → Type 0
IsOpenedIn slots d new = (i : ℕ) × (s : Slot) × (slice_get slots i ≡ Some (Some s)) × (n : ℕ) × (len : ℕ)
    × Decrypts (requests (as_server (context_of s.context))) d n len new

-- what is left of the datagram: it is opened in the rows from a bad plaintext on, and as it came in the others (RFC 8613, 8.2)
abbrev pub Leaves : List (Option Slot) → Decision → List ℕ → List ℕ → Type 0
Leaves slots (decisions.Malformed e) d new = new ≡ d
Leaves slots decisions.NotRequest d new = new ≡ d
Leaves slots decisions.Plain d new = new ≡ d
Leaves slots decisions.Undecodable d new = new ≡ d
Leaves slots decisions.NoContext d new = new ≡ d
Leaves slots decisions.Replay d new = new ≡ d
Leaves slots decisions.BadTag d new = new ≡ d
Leaves slots decision d new = IsOpenedIn slots d new
