-- To be believed: what `run` prints for a peer, and its input (RFC 8613, 3.1, 7.2.1, 7.4, 8.1 to 8.4 and B.1; own rule: the lines). r says what the peer's
-- record tells, keeper is the record before the call, g what the context is derived from, server and client are that context for both roles.
use Rattle.std.specs.Prelude.{◌≡◌, ◌≤◌, ℕ, [], List}
use Rattle.osc_context.specs.SecurityContext.{SecurityContext}
use Rattle.osc_context.specs.declared.record_keeper.RecordKeeper as keeper
use Rattle.osc_client.specs.ClientHistory.{New}
use Rattle.osc_kept_ends.specs.KeptServing.{started}
use Rattle.osc_kept_ends.specs.Numbering.{Allowed, Load, nothing_drawn}
use Rattle.osc_kept_ends.specs.Peering.{IsPeerStart}
use Rattle.osc_kept_ends.specs.PeerOwning.{own_in}
use Rattle.osc_kept_ends.specs.Refusals.{RefusesPeer}
use Rattle.osc_life.specs.ServerHistory.{Begin, Then, Add, Added}
use Rattle.osc_life.specs.declared.start.Start.{Start}
use Rattle.osc_peer_runs.specs.PeerRuns.{PeerState, RunStep, no_echoes}
use Rattle.osc_text.specs.Asking.{places}
use Rattle.osc_text.specs.Contexts.{agreed_client, agreed_server, InContext, Told}
use Rattle.osc_text.specs.InputText.{HasBadLineOf, InputText}
use Rattle.osc_text.specs.KeptText.{FrontText, LineOf, StartText}
use Rattle.osc_text.specs.PeerEvents.{PeerInput, SpellsPeer}
use Rattle.osc_text.specs.PeerLog.{peer_entry_text}
use Rattle.osc_text.specs.PeerSeen.{IsRoomyPeer, peer_seen}
use Rattle.osc_text.specs.declared.agreed.Agreed.{Agreed}
use Rattle.osc_text.specs.declared.peering.Peering.{Peering}

-- an event and the line of its entry, which is a step of a run; n is how many pending requests there is room for (RFC 8613, 7.2.1, 7.4, 8.1 to 8.4 and B.1)
abbrev pub PeerLine : {R : Type 0} {r : keeper.Ghosts R} → ℕ → PeerState r → PeerInput → List ℕ → PeerState r → Type 0
PeerLine n s event line t = LineOf (RunStep n) peer_seen IsRoomyPeer peer_entry_text s event line t

-- a peer that started at the two numbers that were loaded: what the record holds of received requests didn't sink, there is no ticket, no Echo value is remembered, and nothing is pending
-- (RFC 8613, 7.4, 7.5, B.1.1 and B.1.2)
abbrev pub StartsPeer : {R : Type 0} (r : keeper.Ghosts R) → (server client : SecurityContext) → Peering → R → PeerState r → Type 0
StartsPeer {R} r server client peering keeper s = (sender : ℕ) × (received : ℕ) × (mid : R) × (start : Start) × r.loads keeper sender received mid
    × (r.received_floor keeper ≤ received) × (r.received_floor keeper ≤ r.received_floor s.source.keeper) × IsPeerStart peering.ahead start sender received
    × (own_in s.source ≡ started start sender (nothing_drawn (r.sender_floor keeper))) × Allowed (Load sender) (nothing_drawn (r.sender_floor keeper))
    × (r.failures s.source.keeper ≡ r.failures keeper)
    × (s.served ≡ Then Begin (Add server start peering.window 1) (Added 0)) × (s.asked ≡ New client sender peering.life_ms) × (s.tickets ≡ []) × (s.echoes ≡ no_echoes)

-- what `run` prints for a peer: one line for each event of the input (RFC 8613, 7.2.1, 7.4, 8.1 to 8.4 and B.1)
abbrev pub PeerText : {R : Type 0} (r : keeper.Ghosts R) → Agreed → Peering → R → List ℕ → Told
PeerText r g peering keeper input = InContext g.params (StartText (RefusesPeer r.loads r.failures keeper) (StartsPeer r (agreed_server g) (agreed_client g) peering keeper)
    (λ s. InputText SpellsPeer (PeerLine places) s input))

-- the text whose front `run` prints if memory is refused: the line of a refusal, or one line for each of the first events of the input (own rule)
abbrev pub PeerFront : {R : Type 0} (r : keeper.Ghosts R) → Agreed → Peering → R → List ℕ → Told
PeerFront r g peering keeper input = InContext g.params (StartText (RefusesPeer r.loads r.failures keeper) (StartsPeer r (agreed_server g) (agreed_client g) peering keeper)
    (λ s. FrontText SpellsPeer (PeerLine places) s input))

-- the context is derived, the peer started, and the line with this number, counted from 1, is the first that spells no event (own rule)
abbrev pub HasBadPeerLine : {R : Type 0} (r : keeper.Ghosts R) → Agreed → Peering → R → List ℕ → ℕ → Type 0
HasBadPeerLine r g peering keeper = HasBadLineOf g.params (StartsPeer r (agreed_server g) (agreed_client g) peering keeper) SpellsPeer
