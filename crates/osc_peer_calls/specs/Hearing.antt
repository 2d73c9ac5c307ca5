-- To be believed: the Echo value that a client heard last, within the list of what happens at two devices (RFC 8613, 8.4; RFC 9175, 2.3). w is the list before, v
-- the list after, s the context as the device asks under it, remembered is the value, if there is one, new the peer after.
use Rattle.std.specs.Prelude.{◌≡◌, ℕ, List, Option, Some}
use Rattle.osc_coap.specs.Interpreted.{interpreted}
use Rattle.osc_coap.specs.OptionNumbers as options
use Rattle.osc_context.specs.SecurityContext.{SecurityContext}
use Rattle.osc_context.specs.declared.record_keeper.RecordKeeper as keeper
use Rattle.osc_client.specs.ClientHistory as client
use Rattle.osc_client.specs.Views.{ClientShows}
use Rattle.osc_client.specs.declared.client_outcome.ClientOutcome.{ClientOutcome}
use Rattle.osc_kept_ends.specs.declared.kept_peer.KeptPeer.{KeptPeer}
use Rattle.osc_kept.specs.World.{AtClient, Has, Response, heard}
use Rattle.osc_peers.specs.Peers.{PeerEvent, Forth, Peers, More, forth}
use Rattle.osc_peer_calls.specs.GoingOn.{Adds, client_skip}
use Rattle.osc_peer_calls.specs.PeerCalls.{After}

-- a response with this Echo value was delivered to the near device, in whatever life (RFC 9175, 2.3)
abbrev pub WasHeard : Peers → Option (List ℕ) → Type 0
WasHeard w remembered = (value : List ℕ) → remembered ≡ Some value → (x : Response) × Has x (heard (forth w)) × (interpreted options.echo x.message.options ≡ Some value)

-- a datagram that may be a response is added, and the value that is remembered then was heard in the list after it (RFC 8613, 8.4; RFC 9175, 2.3)
abbrev pub HearsEcho : {R : Type 0} {r : keeper.Ghosts R} {N : ℕ} → SecurityContext → Peers → ℕ → List ℕ → ClientOutcome → Option (List ℕ) → KeptPeer R N r → Type 0
HearsEcho s w now d outcome remembered new = (answer : client.Answer) × ClientShows outcome answer
    × ((v : Peers) × Adds client_skip w (Forth (AtClient (client.Datagram now d) (client.Took answer))) v × After s w v new × WasHeard v remembered)

-- what was heard stays so, whatever happens then (own rule)
abbrev pub StaysHeard : Type 0
StaysHeard = (w : Peers) (event : PeerEvent) (remembered : Option (List ℕ)) → WasHeard w remembered → WasHeard (More w event) remembered
