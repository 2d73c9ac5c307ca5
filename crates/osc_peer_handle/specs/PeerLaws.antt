-- To be believed: what holds of a peer in bytes, whatever its history is, however its tickets are copied or altered: the contracts of laws.rt. p are the bytes, o its
-- numbers, h is the history of its server, a of its client, requests are its pending requests, room is how many of them there is room for.
use Rattle.std.specs.Prelude.{◌≡◌, ℕ, List, false}
use Rattle.osc_client.specs.ClientHistory as asked
use Rattle.osc_laws.specs.ClientLaws.{RequestNumbersAre, RequestsHaveTwoNonces, sealed}
use Rattle.osc_laws.specs.Laws.{HaveTwoNonces, Pairwise, texts}
use Rattle.osc_laws.specs.Plainness.{ClientIsPlain, ServerIsPlain}
use Rattle.osc_laws.specs.Waiting.{AreFirst}
use Rattle.osc_life.specs.ServerHistory as served
use Rattle.osc_context_handle.specs.ContextBytes.{server_in}
use Rattle.osc_kept_ends.specs.Numbering.{Own}
use Rattle.osc_peer_handle.specs.PeerBytes.{AsksBehind, ServesBehind}
use Rattle.osc_peer_handle.specs.declared.peer_handle.PeerHandle.{PeerHandle}

-- each reply to a request that waits is the first to it: so a request is answered at most once as long as it doesn't lie far back (RFC 8613, 8.3)
abbrev pub PeerAnswersOnce : Type 0
PeerAnswersOnce = (p : PeerHandle) (o : Own) (h : served.History) → ServesBehind p o h → AreFirst h

-- no two texts that it sealed to answer, in one life, share a nonce (RFC 8613, 5.2)
abbrev pub PeerAnswersApart : Type 0
PeerAnswersApart = (p : PeerHandle) (o : Own) (h : served.History) → ServesBehind p o h → Pairwise HaveTwoNonces (texts h)

-- no two of its requests, in one life, share a nonce (RFC 8613, 5.2)
abbrev pub PeerRequestsApart : Type 0
PeerRequestsApart = (p : PeerHandle) (requests : List asked.Asked) (room : ℕ) (o : Own) (a : asked.History) → AsksBehind p requests room o a → Pairwise (RequestsHaveTwoNonces (asked.context a)) (sealed a)

-- the numbers of its requests rise, and are consecutive where none was passed over (RFC 8613, 7.2.1)
abbrev pub PeerNumbersRise : Type 0
PeerNumbersRise = (p : PeerHandle) (requests : List asked.Asked) (room : ℕ) (o : Own) (a : asked.History) → AsksBehind p requests room o a → RequestNumbersAre a

-- without Observe, both roles are as they were before there was Observe (RFC 8613, 4.1.3.5)
pub record PeersArePlain : Type 0 where
  pub serving : (p : PeerHandle) (o : Own) (h : served.History) → ServesBehind p o h → (server_in p.server.server.slot.context).features.observe ≡ false → ServerIsPlain h
  pub asking : (p : PeerHandle) (requests : List asked.Asked) (room : ℕ) (o : Own) (a : asked.History) → AsksBehind p requests room o a → (server_in p.server.server.slot.context).features.observe ≡ false → ClientIsPlain a
