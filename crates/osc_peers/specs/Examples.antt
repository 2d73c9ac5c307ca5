-- To be believed: that the premises on two devices can be met, and that one source of numbers can't be left out (RFC 8613, 3.1, 5.2, 7.2.1 and B.1; RFC 9175, 2.3):
-- lists of what happens at both, over any datagrams that their tables answer this way. s is the security context as the near device asks under it, n is how many
-- pending requests a client has room for, x is what the starts refer to, q and lost are requests, d and e are dialogues, c is one through a challenge, w is what
-- happened before.
use Rattle.std.specs.Prelude.{ℕ, List, [], true}
use Rattle.osc_context.specs.SecurityContext.{SecurityContext, IsUsable}
use Rattle.osc_life.specs.declared.start.Start.TheVariants as starts
use Rattle.osc_client.specs.ClientHistory as client
use Rattle.osc_observe.specs.Received.{Received}
use Rattle.osc_life.specs.ServerHistory as server
use Rattle.osc_kept.specs.Examples.{Answered, Asked, CarriesValue, Ends, ticket_of}
use Rattle.osc_kept.specs.Premises.{Answers, AtEach, IsKept}
use Rattle.osc_kept.specs.World.{Event, Client, Server, ClientStarts, ServerStarts, Draws, Reserves, AtClient, AtServer}
use Rattle.osc_peers.specs.Peers.{Peers, Nothing, More, Forth, Back, AreHonestPeers, ArePeers, NoncesApart, back, forth}
use Rattle.osc_peers.specs.Roles.{turned}

-- a request, the fresh Echo value that is passed in with it, and what is delivered of it; its response, and what is delivered of that (own rule)
pub record Dialogue : Type 0 where
  pub request : Asked
  pub echo : List ℕ
  pub delivered : Received
  pub response : Answered
  pub heard : Received

-- a request that is challenged with a fresh Echo value; the challenge, and what is delivered of it; the request with that value, and what is delivered of that (RFC 8613, B.1.2)
pub record Challenged : Type 0 where
  pub request : Asked
  pub echo : List ℕ
  pub reply : List ℕ
  pub heard : Received
  pub again : Asked
  pub delivered : Received

-- ---- what happens at an end

-- the client seals this request (own rule)
abbrev pub asking : Asked → Event
asking q = AtClient (client.Request 0 q.plain q.room) (client.Sent q.bytes)

-- the server takes this request, and delivers it in that life, as the one of this number (own rule)
abbrev pub delivering : ℕ → ℕ → Received → List ℕ → Asked → Event
delivering life n r echo q = AtServer (server.Datagram 0 echo 0 q.bytes) (server.Took (server.Deliver r (ticket_of life n r)) [])

-- the server replies to it, with a Partial IV of its own (RFC 8613, 8.3)
abbrev pub replying : ℕ → ℕ → Received → Answered → Event
replying life n r y = AtServer (server.Reply (ticket_of life n r) true 0 y.plain y.room) (server.Replied y.bytes)

-- the client takes this datagram, and it is the response to the request of this number (RFC 8613, 8.4)
abbrev pub hearing : ℕ → Received → List ℕ → Event
hearing n v a = AtClient (client.Datagram 0 a) (client.Took (client.Deliver v n))

-- the server takes the request of this number, and challenges it with the fresh Echo value (RFC 8613, B.1.2)
abbrev pub challenging : ℕ → List ℕ → Asked → List ℕ → Event
challenging n echo q reply = AtServer (server.Datagram 0 echo 0 q.bytes) (server.Took (server.Challenge 0 n echo 0) reply)

-- the client passes over one number (RFC 8613, 7.2.1)
abbrev pub client_passes : Event
client_passes = AtClient (client.Skip 1) client.Skipped

-- the server passes over one number (RFC 8613, 7.2.1)
abbrev pub server_passes : Event
server_passes = AtServer (server.Skip 0 1) server.Skipped

-- ---- what happens at both devices

-- both ends of both devices start at 0, and then each device has a number in hand (RFC 8613, B.1.1)
abbrev pub both_start : Ends → Peers
both_start x =
    More (More (More (More (More (More Nothing (Back (ServerStarts (starts.Fresh x.zero_number) x.size))) (Forth (ClientStarts 0 x.life_ms))) (Forth (Reserves Client)))
    (Forth (ServerStarts (starts.Fresh x.zero_number) x.size))) (Back (ClientStarts 0 x.life_ms))) (Forth (Reserves Server))

-- the near device asks with 0, and the far one replies with 0 of its own (RFC 8613, 8.1 to 8.4)
abbrev pub near_asks : Dialogue → Peers → Peers
near_asks d w =
    More (More (More (More w (Forth (asking d.request))) (Forth (delivering 0 0 d.delivered d.echo d.request))) (Forth (replying 0 0 d.delivered d.response)))
    (Forth (hearing 0 d.heard d.response.bytes))

-- the client of the far device passes over the number of that reply, draws, and asks with 1; the server of the near device passes over the number of its request,
-- draws, and replies with 1 of its own (RFC 8613, 7.2.1)
abbrev pub far_asks : Dialogue → Peers → Peers
far_asks d w =
    More (More (More (More (More (More (More (More w (Back client_passes)) (Back (Draws Client))) (Back (asking d.request))) (Back (delivering 0 1 d.delivered d.echo d.request)))
    (Back server_passes)) (Back (Draws Server))) (Back (replying 0 1 d.delivered d.response))) (Back (hearing 1 d.heard d.response.bytes))

-- both devices are restarted in both roles at what their keepers hold, and then each has a number in hand (RFC 8613, B.1.1)
abbrev pub both_restart : Peers → Peers
both_restart w =
    More (More (More (More (More (More w (Forth (AtClient (client.Restart 64) client.Restarted))) (Back (AtServer (server.Restart 0 64) server.Restarted)))
    (Back (AtClient (client.Restart 64) client.Restarted))) (Forth (AtServer (server.Restart 0 64) server.Restarted))) (Forth (Reserves Client))) (Back (Reserves Client))

-- a request of the near device, with 64, is lost; the far one asks with 64, and the server of the near one passes over 64, draws, and challenges that request with 65;
-- the far device draws, and asks again with the value, with 65; that is delivered (RFC 8613, B.1.2)
abbrev pub through_a_challenge : Asked → Challenged → Peers → Peers
through_a_challenge lost c w =
    More (More (More (More (More (More (More (More (More w (Forth (asking lost))) (Back (asking c.request))) (Back server_passes)) (Back (Draws Server)))
    (Back (challenging 64 c.echo c.request c.reply))) (Back (hearing 64 c.heard c.reply))) (Back (Draws Client))) (Back (asking c.again)))
    (Back (delivering 1 65 c.delivered c.echo c.again))

-- all of this, one after the other (own rule)
abbrev pub both_ask : Ends → Dialogue → Dialogue → Asked → Challenged → Peers
both_ask x d e lost c = through_a_challenge lost c (both_restart (far_asks e (near_asks d (both_start x))))

-- if the ends answer in this way, the list meets all premises, those on who sealed in either form (RFC 8613, 3.1, 7.2.1 and B.1)
abbrev pub PeerPremisesCanBeMet : Type 0
PeerPremisesCanBeMet = (n : ℕ) (s : SecurityContext) (x : Ends) (d e : Dialogue) (lost : Asked) (c : Challenged) → IsUsable s
    → (CarriesValue e.request c.echo → ⊥) → (CarriesValue c.request c.echo → ⊥)
    → AtEach (Answers n s) (forth (both_ask x d e lost c)) → AtEach (Answers n (turned s)) (back (both_ask x d e lost c))
    → ArePeers n s (both_ask x d e lost c) × AreHonestPeers n s (both_ask x d e lost c)

-- ---- one source of numbers can't be left out

-- each end of the near device has numbers of its own, from 0 on: its client asks with 0, and its server replies to a request with 0 of its own (RFC 8613, 7.2.1)
abbrev pub two_sources : Ends → Asked → Dialogue → Peers
two_sources x q e =
    More (More (More (More (More (More (More (More (More (More Nothing (Forth (ClientStarts 0 x.life_ms))) (Forth (Reserves Client))) (Forth (asking q)))
    (Back (ServerStarts (starts.Fresh x.zero_number) x.size))) (Back (Reserves Server))) (Back (ClientStarts 0 x.life_ms))) (Back (Reserves Client))) (Back (asking e.request)))
    (Back (delivering 0 0 e.delivered e.echo e.request))) (Back (replying 0 0 e.delivered e.response))

-- each exchange by itself meets all premises on two ends, with kept numbers, and the near device seals twice under one nonce (RFC 8613, 5.2 and 7.2.1)
abbrev pub OneSourceIsNeeded : Type 0
OneSourceIsNeeded = (n : ℕ) (s : SecurityContext) (x : Ends) (q : Asked) (e : Dialogue) → IsUsable s → AtEach (Answers n s) (forth (two_sources x q e))
    → AtEach (Answers n (turned s)) (back (two_sources x q e))
    → IsKept n s (forth (two_sources x q e)) × IsKept n (turned s) (back (two_sources x q e)) × (NoncesApart s (forth (two_sources x q e)) (back (two_sources x q e)) → ⊥)
