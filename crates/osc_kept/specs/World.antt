-- To be believed: two ends of one security context over all their lives (RFC 8613, 7.2.1, 7.4 and B.1): one list of what happened at both, in the
-- order in which it happened, each event with what came of it. w is a world, s the security context. A save that fails or is stopped leaves the
-- floor, and the call that made it gives nothing, so it isn't an event.
use Rattle.std.specs.Prelude.{◌≡◌, ◌⊎◌, ◌++◌, ◌∷◌, [], ℕ, List, Bool, true, Option, Some, None}
use Rattle.std.specs.List.{cons_option}
use Rattle.std.specs.Option.{option_map, option_and_then}
use Rattle.osc_coap.specs.Datagram.{Parts}
use Rattle.osc_coap.specs.Inner.{InnerParts}
use Rattle.osc_context.specs.SecurityContext.{SecurityContext}
use Rattle.osc_protect.specs.Protection.{as_notified}
use Rattle.osc_protect.specs.Sealed.{inside}
use Rattle.osc_window.specs.declared.window_size.WindowSize.{WindowSize}
use Rattle.osc_life.specs.declared.start.Start.{Start}
use Rattle.osc_client.specs.ClientAnswer.{told}
use Rattle.osc_client.specs.ClientHistory as client
use Rattle.osc_life.specs.Life.{Life, born}
use Rattle.osc_life.specs.Replies.{challenge_message}
use Rattle.osc_life.specs.LifeAnswer.{own_number}
use Rattle.osc_life.specs.ServerHistory as server
use Rattle.osc_kept_ends.specs.KeptAsking as asking
use Rattle.osc_kept_ends.specs.KeptServing as serving
use Rattle.osc_kept_ends.specs.Numbering.{Own, Effect, Stay, Draw, Reserve, Load, after, nothing_drawn, use_of}

-- one of the two ends (own rule)
pub data End : Type 0 where
  Client : End
  Server : End

-- what happens: the program of an end starts at what its keeper loaded, and knows nothing of earlier runs; an end draws a number that is reserved, or draws
-- one after a save that reserves more; something happens to a running end, with this entry as its result (RFC 8613, 7.2.1 and B.1.1)
pub data Event : Type 0 where
  ClientStarts : (loaded life_ms : ℕ) → Event
  ServerStarts : (start : Start) (size : WindowSize) → Event
  Draws : (of : End) → Event
  Reserves : (of : End) → Event
  AtClient : (event : client.Event) (entry : client.Entry) → Event
  AtServer : (event : server.Event) (entry : server.Entry) → Event

-- nothing yet, or one more event after those before (own rule)
pub data World : Type 0 where
  Begin : World
  Then : (before : World) (event : Event) → World

-- the element is one of these (own rule)
abbrev pub Has : {A : Type 0} → A → List A → Type 0
Has x [] = ⊥
Has x (y ∷ ys) = (x ≡ y) ⊎ Has x ys

-- the history of the running client: what happened to it since it started (own rule)
abbrev pub client_history : SecurityContext → World → Option client.History
client_history s Begin = None
client_history s (Then w (ClientStarts loaded ms)) = Some (client.New s loaded ms)
client_history s (Then w (AtClient event entry)) = option_map (λ h. client.Then h event entry) (client_history s w)
client_history s (Then w event) = client_history s w

-- the history of the running server (own rule)
abbrev pub server_history : SecurityContext → World → Option server.History
server_history s Begin = None
server_history s (Then w (ServerStarts start size)) = Some (server.Then server.Begin (server.Add s start size 1) (server.Added 0))
server_history s (Then w (AtServer event entry)) = option_map (λ h. server.Then h event entry) (server_history s w)
server_history s (Then w event) = server_history s w

-- the present life of the server's context (RFC 8613, B.1)
abbrev pub server_life : SecurityContext → World → Option Life
server_life s w = option_and_then (λ h. server.life h 0) (server_history s w)

-- ---- the numbers of both ends

-- what an event does to the numbers of a running client: a restart loads one, and any other event may use one (RFC 8613, 7.2.1)
abbrev pub client_effect : Option client.History → client.Event → client.Entry → Effect
client_effect None event entry = Stay
client_effect (Some h) (client.Restart next) client.Restarted = Load next
client_effect (Some h) event entry = use_of (asking.uses h event entry)

-- the same for a running server (RFC 8613, 7.2.1)
abbrev pub server_effect : Option server.History → server.Event → server.Entry → Effect
server_effect None event entry = Stay
server_effect (Some h) (server.Restart context next) server.Restarted = Load next
server_effect (Some h) event entry = use_of (serving.uses h event entry)

-- what an event does to the numbers of an end (RFC 8613, 7.2.1 and B.1.1)
abbrev pub effect : End → SecurityContext → World → Event → Effect
effect Client s w (ClientStarts loaded ms) = Load loaded
effect Client s w (Draws Client) = Draw
effect Client s w (Reserves Client) = Reserve
effect Client s w (AtClient event entry) = client_effect (client_history s w) event entry
effect Server s w (ServerStarts start size) = Load ((born s start size).first)
effect Server s w (Draws Server) = Draw
effect Server s w (Reserves Server) = Reserve
effect Server s w (AtServer event entry) = server_effect (server_history s w) event entry
effect end s w event = Stay

-- the numbers of an end, over all its lives (RFC 8613, B.1.1)
abbrev pub numbers : End → SecurityContext → World → Own
numbers end s Begin = nothing_drawn 0
numbers end s (Then w event) = after (effect end s w event) (numbers end s w)

-- ---- what was sealed and delivered, newest first

-- a request that the client sealed: its number, and what it says inside (RFC 8613, 8.1)
pub record Request : Type 0 where
  pub number : ℕ
  pub message : InnerParts

-- a response that the server sealed: the number of the request that it answers, its own Partial IV or none, and what it says inside (RFC 8613, 8.3)
pub record Response : Type 0 where
  pub number : ℕ
  pub own : Option ℕ
  pub message : InnerParts

-- the requests that the client sealed, over all lives (RFC 8613, 8.1)
abbrev pub sent : SecurityContext → World → List Request
sent s Begin = []
sent s (Then w (AtClient (client.Request now p room) (client.Sent bytes))) = cons_option (option_map (λ h. record { number = client.next h; message = inside p }) (client_history s w)) (sent s w)
sent s (Then w event) = sent s w

-- the response to request n that a running server seals, if its context has a life, with the next Sender Sequence Number if one is asked for (RFC 8613, 8.3)
abbrev pub response_in : Option Life → ℕ → Bool → Parts → List Response
response_in None n own p = []
response_in (Some of) n own p = record { number = n; own = own_number own of; message = inside p } ∷ []

-- challenges, replies and notifications, whose Observe option is empty inside (RFC 8613, 4.1.3.5.2 and 8.3)
abbrev pub answered : SecurityContext → World → List Response
answered s Begin = []
answered s (Then w (AtServer (server.Datagram now echo mid d) (server.Took (server.Challenge i n given issued) reply))) =
    response_in (server_life s w) n true (challenge_message given) ++ answered s w
answered s (Then w (AtServer (server.Reply t own mid p room) (server.Replied bytes))) = response_in (server_life s w) t.number own p ++ answered s w
answered s (Then w (AtServer (server.Notify t p room) (server.Replied bytes))) = response_in (server_life s w) t.number true (as_notified p) ++ answered s w
answered s (Then w event) = answered s w

-- the response that the client delivers in this event, as a notification or as the last one (RFC 8613, 8.4)
abbrev pub heard_in : Event → Option Response
heard_in (AtClient (client.Datagram now d) (client.Took answer)) = option_map (λ t. record { number = t.1; own = t.2; message = t.3 }) (told answer)
heard_in event = None

-- the responses that the client delivered, over all lives (RFC 8613, 8.4)
abbrev pub heard : World → List Response
heard Begin = []
heard (Then w event) = cons_option (heard_in event) (heard w)

-- the numbers of the requests that were delivered, over all lives (RFC 8613, 7.4)
abbrev pub delivered : World → List ℕ
delivered Begin = []
delivered (Then w (AtServer (server.Datagram now echo mid d) (server.Took (server.Deliver received ticket) reply))) = ticket.number ∷ delivered w
delivered (Then w event) = delivered w
