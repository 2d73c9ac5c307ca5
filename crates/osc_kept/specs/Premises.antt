-- To be believed: what a world has to meet, at each event over the events before it (RFC 8613, 7.2.1, 7.4, 8 and B.1; RFC 9175, 2.3). Each premise is a
-- record or a definition of its own, and says who has to see to it. w is the world before the event, s the security context, n is how many pending
-- requests the client has room for.
use Rattle.std.specs.Prelude.{◌≡◌, ℕ, Bool, ◌<◌, ◌≤◌, List, [], Option, Some, None, Contains, max}
use Rattle.osc_coap.specs.Inner.{InnerParts}
use Rattle.osc_coap.specs.Interpreted.{interpreted}
use Rattle.osc_coap.specs.OptionNumbers as options
use Rattle.osc_context.specs.SecurityContext.{SecurityContext, IsUsable}
use Rattle.osc_context.specs.Views.{number_of}
use Rattle.osc_protect.specs.CipherLaws.{CipherInput, request_seal, response_seal}
use Rattle.osc_protect.specs.Protection.{Protects, ProtectsRequest, responses_to}
use Rattle.osc_life.specs.declared.start.Start.TheVariants as starts
use Rattle.osc_client.specs.ClientAnswer.{ClientAnswer, awaited}
use Rattle.osc_client.specs.ClientHistory as client
use Rattle.osc_endpoint.specs.Tickets.{TakesTickets}
use Rattle.osc_life.specs.Life.{Life, born, in_force}
use Rattle.osc_endpoint.specs.ServerAnswer.{ServerAnswer}
use Rattle.osc_life.specs.ServerHistory as server
use Rattle.osc_kept_ends.specs.Numbering.{Allowed, Load}
use Rattle.osc_kept.specs.World.{World, Event, Begin, Then, End, Client, Server, ClientStarts, ServerStarts, AtClient, AtServer, Has, Request, Response, client_history, server_history, effect, numbers, sent, answered, delivered}

-- a fact about each event, over the world before it (own rule)
abbrev pub AtEach : (World → Event → Type 0) → World → Type 0
AtEach P Begin = Unit {0}
AtEach P (Then w event) = AtEach P w × P w event

-- ---- what both ends do: the contracts of Client, Server and the kept types say so

-- the event brings no context: a server has the one context with which it starts, and one that takes its place begins a world of its own (own rule)
abbrev pub BringsNoContext : server.Event → Type 0
BringsNoContext (server.Add context start size places) = ⊥
BringsNoContext (server.Replace context by start size) = ⊥
BringsNoContext event = Unit {0}

-- a running end answers by its tables; a context that starts is usable; a server has one context, and replies by tickets that deliveries gave
-- (RFC 8613, 8.1 to 8.4)
abbrev pub Answers : ℕ → SecurityContext → World → Event → Type 0
Answers n s w (ServerStarts start size) = ServerAnswer server.Begin (server.Add s start size 1) (server.Added 0)
Answers n s w (AtClient event entry) = (h : client.History) × (client_history s w ≡ Some h) × ClientAnswer n h event entry
Answers n s w (AtServer event entry) = (h : server.History) × (server_history s w ≡ Some h) × ServerAnswer h event entry
    × BringsNoContext event × TakesTickets (server.Then h event entry)
Answers n s w event = Unit {0}

-- ---- I: whoever keeps the keys sees to it, and so does the cipher

-- the text is the payload of a request that the client sealed, under this key, nonce and additional data (RFC 8613, 5 and 8.1)
pub record SealedByClient (s : SecurityContext) (w : World) (input : CipherInput) (text : List ℕ) : Type 0 where
  pub request : Request
  pub was_sent : Has request (sent s w)
  pub input_is : request_seal s request.number ≡ input
  pub bytes : List ℕ
  pub protects : ProtectsRequest s request.number request.message bytes
  pub text_is : protects.outer.payload ≡ text

-- the same for a response that the server sealed, to a request that registers an observation or doesn't (RFC 8613, 5 and 8.3)
pub record SealedByServer (s : SecurityContext) (w : World) (input : CipherInput) (text : List ℕ) : Type 0 where
  pub registers : Bool
  pub response : Response
  pub was_answered : Has response (answered s w)
  pub input_is : response_seal s response.number response.own ≡ input
  pub bytes : List ℕ
  pub protects : Protects (responses_to s registers response.number) response.own response.message bytes
  pub text_is : protects.outer.payload ≡ text

-- what comes to the server and opens as request n is a text that the client sealed before, under the same key, nonce and additional data: only the two
-- ends know the keys, and nobody else makes a text that opens (RFC 8613, 12.3 and 12.6)
abbrev pub NobodyForgesRequests : SecurityContext → World → List ℕ → Type 0
NobodyForgesRequests s w d = (n : ℕ) (m : InnerParts) (p : ProtectsRequest s n m d) → SealedByClient s w (request_seal s n) p.outer.payload

-- what comes to the client and opens as a response to a pending request is a text that the server sealed before, under the same three (RFC 8613, 12.3 and 12.6)
abbrev pub NobodyForgesResponses : SecurityContext → World → List client.Asked → List ℕ → Type 0
NobodyForgesResponses s w pending d = (r : client.Asked) (own : Option ℕ) (m : InnerParts) → Contains pending r → (p : Protects (awaited s r) own m d)
    → SealedByServer s w (response_seal s r.number own) p.outer.payload

-- both of these, for the datagrams that arrive (RFC 8613, 12.3 and 12.6)
abbrev pub NobodyForges : SecurityContext → World → Event → Type 0
NobodyForges s w (AtServer (server.Datagram now echo mid d) entry) = NobodyForgesRequests s w d
NobodyForges s w (AtClient (client.Datagram now d) entry) = (h : client.History) → client_history s w ≡ Some h
    → NobodyForgesResponses s w (client.pending_at h (max (client.clock h) now)) d
NobodyForges s w event = Unit {0}

-- ---- F: whoever draws the Echo values sees to it

-- if a challenge gives a value that was newly drawn, no request that was sealed before carries that value (RFC 9175, 2.3)
abbrev pub EchoIsNew : SecurityContext → World → Event → Type 0
EchoIsNew s w (AtServer (server.Datagram now echo mid d) (server.Took (server.Challenge i n given issued) reply)) =
    (h : server.History) (of : Life) → server_history s w ≡ Some h → server.life h i ≡ Some of → in_force of (max (server.clock h) now) ≡ None
    → (r : Request) → Has r (sent s w) → interpreted options.echo r.message.options ≡ Some given → ⊥
EchoIsNew s w event = Unit {0}

-- ---- N: whoever says at which number an end starts sees to it; for kept ends their keeper does (NumbersAreKept)

-- the client sealed with lower numbers alone (RFC 8613, 7.2.1)
abbrev pub IsAboveSent : SecurityContext → World → ℕ → Type 0
IsAboveSent s w number = (r : Request) → Has r (sent s w) → r.number < number

-- the server sealed with lower numbers of its own alone (RFC 8613, 7.2.1)
abbrev pub IsAboveOwn : SecurityContext → World → ℕ → Type 0
IsAboveOwn s w number = (r : Response) (own : ℕ) → Has r (answered s w) → r.own ≡ Some own → own < number

-- each life of an end begins above all numbers with which the end sealed before (RFC 8613, 7.2.1 and B.1.1)
abbrev pub BeginsAbove : SecurityContext → World → Event → Type 0
BeginsAbove s w (ClientStarts first ms) = IsAboveSent s w first
BeginsAbove s w (AtClient (client.Restart first) entry) = IsAboveSent s w first
BeginsAbove s w (ServerStarts start size) = IsAboveOwn s w ((born s start size).first)
BeginsAbove s w (AtServer (server.Restart context first) server.Restarted) = IsAboveOwn s w first
BeginsAbove s w event = Unit {0}

-- ---- KeptServer sees to it, or whoever says how a Server starts

-- a server starts fresh only while no request was delivered, and above a number, open or with numbers in doubt, only if none above it was (RFC 8613, 7.4 and B.1.2)
abbrev pub StartsAboveDelivered : World → Event → Type 0
StartsAboveDelivered w (ServerStarts (starts.Fresh first) size) = delivered w ≡ []
StartsAboveDelivered w (ServerStarts (starts.Received first highest) size) = (n : ℕ) → Has n (delivered w) → n ≤ number_of highest
StartsAboveDelivered w (ServerStarts (starts.Reserved first highest ahead) size) = (n : ℕ) → Has n (delivered w) → n ≤ number_of highest
StartsAboveDelivered w event = Unit {0}

-- all of these (own rule)
pub record IsLawful (n : ℕ) (s : SecurityContext) (w : World) : Type 0 where
  pub usable : IsUsable s
  pub answers : AtEach (Answers n s) w
  pub sealed : AtEach (NobodyForges s) w
  pub unseen : AtEach (EchoIsNew s) w
  pub above : AtEach (BeginsAbove s) w
  pub fresh : AtEach StartsAboveDelivered w

-- ---- how the numbers of kept ends go: each life then begins above all numbers that were used (law KeptBeginAbove)

-- each event agrees with the numbers of both ends: what is used is the number in hand, a number is drawn only if none is in hand, and no load gives one
-- below the floor (RFC 8613, 7.2.1 and B.1.1)
pub record NumbersAreKept (s : SecurityContext) (w : World) (event : Event) : Type 0 where
  pub client : Allowed (effect Client s w event) (numbers Client s w)
  pub server : Allowed (effect Server s w event) (numbers Server s w)

-- no life of an end begins below the floor: a load gives no number below what was saved before, in whatever process (RFC 8613, B.1.1)
abbrev pub LoadsNoneBelow : End → SecurityContext → World → Event → Type 0
LoadsNoneBelow of s w event = (n : ℕ) → effect of s w event ≡ Load n → (numbers of s w).floor ≤ n

-- the world meets the premises, and the numbers of both ends are kept at each event (RFC 8613, 7.2.1 and B.1.1)
pub record IsKept (n : ℕ) (s : SecurityContext) (w : World) : Type 0 where
  pub lawful : IsLawful n s w
  pub kept : AtEach (NumbersAreKept s) w

-- if both ends answer by their tables and their numbers are kept, each life begins above all numbers that were used before (RFC 8613, 7.2.1 and B.1.1)
abbrev pub KeptBeginAbove : Type 0
KeptBeginAbove = (n : ℕ) (s : SecurityContext) (w : World) → AtEach (Answers n s) w → AtEach (NumbersAreKept s) w → AtEach (BeginsAbove s) w
