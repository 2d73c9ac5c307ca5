-- To be believed: what becomes of the requests, replies and notifications of two applications over a network that loses, delays, swaps and repeats their datagrams,
-- and brings others: a contract of laws.rt (RFC 8613, 7.4, 8.1 to 8.4 and B.1.2). i is the index of the server's context, n the number of pending requests that the
-- client has room for, h the history of the client, g that of the server, x an exchange, s a request, y a response. Moments are in milliseconds.
use Rattle.std.specs.Prelude.{◌≡◌, ◌≢◌, ◌+◌, ◌<◌, ◌≤◌, ◌↔◌, ◌-◌, ℕ, Bool, true, false, List, [], ◌∷◌, Option, Some, All, Contains, max}
use Rattle.std.specs.Option.{option_and_then}
use Rattle.osc_coap.specs.Datagram.{Parts}
use Rattle.osc_coap.specs.Inner.{InnerParts}
use Rattle.osc_context.specs.SecurityContext.{SecurityContext}
use Rattle.osc_context.specs.declared.partial_iv.Piv.{Piv}
use Rattle.osc_protect.specs.Protection.{as_notified}
use Rattle.osc_protect.specs.Sealed.{inside}
use Rattle.osc_window.specs.Views.{places_of}
use Rattle.osc_window.specs.declared.window_size.WindowSize.{WindowSize}
use Rattle.osc_life.specs.declared.start.Start.TheVariants as starts
use Rattle.osc_life.specs.Doubting.{IsNotBelow}
use Rattle.osc_life.specs.Life.{Life, Admits, Carries, Challenged, HasOwn, IsNewIn, is_open, is_open_life}
use Rattle.osc_life.specs.Replies.{challenge_message}
use Rattle.osc_life.specs.ServerHistory as server
use Rattle.osc_endpoint.specs.ServerAnswer.{ServerAnswer}
use Rattle.osc_life.specs.LifeAnswer.{challenge_given, own_number}
use Rattle.osc_client.specs.ClientHistory as client
use Rattle.osc_client.specs.ClientAnswer.{ClientAnswer, IsInPlace, told}
use Rattle.osc_laws.specs.ClientLaws.{AllClientAnswers}
use Rattle.osc_laws.specs.Headline as delivery
use Rattle.osc_laws.specs.Laws.{AllAnswers}

-- a request that the client sealed: its number, what its application said, and the datagram (RFC 8613, 8.1)
pub record Request : Type 0 where
  pub number : ℕ
  pub plain : Parts
  pub bytes : List ℕ

-- a response that the server sealed: under which context, to the request of which number, with which own Partial IV or none, whether it is a notification, what it
-- says inside, and the datagram (RFC 8613, 8.3 and 8.3.1)
pub record Response : Type 0 where
  pub context : ℕ
  pub to : ℕ
  pub own : Option ℕ
  pub notifies : Bool
  pub message : InnerParts
  pub bytes : List ℕ

-- a step: something happens at one end, or the network brings the server a request of the client's (own rule)
pub data Step : Type 0 where
  AtClient : (event : client.Event) (entry : client.Entry) → Step
  AtServer : (event : server.Event) (entry : server.Entry) → Step
  Brings : (s : Request) (now : ℕ) (echo : List ℕ) (mid : ℕ) (answer : server.Answer) (reply : List ℕ) → Step

-- an exchange: the histories of both ends before it and the tickets that the server's application holds, or one more step after those before (own rule)
pub data Exchange : Type 0 where
  Starts : (h : client.History) (g : server.History) (held : List server.TicketValues) → Exchange
  Then : (before : Exchange) (step : Step) → Exchange

-- the history of the client after the exchange (own rule)
abbrev pub client_of : Exchange → client.History
client_of (Starts h g held) = h
client_of (Then x (AtClient event entry)) = client.Then (client_of x) event entry
client_of (Then x step) = client_of x

-- the history of the server after the exchange (own rule)
abbrev pub server_of : Exchange → server.History
server_of (Starts h g held) = g
server_of (Then x (AtServer event entry)) = server.Then (server_of x) event entry
server_of (Then x (Brings s now echo mid answer reply)) = server.Then (server_of x) (server.Datagram now echo mid s.bytes) (server.Took answer reply)
server_of (Then x step) = server_of x

-- the requests that the client sealed in the exchange (RFC 8613, 8.1)
abbrev pub sent : Exchange → List Request
sent (Starts h g held) = []
sent (Then x (AtClient (client.Request now plain room) (client.Sent d))) = record { number = client.next (client_of x); plain = plain; bytes = d } ∷ sent x
sent (Then x step) = sent x

-- the tickets that the server's application was given, also if they were used since (own rule)
abbrev pub tickets : Exchange → List server.TicketValues
tickets (Starts h g held) = held
tickets (Then x (Brings s now echo mid (server.Deliver received ticket) reply)) = ticket ∷ tickets x
tickets (Then x step) = tickets x

-- the response by a ticket (RFC 8613, 8.3 and 8.3.1)
abbrev pub by_ticket : server.History → server.TicketValues → Bool → Bool → InnerParts → List ℕ → Response
by_ticket g t own notifies message d = record { context = t.context; to = t.number; own = option_and_then (own_number own) (server.life g t.context); notifies = notifies; message = message; bytes = d }

-- the responses that the server sealed in the exchange: replies, notifications, and challenges of the client's requests (RFC 8613, 8.3 and 8.3.1; RFC 9175, 2.3)
abbrev pub said : Exchange → List Response
said (Starts h g held) = []
said (Then x (AtServer (server.Reply t own mid plain room) (server.Replied d))) = by_ticket (server_of x) t own false (inside plain) d ∷ said x
said (Then x (AtServer (server.Notify t plain room) (server.Replied d))) = by_ticket (server_of x) t true true (inside (as_notified plain)) d ∷ said x
said (Then x (Brings s now echo mid (server.Challenge i number value issued) reply)) =
    record { context = i; to = number; own = option_and_then (own_number true) (server.life (server_of x) i); notifies = false; message = inside (challenge_message value); bytes = reply } ∷ said x
said (Then x step) = said x

-- the server has the other half of the client's context, and if its window is open, each number from the client's next one on is new there (RFC 8613, 7.4 and B.1.2)
pub record AreInStep (i : ℕ) (h : client.History) (g : server.History) : Type 0 where
  pub of : Life
  pub life_is : server.life g i ≡ Some of
  pub same : of.context ≡ client.context h
  pub new : is_open of ≡ true → (k : ℕ) → client.next h ≤ k → IsNewIn of k

-- the ticket is of a request that the client sealed: while that is asked, it has the ticket's token, and registers if the ticket observes (own rule)
abbrev pub IsTicketTo : client.History → server.TicketValues → Type 0
IsTicketTo h t = (t.number < client.next h) × All (λ (r : client.Asked). r.number ≡ t.number → (r.token ≡ t.token) × (client.observes r.wait ≡ t.observes)) (client.asked h)

-- the answer delivers nothing under this context (RFC 8613, 8.2)
abbrev pub IsElsewhere : ℕ → server.Answer → Type 0
IsElsewhere i (server.BadInner j number) = i ≢ j
IsElsewhere i (server.Deliver received ticket) = i ≢ ticket.context
IsElsewhere i answer = Unit {0}

-- nothing but the client's requests is delivered under this context, and what is sealed there is by a ticket that was given (RFC 8613, 8.2 and 8.3; own rule: tickets)
abbrev pub IsOfThese : ℕ → List server.TicketValues → server.Event → server.Entry → Type 0
IsOfThese i ts (server.Datagram now echo mid d) (server.Took answer reply) = IsElsewhere i answer
IsOfThese i ts (server.Reply t own mid plain room) (server.Replied d) = t.context ≡ i → Contains ts t
IsOfThese i ts (server.Notify t plain room) (server.Replied d) = t.context ≡ i → Contains ts t
IsOfThese i ts (server.Replace context by start size) server.Replaced = context ≡ i → ⊥
IsOfThese i ts event entry = Unit {0}

-- the network brings the server a request that the client sealed, however late or often, and the server answers so (RFC 8613, 8.2)
abbrev pub IsBrought : Exchange → Request → ℕ → List ℕ → ℕ → server.Answer → List ℕ → Type 0
IsBrought x s now echo mid answer reply = Contains (sent x) s × ServerAnswer (server_of x) (server.Datagram now echo mid s.bytes) (server.Took answer reply)

-- each end answers by its tables, and the client never lowers its next number (RFC 8613, 7.2.1 and 8.1 to 8.4)
abbrev pub GoesWell : ℕ → ℕ → Exchange → Step → Type 0
GoesWell n i x (AtClient event entry) = ClientAnswer n (client_of x) event entry × (client.next (client_of x) ≤ client.next (client.Then (client_of x) event entry))
GoesWell n i x (AtServer event entry) = ServerAnswer (server_of x) event entry × IsOfThese i (tickets x) event entry
GoesWell n i x (Brings s now echo mid answer reply) = IsBrought x s now echo mid answer reply

-- an exchange from two ends on that are in step (own rule)
abbrev pub IsHonest : ℕ → ℕ → Exchange → Type 0
IsHonest n i (Starts h g held) = AllClientAnswers n h × AllAnswers g × AreInStep i h g × All (λ t. t.context ≡ i → IsTicketTo h t) held
IsHonest n i (Then x step) = IsHonest n i x × GoesWell n i x step

-- the client still waits for the response: its request is pending, neither answered nor forgotten nor too old, and no later response to it was heard; or it is
-- the last response, without a Partial IV (RFC 8613, 7.4.1 and 8.4; own rule: the time)
pub record IsWaitedFor (h : client.History) (moment : ℕ) (y : Response) : Type 0 where
  pub request : client.Asked
  pub is_pending : Contains (client.pending_at h moment) request
  pub number_is : request.number ≡ y.to
  pub is_next : IsInPlace request y.own y.message

-- the client's clock at this moment (own rule)
abbrev pub client_clock : Exchange → ℕ → ℕ
client_clock x now = max (client.clock (client_of x)) now

-- the server's clock at this moment (own rule)
abbrev pub server_clock : Exchange → ℕ → ℕ
server_clock x now = max (server.clock (server_of x)) now

-- after the exchange both ends are in step; a request that the network brings is delivered, as it was said, if and only if its number is new or, in a closed life, it
-- carries the value in force, and its number isn't below those in doubt, or it is above them; a response that the network brings is heard, as it was said, if and only
-- if the client still waits for it (RFC 8613, 7.4, 8.2, 8.4 and B.1.2; RFC 9175, 2.3)
pub record Stands (n i : ℕ) (x : Exchange) : Type 0 where
  pub in_step : AreInStep i (client_of x) (server_of x)
  pub request : (s : Request) (now : ℕ) (echo : List ℕ) (mid : ℕ) (answer : server.Answer) (reply : List ℕ) → IsBrought x s now echo mid answer reply
      → (delivery.told answer ≡ Some (i, s.number, inside s.plain)) ↔ Admits in_step.of (server_clock x now) s.number (inside s.plain)
  pub response : (y : Response) (now : ℕ) (answer : client.Answer) → Contains (said x) y → y.context ≡ i
      → ClientAnswer n (client_of x) (client.Datagram now y.bytes) (client.Took answer)
      → (told answer ≡ Some (y.notifies, y.to, y.own, y.message)) ↔ IsWaitedFor (client_of x) (client_clock x now) y

-- whatever two applications say and the network does from two ends on that are in step, this stands at each moment (RFC 8613, 8.1 to 8.4 and B.1.2)
abbrev pub HonestExchange : Type 0
HonestExchange = (n i : ℕ) (x : Exchange) → IsHonest n i x → Stands n i x

-- ---- when a request is admitted

-- the window was open at first, and the context wasn't restarted since (RFC 8613, B.1.2)
abbrev pub StaysOpen : ℕ → Exchange → Type 0
StaysOpen i (Starts h g held) = is_open_life (server.life g i) ≡ true
StaysOpen i (Then x (AtServer (server.Restart j next) server.Restarted)) = StaysOpen i x × (i ≢ j)
StaysOpen i (Then x step) = StaysOpen i x

-- the delivery that gave this ticket leaves the number new in a window of w places: it was of another number, less than w above (RFC 8613, 7.4)
abbrev pub LeavesNew : ℕ → ℕ → ℕ → server.TicketValues → Type 0
LeavesNew i w k t = t.context ≡ i → (t.number ≢ k) × (t.number < k + w)

-- a closed life challenges a request that isn't admitted; the value of each challenge of the life is in force for 30,000 ms; both unless its number is below those in
-- doubt, which is a replay; while the window stays open, a request is new as long as neither it nor one whose number is higher by the window's places or more was
-- delivered (RFC 8613, 7.4, 8.2 and B.1.2; RFC 9175, 2.3)
pub record AdmitsInTime (i : ℕ) (x : Exchange) (of : Life) : Type 0 where
  pub challenge : (s : Request) (now : ℕ) (echo : List ℕ) (mid : ℕ) (answer : server.Answer) (reply : List ℕ) → IsBrought x s now echo mid answer reply
      → is_open of ≡ false → IsNotBelow of.doubt s.number → HasOwn of → (Admits of (server_clock x now) s.number (inside s.plain) → ⊥)
      → (c : List ℕ × ℕ) × (challenge_given of (server_clock x now) echo ≡ c) × (answer ≡ server.Challenge i s.number c.0 c.1)
  pub echo : (value : List ℕ) (issued now k : ℕ) (m : InnerParts) → is_open of ≡ false → IsNotBelow of.doubt k
      → Contains of.marks (Challenged value issued) → server_clock x now - issued ≤ 30000 → Carries (Some (value, issued)) m → Admits of (server_clock x now) k m
  pub new : (s : Request) → Contains (sent x) s → StaysOpen i x → All (LeavesNew i (places_of of.size) s.number) (tickets x) → IsNewIn of s.number

-- a new client is in step with a context that is added fresh; the window stays open unless the server restarts; so requests are admitted in time
-- (RFC 8613, 7.4, 8.1 to 8.4 and B.1.2)
pub record ExchangeInTime : Type 0 where
  pub starts : (s : SecurityContext) (first ms i : ℕ) (own : Piv) (size : WindowSize) (places : ℕ) (g : server.History)
      → AreInStep i (client.New s first ms) (server.Then g (server.Add s (starts.Fresh own) size places) (server.Added i))
  pub stays_open : (n i : ℕ) (x : Exchange) → IsHonest n i x → StaysOpen i x → is_open_life (server.life (server_of x) i) ≡ true
  pub admits : (n i : ℕ) (x : Exchange) (of : Life) → IsHonest n i x → server.life (server_of x) i ≡ Some of → AdmitsInTime i x of
