-- To be believed: that the premises on two ends can be met, with and without Observe, and that four of them can't be left out (RFC 8613, 5.2, 7.2.1, 7.4 and
-- B.1; RFC 7641, 3.4; RFC 9175, 2.3): lists of what happens at both ends, over any datagrams that their tables answer this way. s is the security context, n
-- is how many pending requests the client has room for, p what a plain request or reply says, d a sealed request, a a sealed response, r, k, u and v what is
-- delivered of them, t a ticket, y a response.
use Rattle.std.specs.Prelude.{◌≡◌, ℕ, List, [], Bool, true, false, Some}
use Rattle.osc_coap.specs.Datagram.{Parts}
use Rattle.osc_coap.specs.Interpreted.{interpreted}
use Rattle.osc_coap.specs.OptionNumbers as options
use Rattle.osc_context.specs.SecurityContext.{SecurityContext, IsUsable}
use Rattle.osc_context.specs.Views.{number_of}
use Rattle.osc_context.specs.declared.partial_iv.Piv.{Piv}
use Rattle.osc_protect.specs.Sealed.{inside}
use Rattle.osc_window.specs.declared.window_size.WindowSize.{WindowSize}
use Rattle.osc_life.specs.declared.start.Start.TheVariants as starts
use Rattle.osc_client.specs.ClientHistory as client
use Rattle.osc_observe.specs.Received.{Received}
use Rattle.osc_life.specs.ServerHistory as server
use Rattle.osc_kept.specs.Claims.{AtEachHeard, DeliversOnce, IsNext, SealsUnderNewNonces}
use Rattle.osc_kept.specs.Premises.{Answers, AtEach, EchoIsNew, StartsAboveDelivered, IsKept, NobodyForges, NumbersAreKept}
use Rattle.osc_kept.specs.World.{World, Begin, Then, Client, Server, ClientStarts, ServerStarts, Draws, Reserves, AtClient, AtServer}

-- what the events of these lists refer to: the first number of a server, its window, and how long a request is pending (own rule)
pub record Ends : Type 0 where
  pub zero_number : Piv
  pub is_zero : number_of zero_number ≡ 0
  pub size : WindowSize
  pub life_ms : ℕ

-- a request: what its plain message says, the length of the buffer for it, and its datagram (own rule)
pub record Asked : Type 0 where
  pub plain : Parts
  pub room : ℕ
  pub bytes : List ℕ

-- the ticket of request n, which registers nothing, in a life of the one context (own rule)
abbrev pub ticket_of : ℕ → ℕ → Received → server.TicketValues
ticket_of life n r = record { context = 0; life = life; number = n; kind = r.kind; message_id = r.message_id; token = r.token; observes = false }

-- the client seals this request (own rule)
abbrev pub asks : Asked → World → World
asks q w = Then w (AtClient (client.Request 0 q.plain q.room) (client.Sent q.bytes))

-- the server takes this datagram, with a fresh Echo value, and delivers request n (own rule)
abbrev pub delivers : ℕ → ℕ → Received → List ℕ → List ℕ → World → World
delivers life n r echo d w = Then w (AtServer (server.Datagram 0 echo 0 d) (server.Took (server.Deliver r (ticket_of life n r)) []))

-- the server takes this datagram, and challenges request n with the fresh Echo value (own rule)
abbrev pub challenges : ℕ → List ℕ → List ℕ → List ℕ → World → World
challenges n echo d reply w = Then w (AtServer (server.Datagram 0 echo 0 d) (server.Took (server.Challenge 0 n echo 0) reply))

-- the request carries this Echo value (RFC 9175, 2.3)
abbrev pub CarriesValue : Asked → List ℕ → Type 0
CarriesValue q echo = interpreted options.echo (inside q.plain).options ≡ Some echo

-- the server starts at 0, and then has a number in hand (RFC 8613, B.1.1)
abbrev pub start_server : Ends → World → World
start_server x w = Then (Then w (ServerStarts (starts.Fresh x.zero_number) x.size)) (Reserves Server)

-- the client starts at what it loaded, and then has a number in hand (RFC 8613, B.1.1)
abbrev pub start_client : Ends → ℕ → World → World
start_client x loaded w = Then (Then w (ClientStarts loaded x.life_ms)) (Reserves Client)

-- ---- the premises can be met

-- an exchange: a request is delivered, and so is the response to it (RFC 8613, 8.1 to 8.4)
abbrev pub exchange : Ends → Asked → Received → List ℕ → Parts → ℕ → List ℕ → Received → World
exchange x q r echo p room a v =
    Then (Then (delivers 0 0 r echo q.bytes (start_server x (asks q (start_client x 0 Begin))))
    (AtServer (server.Reply (ticket_of 0 0 r) false 0 p room) (server.Replied a))) (AtClient (client.Datagram 0 a) (client.Took (client.Deliver v 0)))

-- both ends are restarted at what their keepers hold; the client draws a number and asks with it, and then the server draws one (RFC 8613, B.1)
abbrev pub restarts : Asked → World → World
restarts q w = Then (asks q (Then (Then (Then w (AtServer (server.Restart 0 64) server.Restarted)) (AtClient (client.Restart 64) client.Restarted)) (Reserves Client))) (Reserves Server)

-- the request is challenged; the client asks again with the value, and that request is delivered (RFC 8613, B.1.2)
abbrev pub through_a_challenge : Asked → Asked → List ℕ → List ℕ → Received → Received → World → World
through_a_challenge q again echo c v r w =
    delivers 1 65 r echo again.bytes (asks again (Then (Then (challenges 64 echo q.bytes c w) (AtClient (client.Datagram 0 c) (client.Took (client.Deliver v 64)))) (Draws Client)))

-- an exchange, a restart of both ends, a challenge and a delivery through it: if both ends answer in this way, the list meets all premises, with kept numbers (RFC 8613, B.1.2)
abbrev pub PremisesCanBeMet : Type 0
PremisesCanBeMet = (n : ℕ) (s : SecurityContext) (x : Ends) (first second again : Asked) (r k v u : Received) (echo a c : List ℕ) (p : Parts) (room : ℕ)
    → IsUsable s → (CarriesValue first echo → ⊥) → (CarriesValue second echo → ⊥)
    → AtEach (Answers n s) (through_a_challenge second again echo c u k (restarts second (exchange x first r echo p room a v)))
    → IsKept n s (through_a_challenge second again echo c u k (restarts second (exchange x first r echo p room a v)))

-- ---- the premises can be met with Observe

-- a response: what its plain message says, the length of the buffer for it, and its datagram (own rule)
pub record Answered : Type 0 where
  pub plain : Parts
  pub room : ℕ
  pub bytes : List ℕ

-- the ticket of request n, which registers an observation, in a life of the one context (RFC 8613, 4.1.3.5.1)
abbrev pub observing : ℕ → ℕ → Received → server.TicketValues
observing life n r = record { context = 0; life = life; number = n; kind = r.kind; message_id = r.message_id; token = r.token; observes = true }

-- the server takes this datagram, with a fresh Echo value, and delivers request n, which registers an observation (RFC 8613, 4.1.3.5.1)
abbrev pub delivers_registration : ℕ → ℕ → Received → List ℕ → List ℕ → World → World
delivers_registration life n r echo d w = Then w (AtServer (server.Datagram 0 echo 0 d) (server.Took (server.Deliver r (observing life n r)) []))

-- the server notifies by this ticket (RFC 7641, 4.2)
abbrev pub notifies : server.TicketValues → Answered → World → World
notifies t y w = Then w (AtServer (server.Notify t y.plain y.room) (server.Replied y.bytes))

-- the server replies by this ticket, with a number of its own or none (RFC 8613, 8.3)
abbrev pub replies : server.TicketValues → Bool → Answered → World → World
replies t own y w = Then w (AtServer (server.Reply t own 0 y.plain y.room) (server.Replied y.bytes))

-- the client takes this datagram, and it is a notification for request n (RFC 8613, 8.4.2)
abbrev pub hears : ℕ → Received → List ℕ → World → World
hears n v d w = Then w (AtClient (client.Datagram 0 d) (client.Took (client.Notified v n)))

-- the client takes this datagram, and it is old (RFC 8613, 7.4.1)
abbrev pub hears_old : List ℕ → World → World
hears_old d w = Then w (AtClient (client.Datagram 0 d) (client.Took client.Old))

-- a request registers an observation and is delivered; three notifications are sealed, one after the other (RFC 7641, 4.2)
abbrev pub notifies_thrice : Ends → Asked → Received → List ℕ → Answered → Answered → Answered → World
notifies_thrice x q r echo late lost third =
    notifies (observing 0 0 r) third (Then (notifies (observing 0 0 r) lost (Then (notifies (observing 0 0 r) late
    (delivers_registration 0 0 r echo q.bytes (start_server x (asks q (start_client x 0 Begin))))) (Draws Server))) (Draws Server))

-- the second is lost; the third is heard, and when the first comes late, it is old; then a last response is sealed and delivered (RFC 7641, 3.4; RFC 8613, 7.4.1)
abbrev pub observation : Ends → Asked → Received → List ℕ → Answered → Answered → Answered → Received → Answered → Received → World
observation x q r echo late lost third v last u =
    Then (replies (observing 0 0 r) true last (Then (hears_old late.bytes (hears 0 v third.bytes (notifies_thrice x q r echo late lost third))) (Draws Server)))
    (AtClient (client.Datagram 0 last.bytes) (client.Took (client.Deliver u 0)))

-- a registration, a lost, a heard and a late notification, and a last response: if both ends answer in this way, the list meets all premises, with kept numbers (RFC 8613, 4.1.3.5)
abbrev pub ObservationCanBeMet : Type 0
ObservationCanBeMet = (n : ℕ) (s : SecurityContext) (x : Ends) (q : Asked) (r v u : Received) (echo : List ℕ) (late lost third last : Answered) → IsUsable s
    → AtEach (Answers n s) (observation x q r echo late lost third v last u) → IsKept n s (observation x q r echo late lost third v last u)

-- ---- none of these can be left out

-- a request that the client didn't seal (RFC 8613, 12.3 and 12.6)
abbrev pub forged : Ends → Received → List ℕ → List ℕ → World
forged x r echo d = delivers 0 0 r echo d (start_server x Begin)

-- it is delivered, and all other premises hold (RFC 8613, 12.3 and 12.6)
abbrev pub ForgeryBreaks : Type 0
ForgeryBreaks = (n : ℕ) (s : SecurityContext) (x : Ends) (r : Received) (echo d : List ℕ) → AtEach (Answers n s) (forged x r echo d)
    → AtEach (EchoIsNew s) (forged x r echo d) × AtEach (NumbersAreKept s) (forged x r echo d) × AtEach StartsAboveDelivered (forged x r echo d)
    × (AtEach (DeliversOnce s) (forged x r echo d) → ⊥)

-- a request is delivered, and after a restart it is challenged with the value that it carries (RFC 9175, 2.3)
abbrev pub repeated_value : Ends → Asked → Received → Received → List ℕ → List ℕ → World
repeated_value x q r k echo c =
    delivers 1 0 k echo q.bytes (challenges 0 echo q.bytes c (Then (Then (delivers 0 0 r echo q.bytes (start_server x (asks q (start_client x 0 Begin)))) (AtServer (server.Restart 0 64) server.Restarted)) (Reserves Server)))

-- it is delivered twice, and all other premises hold (RFC 9175, 2.3)
abbrev pub RepeatedValueBreaks : Type 0
RepeatedValueBreaks = (n : ℕ) (s : SecurityContext) (x : Ends) (q : Asked) (r k : Received) (echo c : List ℕ) → AtEach (Answers n s) (repeated_value x q r k echo c)
    → AtEach (NobodyForges s) (repeated_value x q r k echo c) × AtEach (NumbersAreKept s) (repeated_value x q r k echo c)
    × AtEach StartsAboveDelivered (repeated_value x q r k echo c) × (AtEach (DeliversOnce s) (repeated_value x q r k echo c) → ⊥)

-- the client seals with 1, and starts anew below that, at 0; request 0 comes through a challenge, and opens the window below 1 (RFC 8613, 7.2.1 and B.1.2)
abbrev pub number_out_of_order : Ends → Asked → Asked → Received → Received → Received → List ℕ → List ℕ → World
number_out_of_order x q later r k m echo c =
    delivers 1 1 m echo q.bytes (delivers 1 0 k echo later.bytes (asks later (start_client x 0 (challenges 1 echo q.bytes c
    (Then (Then (delivers 0 1 r echo q.bytes (start_server x (asks q (start_client x 1 Begin)))) (AtServer (server.Restart 0 64) server.Restarted)) (Reserves Server))))))

-- each number is used once, request 1 is delivered twice, and all other premises hold (RFC 8613, 7.2.1)
abbrev pub NumberOutOfOrderBreaks : Type 0
NumberOutOfOrderBreaks = (n : ℕ) (s : SecurityContext) (x : Ends) (q later : Asked) (r k m : Received) (echo c : List ℕ) → (CarriesValue q echo → ⊥)
    → AtEach (Answers n s) (number_out_of_order x q later r k m echo c)
    → AtEach (NobodyForges s) (number_out_of_order x q later r k m echo c) × AtEach (EchoIsNew s) (number_out_of_order x q later r k m echo c)
    × AtEach StartsAboveDelivered (number_out_of_order x q later r k m echo c) × (AtEach (DeliversOnce s) (number_out_of_order x q later r k m echo c) → ⊥)

-- a registration is delivered and notified; the server is restarted at 0, below the number of that notification, and challenges the request (RFC 8613, 7.2.1)
abbrev pub restarts_below : Ends → Piv → Asked → Received → List ℕ → Answered → List ℕ → World
restarts_below x high q r echo early c =
    challenges 0 echo q.bytes c (Then (Then (notifies (observing 0 0 r) early (delivers_registration 0 0 r echo q.bytes
    (Then (Then (asks q (start_client x 0 Begin)) (ServerStarts (starts.Fresh high) x.size)) (Reserves Server)))) (AtServer (server.Restart 0 0) server.Restarted)) (Reserves Server))

-- the client starts anew at 0 too, and registers with the value; that is delivered and notified, with the Partial IV 1; the client hears this notification, and then
-- the first one, which comes late (RFC 8613, 7.2.1 and 7.4.1)
abbrev pub own_out_of_order : Ends → Piv → Asked → Asked → Received → Received → Received → Received → List ℕ → List ℕ → Answered → Answered → World
own_out_of_order x high q again r k u v echo c early late =
    hears 0 v early.bytes (hears 0 u late.bytes (notifies (observing 1 0 k) late (Then (delivers_registration 1 0 k echo again.bytes (asks again (start_client x 0
    (restarts_below x high q r echo early c)))) (Draws Server))))

-- what was sealed first is heard last, and all other premises hold (RFC 8613, 7.2.1 and 7.4.1)
abbrev pub OwnOutOfOrderBreaks : Type 0
OwnOutOfOrderBreaks = (n : ℕ) (s : SecurityContext) (x : Ends) (high : Piv) (q again : Asked) (r k u v : Received) (echo c : List ℕ) (early late : Answered) → number_of high ≡ 64
    → (CarriesValue q echo → ⊥) → AtEach (Answers n s) (own_out_of_order x high q again r k u v echo c early late)
    → AtEach (NobodyForges s) (own_out_of_order x high q again r k u v echo c early late)
    × AtEach (EchoIsNew s) (own_out_of_order x high q again r k u v echo c early late)
    × AtEach StartsAboveDelivered (own_out_of_order x high q again r k u v echo c early late)
    × (AtEachHeard (IsNext s) (own_out_of_order x high q again r k u v echo c early late) → ⊥)

-- a request is delivered and answered without a Partial IV of its own; the server starts fresh again, at a number that it didn't use, and does the same (RFC 8613, B.1.2)
abbrev pub fresh_again : Ends → Piv → Asked → Received → Received → List ℕ → Answered → Answered → World
fresh_again x later q r k echo y z =
    replies (ticket_of 0 0 k) false z (delivers 0 0 k echo q.bytes (Then (replies (ticket_of 0 0 r) false y (delivers 0 0 r echo q.bytes
    (start_server x (asks q (start_client x 0 Begin))))) (ServerStarts (starts.Fresh later) x.size)))

-- two replies are sealed under the nonce of the request, and all other premises hold (RFC 8613, 5.2 and B.1.2)
abbrev pub FreshAgainBreaks : Type 0
FreshAgainBreaks = (n : ℕ) (s : SecurityContext) (x : Ends) (later : Piv) (q : Asked) (r k : Received) (echo : List ℕ) (y z : Answered) → number_of later ≡ 64
    → AtEach (Answers n s) (fresh_again x later q r k echo y z)
    → AtEach (NobodyForges s) (fresh_again x later q r k echo y z) × AtEach (EchoIsNew s) (fresh_again x later q r k echo y z)
    × AtEach (NumbersAreKept s) (fresh_again x later q r k echo y z) × (SealsUnderNewNonces s (fresh_again x later q r k echo y z) → ⊥)

-- without any one of these four premises, a request is delivered that the client didn't seal, or one is delivered twice, responses are heard in another order
-- than they were sealed, or two are sealed under one nonce (RFC 8613, 5.2, 7.4 and 7.4.1)
pub record NoneCanBeLeftOut : Type 0 where
  pub forgery : ForgeryBreaks
  pub repeated_value : RepeatedValueBreaks
  pub out_of_order : NumberOutOfOrderBreaks
  pub own_out_of_order : OwnOutOfOrderBreaks
  pub fresh_again : FreshAgainBreaks
