-- For the proofs: the answer to one call of an end, after any history (RFC 8613, 8.1 to 8.4). h is a history, old and new are an end before
-- the call and after it, p is what a plain message says, d a datagram, n the number of a request.
use Rattle.std.specs.Prelude.{◌≡◌, ℕ, List, [], false, None, Some}
use Rattle.osc_coap.specs.Datagram.{Parts}
use Rattle.osc_coap.specs.OptionNumbers as options
use Rattle.osc_coap.specs.Search.{first_of, values_at}
use Rattle.osc_protect.specs.Sealed.{SealsRequest, inside}
use Rattle.osc_client.specs.declared.client.Client.{Client}
use Rattle.osc_endpoint.specs.declared.server.ServerOf.{ServerOf}
use Rattle.osc_life.specs.declared.ticket.Ticket.{Ticket}
use Rattle.osc_endpoint.specs.Agrees.{Agrees}
use Rattle.osc_client.specs.Agrees.{ClientAgrees}
use Rattle.osc_client.specs.ClientAnswer.{ClientAnswer}
use Rattle.osc_client.specs.ClientHistory as asking
use Rattle.osc_life.specs.Life.{Life}
use Rattle.osc_observe.specs.Received.{Received}
use Rattle.osc_endpoint.specs.ServerAnswer.{ServerAnswer}
use Rattle.osc_life.specs.ServerHistory as serving
use Rattle.osc_life.specs.Views.{values_of}
use Rattle.osc_kept.specs.Examples.{ticket_of}

-- after the history, the client answers the event with this entry, and then agrees with the history continued by both (RFC 8613, 8.1 and 8.4)
abbrev pub ClientGoes : asking.History → asking.Event → asking.Entry → Client 8 → Type 0
ClientGoes h event entry client = ClientAnswer 8 h event entry × ClientAgrees client (asking.Then h event entry)

-- after the history, the server answers the event with this entry, and then agrees with the history continued by both (RFC 8613, 8.2 and 8.3)
abbrev pub ServerGoes : serving.History → serving.Event → serving.Entry → ServerOf 1 → Type 0
ServerGoes h event entry server = ServerAnswer h event entry × Agrees server (serving.Then h event entry)

-- this is the present life of the server's only context (RFC 8613, B.1)
abbrev pub HasOneLife : serving.History → Life → Type 0
HasOneLife h of = (i : ℕ) (other : Life) → serving.life h i ≡ Some other → (i ≡ 0) × (other ≡ of)

-- after any history, the client seals the request to these bytes (RFC 8613, 8.1)
abbrev pub Asks : Client 8 → Parts → ℕ → List ℕ → Client 8 → Type 0
Asks old p room bytes new = (h : asking.History) → ClientAgrees old h → ClientGoes h (asking.Request 0 p room) (asking.Sent bytes) new

-- after any history, the client delivers the datagram as a response to request n (RFC 8613, 8.4)
abbrev pub Hears : Client 8 → ℕ → List ℕ → Client 8 → Type 0
Hears old n d new = (h : asking.History) → ClientAgrees old h → (v : Received) × ClientGoes h (asking.Datagram 0 d) (asking.Took (asking.Deliver v n)) new

-- after any history, the server delivers the datagram as request n, and sends nothing (RFC 8613, 8.2)
abbrev pub Delivers : ServerOf 1 → ℕ → List ℕ → List ℕ → Ticket → ServerOf 1 → Type 0
Delivers old n echo d ticket new = (h : serving.History) (of : Life) → Agrees old h → HasOneLife h of → (r : Received) × (values_of ticket ≡ ticket_of of.count n r)
    × ServerGoes h (serving.Datagram 0 echo 0 d) (serving.Took (serving.Deliver r (ticket_of of.count n r)) []) new

-- after any history, the server challenges the request with the fresh Echo value (RFC 8613, B.1.2)
abbrev pub Challenges : ServerOf 1 → List ℕ → List ℕ → List ℕ → ServerOf 1 → Type 0
Challenges old echo d reply new = (h : serving.History) (of : Life) (n : ℕ) (p : Parts) → Agrees old h → HasOneLife h of → SealsRequest of.context n p d
    → ServerGoes h (serving.Datagram 0 echo 0 d) (serving.Took (serving.Challenge 0 n echo 0) reply) new

-- after any history, the server replies to the request of a ticket, which registers nothing, without a Partial IV of its own (RFC 8613, 8.3)
abbrev pub Replies : ServerOf 1 → Ticket → Parts → ℕ → List ℕ → ServerOf 1 → Type 0
Replies old ticket p room bytes new = (h : serving.History) (t : serving.TicketValues) → Agrees old h → values_of ticket ≡ t → t.observes ≡ false
    → ServerGoes h (serving.Reply t false 0 p room) (serving.Replied bytes) new

-- the protected part of the message has no Echo option (RFC 9175, 2.2)
abbrev pub HasNoEcho : Parts → Type 0
HasNoEcho p = first_of (values_at options.echo (inside p).options) ≡ None
