-- To be believed: which tickets a server has given and has left. h is a history of a server, ts are tickets, newest first.
use Rattle.std.specs.Prelude.{◌≡◌, List, [], ◌∷◌, ◌++◌}
use Rattle.osc_life.specs.ServerHistory.{History, Begin, Then, TicketValues, Reply, Notify, Deliver, Took, Replied}

-- one of these tickets was taken out (own rule)
abbrev pub IsTakenOut : TicketValues → List TicketValues → List TicketValues → Type 0
IsTakenOut t before after = (front : List TicketValues) × (back : List TicketValues) × (before ≡ front ++ t ∷ back) × (after ≡ front ++ back)

-- one of these tickets is this one (own rule)
abbrev pub IsAmongLeft : TicketValues → List TicketValues → Type 0
IsAmongLeft t ts = (front : List TicketValues) × (back : List TicketValues) × (ts ≡ front ++ t ∷ back)

-- the tickets that are left: each delivery gave one, and each accepted reply took one of these; each accepted notification has one of these, and takes none (own rule)
abbrev pub AreLeft : History → List TicketValues → Type 0
AreLeft Begin ts = ts ≡ []
AreLeft (Then h event (Took (Deliver received ticket) reply)) ts = (before : List TicketValues) × AreLeft h before × (ts ≡ ticket ∷ before)
AreLeft (Then h (Reply ticket own mid plain room) (Replied bytes)) ts = (before : List TicketValues) × AreLeft h before × IsTakenOut ticket before ts
AreLeft (Then h (Notify ticket plain room) (Replied bytes)) ts = AreLeft h ts × IsAmongLeft ticket ts
AreLeft (Then h event entry) ts = AreLeft h ts

-- each accepted reply takes a ticket that a delivery gave, and that no earlier one took; each accepted notification has such a one (own rule)
abbrev pub TakesTickets : History → Type 0
TakesTickets h = (ts : List TicketValues) × AreLeft h ts
