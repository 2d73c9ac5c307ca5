-- For the proofs: what a table of contexts answers to a reply and to a notification by a ticket.
use Rattle.std.specs.Prelude.{◌≡◌, ℕ, Bool, true, false, Option, Some, None, Result, Ok, Err}
use Rattle.osc_coap.specs.Datagram.{Parts}
use Rattle.osc_life.specs.declared.server_error.ReplyError.{ReplyError}
use Rattle.osc_life.specs.declared.server_error.ReplyError.TheVariants.{StaleTicket, NotObserving}
use Rattle.osc_life.specs.Life.{Life, Mark}
use Rattle.osc_life.specs.LifeAnswer.{LifeNotify, LifeReply}
use Rattle.osc_life.specs.ServerHistory.{Entry, NotReplied, TicketValues, reply_mark_at}

-- what a reply leaves in the life of context i (RFC 8613, 7.2.1)
abbrev pub marks_at : Result ℕ ReplyError → ℕ → TicketValues → Bool → Option Mark
marks_at (Ok n) i t own = reply_mark_at i t own
marks_at (Err e) i t own = None

-- the ticket is of the present life that is kept for its context, which is there (how the code is seen)
abbrev pub IsPresentIn : (ℕ → Option Life) → TicketValues → Life → Type 0
IsPresentIn lives t of = (lives t.context ≡ Some of) × (t.life ≡ of.count)

-- the table's answer to a reply by a ticket with these values: a stale ticket, or what the ticket's life answers (how the code is seen)
abbrev pub TableReply : (ℕ → Option Life) → TicketValues → Bool → Parts → ℕ → Entry → Type 0
TableReply lives t own p room (NotReplied StaleTicket) = (of : Life) → IsPresentIn lives t of → ⊥
TableReply lives t own p room entry = (of : Life) × IsPresentIn lives t of × LifeReply of t.number own p room entry

-- the table's answer to a notification by a ticket with these values: a stale ticket, one that observes nothing, or what the ticket's life answers (how the code is seen)
abbrev pub TableNotify : (ℕ → Option Life) → TicketValues → Parts → ℕ → Entry → Type 0
TableNotify lives t p room (NotReplied StaleTicket) = (of : Life) → IsPresentIn lives t of → ⊥
TableNotify lives t p room (NotReplied NotObserving) = (of : Life) × IsPresentIn lives t of × (t.observes ≡ false)
TableNotify lives t p room entry = (t.observes ≡ true) × ((of : Life) × IsPresentIn lives t of × LifeNotify of t.number p room entry)
