-- To be believed: what the bytes of a ticket say. t are the bytes.
use Rattle.std.specs.Prelude.{ℕ, ◌≤◌, ◌<◌, ◌^◌, ◌==◌, zero, suc, not, take}
use Rattle.osc_coap.specs.declared.message.Kind.{Kind}
use Rattle.osc_coap.specs.declared.message.Kind.TheVariants.{Con, Non, Ack, Rst}
use Rattle.osc_life.specs.ServerHistory.{TicketValues}
use Rattle.osc_handle.specs.declared.ticket_handle.TicketHandle.{TicketHandle}

-- the kind that has this number (RFC 7252, 3)
abbrev pub kind_in : ℕ → Kind
kind_in zero = Con
kind_in (suc zero) = Non
kind_in (suc (suc zero)) = Ack
kind_in (suc (suc (suc n))) = Rst

-- the ticket (own rule)
abbrev pub ticket_in : TicketHandle → TicketValues
ticket_in t = record { context = t.context; life = t.life; number = t.number; kind = kind_in t.kind; message_id = t.message_id; token = take t.token_len t.token; observes = not (t.observes == 0) }

-- bytes that a call may have written: a valid kind, a valid number, a valid token length, and a truth value (RFC 7252, 3; RFC 8613, 7.2.1)
pub record IsTicket (t : TicketHandle) : Type 0 where
  pub kind : t.kind ≤ 3
  pub number : t.number < 2 ^ 40
  pub token : t.token_len ≤ 8
  pub observes : t.observes ≤ 1
