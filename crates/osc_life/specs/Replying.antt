-- For the proofs: what a context of a server answers to a reply and to a notification by a ticket.
use Rattle.std.specs.Prelude.{◌≡◌, ◌⊎◌, ℕ, Bool, true, false, Option, Some, None, Result, Ok, Err, if◌then◌else◌}
use Rattle.osc_coap.specs.Datagram.{Parts}
use Rattle.osc_context.specs.declared.features.Features.{Features}
use Rattle.osc_protect.specs.SealRefusals.{IsPlainResponse, RefusesPlainResponse}
use Rattle.osc_protect.specs.declared.protect_error.ProtectError.{ProtectError}
use Rattle.osc_protect.specs.declared.protect_error.ProtectError.TheVariants as protects
use Rattle.osc_life.specs.declared.server_error.ReplyError.{ReplyError}
use Rattle.osc_life.specs.declared.server_error.ReplyError.TheVariants.{StaleTicket, NotObserving, NotThatKind, Unsupported, TooLong, NoRoom}
use Rattle.osc_life.specs.Life.{Life, Mark, Answered}
use Rattle.osc_life.specs.LifeAnswer.{LifeNotify, LifeReply}
use Rattle.osc_life.specs.ServerHistory.{Entry, NotReplied, TicketValues}

-- the refusal of a reply or a notification that follows from a refusal to seal (own rule)
abbrev pub lifted : ProtectError → ReplyError
lifted protects.NotThatKind = NotThatKind
lifted (protects.Unsupported n) = Unsupported n
lifted protects.TooLong = TooLong
lifted protects.NoRoom = NoRoom

-- why a response isn't sealed for which there is this other reason: what keeps it from being sealed at all comes first (own rule: the order)
abbrev pub IsFirstReason : Features → Parts → ReplyError → ReplyError → Type 0
IsFirstReason x p other reason = (IsPlainResponse x p × (reason ≡ other)) ⊎ ((e : ProtectError) × RefusesPlainResponse x p e × (reason ≡ lifted e))

-- what a reply leaves in its life (RFC 8613, 7.2.1)
abbrev pub reply_mark : Result ℕ ReplyError → Bool → Option Mark
reply_mark (Ok n) own = if own then Some Answered else None
reply_mark (Err e) own = None

-- the life's answer to a reply by a ticket with these values: a stale ticket, or what the life answers (how the code is seen)
abbrev pub PlaceReply : Life → TicketValues → Bool → Parts → ℕ → Entry → Type 0
PlaceReply of t own p room (NotReplied StaleTicket) = t.life ≡ of.count → ⊥
PlaceReply of t own p room entry = (t.life ≡ of.count) × LifeReply of t.number own p room entry

-- the life's answer to a notification by a ticket with these values: a stale ticket, one that observes nothing, or what the life answers (how the code is seen)
abbrev pub PlaceNotify : Life → TicketValues → Parts → ℕ → Entry → Type 0
PlaceNotify of t p room (NotReplied StaleTicket) = t.life ≡ of.count → ⊥
PlaceNotify of t p room (NotReplied NotObserving) = (t.life ≡ of.count) × (t.observes ≡ false)
PlaceNotify of t p room entry = (t.life ≡ of.count) × (t.observes ≡ true) × LifeNotify of t.number p room entry
