-- To be believed: what one life of a server's context answers (RFC 8613, 7.4, 8.2 to 8.3.1 and B.1.2; RFC 9175, 2.3). The rows stand in the
-- order in which they are checked; the condition of each row includes that no earlier row's condition holds. d is a datagram, i the index of
-- the context, n the number of a request, `of` the life, m a message, clock the clock after the event's own moment, mid and echo the fresh
-- values that were passed in.
use Rattle.std.specs.Prelude.{◌≡◌, ◌⊎◌, ℕ, ◌+◌, ◌<◌, ◌≤◌, ◌^◌, ◌||◌, List, length, Bool, true, false, Option, Some, None, unwrap_or, if◌then◌else◌}
use Rattle.osc_coap.specs.Datagram.{Parts, IsDatagram}
use Rattle.osc_coap.specs.Inner.{InnerParts}
use Rattle.osc_context.specs.Features.{unobserved}
use Rattle.osc_protect.specs.Protection.{ProtectsRequest, notifications, requests, responses}
use Rattle.osc_protect.specs.Refusals.{RefusesPlaintext, RefusesTag}
use Rattle.osc_protect.specs.Sealed.{SealsNotification, SealsResponse}
use Rattle.osc_protect.specs.SealRefusals.{IsPlainResponse, RefusesPlainResponse, RefusesToSeal}
use Rattle.osc_protect.specs.declared.protect_error.ProtectError.TheVariants as seals
use Rattle.osc_life.specs.declared.server_error.ReplyError.TheVariants.{NotThatKind, Unsupported, NotNotification, SequenceExhausted as NoOwnLeft, TooLong, NoRoom}
use Rattle.osc_life.specs.declared.server_error.ReplaceError.TheVariants as replaces
use Rattle.osc_life.specs.declared.server_error.RestartError.TheVariants.{NoSuchContext, LivesExhausted}
use Rattle.osc_life.specs.declared.server_error.SkipError.TheVariants as skips
use Rattle.osc_observe.specs.Observing.{is_notification, registers}
use Rattle.osc_observe.specs.Received.{Receives}
use Rattle.osc_life.specs.Replies.{as_reply, challenge_message}
use Rattle.osc_life.specs.Doubting.{IsBelow, IsNotBelow, StaysBy}
use Rattle.osc_life.specs.Life.{Life, Passes, Admits, Carries, HasOwn, IsNewIn, is_open, in_force, next_own}
use Rattle.osc_life.specs.ServerHistory.{Entry, Answer, TicketValues, Replay, BadTag, BadInner, Challenge, SequenceExhausted, Deliver, Replied, NotReplied, Restarted, NotRestarted, Replaced, NotReplaced, Skipped, NotSkipped}

-- a datagram that arrived: the clock after the datagram's moment, the fresh Echo value and Message ID, and its bytes (own rule)
pub record Arrival : Type 0 where
  pub clock : ℕ
  pub echo : List ℕ
  pub mid : ℕ
  pub bytes : List ℕ

-- the life is open, and the number isn't new; or it is closed, and the number is below those in doubt (RFC 8613, 7.4)
abbrev pub IsReplay : Life → ℕ → Type 0
IsReplay of n = ((is_open of ≡ true) × (IsNewIn of n → ⊥)) ⊎ ((is_open of ≡ false) × IsBelow of.doubt n)

-- the life is closed, and the request doesn't carry the value in force; its number isn't below those in doubt, nor above them (RFC 8613, B.1.2)
abbrev pub WantsEcho : Life → ℕ → ℕ → List ℕ → Type 0
WantsEcho of n clock d =
    (is_open of ≡ false) × IsNotBelow of.doubt n × (m : InnerParts) × ProtectsRequest of.context n m d × StaysBy of.doubt n (Carries (in_force of clock) m)

-- the value in force once more, and when it was issued; if none is in force, the fresh value, issued now (RFC 9175, 2.3)
abbrev pub challenge_given : Life → ℕ → List ℕ → List ℕ × ℕ
challenge_given of clock echo = unwrap_or (in_force of clock) (echo, clock)

-- the reply is the challenge, sealed with the next Sender Sequence Number (RFC 8613, 8.3; RFC 9175, 2.3)
abbrev pub SaysChallenge : Life → ℕ → List ℕ → ℕ → List ℕ → List ℕ → Type 0
SaysChallenge of n d mid echo reply = (p : Parts) × IsDatagram p d
    × SealsResponse of.context n (Some (next_own of)) (as_reply p.kind p.message_id p.token mid (challenge_message echo)) reply

-- the condition of each row of the life that the head names, from the window on (RFC 8613, 4.1.3.5.1, 7.4, 8.2 and B.1.2)
abbrev pub MeetsLifeRow : Life → ℕ → ℕ → Arrival → Answer → Type 0
MeetsLifeRow of i n a Replay = IsReplay of n
MeetsLifeRow of i n a BadTag = Passes of n × RefusesTag (requests of.context) a.bytes
MeetsLifeRow of i n a (BadInner j k) = Passes of n × RefusesPlaintext (requests of.context) a.bytes × (j ≡ i) × (k ≡ n)
MeetsLifeRow of i n a (Challenge j k given issued) =
    WantsEcho of n a.clock a.bytes × HasOwn of × ((given, issued) ≡ challenge_given of a.clock a.echo) × (j ≡ i) × (k ≡ n)
MeetsLifeRow of i n a SequenceExhausted = WantsEcho of n a.clock a.bytes × (HasOwn of → ⊥)
MeetsLifeRow of i n a (Deliver received ticket) =
    Receives (requests of.context) n a.bytes received × Admits of a.clock n received.message
    × (ticket ≡ record { context = i; life = of.count; number = n; kind = received.kind; message_id = received.message_id; token = received.token; observes = registers of.context.features received.message.code received.message.options })
MeetsLifeRow of i n a answer = ⊥

-- the number that a reply is sealed with: the next Sender Sequence Number if one is asked for (RFC 8613, 8.3)
abbrev pub own_number : Bool → Life → Option ℕ
own_number own of = if own then Some (next_own of) else None

-- a Sender Sequence Number is left, if one is asked for (RFC 8613, 7.2.1)
abbrev pub HasAsked : Bool → Life → Type 0
HasAsked own of = own ≡ true → HasOwn of

-- the answer of the ticket's life to Reply, row by row; p is the message with the reply's head, refused if it has Observe (RFC 8613, 4.1.3.5 and 8.3; own rule: no reply is a notification)
abbrev pub LifeReply : Life → ℕ → Bool → Parts → ℕ → Entry → Type 0
LifeReply of n own p room (NotReplied NotThatKind) = RefusesPlainResponse (unobserved of.context.features) p seals.NotThatKind
LifeReply of n own p room (NotReplied (Unsupported k)) = RefusesPlainResponse (unobserved of.context.features) p (seals.Unsupported k)
LifeReply of n own p room (NotReplied NoOwnLeft) = IsPlainResponse (unobserved of.context.features) p × (own ≡ true) × (HasOwn of → ⊥)
LifeReply of n own p room (NotReplied TooLong) = HasAsked own of × RefusesToSeal (responses of.context n) (own_number own of) p room seals.TooLong
LifeReply of n own p room (NotReplied NoRoom) = HasAsked own of × RefusesToSeal (responses of.context n) (own_number own of) p room seals.NoRoom
LifeReply of n own p room (Replied bytes) = HasAsked own of × SealsResponse of.context n (own_number own of) p bytes × (length bytes ≤ room)
LifeReply of n own p room entry = ⊥

-- a reply by this ticket has a Partial IV of its own: one is asked for, or the ticket's request registers an observation (RFC 8613, 4.1.3.5)
abbrev pub asks_own : TicketValues → Bool → Bool
asks_own t own = t.observes || own

-- the message with the head of a notification: the token is the registration's, the Type and the Message ID are its own (RFC 7641, 4.2 and 4.5)
abbrev pub as_notification : List ℕ → Parts → Parts
as_notification token plain = record plain { token = token }

-- the answer of the ticket's life to Notify, row by row; p is the message with the notification's head (RFC 7641, 4.2; RFC 8613, 8.3.1; own rule: the order)
abbrev pub LifeNotify : Life → ℕ → Parts → ℕ → Entry → Type 0
LifeNotify of n p room (NotReplied NotThatKind) = RefusesPlainResponse of.context.features p seals.NotThatKind
LifeNotify of n p room (NotReplied (Unsupported k)) = RefusesPlainResponse of.context.features p (seals.Unsupported k)
LifeNotify of n p room (NotReplied NotNotification) = IsPlainResponse of.context.features p × (is_notification p.code p.options ≡ false)
LifeNotify of n p room (NotReplied NoOwnLeft) = IsPlainResponse of.context.features p × (is_notification p.code p.options ≡ true) × (HasOwn of → ⊥)
LifeNotify of n p room (NotReplied TooLong) = (is_notification p.code p.options ≡ true) × HasOwn of × RefusesToSeal (notifications of.context n) (Some (next_own of)) p room seals.TooLong
LifeNotify of n p room (NotReplied NoRoom) = (is_notification p.code p.options ≡ true) × HasOwn of × RefusesToSeal (notifications of.context n) (Some (next_own of)) p room seals.NoRoom
LifeNotify of n p room (Replied bytes) = (is_notification p.code p.options ≡ true) × HasOwn of × SealsNotification of.context n (Some (next_own of)) p bytes × (length bytes ≤ room)
LifeNotify of n p room entry = ⊥

-- the answer to Restart, from the present life of the context, if it is there (own rule: 2 ^ 64 - 1 restarts and replacements)
abbrev pub LifeRestart : Option Life → Entry → Type 0
LifeRestart None (NotRestarted NoSuchContext) = Unit {0}
LifeRestart (Some of) (NotRestarted LivesExhausted) = 2 ^ 64 ≤ of.count + 1
LifeRestart (Some of) Restarted = of.count + 1 < 2 ^ 64
LifeRestart of entry = ⊥

-- whether another context can take the place of one, from its present life, if it is there (own rule: 2 ^ 64 - 1 restarts and replacements)
abbrev pub LifeReplace : Option Life → Entry → Type 0
LifeReplace None (NotReplaced replaces.NoSuchContext) = Unit {0}
LifeReplace (Some of) (NotReplaced replaces.LivesExhausted) = 2 ^ 64 ≤ of.count + 1
LifeReplace (Some of) Replaced = of.count + 1 < 2 ^ 64
LifeReplace of entry = ⊥

-- the answer to Skip, from the present life of the context, if it is there: no number from 2 ^ 40 on is passed over (RFC 8613, 7.2.1)
abbrev pub LifeSkip : Option Life → ℕ → Entry → Type 0
LifeSkip None count (NotSkipped skips.NoSuchContext) = Unit {0}
LifeSkip (Some of) count (NotSkipped skips.TooFewLeft) = 2 ^ 40 < next_own of + count
LifeSkip (Some of) count Skipped = next_own of + count ≤ 2 ^ 40
LifeSkip of count entry = ⊥
