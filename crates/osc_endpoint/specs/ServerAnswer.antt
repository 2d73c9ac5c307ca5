-- To be believed: what a server answers to each event, after a history (RFC 8613, 7.4, 8.2 to 8.3.1 and B.1.2; RFC 9175, 2.3). The rows stand
-- in the order in which they are checked; the condition of each row includes that no earlier row's condition holds. h is a history, d a
-- datagram, i the index of a context, n the number of a request, `of` the present life of that context, m a message, clock the clock after
-- the event's own moment, mid and echo the fresh values that were passed in.
use Rattle.std.specs.Prelude.{◌≡◌, ◌≢◌, ℕ, ◌<◌, ◌≤◌, List, [], length, Bool, true, false, Option, Some, max}
use Rattle.osc_coap.specs.Datagram.{Parts}
use Rattle.osc_coap.specs.Fault.{HasFault}
use Rattle.osc_coap.specs.Inner.{InnerParts}
use Rattle.osc_context.specs.SecurityContext.{SecurityContext}
use Rattle.osc_context.specs.Senders.{HaveSameSender}
use Rattle.osc_protect.specs.Head.{Head, HasRequestHead, HasNoRequestHead}
use Rattle.osc_protect.specs.Protection.{ProtectsRequest, requests}
use Rattle.osc_protect.specs.Refusals.{Names}
use Rattle.osc_protect.specs.declared.head_error.HeadError.TheVariants as heads
use Rattle.osc_life.specs.declared.server_error.AddError.TheVariants.{Full, SameLookup}
use Rattle.osc_life.specs.declared.server_error.ReplaceError.TheVariants as replaces
use Rattle.osc_life.specs.declared.server_error.ReplyError.TheVariants.{StaleTicket, NotObserving}
use Rattle.osc_life.specs.Replies.{SaysError, as_reply, undecodable, no_context, replay, bad_tag}
use Rattle.osc_life.specs.Life.{Life, Admits}
use Rattle.osc_life.specs.ServerHistory.{History, Event, Entry, Answer, TicketValues, Add, Datagram, Reply, Notify, Restart, Replace, Skip, Advance, Malformed, NotRequest, Plain, Undecodable, NoContext, Replay, BadTag, Challenge, Added, NotAdded, Took, NotReplied, Replaced, NotReplaced, Advanced, clock, added, life}
use Rattle.osc_life.specs.LifeAnswer.{Arrival, SaysChallenge, MeetsLifeRow, LifeReply, as_notification, LifeNotify, LifeReplace, LifeRestart, LifeSkip}

-- the context's identifiers are short enough for a nonce, and differ (RFC 8613, 3.3)
pub record IsContext (s : SecurityContext) : Type 0 where
  pub client : length s.client ≤ 7
  pub server : length s.server ≤ 7
  pub differ : s.client ≢ s.server

-- a request for the one would also be one for the other: they have the same client, and the same ID Context or both none (RFC 8613, 3.3)
abbrev pub HaveSameLookup : SecurityContext → SecurityContext → Type 0
HaveSameLookup s t = (s.client ≡ t.client) × (s.id_context ≡ t.id_context)

-- requests for this context would also name one of these lives (RFC 8613, 3.3)
abbrev pub IsTakenIn : (ℕ → Option Life) → SecurityContext → Type 0
IsTakenIn lives s = (i : ℕ) × (of : Life) × (lives i ≡ Some of) × HaveSameLookup of.context s

-- requests for this context would also name one that is there (RFC 8613, 3.3)
abbrev pub IsTaken : History → SecurityContext → Type 0
IsTaken h s = IsTakenIn (life h) s

-- the answer to Add, by a server with room for so many contexts (own rule: the room)
abbrev pub AddAnswer : History → SecurityContext → ℕ → Entry → Type 0
AddAnswer h s places (NotAdded Full) = places ≤ added h
AddAnswer h s places (NotAdded SameLookup) = (added h < places) × IsTaken h s
AddAnswer h s places (Added index) = (added h < places) × (IsTaken h s → ⊥) × (index ≡ added h)
AddAnswer h s places entry = ⊥

-- a context of these lives has the same Sender Key as this one (RFC 8613, 3.3)
abbrev pub HasSenderIn : (ℕ → Option Life) → SecurityContext → Type 0
HasSenderIn lives s = (i : ℕ) × (of : Life) × (lives i ≡ Some of) × HaveSameSender of.context s

-- a context that is there has the same Sender Key as this one (RFC 8613, 3.3)
abbrev pub HasSameSender : History → SecurityContext → Type 0
HasSameSender h s = HasSenderIn (life h) s

-- requests for this context would also name another one of these lives than context i (RFC 8613, 3.3)
abbrev pub IsTakenBeside : (ℕ → Option Life) → ℕ → SecurityContext → Type 0
IsTakenBeside lives i s = (j : ℕ) × (of : Life) × (j ≢ i) × (lives j ≡ Some of) × HaveSameLookup of.context s

-- the answer to Replace, from the present lives of the contexts (RFC 8613, 3.3; own rule: the order)
abbrev pub ReplaceAnswer : (ℕ → Option Life) → ℕ → SecurityContext → Entry → Type 0
ReplaceAnswer lives i s (NotReplaced replaces.SameLookup) = LifeReplace (lives i) Replaced × IsTakenBeside lives i s
ReplaceAnswer lives i s (NotReplaced replaces.SameSender) = LifeReplace (lives i) Replaced × (IsTakenBeside lives i s → ⊥) × HasSenderIn lives s
ReplaceAnswer lives i s Replaced = LifeReplace (lives i) Replaced × (IsTakenBeside lives i s → ⊥) × (HasSenderIn lives s → ⊥)
ReplaceAnswer lives i s entry = LifeReplace (lives i) entry

-- the datagram's head names this context, which is there, and this number (RFC 8613, 8.2)
pub record IsRequestOf (h : History) (d : List ℕ) (i n : ℕ) (of : Life) : Type 0 where
  pub head : Head
  pub has_head : HasRequestHead d head
  pub life_is : life h i ≡ Some of
  pub names : Names (requests of.context) head n

-- the datagram's head names no context that is there (RFC 8613, 8.2)
abbrev pub NamesNone : History → List ℕ → Type 0
NamesNone h d = (head : Head) × HasRequestHead d head
    × ((i : ℕ) (of : Life) → life h i ≡ Some of → (n : ℕ) → Names (requests of.context) head n → ⊥)

-- a datagram that arrives after a history (own rule)
abbrev pub arrival : History → ℕ → List ℕ → ℕ → List ℕ → Arrival
arrival h now echo mid d = record { clock = max (clock h) now; echo = echo; mid = mid; bytes = d }

-- a row of the life that the head names (RFC 8613, 8.2)
abbrev pub MeetsNamedRow : History → Arrival → Answer → Type 0
MeetsNamedRow h a answer = (i : ℕ) × (n : ℕ) × (of : Life) × IsRequestOf h a.bytes i n of × MeetsLifeRow of i n a answer

-- the condition of each row, whatever the reply (RFC 8613, 8.2 and B.1.2; own rule: the order)
abbrev pub MeetsRow : History → Arrival → Answer → Type 0
MeetsRow h a (Malformed fault place) = HasFault a.bytes fault place
MeetsRow h a NotRequest = HasNoRequestHead a.bytes heads.NotThatKind
MeetsRow h a Plain = HasNoRequestHead a.bytes heads.NoOscore
MeetsRow h a Undecodable = HasNoRequestHead a.bytes heads.Undecodable
MeetsRow h a NoContext = NamesNone h a.bytes
MeetsRow h a answer = MeetsNamedRow h a answer

-- the reply of each row: an error, a challenge, or none (RFC 8613, 8.2 and B.1.2; own rule: which)
abbrev pub SaysReply : History → Arrival → Answer → List ℕ → Type 0
SaysReply h a Undecodable reply = SaysError a.bytes a.mid undecodable reply
SaysReply h a NoContext reply = SaysError a.bytes a.mid no_context reply
SaysReply h a Replay reply = SaysError a.bytes a.mid replay reply
SaysReply h a BadTag reply = SaysError a.bytes a.mid bad_tag reply
SaysReply h a (Challenge i n given issued) reply = (of : Life) × (life h i ≡ Some of) × SaysChallenge of n a.bytes a.mid given reply
SaysReply h a answer reply = reply ≡ []

-- the answer to a datagram, and its reply (RFC 8613, 8.2 and B.1.2)
abbrev pub TakeAnswer : History → Arrival → Answer → List ℕ → Type 0
TakeAnswer h a answer reply = MeetsRow h a answer × SaysReply h a answer reply

-- the ticket is of the present life of a context that is there (own rule)
abbrev pub IsPresent : History → TicketValues → Life → Type 0
IsPresent h ticket of = (life h ticket.context ≡ Some of) × (ticket.life ≡ of.count)

-- a fact about the ticket's life, which is the present one (own rule)
abbrev pub OfTicket : History → TicketValues → (Life → Type 0) → Type 0
OfTicket h ticket P = (of : Life) × IsPresent h ticket of × P of

-- the answer to Reply: a stale ticket first (RFC 8613, 8.3; own rule: the order)
abbrev pub ReplyAnswer : History → TicketValues → Bool → Parts → ℕ → Entry → Type 0
ReplyAnswer h t own p room (NotReplied StaleTicket) = (of : Life) → IsPresent h t of → ⊥
ReplyAnswer h t own p room entry = OfTicket h t (λ of. LifeReply of t.number own p room entry)

-- the answer to Notify: first a stale ticket, then one whose request registers nothing (RFC 8613, 8.3.1; own rule: the order)
abbrev pub NotifyAnswer : History → TicketValues → Parts → ℕ → Entry → Type 0
NotifyAnswer h t p room (NotReplied StaleTicket) = (of : Life) → IsPresent h t of → ⊥
NotifyAnswer h t p room (NotReplied NotObserving) = OfTicket h t (λ of. t.observes ≡ false)
NotifyAnswer h t p room entry = (t.observes ≡ true) × OfTicket h t (λ of. LifeNotify of t.number p room entry)

-- the entry is the server's answer to the event after this history (RFC 8613, 8.2 and 8.3)
abbrev pub ServerAnswer : History → Event → Entry → Type 0
ServerAnswer h (Add s start size places) entry = IsContext s × AddAnswer h s places entry
ServerAnswer h (Datagram now echo mid d) (Took answer reply) = TakeAnswer h (arrival h now echo mid d) answer reply
ServerAnswer h (Reply t own mid plain room) entry = ReplyAnswer h t own (as_reply t.kind t.message_id t.token mid plain) room entry
ServerAnswer h (Notify t plain room) entry = NotifyAnswer h t (as_notification t.token plain) room entry
ServerAnswer h (Restart i next) entry = LifeRestart (life h i) entry
ServerAnswer h (Replace i by start size) entry = IsContext by × ReplaceAnswer (life h) i by entry
ServerAnswer h (Skip i count) entry = LifeSkip (life h i) count entry
ServerAnswer h (Advance now) Advanced = Unit {0}
ServerAnswer h event entry = ⊥

-- the datagram protects this message under context i and number n, which is admitted (RFC 8613, 7.4, 8.2 and B.1.2)
pub record Delivers (h : History) (now : ℕ) (d : List ℕ) (i n : ℕ) (m : InnerParts) : Type 0 where
  pub of : Life
  pub life_is : life h i ≡ Some of
  pub protects : ProtectsRequest of.context n m d
  pub admits : Admits of (max (clock h) now) n m
