-- How the code is seen: that the bytes of a server are as its history says. s are the bytes, h is the history.
use Rattle.std.specs.Prelude.{◌≡◌, ℕ, ◌+◌, ◌<◌, Bool, false, nat_le, List, Option, Some, None, Result, Ok, Err, slice_get, take}
use Rattle.std.specs.List.{All}
use Rattle.osc_coap.specs.Datagram.{Parts}
use Rattle.osc_context.specs.SecurityContext.{SecurityContext}
use Rattle.osc_window.specs.declared.window_size.WindowSize.{WindowSize}
use Rattle.osc_endpoint.specs.Agrees.{Agrees, server_of}
use Rattle.osc_life.specs.Deciding.{Decides}
use Rattle.osc_laws.specs.Laws.{AllAnswers}
use Rattle.osc_life.specs.Life.{Life, spent}
use Rattle.osc_laws.specs.Senders.{SendersDiffer}
use Rattle.osc_endpoint.specs.ServerAnswer.{IsPresent, ServerAnswer}
use Rattle.osc_life.specs.ServerHistory.{Add, Answer, Datagram, Entry, History, NotReplied, Notify, Replied, Reply, Then, TicketValues, Took, life}
use Rattle.osc_laws.specs.Waiting.{AnswersDue, is_due, lies_far_back, waits}
use Rattle.osc_life.specs.declared.decision.Decision.{Decision}
use Rattle.osc_life.specs.declared.slot.Slot.{Slot}
use Rattle.osc_life.specs.declared.start.Fresh.{Fresh}
use Rattle.osc_life.specs.declared.start.Start.{Start}
use Rattle.osc_handle.specs.TableBytes.{IsTableIn}
use Rattle.osc_handle.specs.UnansweredBytes.{holds}
use Rattle.osc_handle.specs.declared.reply_refusal.ReplyRefusal.{ReplyRefusal}
use Rattle.osc_handle.specs.declared.reply_refusal.ReplyRefusal.TheVariants.{BadHandle, TicketSpent, Refused}
use Rattle.osc_handle.specs.ServerParts.{ServerParts}
use Rattle.osc_handle.specs.declared.unanswered_handle.UnansweredHandle.{UnansweredHandle}

-- the bytes hold exactly the numbers that are waiting in this life, and none above those that were spent in it; the highest one tells which requests lie far back (RFC 8613, 8.3)
pub record RemembersLife (u : UnansweredHandle) (of : Life) (waiting back : ℕ → Bool) : Type 0 where
  pub held : (n : ℕ) → holds u n ≡ waiting n
  pub far : (n : ℕ) → nat_le (n + 64) u.highest ≡ back n
  pub reach : (bound : ℕ) → 0 < bound → All (λ m. m < bound) (spent of.open_at_birth of.marks) → u.highest < bound

-- the same for the present life of a context, if there is one; waiting and back take the number of the lives before it (RFC 8613, 8.3)
abbrev pub RemembersAt : UnansweredHandle → Option Life → (ℕ → ℕ → Bool) → (ℕ → ℕ → Bool) → Type 0
RemembersAt u None waiting back = Unit {0}
RemembersAt u (Some of) waiting back = RemembersLife u of (waiting of.count) (back of.count)

-- and for each context (RFC 8613, 8.3)
pub record Remembers (us : List UnansweredHandle) (h : History) : Type 0 where
  pub at : (i : ℕ) (u : UnansweredHandle) → slice_get us i ≡ Some u → RemembersAt u (life h i) (waits h i) (lies_far_back h i)

-- the bytes stand for a server that is as its history says; each entry of the history was the answer, each reply was due, and no
-- context was added if another had its Sender Key (RFC 8613, 3.1, 3.3 and 8.3)
pub record Serves (s : ServerParts) (h : History) : Type 0 where
  pub slots : List (Option Slot)
  pub table : IsTableIn s.contexts slots
  pub agrees : Agrees (server_of 1 s.clock slots) h
  pub remembers : Remembers s.unanswered h
  pub answers : AllAnswers h
  pub due : AnswersDue h
  pub senders : SendersDiffer h

-- after the history, the entry is the answer to the addition, and the bytes are as both say (RFC 8613, B.1)
abbrev pub AddsIn : History → SecurityContext → Start → WindowSize → Entry → ServerParts → Type 0
AddsIn h c start size entry s = ServerAnswer h (Add c start size 1) entry × Serves s (Then h (Add c start size 1) entry)

-- after the history, what was decided about a datagram is the answer, and the bytes are as both say (how the code is seen)
pub record DecidesIn (h : History) (now : ℕ) (fresh : Fresh) (d : List ℕ) (decision : Decision) (new reply : List ℕ) (s : ServerParts) : Type 0 where
  pub answer : Answer
  pub row : ServerAnswer h (Datagram now fresh.echo fresh.mid d) (Took answer reply)
  pub decides : Decides decision new answer
  pub serves : Serves s (Then h (Datagram now fresh.echo fresh.mid d) (Took answer reply))

-- the ticket is of the present life of its context, and no such reply to its request is due (RFC 8613, 8.3)
abbrev pub IsSpent : History → TicketValues → Bool → Type 0
IsSpent h t own = (of : Life) × IsPresent h t of × (is_due h t own ≡ false)

-- the entry of a reply, whose text is at the front of the buffer; a spent ticket or bad bytes aren't an event of a server (how the code is seen)
abbrev pub entry_of_reply : Result ℕ ReplyRefusal → List ℕ → Option Entry
entry_of_reply (Ok n) out = Some (Replied (take n out))
entry_of_reply (Err BadHandle) out = None
entry_of_reply (Err TicketSpent) out = None
entry_of_reply (Err (Refused e)) out = Some (NotReplied e)

-- after the history, the entry is the answer to the reply, and the bytes are as both say (RFC 8613, 8.3)
abbrev pub RepliesIn : History → TicketValues → Bool → ℕ → Parts → ℕ → Entry → ServerParts → Type 0
RepliesIn h t own mid plain room entry s = ServerAnswer h (Reply t own mid plain room) entry × Serves s (Then h (Reply t own mid plain room) entry)

-- after the history, the entry is the answer to the notification, and the bytes are as both say (RFC 8613, 8.3.1)
abbrev pub NotifiesIn : History → TicketValues → Parts → ℕ → Entry → ServerParts → Type 0
NotifiesIn h t plain room entry s = ServerAnswer h (Notify t plain room) entry × Serves s (Then h (Notify t plain room) entry)
