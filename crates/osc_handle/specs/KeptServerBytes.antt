-- To be believed: what the bytes of a kept server say (RFC 8613, 7.2.1 and B.1). k are the bytes, h is a history, o, old and new are the numbers of the
-- server, before and after a call.
use Rattle.std.specs.Prelude.{◌≡◌, ℕ, ◌≤◌, ◌^◌, List, Option, Some, None, Result, Ok, Err, take}
use Rattle.std.specs.Option.{option_map}
use Rattle.osc_life.specs.Deciding.{Decides}
use Rattle.osc_life.specs.Life.{next_own}
use Rattle.osc_endpoint.specs.ServerAnswer.{ServerAnswer}
use Rattle.osc_life.specs.ServerHistory.{History, Then, Event, Entry, Answer, Datagram, Took, Replied, NotReplied, added, life}
use Rattle.osc_life.specs.declared.decision.Decision.{Decision}
use Rattle.osc_life.specs.declared.start.Fresh.{Fresh}
use Rattle.osc_handle.specs.ServerBytes.{Serves}
use Rattle.osc_handle.specs.SingleServerBytes.{server_of_one}
use Rattle.osc_handle.specs.SlotBytes.{IsSlotBytes}
use Rattle.osc_kept_ends.specs.KeptServing.{draws, uses}
use Rattle.osc_kept_ends.specs.Numbering.{Own, Steps, upcoming}
use Rattle.osc_handle.specs.Reserved.{AreReserved}
use Rattle.osc_handle.specs.declared.kept_refusal.KeptReplyRefusal.{KeptReplyRefusal}
use Rattle.osc_handle.specs.declared.kept_refusal.KeptReplyRefusal.TheVariants.{BadHandle, SaveFirst, TicketSpent, Refused}
use Rattle.osc_handle.specs.declared.kept_server_handle.KeptServerHandle.{KeptServerHandle}

-- bytes that a call may have written: the next Sender Sequence Number of the context isn't above the first number that isn't reserved (RFC 8613, 7.2.1)
pub record IsKeptServer (k : KeptServerHandle) : Type 0 where
  pub bytes : IsSlotBytes k.server.slot
  pub next : k.server.slot.next ≤ k.reserved
  pub reserved : k.reserved ≤ 2 ^ 40

-- the bytes stand for a server of one context that is as its history says, and has these numbers (RFC 8613, 7.2.1 and B.1.1)
pub record ServesWith (k : KeptServerHandle) (o : Own) (h : History) : Type 0 where
  pub whole : IsKeptServer k
  pub serves : Serves (server_of_one k.server) h
  pub one : added h ≡ 1
  pub next_is : option_map next_own (life h 0) ≡ Some (upcoming o)
  pub numbers : AreReserved o k.reserved

-- after the history, the entry is the answer to the event; if the server seals with a number of its own, it uses the one in hand, which was drawn before;
-- and the bytes are as all this says (RFC 8613, 8.2, 8.3 and B.1.1)
pub record StepsServer (h : History) (event : Event) (entry : Entry) (old : Own) (k : KeptServerHandle) : Type 0 where
  pub row : ServerAnswer h event entry
  pub new : Own
  pub numbers : Steps (draws h event) (uses h event entry) old new
  pub serves : ServesWith k new (Then h event entry)

-- the same for what was decided about a datagram (RFC 8613, 8.2)
pub record DecidesWith (h : History) (now : ℕ) (fresh : Fresh) (d : List ℕ) (decision : Decision) (left reply : List ℕ) (old : Own) (k : KeptServerHandle) : Type 0 where
  pub answer : Answer
  pub decides : Decides decision left answer
  pub step : StepsServer h (Datagram now fresh.echo fresh.mid d) (Took answer reply) old k

-- the entry of a reply, whose text is at the front of the buffer; bad bytes, a save that comes first and a spent ticket aren't events (own rule)
abbrev pub entry_of_kept_reply : Result ℕ KeptReplyRefusal → List ℕ → Option Entry
entry_of_kept_reply (Ok n) out = Some (Replied (take n out))
entry_of_kept_reply (Err BadHandle) out = None
entry_of_kept_reply (Err (SaveFirst number)) out = None
entry_of_kept_reply (Err TicketSpent) out = None
entry_of_kept_reply (Err (Refused e)) out = Some (NotReplied e)
