-- To be believed: which requests a server still has to answer, whatever ticket its caller shows: tickets may be copied or altered. h is a
-- history, i the index of a context, c how many lives the context had before a given one, n the number of a request.
use Rattle.std.specs.Prelude.{◌≡◌, ℕ, ◌+◌, ◌≤◌, ◌==◌, ◌&&◌, ◌||◌, Bool, true, false, not, nat_le, Some, if◌then◌else◌}
use Rattle.std.specs.List.{AllByRecursion}
use Rattle.osc_laws.specs.Laws.{AllAnswers, AreApart, HaveTwoNonces, Pairwise, answered, texts}
use Rattle.osc_life.specs.Life.{Life}
use Rattle.osc_life.specs.ServerHistory.{History, Begin, Then, TicketValues, Datagram, Reply, Deliver, Took, Replied, life}

-- the ticket is for this request (RFC 8613, 8.3)
abbrev pub is_to : ℕ → ℕ → ℕ → TicketValues → Bool
is_to i c n t = (i == t.context) && ((c == t.life) && (n == t.number))

-- the ticket is for a request of the same life whose number is higher by 64 or more (own rule: 64)
abbrev pub is_far_above : ℕ → ℕ → ℕ → TicketValues → Bool
is_far_above i c n t = (i == t.context) && ((c == t.life) && nat_le (n + 64) t.number)

-- the request waits for its answer: it was delivered, isn't answered yet, and no number higher by 64 or more was delivered since (own rule: 64)
abbrev pub waits : History → ℕ → ℕ → ℕ → Bool
waits Begin i c n = false
waits (Then h (Datagram now echo mid d) (Took (Deliver received ticket) reply)) i c n = if is_to i c n ticket then true else (waits h i c n && not (is_far_above i c n ticket))
waits (Then h (Reply ticket own mid plain room) (Replied bytes)) i c n = if is_to i c n ticket then false else waits h i c n
waits (Then h event entry) i c n = waits h i c n

-- the request lies far back: a request of the same life was delivered whose number is higher by 64 or more (own rule: 64)
abbrev pub lies_far_back : History → ℕ → ℕ → ℕ → Bool
lies_far_back Begin i c n = false
lies_far_back (Then h (Datagram now echo mid d) (Took (Deliver received ticket) reply)) i c n = is_far_above i c n ticket || lies_far_back h i c n
lies_far_back (Then h event entry) i c n = lies_far_back h i c n

-- a reply to the ticket's request is due: the request waits for its answer; or it lies far back, and the reply has a Partial IV of its own (RFC 8613, 8.3)
abbrev pub is_due : History → TicketValues → Bool → Bool
is_due h t own = waits h t.context t.life t.number || (own && lies_far_back h t.context t.life t.number)

-- each accepted reply was due (RFC 8613, 8.3)
abbrev pub AnswersDue : History → Type 0
AnswersDue Begin = Unit {0}
AnswersDue (Then h (Reply ticket own mid plain room) (Replied bytes)) = AnswersDue h × (is_due h ticket own ≡ true)
AnswersDue (Then h event entry) = AnswersDue h

-- each accepted reply to a request that waits is the first to it: so it is the only one as long as the request doesn't lie far back (RFC 8613, 8.3)
abbrev pub AreFirst : History → Type 0
AreFirst Begin = Unit {0}
AreFirst (Then h (Reply ticket own mid plain room) (Replied bytes)) = AreFirst h × (waits h ticket.context ticket.life ticket.number ≡ true → AllByRecursion (AreApart ticket) (answered h))
AreFirst (Then h event entry) = AreFirst h

-- if each reply was due, this holds of them (RFC 8613, 8.3)
abbrev pub AnsweredOnce : Type 0
AnsweredOnce = (h : History) → AllAnswers h → AnswersDue h → AreFirst h

-- then no two texts that the server seals in one life under one context share a nonce (RFC 8613, 5.2)
abbrev pub WaitingNoncesOnce : Type 0
WaitingNoncesOnce = (h : History) → AllAnswers h → AnswersDue h → Pairwise HaveTwoNonces (texts h)

-- a request that waits is of a life that its context has or had (RFC 8613, B.1)
abbrev pub WaitingHasLife : Type 0
WaitingHasLife = (h : History) (i c n : ℕ) → AllAnswers h → waits h i c n ≡ true → (of : Life) × (life h i ≡ Some of) × (c ≤ of.count)
