-- To be believed: what holds for every history of a server whose entries are all its answers: the contracts of laws.rt. h is a history, i
-- the index of a context, c how many lives the context had before a given one, ts tickets or texts, newest first.
use Rattle.std.specs.Prelude.{◌≡◌, ◌≢◌, ℕ, ◌+◌, ◌<◌, ◌≤◌, ◌==◌, ◌&&◌, List, [], ◌∷◌, ◌++◌, length, Bool, true, Option, Some, None, is_some, if◌then◌else◌}
use Rattle.std.specs.List.{AllByRecursion}
use Rattle.osc_coap.specs.Datagram.{Parts, IsDatagram}
use Rattle.osc_coap.specs.OptionNumbers.{oscore}
use Rattle.osc_coap.specs.Search.{values_at}
use Rattle.osc_context.specs.OscoreValue.{IsOscoreValue}
use Rattle.osc_context.specs.SecurityContext.{SecurityContext}
use Rattle.osc_protect.specs.Protection.{response_nonce}
use Rattle.osc_protect.specs.Usage.{value_of_response}
use Rattle.osc_life.specs.Life.{Life, Mark, PassedOver, next_own}
use Rattle.osc_endpoint.specs.ServerAnswer.{ServerAnswer}
use Rattle.osc_life.specs.LifeAnswer.{own_number}
use Rattle.osc_endpoint.specs.Tickets.{TakesTickets}
use Rattle.osc_life.specs.ServerHistory.{History, Begin, Then, Event, Entry, TicketValues, Reply, Notify, Challenge, Deliver, Took, Replied, life}

-- each entry is the server's answer to its event (own rule)
abbrev pub AllAnswers : History → Type 0
AllAnswers Begin = Unit {0}
AllAnswers (Then h event entry) = AllAnswers h × ServerAnswer h event entry

-- after each history of answers, a server has at most one answer to an event (own rule)
abbrev pub OneServerAnswer : Type 0
OneServerAnswer = (h : History) (event : Event) (x y : Entry) → AllAnswers h → ServerAnswer h event x → ServerAnswer h event y → x ≡ y

-- each element has this relation to each element after it (own rule)
abbrev pub Pairwise : {A : Type 0} → (A → A → Type 0) → List A → Type 0
Pairwise R [] = Unit {0}
Pairwise R (x ∷ xs) = AllByRecursion (R x) xs × Pairwise R xs

-- the tickets of all deliveries (own rule)
abbrev pub delivered : History → List TicketValues
delivered Begin = []
delivered (Then h event (Took (Deliver received ticket) reply)) = ticket ∷ delivered h
delivered (Then h event entry) = delivered h

-- the two tickets aren't of the same number in the same life of the same context (RFC 8613, 7.4)
abbrev pub AreApart : TicketValues → TicketValues → Type 0
AreApart t u = t.context ≡ u.context → t.life ≡ u.life → t.number ≡ u.number → ⊥

-- in one life of a context no number is delivered twice (RFC 8613, 7.4)
abbrev pub DeliveredOnce : Type 0
DeliveredOnce = (h : History) → AllAnswers h → Pairwise AreApart (delivered h)

-- a text that a server sealed: in which life of which context, to which request, with which own Partial IV or none (RFC 8613, 8.3)
pub record Text : Type 0 where
  pub context : ℕ
  pub life : ℕ
  pub keys : SecurityContext
  pub request : ℕ
  pub own : Option ℕ
  pub bytes : List ℕ

-- the text, if the context is there (own rule)
abbrev pub text_in : Option Life → ℕ → ℕ → Bool → List ℕ → List Text
text_in None i n own bytes = []
text_in (Some of) i n own bytes = record { context = i; life = of.count; keys = of.context; request = n; own = own_number own of; bytes = bytes } ∷ []

-- the texts that a server sealed: challenges, replies and notifications (RFC 8613, 8.3)
abbrev pub texts : History → List Text
texts Begin = []
texts (Then h event (Took (Challenge i n echo issued) reply)) = text_in (life h i) i n true reply ++ texts h
texts (Then h (Reply ticket own mid plain room) (Replied bytes)) = text_in (life h ticket.context) ticket.context ticket.number own bytes ++ texts h
texts (Then h (Notify ticket plain room) (Replied bytes)) = text_in (life h ticket.context) ticket.context ticket.number true bytes ++ texts h
texts (Then h event entry) = texts h

-- the texts of one life of a context that have a Partial IV of their own (RFC 8613, 5)
abbrev pub own_texts : ℕ → ℕ → List Text → List Text
own_texts i c [] = []
own_texts i c (t ∷ ts) = if (t.context == i) && ((t.life == c) && is_some t.own) then t ∷ own_texts i c ts else own_texts i c ts

-- the number is the text's own Partial IV, and it is the Partial IV in the text's bytes (RFC 8613, 6.1)
pub record HasOwnNumber (t : Text) (n : ℕ) : Type 0 where
  pub own : t.own ≡ Some n
  pub outer : Parts
  pub datagram : IsDatagram outer t.bytes
  pub value : List ℕ
  pub single : values_at oscore outer.options ≡ value ∷ []
  pub reads : IsOscoreValue (value_of_response (Some n)) value

-- the texts have consecutive Sender Sequence Numbers, from first on (RFC 8613, 7.2.1)
abbrev pub CountsUp : ℕ → List Text → Type 0
CountsUp first [] = Unit {0}
CountsUp first (t ∷ ts) = HasOwnNumber t (first + length ts) × CountsUp first ts

-- the texts have Sender Sequence Numbers that rise: each is at least first, above those of all earlier texts, and below the limit (RFC 8613, 7.2.1)
abbrev pub Rises : ℕ → ℕ → List Text → Type 0
Rises first limit [] = Unit {0}
Rises first limit (t ∷ ts) = (n : ℕ) × HasOwnNumber t n × (first ≤ n) × (n < limit) × Rises first n ts

-- how many Sender Sequence Numbers were passed over, since another end of the same Sender Key has them (RFC 8613, 7.2.1)
abbrev pub passed_over : List Mark → ℕ
passed_over [] = 0
passed_over (PassedOver count ∷ marks) = passed_over marks + count
passed_over (mark ∷ marks) = passed_over marks

-- the Sender Sequence Numbers of a life rise, so none is used twice; where none was passed over they are consecutive (RFC 8613, 7.2.1)
pub record OwnNumbersAre (of : Life) (ts : List Text) : Type 0 where
  pub rise : Rises of.first (next_own of) ts
  pub count_up : passed_over of.marks ≡ 0 → CountsUp of.first ts

-- this holds of each life of each context (RFC 8613, 7.2.1)
abbrev pub OwnNumbersOnce : Type 0
OwnNumbersOnce = (h : History) (i : ℕ) (of : Life) → AllAnswers h → life h i ≡ Some of → OwnNumbersAre of (own_texts i of.count (texts h))

-- the tickets of all accepted replies (own rule)
abbrev pub answered : History → List TicketValues
answered Begin = []
answered (Then h (Reply ticket own mid plain room) (Replied bytes)) = ticket ∷ answered h
answered (Then h event entry) = answered h

-- a ticket gives at most one reply: no two tickets that replies took, or that are left, are of one number in one life of one context (RFC 8613, 8.3)
abbrev pub TicketOnce : Type 0
TicketOnce = (h : History) → AllAnswers h → (takes : TakesTickets h) → Pairwise AreApart (takes.0 ++ answered h)

-- the nonce of a text (RFC 8613, 5.2)
abbrev pub nonce_of_text : Text → List ℕ
nonce_of_text t = response_nonce t.keys.common_iv t.keys.client t.keys.server t.request t.own

-- two texts of one life of a context have different nonces (RFC 8613, 5.2)
abbrev pub HaveTwoNonces : Text → Text → Type 0
HaveTwoNonces t u = t.context ≡ u.context → t.life ≡ u.life → nonce_of_text t ≢ nonce_of_text u

-- no two texts that a server seals in one life under one context share a nonce (RFC 8613, 5.2)
abbrev pub ServerNoncesOnce : Type 0
ServerNoncesOnce = (h : History) → AllAnswers h → TakesTickets h → Pairwise HaveTwoNonces (texts h)
