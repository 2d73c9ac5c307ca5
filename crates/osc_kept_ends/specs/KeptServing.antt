-- To be believed: a server whose numbers are kept (RFC 8613, 7.2.1 and B.1): each call is zero or one draw and then one event of a server. h is
-- a history, old and new the numbers before and after.
use Rattle.std.specs.Prelude.{◌≡◌, ◌≢◌, ℕ, List, Bool, true, false, not, Option, Some, None}
use Rattle.std.specs.Option.{option_map}
use Rattle.osc_context.specs.Views.{number_of}
use Rattle.osc_life.specs.declared.decision.Decided.{Decided}
use Rattle.osc_life.specs.declared.outcome.Outcome.{Outcome}
use Rattle.osc_endpoint.specs.declared.server.ServerOf.{ServerOf}
use Rattle.osc_life.specs.declared.start.Fresh.{Fresh}
use Rattle.osc_life.specs.declared.start.Start.{Start}
use Rattle.osc_life.specs.declared.start.Start.TheVariants as starts
use Rattle.osc_endpoint.specs.Agrees.{Agrees}
use Rattle.osc_life.specs.Deciding.{Decides}
use Rattle.osc_life.specs.Life.{is_open_life, next_own}
use Rattle.osc_endpoint.specs.ServerAnswer.{ServerAnswer}
use Rattle.osc_life.specs.ServerHistory.{History, Then, Event, Entry, Answer, Datagram, Reply, Notify, Took, Replied, Challenge, added, life}
use Rattle.osc_life.specs.Views.{Shows}
use Rattle.osc_kept_ends.specs.Numbering.{Own, Load, Reserve, Steps, after, upcoming}

-- whether a number is drawn before an event: if a challenge may be the answer, if a reply asks for its own Partial IV, or for a notification
-- (RFC 8613, 8.3 and B.1.2)
abbrev pub draws : History → Event → Bool
draws h (Datagram now echo mid d) = not (is_open_life (life h 0))
draws h (Reply ticket own mid plain room) = own
draws h (Notify ticket plain room) = true
draws h event = false

-- the Sender Sequence Number that an event used, if it used one: a challenge and a notification do, and so does a reply that asked for it (RFC 8613, 7.2.1)
abbrev pub uses : History → Event → Entry → Option ℕ
uses h (Datagram now echo mid d) (Took (Challenge i n given issued) reply) = option_map next_own (life h i)
uses h (Reply ticket true mid plain room) (Replied bytes) = option_map next_own (life h ticket.context)
uses h (Notify ticket plain room) (Replied bytes) = option_map next_own (life h ticket.context)
uses h event entry = None

-- the server is as its history says, has one context, and seals next with this number (RFC 8613, 7.2.1)
pub record IsKept (s : ServerOf 1) (next : ℕ) (h : History) : Type 0 where
  pub agrees : Agrees s h
  pub one : added h ≡ 1
  pub next_is : option_map next_own (life h 0) ≡ Some next

-- this is how the server answers the event; if it seals with its own Partial IV, it uses the one in hand, which was drawn before (RFC 8613, 8.2, 8.3 and B.1.1)
pub record KeptStep (h : History) (event : Event) (entry : Entry) (old new : Own) (s : ServerOf 1) : Type 0 where
  pub row : ServerAnswer h event entry
  pub kept : IsKept s (upcoming new) (Then h event entry)
  pub numbers : Steps (draws h event) (uses h event entry) old new

-- what was decided about a datagram (RFC 8613, 8.2)
pub record KeptDecides (h : History) (now : ℕ) (fresh : Fresh) (d : List ℕ) (result : Decided) (left reply : List ℕ) (old new : Own) (s : ServerOf 1) : Type 0 where
  pub answer : Answer
  pub decides : Decides result.decision left answer
  pub step : KeptStep h (Datagram now fresh.echo fresh.mid d) (Took answer reply) old new s

-- what became of a datagram (RFC 8613, 8.2)
pub record KeptTakes (h : History) (now : ℕ) (fresh : Fresh) (d : List ℕ) (outcome : Outcome) (reply : List ℕ) (old new : Own) (s : ServerOf 1) : Type 0 where
  pub answer : Answer
  pub shows : Shows outcome answer
  pub step : KeptStep h (Datagram now fresh.echo fresh.mid d) (Took answer reply) old new s

-- how a server starts at the number that was loaded: fresh if and only if that is 0 (RFC 8613, B.1.1 and B.1.2)
abbrev pub IsStart : Start → ℕ → Type 0
IsStart (starts.Fresh first) loaded = (number_of first ≡ loaded) × (loaded ≡ 0)
IsStart (starts.Restarted first) loaded = (number_of first ≡ loaded) × (loaded ≢ 0)
IsStart (starts.Received first highest) loaded = ⊥
IsStart (starts.Reserved first highest ahead) loaded = ⊥

-- its numbers after the start: a fresh server has drawn its first number, so 64 is saved, and no later start is fresh (RFC 8613, B.1.1)
abbrev pub started : Start → ℕ → Own → Own
started (starts.Fresh first) loaded o = after Reserve (after (Load loaded) o)
started (starts.Restarted first) loaded o = after (Load loaded) o
started (starts.Received first highest) loaded o = after (Load loaded) o
started (starts.Reserved first highest ahead) loaded o = after (Load loaded) o
