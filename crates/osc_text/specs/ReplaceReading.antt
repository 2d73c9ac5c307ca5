-- For the proofs: how a line that puts another context in the place of an end's is read, one function for each reader of the code.
use Rattle.std.specs.Prelude.{◌≡◌, ℕ, ◌^◌, Bool, true, false, List, codes, bytes_eq, Option, Some, None, if◌then◌else◌}
use Rattle.std.specs.Borrow.{Bor}
use Rattle.std.specs.Option.{option_map, option_and_then}
use Rattle.osc_context.specs.SecurityContext.{SecurityContext}
use Rattle.osc_context.specs.Views.{as_client, as_server, number_of}
use Rattle.osc_context.specs.declared.context.Context.{Context}
use Rattle.osc_text.specs.AskedEvents.{AskedEvent}
use Rattle.osc_text.specs.AskedReading.{HasRoom, asked_seen}
use Rattle.osc_text.specs.InputEvents.{InputEvent}
use Rattle.osc_text.specs.InputReading.{SpellsSeen, bytes_read, number_read, split_once}
use Rattle.osc_text.specs.PeerReading.{three_read}
use Rattle.osc_text.specs.ReplaceEvents.{Event, Keying, MakesContext, OrReplace, Replace, SaysKeying, Six, SpellsAsking, SpellsReplace, SpellsServing, client_by, server_by}
use Rattle.osc_text.specs.ServedReading.{IsOfRun, event_seen, four_read}
use Rattle.osc_text.specs.declared.replacing.AskedLine.{AskedLine}
use Rattle.osc_text.specs.declared.replacing.AskedLine.TheVariants as asked
use Rattle.osc_text.specs.declared.replacing.Keying.{Keying as KeyingOf}
use Rattle.osc_text.specs.declared.replacing.ServedLine.{ServedLine}
use Rattle.osc_text.specs.declared.replacing.ServedLine.TheVariants as served
use Rattle.osc_life.specs.declared.start.Start.{Start}
use Rattle.osc_life.specs.declared.start.Start.TheVariants as starts

-- six words separated by one space; the last one may contain more spaces (how the code is seen)
unfoldable pub six_read : List ℕ → Option Six
six_read fields = option_and_then (λ p. option_map (λ q. (p.0, p.1, p.2, q.0, q.1, q.2)) (three_read p.3)) (four_read fields)

-- the six words of a line that replaces (how the code is seen)
unfoldable pub replace_read : List ℕ → Option Six
replace_read line = option_and_then (λ p. if bytes_eq p.0 (codes "replace") then six_read p.1 else None) (split_once 32 line)

-- six slices, as lists (how the code is seen)
abbrev pub six_parts : Bor (List ℕ) × Bor (List ℕ) × Bor (List ℕ) × Bor (List ℕ) × Bor (List ℕ) × Bor (List ℕ) → Six
six_parts w = (w.0.now, w.1.now, w.2.now, w.3.now, w.4.now, w.5.now)

-- the ID Context of a word, or that there is none (how the code is seen)
unfoldable pub id_context_read : List ℕ → Option (Option (List ℕ))
id_context_read word = if bytes_eq word (codes "none") then Some None else option_map Some (bytes_read word)

-- what a context is derived from, from what its words say (how the code is seen)
abbrev pub keying_of : (a b c d : Option (List ℕ)) → Option (Option (List ℕ)) → Option Keying
keying_of (Some a) (Some b) (Some c) (Some d) (Some e) = Some (record { secret = a; salt = b; sender = c; recipient = d; id_context = e })
keying_of a b c d e = None

-- the first five of six words (how the code is seen)
unfoldable pub keying_read : Six → Option Keying
keying_read w = keying_of (bytes_read w.0) (bytes_read w.1) (bytes_read w.2) (bytes_read w.3) (id_context_read w.4)

-- what the code read, as lists (how the code is seen)
abbrev pub keying_seen : KeyingOf → Keying
keying_seen k = record { secret = k.secret.items; salt = k.salt.items; sender = k.sender.items; recipient = k.recipient.items; id_context = option_map (λ bytes. bytes.items) k.id_context }

-- how a context begins, restarted or fresh, and its next number, from the words that say it (how the code is seen)
abbrev pub start_of_words : List ℕ → ℕ → Option (Bool × ℕ)
start_of_words word next = if bytes_eq word (codes "fresh") then Some (false, next) else if bytes_eq word (codes "restarted") then Some (true, next) else None

-- the same of what the words are a part of (how the code is seen)
unfoldable pub start_read : List ℕ → Option (Bool × ℕ)
start_read words = option_and_then (λ p. option_and_then (start_of_words p.0) (number_read (2 ^ 40) p.1)) (split_once 32 words)

-- how a context begins, as words say it (how the code is seen)
abbrev pub start_seen : Start → Bool × ℕ
start_seen (starts.Fresh next) = (false, number_of next)
start_seen (starts.Restarted next) = (true, number_of next)
start_seen start = (false, 0)

-- words can say that a context begins so (how the code is seen)
abbrev pub CanBeSaid : Start → Type 0
CanBeSaid (starts.Fresh next) = Unit {0}
CanBeSaid (starts.Restarted next) = Unit {0}
CanBeSaid start = ⊥

-- what came of deriving a context of these bytes (how the code is seen)
abbrev pub DerivesBy : Keying → Option Context → Type 0
DerivesBy k (Some c) = (as_client c ≡ client_by k) × (as_server c ≡ server_by k) × MakesContext k
DerivesBy k None = ¬ MakesContext k

-- what came of the words that say what a context is derived from (how the code is seen)
abbrev pub ReadsContext : Six → Option Context → Type 0
ReadsContext w (Some c) = (k : Keying) × SaysKeying w k × DerivesBy k (Some c)
ReadsContext w None = (k : Keying) → SaysKeying w k → ¬ MakesContext k

-- what the code read, as the line says it (how the code is seen)
abbrev pub served_seen : ServedLine → OrReplace (InputEvent ℕ) Start
served_seen (served.Event event) = Event (event_seen event)
served_seen (served.Replace context start) = Replace (as_server context) start

-- there is room for what an event seals (how the code is seen)
abbrev pub IsServed : ServedLine → Type 0
IsServed (served.Event event) = IsOfRun event
IsServed (served.Replace context start) = Unit {0}

-- what the code read, as the line says it (how the code is seen)
abbrev pub asking_seen : AskedLine → OrReplace (AskedEvent ℕ) ℕ
asking_seen (asked.Event event) = Event (asked_seen event)
asking_seen (asked.Replace context next) = Replace (as_client context) (number_of next)

-- there is room for the request of an event (how the code is seen)
abbrev pub IsAsked : AskedLine → Type 0
IsAsked (asked.Event event) = HasRoom event
IsAsked (asked.Replace context next) = Unit {0}

-- the line spells what the code read (how the code is seen)
abbrev pub SpellsServedLine : List ℕ → ServedLine → Type 0
SpellsServedLine = SpellsSeen SpellsServing served_seen IsServed

-- the line spells what the code read (how the code is seen)
abbrev pub SpellsAskedLine : List ℕ → AskedLine → Type 0
SpellsAskedLine = SpellsSeen SpellsAsking asking_seen IsAsked

-- the line puts no context in the place of an end's (how the code is seen)
abbrev pub ReplacesNone : {B : Type 0} → (Keying → SecurityContext) → (List ℕ → B → Type 0) → List ℕ → Type 0
ReplacesNone {B} context says line = (by : SecurityContext) (begins : B) → ¬ SpellsReplace context says line by begins
