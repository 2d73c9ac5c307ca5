-- To be believed: which lines put another security context in the place of an end's (RFC 8613, 3.2 and 3.3; own rule: the lines). Lines and
-- words are lists of characters.
use Rattle.std.specs.Prelude.{◌≡◌, ℕ, ◌^◌, List, [], ◌∷◌, Option, Some, None, codes}
use Rattle.std.specs.Option.{option_copied}
use Rattle.osc_context.specs.ContextRefusal.{RefusesParams}
use Rattle.osc_context.specs.Derivation.{context_of}
use Rattle.osc_context.specs.SecurityContext.{SecurityContext}
use Rattle.osc_context.specs.Views.{number_of}
use Rattle.osc_context.specs.declared.context_error.ContextError.{ContextError}
use Rattle.osc_context.specs.declared.parameters.Params.{Params}
use Rattle.osc_life.specs.declared.start.Start.{Start}
use Rattle.osc_life.specs.declared.start.Start.TheVariants as starts
use Rattle.osc_text.specs.AskedEvents.{AskedEvent, SpellsAsked}
use Rattle.osc_text.specs.InputEvents.{InputEvent, SpellsEvent}
use Rattle.osc_text.specs.Inputs.{SaysBelow, SaysBytes, parted}

-- what a line asks of an end that can have another context: an event of that end, or that this context takes the place of its own, and begins so (own rule)
pub data OrReplace (E B : Type 0) : Type 0 where
  Event : (event : E) → OrReplace E B
  Replace : (by : SecurityContext) (begins : B) → OrReplace E B

-- what another context is derived from: the Master Secret, the Master Salt, the identifiers of this end and of the other, and the ID Context, if there is one (RFC 8613, 3.2)
pub record Keying : Type 0 where
  pub secret : List ℕ
  pub salt : List ℕ
  pub sender : List ℕ
  pub recipient : List ℕ
  pub id_context : Option (List ℕ)

-- the parameters of a context have these bytes (RFC 8613, 3.2)
abbrev pub HasKeying : Params → Keying → Type 0
HasKeying g k = (g.secret.now ≡ k.secret) × (g.salt.now ≡ k.salt) × (g.sender.now ≡ k.sender) × (g.recipient.now ≡ k.recipient) × (option_copied g.id_context ≡ k.id_context)

-- a context can be derived from these bytes (RFC 8613, 3.2 and 3.3)
abbrev pub MakesContext : Keying → Type 0
MakesContext k = (g : Params) → HasKeying g k → (e : ContextError) → ¬ RefusesParams g e

-- the context whose client is this end (RFC 8613, 3.1 and 3.2)
abbrev pub client_by : Keying → SecurityContext
client_by k = context_of k.secret k.salt k.id_context k.sender k.recipient

-- the context whose server is this end (RFC 8613, 3.1 and 3.2)
abbrev pub server_by : Keying → SecurityContext
server_by k = context_of k.secret k.salt k.id_context k.recipient k.sender

-- the word says this ID Context, or that there is none (own rule)
abbrev pub SaysIdContext : List ℕ → Option (List ℕ) → Type 0
SaysIdContext word None = word ≡ codes "none"
SaysIdContext word (Some bytes) = SaysBytes word bytes

-- the six words behind the first of a line that replaces: secret, salt, sender, recipient, ID Context, and how the context begins (own rule)
abbrev pub Six : Type 0
Six = List ℕ × List ℕ × List ℕ × List ℕ × List ℕ × List ℕ

-- the first five of these words say what a context is derived from (own rule)
abbrev pub SaysKeying : Six → Keying → Type 0
SaysKeying w k = SaysBytes w.0 k.secret × SaysBytes w.1 k.salt × SaysBytes w.2 k.sender × SaysBytes w.3 k.recipient × SaysIdContext w.4 k.id_context

-- the words say how a server's context begins: fresh or restarted, and its next Sender Sequence Number, which is below 2 ^ 40 (RFC 8613, B.1; own rule: the words)
abbrev pub SaysStart : List ℕ → Start → Type 0
SaysStart words (starts.Fresh next) = (n : List ℕ) × (words ≡ parted (codes "fresh" ∷ n ∷ [])) × SaysBelow (2 ^ 40) n (number_of next)
SaysStart words (starts.Restarted next) = (n : List ℕ) × (words ≡ parted (codes "restarted" ∷ n ∷ [])) × SaysBelow (2 ^ 40) n (number_of next)
SaysStart words start = ⊥

-- the line puts this context in the place of an end's, which begins so (own rule)
abbrev pub SpellsReplace : {B : Type 0} → (Keying → SecurityContext) → (List ℕ → B → Type 0) → List ℕ → SecurityContext → B → Type 0
SpellsReplace context says line by begins =
    (w : Six) × (k : Keying) × (line ≡ parted (codes "replace" ∷ w.0 ∷ w.1 ∷ w.2 ∷ w.3 ∷ w.4 ∷ w.5 ∷ []))
    × SaysKeying w k × MakesContext k × (by ≡ context k) × says w.5 begins

-- the line spells this for a server (own rule)
abbrev pub SpellsServing : List ℕ → OrReplace (InputEvent ℕ) Start → Type 0
SpellsServing line (Event event) = SpellsEvent line event
SpellsServing line (Replace by start) = SpellsReplace server_by SaysStart line by start

-- the line spells this for a client, whose next Sender Sequence Number is below 2 ^ 40 (own rule)
abbrev pub SpellsAsking : List ℕ → OrReplace (AskedEvent ℕ) ℕ → Type 0
SpellsAsking line (Event event) = SpellsAsked line event
SpellsAsking line (Replace by first) = SpellsReplace client_by (SaysBelow (2 ^ 40)) line by first
