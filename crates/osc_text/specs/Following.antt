-- To be believed: what `run --follow` prints, whatever its lines ask for (own rule). The lines are printed as they come, so a fault leaves the lines of the
-- events before it. old and new are the writer before and after, contents is what a writer tells about its bytes, g is what the context is derived from.
use Rattle.std.specs.Prelude.{◌≡◌, ◌⊎◌, ℕ, List, ◌++◌, Option, Result, Ok, Err}
use Rattle.std.specs.Io.KnownBytes.{Appends}
use Rattle.osc_context.specs.ContextRefusal.{RefusesParams}
use Rattle.osc_context.specs.SecurityContext.{SecurityContext}
use Rattle.osc_context.specs.declared.context_error.ContextError.{ContextError}
use Rattle.osc_context.specs.declared.keeper.Keeper as keeper
use Rattle.osc_context.specs.declared.parameters.Params.{Params}
use Rattle.osc_context.specs.declared.record_keeper.RecordKeeper as record_keeper
use Rattle.osc_endpoint.specs.ServerAnswer.{ServerAnswer}
use Rattle.osc_life.specs.ServerHistory.{Add, Added, Begin}
use Rattle.osc_life.specs.declared.start.Start.{Start}
use Rattle.osc_text.specs.AskedEvents.{SpellsKeptAsked}
use Rattle.osc_text.specs.Asking.{AskText, AskingState, ClientLine, asking_from, places}
use Rattle.osc_text.specs.Contexts.{Told, agreed_client, agreed_server}
use Rattle.osc_text.specs.InputEvents.{SpellsKept}
use Rattle.osc_text.specs.InputText.{EventLines}
use Rattle.osc_text.specs.Inputs.{AreLines, IsFirstBadLine, SpellEvents}
use Rattle.osc_text.specs.KeptAsking.{KeptAskText, KeptAskedLine, StartsClient}
use Rattle.osc_text.specs.KeptServing.{KeptLine, KeptServeText, Starts}
use Rattle.osc_text.specs.PeerEvents.{SpellsPeer}
use Rattle.osc_text.specs.Peering.{PeerLine, PeerText, StartsPeer}
use Rattle.osc_text.specs.ReplaceEvents.{SpellsAsking, SpellsServing}
use Rattle.osc_text.specs.Serving.{ServeText, ServerLine, ServingState, serving_from, start_of}
use Rattle.osc_text.specs.Written.{AppendsFront, text_of}
use Rattle.osc_text.specs.declared.agreed.Agreed.{Agreed}
use Rattle.osc_text.specs.declared.asking.Asking.{Asking}
use Rattle.osc_text.specs.declared.fault.Fault.{Fault}
use Rattle.osc_text.specs.declared.fault.Fault.TheVariants.{Line, Memory, Read, Write}
use Rattle.osc_text.specs.declared.peering.Peering.{Peering}
use Rattle.osc_text.specs.declared.serving.Serving.{Serving}
use Rattle.osc_window.specs.declared.window_size.WindowSize.{WindowSize}

-- the line with this number, counted from 1, is the first that spells no event, and these are the lines of the events before it (own rule)
pub record StopsAt {S E : Type 0} (spells : List ℕ → E → Type 0) (step : S → E → List ℕ → S → Type 0) (s : S) (input : List ℕ) (number : ℕ) (lines : List (List ℕ)) : Type 0 where
  pub first_bad : IsFirstBadLine spells input number
  pub told : EventLines step s first_bad.events lines

-- these are the lines of the events that the first lines of the input spell (own rule)
pub record FrontOf {S E : Type 0} (spells : List ℕ → E → Type 0) (step : S → E → List ℕ → S → Type 0) (s : S) (input : List ℕ) (lines : List (List ℕ)) : Type 0 where
  pub good : List (List ℕ)
  pub rest : List (List ℕ)
  pub events : List E
  pub parts : AreLines (good ++ rest) input
  pub spelled : SpellEvents spells good events
  pub told : EventLines step s events lines

-- what a call wrote, by what it returns: all of the lines that are told; the lines before a bad line, or before a failed read; if memory was refused, whole
-- lines from the front of such lines, or of a refusal, which has status 2 (own rule)
abbrev pub Followed : {X : Type 0} → (X → Option (List ℕ)) → Told → (ℕ → List (List ℕ) → Type 0) → (List (List ℕ) → Type 0) → X → X → Result ℕ Fault → Type 0
Followed contents tells Stops IsFront old new (Ok status) = (lines : List (List ℕ)) × tells lines status × Appends (contents old) (contents new) (text_of lines)
Followed contents tells Stops IsFront old new (Err (Line n)) = (lines : List (List ℕ)) × Stops n lines × Appends (contents old) (contents new) (text_of lines)
Followed contents tells Stops IsFront old new (Err (Read e)) = (lines : List (List ℕ)) × IsFront lines × Appends (contents old) (contents new) (text_of lines)
Followed contents tells Stops IsFront old new (Err Memory) =
    (new ≡ old) ⊎ ((lines : List (List ℕ)) × (tells lines 2 ⊎ IsFront lines) × AppendsFront (contents old) (contents new) lines)
Followed contents tells Stops IsFront old new (Err (Write e)) = Unit {0}
Followed contents tells Stops IsFront old new (Err fault) = ⊥

-- the context is derived, an end begins under it in some state, and this holds from that state on (own rule)
pub record HasBegun {S : Type 0} (g : Params) (Begins : S → Type 0) (Holds : S → Type 0) : Type 0 where
  pub in_context : (e : ContextError) → ¬ RefusesParams g e
  pub state : S
  pub begins : Begins state
  pub holds : Holds state

-- the same, for an end that begins in some state, and runs over an input (own rule)
abbrev pub FollowedBy : {X S E : Type 0} → (X → Option (List ℕ)) → Told → Params → (S → Type 0) → (List ℕ → E → Type 0) → (S → E → List ℕ → S → Type 0) → List ℕ → X → X → Result ℕ Fault → Type 0
FollowedBy contents tells g Begins spells step input =
    Followed contents tells (λ n lines. HasBegun g Begins (λ s. StopsAt spells step s input n lines)) (λ lines. HasBegun g Begins (λ s. FrontOf spells step s input lines))

-- a server that started, with no ticket yet (RFC 8613, B.1)
abbrev pub StartsServer : SecurityContext → Start → WindowSize → ServingState → Type 0
StartsServer c start size s = (index : ℕ) × ServerAnswer Begin (Add c start size 1) (Added index) × (s ≡ serving_from c start size index)

-- a client that begins, with nothing pending (RFC 8613, 8.1)
abbrev pub IsNewClient : SecurityContext → Asking → AskingState → Type 0
IsNewClient c asking s = s ≡ asking_from c asking

-- what is printed for a server (RFC 8613, 7.4, 8.2, 8.3 and 8.3.1)
abbrev pub ServeFollowed : {X : Type 0} → (X → Option (List ℕ)) → Agreed → Serving → List ℕ → X → X → Result ℕ Fault → Type 0
ServeFollowed contents g serving input =
    FollowedBy contents (ServeText g serving input) g.params (StartsServer (agreed_server g) (start_of serving) serving.window) SpellsServing ServerLine input

-- what is printed for a client (RFC 8613, 8.1, 8.4 and 8.4.2)
abbrev pub AskFollowed : {X : Type 0} → (X → Option (List ℕ)) → Agreed → Asking → List ℕ → X → X → Result ℕ Fault → Type 0
AskFollowed contents g asking input = FollowedBy contents (AskText g asking input) g.params (IsNewClient (agreed_client g) asking) SpellsAsking ClientLine input

-- what is printed for a server whose numbers are kept (RFC 8613, 7.2.1, 7.4, 8.2, 8.3, 8.3.1 and B.1)
abbrev pub KeptServeFollowed : {K X : Type 0} (k : keeper.Ghosts K) → (X → Option (List ℕ)) → Agreed → WindowSize → K → List ℕ → X → X → Result ℕ Fault → Type 0
KeptServeFollowed k contents g size keeper input =
    FollowedBy contents (KeptServeText k g size keeper input) g.params (Starts k (agreed_server g) size keeper) SpellsKept KeptLine input

-- what is printed for a client whose numbers are kept (RFC 8613, 7.2.1, 8.1, 8.4 and B.1.1)
abbrev pub KeptAskFollowed : {K X : Type 0} (k : keeper.Ghosts K) → (X → Option (List ℕ)) → Agreed → ℕ → K → List ℕ → X → X → Result ℕ Fault → Type 0
KeptAskFollowed k contents g life keeper input =
    FollowedBy contents (KeptAskText k g life keeper input) g.params (StartsClient k (agreed_client g) life keeper) SpellsKeptAsked (KeptAskedLine places) input

-- what is printed for a peer (RFC 8613, 7.2.1, 7.4, 8.1 to 8.4 and B.1)
abbrev pub PeerFollowed : {R X : Type 0} (r : record_keeper.Ghosts R) → (X → Option (List ℕ)) → Agreed → Peering → R → List ℕ → X → X → Result ℕ Fault → Type 0
PeerFollowed r contents g peering keeper input =
    FollowedBy contents (PeerText r g peering keeper input) g.params (StartsPeer r (agreed_server g) (agreed_client g) peering keeper) SpellsPeer (PeerLine places) input
