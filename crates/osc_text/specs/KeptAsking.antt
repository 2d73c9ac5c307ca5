-- To be believed: what `run` prints for a client whose numbers are kept, and its input (RFC 8613, 7.2.1, 8.1, 8.4 and B.1.1; own rule: the
-- lines). k says what the client's keeper tells, keeper is the keeper before the call, g what the context is derived from, c that context.
use Rattle.std.specs.Prelude.{◌≡◌, ℕ, List}
use Rattle.osc_context.specs.SecurityContext.{SecurityContext}
use Rattle.osc_context.specs.declared.keeper.Keeper as keeper
use Rattle.osc_text.specs.declared.agreed.Agreed.{Agreed}
use Rattle.osc_client.specs.ClientHistory.{New}
use Rattle.osc_kept_runs.specs.KeptRuns.{ClientState, ClientStep}
use Rattle.osc_kept_ends.specs.Numbering.{Goes, Load, nothing_drawn}
use Rattle.osc_kept_ends.specs.Owning.{own_in}
use Rattle.osc_kept_ends.specs.Refusals.{Loaded}
use Rattle.osc_text.specs.Asking.{places}
use Rattle.osc_text.specs.Contexts.{agreed_client, InContext, Told}
use Rattle.osc_text.specs.InputText.{HasBadLineOf, InputText}
use Rattle.osc_text.specs.AskedEvents.{AskedEvent, SpellsKeptAsked}
use Rattle.osc_text.specs.KeptLog.{kept_asked_text}
use Rattle.osc_text.specs.KeptSeen.{IsRoomyAsked, kept_asked_seen}
use Rattle.osc_text.specs.KeptText.{FrontText, LineOf, NotStarted, StartText}

-- an event and the line of its entry, which is a step of a run; n is how many pending requests there is room for (RFC 8613, 8.1, 8.4 and B.1.1)
abbrev pub KeptAskedLine : {K : Type 0} {k : keeper.Ghosts K} → ℕ → ClientState k → AskedEvent (Unit {0}) → List ℕ → ClientState k → Type 0
KeptAskedLine n s event line t = LineOf (ClientStep n) kept_asked_seen IsRoomyAsked kept_asked_text s event line t

-- a client that started at the number that was loaded, with nothing pending (RFC 8613, B.1.1)
abbrev pub StartsClient : {K : Type 0} (k : keeper.Ghosts K) → SecurityContext → ℕ → K → ClientState k → Type 0
StartsClient k c life keeper s = (loaded : ℕ) × Loaded k.loads k.failures keeper loaded s.source.keeper
    × Goes (Load loaded) (nothing_drawn (k.floor keeper)) (own_in s.source) × (s.history ≡ New c loaded life)

-- what `run` prints for a client: one line for each event of the input (RFC 8613, 7.2.1, 8.1, 8.4 and B.1.1)
abbrev pub KeptAskText : {K : Type 0} (k : keeper.Ghosts K) → Agreed → ℕ → K → List ℕ → Told
KeptAskText k g life keeper input = InContext g.params (StartText (NotStarted k keeper) (StartsClient k (agreed_client g) life keeper) (λ s. InputText SpellsKeptAsked (KeptAskedLine places) s input))

-- the text whose front `run` prints if memory is refused: the line of a refusal, or one line for each of the first events of the input (own rule)
abbrev pub KeptAskFront : {K : Type 0} (k : keeper.Ghosts K) → Agreed → ℕ → K → List ℕ → Told
KeptAskFront k g life keeper input = InContext g.params (StartText (NotStarted k keeper) (StartsClient k (agreed_client g) life keeper) (λ s. FrontText SpellsKeptAsked (KeptAskedLine places) s input))

-- the context is derived, the client started, and the line with this number, counted from 1, is the first that spells no event (own rule)
abbrev pub HasBadKeptAskedLine : {K : Type 0} (k : keeper.Ghosts K) → Agreed → ℕ → K → List ℕ → ℕ → Type 0
HasBadKeptAskedLine k g life keeper = HasBadLineOf g.params (StartsClient k (agreed_client g) life keeper) SpellsKeptAsked
