-- To be believed: what `run` prints for a server whose numbers are kept, and its input (RFC 8613, 7.2.1, 7.4, 8.2, 8.3, 8.3.1 and B.1; own rule:
-- the lines). k says what the server's keeper tells, keeper is the keeper before the call, g what the context is derived from, c that context.
use Rattle.std.specs.Prelude.{◌≡◌, ℕ, [], List}
use Rattle.osc_context.specs.SecurityContext.{SecurityContext}
use Rattle.osc_context.specs.declared.keeper.Keeper as keeper
use Rattle.osc_text.specs.declared.agreed.Agreed.{Agreed}
use Rattle.osc_life.specs.ServerHistory.{Begin, Then, Add, Added}
use Rattle.osc_life.specs.declared.start.Start.{Start}
use Rattle.osc_kept_runs.specs.KeptRuns.{ServerState, ServerStep}
use Rattle.osc_kept_ends.specs.KeptServing.{IsStart, started}
use Rattle.osc_kept_ends.specs.Numbering.{nothing_drawn}
use Rattle.osc_kept_ends.specs.Owning.{own_in}
use Rattle.osc_kept_ends.specs.Refusals.{Loaded}
use Rattle.osc_window.specs.declared.window_size.WindowSize.{WindowSize}
use Rattle.osc_text.specs.Contexts.{agreed_server, InContext, Told}
use Rattle.osc_text.specs.InputText.{HasBadLineOf, InputText}
use Rattle.osc_text.specs.InputEvents.{InputEvent, SpellsKept}
use Rattle.osc_text.specs.KeptLog.{kept_text}
use Rattle.osc_text.specs.KeptSeen.{IsRoomy, kept_seen}
use Rattle.osc_text.specs.KeptText.{FrontText, LineOf, NotStarted, StartText}

-- an event and the line of its entry, which is a step of a run (RFC 8613, 7.2.1, 7.4, 8.2, 8.3, 8.3.1 and B.1)
abbrev pub KeptLine : {K : Type 0} {k : keeper.Ghosts K} → ServerState k → InputEvent (Unit {0}) → List ℕ → ServerState k → Type 0
KeptLine s event line t = LineOf ServerStep kept_seen IsRoomy kept_text s event line t

-- a server that started at the number that was loaded, fresh if and only if that is 0; there is no ticket yet (RFC 8613, B.1.1 and B.1.2)
abbrev pub Starts : {K : Type 0} (k : keeper.Ghosts K) → SecurityContext → WindowSize → K → ServerState k → Type 0
Starts {K} k c size keeper s = (loaded : ℕ) × (mid : K) × (start : Start) × Loaded k.loads k.failures keeper loaded mid × IsStart start loaded
    × (own_in s.source ≡ started start loaded (nothing_drawn (k.floor keeper))) × (k.failures s.source.keeper ≡ k.failures keeper)
    × (s.history ≡ Then Begin (Add c start size 1) (Added 0)) × (s.tickets ≡ [])

-- what `run` prints for a server: one line for each event of the input (RFC 8613, 7.2.1, 7.4, 8.2, 8.3, 8.3.1 and B.1)
abbrev pub KeptServeText : {K : Type 0} (k : keeper.Ghosts K) → Agreed → WindowSize → K → List ℕ → Told
KeptServeText k g size keeper input = InContext g.params (StartText (NotStarted k keeper) (Starts k (agreed_server g) size keeper) (λ s. InputText SpellsKept KeptLine s input))

-- the text whose front `run` prints if memory is refused: the line of a refusal, or one line for each of the first events of the input (own rule)
abbrev pub KeptServeFront : {K : Type 0} (k : keeper.Ghosts K) → Agreed → WindowSize → K → List ℕ → Told
KeptServeFront k g size keeper input = InContext g.params (StartText (NotStarted k keeper) (Starts k (agreed_server g) size keeper) (λ s. FrontText SpellsKept KeptLine s input))

-- the context is derived, the server started, and the line with this number, counted from 1, is the first that spells no event (own rule)
abbrev pub HasBadKeptLine : {K : Type 0} (k : keeper.Ghosts K) → Agreed → WindowSize → K → List ℕ → ℕ → Type 0
HasBadKeptLine k g size keeper = HasBadLineOf g.params (Starts k (agreed_server g) size keeper) SpellsKept
