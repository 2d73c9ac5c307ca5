-- What came of an input that is followed is what is printed of it.
use Rattle.std.proofs.Common.{◌≡◌, ℕ, inl, inr, List, [], ◌∷◌, All, map, Option, Some, None, IfSome, Result, Ok, Err, IfOk, refl, sym, subst}
use Rattle.std.proofs.lemmas.List.Elements.{All-head, All-tail}
use Rattle.osc_context.specs.ContextRefusal.{context_error_text}
use Rattle.osc_context.specs.declared.parameters.Params.{Params}
use Rattle.osc_kept_ends.specs.Views.{kept_error_text}
use Rattle.osc_kept_ends.specs.declared.kept_error.KeptError.{KeptError}
use Rattle.osc_text.specs.Contexts.{InContext, Told}
use Rattle.osc_text.specs.Contexts.InContext.{in_context, no_context}
use Rattle.osc_text.specs.Feeding.{ByFeed, EndsWell, EventLinesTo, Feed, FollowedAround, FollowedUnder, Follows, RanFrom, RunsLines, Steps}
use Rattle.osc_text.specs.Feeding.Feed.{read_by_line as by_lines, read_whole as whole}
use Rattle.osc_text.specs.Following.{Followed, FollowedBy, FrontOf, HasBegun, StopsAt}
use Rattle.osc_text.specs.InputReading.{SpellsNone, SpellsSeen}
use Rattle.osc_text.specs.InputText.{EventLines, InputText}
use Rattle.osc_text.specs.Inputs.{AreLines}
use Rattle.osc_text.specs.KeptText.{StartText}
use Rattle.osc_text.specs.KeptText.StartText.{not_started, started}
use Rattle.osc_text.specs.Lines.{refused_line}
use Rattle.osc_text.specs.Printing.{RunsContext}
use Rattle.osc_text.specs.Printing.RunsContext.{derived, refused}
use Rattle.osc_text.specs.Written.{Writes}
use Rattle.osc_text.specs.declared.fault.Fault.{Fault}
use Rattle.osc_text.specs.declared.fault.Fault.TheVariants.{Line, Memory, Read, Write}
use Rattle.osc_text.proofs.InputLines.{first_bad, input_spelled, lines_are, seen_spelled}
use Rattle.osc_text.proofs.KeptPrinting.{ZeroOrTwo, in_context_two}

-- ---- by how an input is read

-- what follows of each way to read it
pub by_feed : (A B C D : List ℕ → Type 0) (U V : Type 0) (feed : Feed) → ((bytes : List ℕ) → A bytes → C bytes) → ((bytes : List ℕ) → B bytes → D bytes) → (U → V) → ByFeed A B U feed → ByFeed C D V feed
by_feed A B C D U V (whole bytes) wholes lines unknown p = wholes bytes p
by_feed A B C D U V (by_lines (Some bytes)) wholes lines unknown p = lines bytes p
by_feed A B C D U V (by_lines None) wholes lines unknown p = unknown p

-- what holds of each input
pub any_feed : (C D : List ℕ → Type 0) (V : Type 0) (feed : Feed) → ((bytes : List ℕ) → C bytes) → ((bytes : List ℕ) → D bytes) → V → ByFeed C D V feed
any_feed C D V (whole bytes) wholes lines unknown = wholes bytes
any_feed C D V (by_lines (Some bytes)) wholes lines unknown = lines bytes
any_feed C D V (by_lines None) wholes lines unknown = unknown

-- the status is 0, or 2
pub ends_zero : (r : Result ℕ Fault) → IfOk r (λ s. s ≡ 0) → EndsWell r
ends_zero (Ok s) is = inl is
ends_zero (Err e) is = tt

pub ends_two : (r : Result ℕ Fault) → IfOk r (λ s. s ≡ 2) → EndsWell r
ends_two (Ok s) is = inr is
ends_two (Err e) is = tt

-- ---- events

module _ {C M V H S E : Type 0} (AgreesWith : C → H → Type 0) (state : C → M → H → S) (seen : V → E) (IsRight : V → Type 0) (step : S → E → List ℕ → S → Type 0) where
  -- events that ran one by one have these lines
  lines_followed : (c : C) (m : M) (some : List V) (lines : List (List ℕ)) (t : C × M) (h : H) → EventLinesTo (Steps (Follows AgreesWith state seen IsRight step)) (c, m) some lines t → All IsRight some → AgreesWith c h
      → EventLines step (state c m h) (map seen some) lines
  lines_followed c m [] [] t h to is agrees = tt
  lines_followed c m (v ∷ some) (line ∷ lines) t h ((d, n), does, more) is agrees =
      let (k, goes, next) = does h agrees (All-head IsRight v some is) in
      (state d n k, goes, lines_followed d n some lines t k more (All-tail IsRight v some is) next)
  lines_followed c m some lines t h to is agrees = absurd to

  -- the same, from the state in which an end begins
  pub ran_told : (IsNew : M → Type 0) (c : C) (h : H) (s : S) → ((m : M) → IsNew m → state c m h ≡ s) → AgreesWith c h → (some : List V) (lines : List (List ℕ))
      → RanFrom IsNew (Follows AgreesWith state seen IsRight step) c some lines → All IsRight some → EventLines step s (map seen some) lines
  ran_told IsNew c h s begins agrees some lines (m, new, t, to) is = subst (λ (x : S). EventLines step x (map seen some) lines) (begins m new) (lines_followed c m some lines t h to is agrees)

-- ---- what was written

module _ {X : Type 0} (contents : X → Option (List ℕ)) (before after : X) where
  -- the same, with more around it
  pub followed_as : (tells says : Told) (Stops Ends : ℕ → List (List ℕ) → Type 0) (IsFront Begins : List (List ℕ) → Type 0) (r : Result ℕ Fault) → ((lines : List (List ℕ)) (n : ℕ) → tells lines n → says lines n)
      → ((n : ℕ) (lines : List (List ℕ)) → Stops n lines → Ends n lines) → ((lines : List (List ℕ)) → IsFront lines → Begins lines)
      → Followed contents tells Stops IsFront before after r → Followed contents says Ends Begins before after r
  followed_as tells says Stops Ends IsFront Begins (Ok k) told stops fronts (lines, text, w) = (lines, told lines k text, w)
  followed_as tells says Stops Ends IsFront Begins (Err (Line n)) told stops fronts (lines, text, w) = (lines, stops n lines text, w)
  followed_as tells says Stops Ends IsFront Begins (Err (Read e)) told stops fronts (lines, text, w) = (lines, fronts lines text, w)
  followed_as tells says Stops Ends IsFront Begins (Err Memory) told stops fronts (inl same) = inl same
  followed_as tells says Stops Ends IsFront Begins (Err Memory) told stops fronts (inr (lines, inl text, w)) = inr (lines, inl (told lines 2 text), w)
  followed_as tells says Stops Ends IsFront Begins (Err Memory) told stops fronts (inr (lines, inr text, w)) = inr (lines, inr (fronts lines text), w)
  followed_as tells says Stops Ends IsFront Begins (Err (Write e)) told stops fronts w = tt
  followed_as tells says Stops Ends IsFront Begins (Err f) told stops fronts w = absurd w

  -- a refusal is printed
  pub refusal_followed : (tells : Told) (Stops : ℕ → List (List ℕ) → Type 0) (IsFront : List (List ℕ) → Type 0) (r : Result ℕ Fault) (line : List ℕ) → tells (line ∷ []) 2
      → Writes (contents before) (contents after) (line ∷ []) r → IfOk r (λ s. s ≡ 2) → Followed contents tells Stops IsFront before after r
  refusal_followed tells Stops IsFront (Ok k) line told w two = (line ∷ [], subst (λ (s : ℕ). tells (line ∷ []) s) (sym two) told, w)
  refusal_followed tells Stops IsFront (Err Memory) line told w two = inr (line ∷ [], inl told, w)
  refusal_followed tells Stops IsFront (Err (Write e)) line told w two = tt
  refusal_followed tells Stops IsFront (Err f) line told w two = absurd w

  -- lines that are told come with status 0 or 2
  followed_two : (tells : Told) (Stops : ℕ → List (List ℕ) → Type 0) (IsFront : List (List ℕ) → Type 0) (r : Result ℕ Fault) → ZeroOrTwo tells → Followed contents tells Stops IsFront before after r → EndsWell r
  followed_two tells Stops IsFront (Ok k) two (lines, text, w) = two lines k text
  followed_two tells Stops IsFront (Err e) two w = tt

  module _ {S E : Type 0} (spells : List ℕ → E → Type 0) (step : S → E → List ℕ → S → Type 0) where
    -- lines that ran are printed
    pub lines_told : {V : Type 0} (seen : V → E) (IsRight : V → Type 0) (Ran : List V → List (List ℕ) → Type 0) (s : S) (input : List ℕ) (r : Result ℕ Fault)
        → ((some : List V) (lines : List (List ℕ)) → Ran some lines → All IsRight some → EventLines step s (map seen some) lines)
        → RunsLines (SpellsSeen spells seen IsRight) (SpellsNone spells) Ran (contents before) (contents after) r input
        → Followed contents (InputText spells step s input) (StopsAt spells step s input) (FrontOf spells step s input) before after r
    unfolding first_bad
    lines_told seen IsRight Ran s input (Ok k) told (zero, all, lines, ran, read, w) =
        let both = input_spelled spells seen IsRight input all read in
        (lines, (map seen all, both.0, told all lines ran both.1, zero), w)
    lines_told seen IsRight Ran s input (Err (Line n)) told (stops, lines, ran, w) =
        (lines, record { first_bad = first_bad spells seen IsRight input n stops; told = told stops.all lines ran (seen_spelled spells seen IsRight stops.good stops.all stops.read).1 }, w)
    lines_told seen IsRight Ran s input (Err (Read e)) told (all, lines, ran, front, w) =
        let both = seen_spelled spells seen IsRight front.good all front.read in
        let parts = subst (λ (ls : List (List ℕ)). AreLines ls input) front.parts (lines_are input) in
        (lines, record { good = front.good; rest = front.rest; events = map seen all; parts = parts; spelled = both.0; told = told all lines ran both.1 }, w)
    lines_told seen IsRight Ran s input (Err Memory) told (all, lines, ran, front, w) =
        let both = seen_spelled spells seen IsRight front.good all front.read in
        let parts = subst (λ (ls : List (List ℕ)). AreLines ls input) front.parts (lines_are input) in
        inr (lines, inr (record { good = front.good; rest = front.rest; events = map seen all; parts = parts; spelled = both.0; told = told all lines ran both.1 }), w)
    lines_told seen IsRight Ran s input (Err (Write e)) told w = tt
    lines_told seen IsRight Ran s input (Err f) told w = absurd w

    -- an end that began prints what its lines say
    pub begun_followed : (tells : Told) (Begins : S → Type 0) (s : S) (input : List ℕ) (r : Result ℕ Fault) → Begins s → ((lines : List (List ℕ)) (n : ℕ) → InputText spells step s input lines n → tells lines n)
        → Followed contents (InputText spells step s input) (StopsAt spells step s input) (FrontOf spells step s input) before after r → FollowedUnder contents tells Begins spells step input before after r
    begun_followed tells Begins s input r begins told =
        followed_as (InputText spells step s input) tells (StopsAt spells step s input) (λ n lines. (t : S) × Begins t × StopsAt spells step t input n lines) (FrontOf spells step s input) (λ lines. (t : S) × Begins t × FrontOf spells step t input lines) r told
        (λ n lines stops. (s, begins, stops)) (λ lines front. (s, begins, front))

    -- a context is printed, or its refusal
    context_followed : (g : Params) (tells : Told) (Begins : S → Type 0) (input : List ℕ) (r : Result ℕ Fault) → RunsContext g (contents before) (contents after) r (FollowedUnder contents tells Begins spells step input before after r)
        → FollowedBy contents (InContext g tells) g Begins spells step input before after r
    context_followed g tells Begins input r (derived none told) =
        followed_as tells (InContext g tells) (λ n lines. (t : S) × Begins t × StopsAt spells step t input n lines) (λ n lines. HasBegun g Begins (λ t. StopsAt spells step t input n lines))
        (λ lines. (t : S) × Begins t × FrontOf spells step t input lines) (λ lines. HasBegun g Begins (λ t. FrontOf spells step t input lines)) r (λ lines n text. in_context none text)
        (λ n lines stops. record { in_context = none; state = stops.0; begins = stops.1; holds = stops.2 }) (λ lines front. record { in_context = none; state = front.0; begins = front.1; holds = front.2 }) told
    context_followed g tells Begins input r (refused e first one w two) =
        refusal_followed (InContext g tells) (λ n lines. HasBegun g Begins (λ t. StopsAt spells step t input n lines)) (λ lines. HasBegun g Begins (λ t. FrontOf spells step t input lines)) r (refused_line (context_error_text e))
        (no_context e first refl refl) w two

    -- the same, of an input that may be known
    pub known_followed : (A : List ℕ → Type 0) (g : Params) (tells : List ℕ → Told) (Begins : S → Type 0) (known : Option (List ℕ)) (r : Result ℕ Fault)
        → RunsContext g (contents before) (contents after) r (ByFeed A (λ input. FollowedUnder contents (tells input) Begins spells step input before after r) (EndsWell r) (by_lines known))
        → IfSome known (λ input. FollowedBy contents (InContext g (tells input)) g Begins spells step input before after r)
    known_followed A g tells Begins None r runs = tt
    known_followed A g tells Begins (Some input) r runs = context_followed g (tells input) Begins input r runs

    -- with status 0 or 2
    pub known_two : (A : List ℕ → Type 0) (g : Params) (tells : List ℕ → Told) (Begins : S → Type 0) (known : Option (List ℕ)) (r : Result ℕ Fault) → ((input : List ℕ) → ZeroOrTwo (tells input))
        → RunsContext g (contents before) (contents after) r (ByFeed A (λ input. FollowedUnder contents (tells input) Begins spells step input before after r) (EndsWell r) (by_lines known)) → EndsWell r
    known_two A g tells Begins None r two (derived none ends) = ends
    known_two A g tells Begins None r two (refused e first one w status) = ends_two r status
    known_two A g tells Begins (Some input) r two runs =
        followed_two (InContext g (tells input)) (λ n lines. HasBegun g Begins (λ t. StopsAt spells step t input n lines)) (λ lines. HasBegun g Begins (λ t. FrontOf spells step t input lines)) r (in_context_two g (tells input) (two input))
        (context_followed g (tells input) Begins input r runs)

  -- ---- an end whose numbers are kept

  module _ {K S E : Type 0} (Refuses : KeptError → K → Type 0) (Starts : S → Type 0) (spells : List ℕ → E → Type 0) (step : S → E → List ℕ → S → Type 0) (input : List ℕ) (r : Result ℕ Fault) where
    -- one that started prints what its lines say
    pub start_followed : (s : S) → Starts s → Followed contents (InputText spells step s input) (StopsAt spells step s input) (FrontOf spells step s input) before after r → FollowedAround Refuses Starts spells step contents input before after r
    start_followed s starts = begun_followed spells step (StartText Refuses Starts (λ t. InputText spells step t input)) Starts s input r starts (λ lines n text. started s starts text)

    -- a refused start is printed
    pub no_start_followed : (e : KeptError) (left : K) → Refuses e left → Writes (contents before) (contents after) (refused_line (kept_error_text e) ∷ []) r → IfOk r (λ s. s ≡ 2) → FollowedAround Refuses Starts spells step contents input before after r
    no_start_followed e left refuses =
        refusal_followed (StartText Refuses Starts (λ t. InputText spells step t input)) (λ n lines. (t : S) × Starts t × StopsAt spells step t input n lines) (λ lines. (t : S) × Starts t × FrontOf spells step t input lines) r
        (refused_line (kept_error_text e)) (not_started e left refuses refl refl)
