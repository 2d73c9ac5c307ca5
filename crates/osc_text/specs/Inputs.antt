-- To be believed: what the lines of an input are, whatever they ask for (own rule). Inputs, lines and words are lists of
-- characters; spells says which line spells which event.
use Rattle.std.specs.Prelude.{◌≡◌, ◌≢◌, ◌⊎◌, ℕ, ◌+◌, ◌<◌, ◌^◌, List, [], ◌∷◌, ◌++◌, All, length, codes}
use Rattle.osc_text.specs.Hex.{SpellsBytes}
use Rattle.osc_text.specs.Numbers.{IsDigitWord, number_said}

-- some words, separated by one space (own rule)
abbrev pub parted : List (List ℕ) → List ℕ
parted [] = []
parted (word ∷ []) = word
parted (word ∷ next ∷ words) = word ++ (codes " " ++ parted (next ∷ words))

-- the word says this number in decimal digits, and the number is below a bound (own rule)
abbrev pub SaysBelow : ℕ → List ℕ → ℕ → Type 0
SaysBelow bound word n = IsDigitWord word × (n ≡ number_said word) × (n < bound)

-- the word says these bytes: in hex, or as a dash if there are none (own rule)
abbrev pub SaysBytes : List ℕ → List ℕ → Type 0
SaysBytes word [] = word ≡ codes "-"
SaysBytes word (b ∷ bytes) = SpellsBytes word (b ∷ bytes)

-- the line begins anew at this Sender Sequence Number, which is below 2 ^ 40 (own rule)
abbrev pub RestartsAt : List ℕ → ℕ → Type 0
RestartsAt line next = (n : List ℕ) × (line ≡ parted (codes "restart" ∷ n ∷ [])) × SaysBelow (2 ^ 40) n next

-- the line begins anew where the numbers are kept: it is one word, and says no number (own rule)
abbrev pub RestartsAlone : List ℕ → Unit {0} → Type 0
RestartsAlone line none = line ≡ codes "restart"

-- the input is these lines: a newline ends each line, but the last line, if it isn't empty, may end with the input instead (own rule)
abbrev pub AreLines : List (List ℕ) → List ℕ → Type 0
AreLines [] input = input ≡ []
AreLines (line ∷ lines) input = All (λ c. c ≢ 10) line
    × (((lines ≡ []) × (line ≢ []) × (input ≡ line)) ⊎ ((rest : List ℕ) × (input ≡ line ++ 10 ∷ rest) × AreLines lines rest))

-- each line spells its event (own rule)
abbrev pub SpellEvents : {E : Type 0} → (List ℕ → E → Type 0) → List (List ℕ) → List E → Type 0
SpellEvents spells [] [] = Unit {0}
SpellEvents spells [] (event ∷ events) = ⊥
SpellEvents spells (line ∷ lines) [] = ⊥
SpellEvents spells (line ∷ lines) (event ∷ events) = spells line event × SpellEvents spells lines events

-- the input's lines spell these events (own rule)
abbrev pub SpellsInput : {E : Type 0} → (List ℕ → E → Type 0) → List ℕ → List E → Type 0
SpellsInput spells input events = (lines : List (List ℕ)) × AreLines lines input × SpellEvents spells lines events

-- the line with this number, counted from 1, is the first that spells no event (own rule)
pub record IsFirstBadLine {E : Type 0} (spells : List ℕ → E → Type 0) (input : List ℕ) (number : ℕ) : Type 0 where
  pub good : List (List ℕ)
  pub events : List E
  pub bad : List ℕ
  pub rest : List (List ℕ)
  pub lines : AreLines (good ++ bad ∷ rest) input
  pub spelled : SpellEvents spells good events
  pub spells_none : (event : E) → spells bad event → ⊥
  pub counted : number ≡ length good + 1
