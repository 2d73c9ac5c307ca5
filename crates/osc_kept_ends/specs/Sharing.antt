-- To be believed: several ends under one Sender Key, with one source of Sender Sequence Numbers that goes from end to end (RFC 8613, 3.3, 5.2 and 7.2.1). An end
-- that hasn't the source rests: it has no keeper of these numbers, and none in hand. mine and theirs tell the Sender Keys of the end and of the source, next and
-- upcoming are the numbers with which the end and the source go on, old and new the keeper before and after.
use Rattle.std.specs.Prelude.{◌≡◌, ◌≢◌, ℕ, ◌+◌, ◌<◌, ◌≤◌, ◌^◌, List, Option, Some, None, IsSome, IsNone, codes}
use Rattle.osc_context.specs.Views.{number_of}
use Rattle.osc_life.specs.declared.start.Start.{Start}
use Rattle.osc_life.specs.declared.start.Start.TheVariants as starts
use Rattle.osc_kept_ends.specs.declared.adopt_error.AdoptError.{AdoptError}
use Rattle.osc_kept_ends.specs.declared.adopt_error.AdoptError.TheVariants.{NoSource, OtherSender, HasSource, Behind}
use Rattle.osc_kept_ends.specs.declared.kept_error.KeptError.{KeptError}
use Rattle.osc_kept_ends.specs.declared.kept_error.KeptError.TheVariants as errors
use Rattle.osc_kept_ends.specs.Numbering.{Own}
use Rattle.osc_kept_ends.specs.Refusals.{Loaded}

-- the floor of the keeper of the Sender Sequence Numbers, or 0 while it isn't there (own rule)
abbrev pub floor_if_there : {K : Type 0} → (K → ℕ) → Option K → ℕ
floor_if_there floor (Some k) = floor k
floor_if_there floor None = 0

-- what a load of it may return, and what it leaves; while it isn't there, nothing is loaded (own rule)
abbrev pub LoadsIfThere : {K : Type 0} → (K → ℕ → K → Type 0) → Option K → ℕ → Option K → Type 0
LoadsIfThere loads (Some old) n (Some new) = loads old n new
LoadsIfThere loads old n new = ⊥

-- the numbers of an end that rests: none is in hand or reserved, and it goes on with this one (own rule)
abbrev pub at_rest : ℕ → Own
at_rest next = record { floor = 0; next = next; limit = next; hand = None }

-- how a life begins without the source: with the gate closed if no received number was kept, else above all that was received. If received numbers are kept so
-- many ahead, the last of those are in doubt (RFC 8613, 7.4, 7.5, B.1.1 and B.1.2)
abbrev pub IsRestingStart : ℕ → Start → ℕ → Type 0
IsRestingStart ahead (starts.Fresh first) received = ⊥
IsRestingStart ahead (starts.Restarted first) received = (number_of first ≡ 0) × (received ≡ 0)
IsRestingStart ahead (starts.Received first highest) received = (number_of first ≡ 0) × (number_of highest + 1 ≡ received) × (ahead ≡ 0)
IsRestingStart ahead (starts.Reserved first highest kept) received = (number_of first ≡ 0) × (number_of highest + 1 ≡ received) × (kept ≡ ahead) × (ahead ≢ 0)

-- why it doesn't: the keeper of the received number failed once, or loaded one above 2 ^ 40 (RFC 8613, 7.4)
abbrev pub RefusesResting : {Q : Type 0} → (Q → ℕ → Q → Type 0) → (Q → ℕ) → Q → KeptError → Q → Type 0
RefusesResting loads failures old errors.KeeperFailed new = failures new ≡ failures old + 1
RefusesResting loads failures old errors.KeptTooLarge new = (n : ℕ) × (2 ^ 40 < n) × Loaded loads failures old n new
RefusesResting loads failures old e new = ⊥

-- when an end takes the source: they are of one Sender Key, it has none, and no number that it used is at or above the one with which the source goes on
-- (RFC 8613, 7.2.1)
pub record Adopts {K : Type 0} (mine theirs : List ℕ) (sender : Option K) (next upcoming : ℕ) : Type 0 where
  pub same_key : mine ≡ theirs
  pub rests : IsNone sender
  pub least : next ≤ upcoming

-- why it doesn't, judged in this order (RFC 8613, 7.2.1)
abbrev pub RefusesToAdopt : {K : Type 0} → List ℕ → List ℕ → Option K → ℕ → ℕ → AdoptError → Type 0
RefusesToAdopt mine theirs sender next upcoming NoSource = ⊥
RefusesToAdopt mine theirs sender next upcoming OtherSender = mine ≢ theirs
RefusesToAdopt mine theirs sender next upcoming HasSource = (mine ≡ theirs) × IsSome sender
RefusesToAdopt mine theirs sender next upcoming Behind = (mine ≡ theirs) × IsNone sender × (upcoming < next)

-- why it doesn't take the source from another end: that hasn't it, or one of the above (RFC 8613, 7.2.1)
abbrev pub RefusesToTakeOver : {K : Type 0} → List ℕ → List ℕ → Option K → Option K → ℕ → ℕ → AdoptError → Type 0
RefusesToTakeOver mine theirs sender theirs_there next upcoming NoSource = IsNone theirs_there
RefusesToTakeOver mine theirs sender theirs_there next upcoming e = IsSome theirs_there × RefusesToAdopt mine theirs sender next upcoming e

-- the name of a refusal (own rule)
abbrev pub adopt_error_text : AdoptError → List ℕ
adopt_error_text NoSource = codes "NoSource"
adopt_error_text OtherSender = codes "OtherSender"
adopt_error_text HasSource = codes "HasSource"
adopt_error_text Behind = codes "Behind"
