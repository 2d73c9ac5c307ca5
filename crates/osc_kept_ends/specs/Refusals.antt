-- To be believed: why an end whose numbers are kept doesn't begin a life (RFC 8613, 7.2.1 and B.1.1). loads says what a load of the keeper may return,
-- and what it leaves; failures counts how often the keeper failed; old and new are the keeper before and after.
use Rattle.std.specs.Prelude.{◌≡◌, ◌⊎◌, ℕ, ◌+◌, ◌<◌, ◌^◌}
use Rattle.osc_kept_ends.specs.declared.kept_error.KeptError.{KeptError}
use Rattle.osc_kept_ends.specs.declared.kept_error.KeptError.TheVariants.{KeeperFailed, KeptTooLarge, NumbersExhausted, LivesExhausted}

-- a number was loaded, and the keeper didn't fail (RFC 8613, B.1.1)
abbrev pub Loaded : {K : Type 0} → (K → ℕ → K → Type 0) → (K → ℕ) → K → ℕ → K → Type 0
Loaded loads failures old n new = loads old n new × (failures new ≡ failures old)

-- the keeper failed once; or it loaded a number above 2 ^ 40; or it loaded 2 ^ 40 itself, with which no text is sealed; or it loaded a number with which a
-- life could begin (RFC 8613, 7.2.1)
abbrev pub RefusesAt : {K : Type 0} → (K → ℕ → K → Type 0) → (K → ℕ) → K → KeptError → K → Type 0
RefusesAt loads failures old KeeperFailed new = failures new ≡ failures old + 1
RefusesAt loads failures old KeptTooLarge new = (n : ℕ) × (2 ^ 40 < n) × Loaded loads failures old n new
RefusesAt loads failures old NumbersExhausted new = Loaded loads failures old (2 ^ 40) new
RefusesAt loads failures old LivesExhausted new = (n : ℕ) × (n < 2 ^ 40) × Loaded loads failures old n new

-- the same of a record of two numbers, the sender's and the received one: either may be too large, and a record never exhausts lives (RFC 8613, 7.2.1 and 7.4)
abbrev pub RefusesPeer : {R : Type 0} → (R → ℕ → ℕ → R → Type 0) → (R → ℕ) → R → KeptError → R → Type 0
RefusesPeer loads failures old KeeperFailed new = failures new ≡ failures old + 1
RefusesPeer loads failures old KeptTooLarge new =
    (sender : ℕ) × (received : ℕ) × ((2 ^ 40 < sender) ⊎ (2 ^ 40 < received)) × loads old sender received new × (failures new ≡ failures old)
RefusesPeer loads failures old NumbersExhausted new = (received : ℕ) × loads old (2 ^ 40) received new × (failures new ≡ failures old)
RefusesPeer loads failures old LivesExhausted new = ⊥
