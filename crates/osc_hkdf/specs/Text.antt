-- To be believed: how the refusal prints: as its name.
use Rattle.std.specs.Prelude.{ℕ, List, codes}

-- what the refusal to expand prints as: its name (how the code is seen)
abbrev pub too_long_name : List ℕ
too_long_name = codes "TooLong"
