-- How the code is seen: what a refusal prints as.
use Rattle.std.specs.Prelude.{ℕ, List, codes}
use Rattle.osc_blocks.specs.declared.block_error.BlockError.{BlockError}
use Rattle.osc_blocks.specs.declared.block_error.BlockError.TheVariants.{LongOperation, WrongLength, OutOfOrder, OtherOperation, OldNumber, TooLarge}

-- what a refusal prints as: its name (how the code is seen)
abbrev pub block_error_text : BlockError → List ℕ
block_error_text LongOperation = codes "LongOperation"
block_error_text WrongLength = codes "WrongLength"
block_error_text OutOfOrder = codes "OutOfOrder"
block_error_text OtherOperation = codes "OtherOperation"
block_error_text OldNumber = codes "OldNumber"
block_error_text TooLarge = codes "TooLarge"
